use Rattle.std.proofs.Common.{length, ap, ◌∙◌}
use Rattle.std.proofs.lemmas.List.Sums.{length-filter}
use Rattle.tipc_types.specs.Tables.{is_of}
use Rattle.tipc_name_index.proofs.changes.count_of.Goals as goal

pub returns : goal.returns
returns c = ap length c.those_of.ensures ∙ length-filter (is_of c.args.node.word) c.args.held.now
