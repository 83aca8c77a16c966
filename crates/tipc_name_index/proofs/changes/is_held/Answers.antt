use Rattle.std.proofs.Common.{ap, ◌∙◌}
use Rattle.std.specs.Prelude.{is_some}
use Rattle.tipc_types.specs.Tables.{is_named}
use Rattle.tipc_name_index.proofs.Names.{any_found, any_same}
use Rattle.tipc_name_index.proofs.changes.is_held.Goals as goal

pub returns : goal.returns
returns c held alike =
    let test = is_named c.args.node.word c.args.key in
    c.is_some.ensures ∙ ap is_some c.named_in.ensures ∙ any_found test c.args.names.now ∙ any_same test held c.args.names.now alike
