use Rattle.std.proofs.Common.{sym, ◌∙◌}
use Rattle.tipc_discovery.proofs.FindingLaws.{new_absent}
use Rattle.tipc_discovery.proofs.neighbours.hear.Goals as goal

pub add-requires : goal.add-requires
add-requires c = new_absent c.args.own c.args.previous c.args.header.now c.args.heard.now.keys (sym c.finding.ensures ∙ c.in-New.is)
