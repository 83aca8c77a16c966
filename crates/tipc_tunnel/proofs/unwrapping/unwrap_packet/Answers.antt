use Rattle.tipc_header.specs.Spelling.{view}
use Rattle.tipc_tunnel.proofs.UnwrapLaws.{carried_is_given, ok_carries}
use Rattle.tipc_tunnel.proofs.unwrapping.unwrap_packet.Goals as goal

pub returns-in-Changeover-clause-ok : goal.returns-in-Changeover-clause-ok
returns-in-Changeover-clause-ok c = ok_carries c.carried.result (view c.args.packet.now) c.in-Changeover.changeover c.in-Changeover.is c.carried.ensures.ok

pub returns-in-Changeover-clause-only : goal.returns-in-Changeover-clause-only
returns-in-Changeover-clause-only c = carried_is_given c.carried.result (view c.args.packet.now) c.in-Changeover.changeover c.in-Changeover.is c.carried.ensures.ok c.carried.ensures.err
