use Rattle.tipc_header.specs.Spelling.{view}
use Rattle.tipc_broadcast.proofs.broadcast.Broadcast.arrive.Goals as goal

pub returns-clause-after : goal.returns-clause-after
returns-clause-after c = c.commit.ensures.after c.args.boot c.args.members c.args.by (view c.args.packet.now) c.in_ok-cast.ensures.arriving
