use Rattle.tipc_world.proofs.Staying.{joining_grows}
use Rattle.tipc_world.proofs.worlds.World.add_node.Goals as goal

pub returns-clause-grows : goal.returns-clause-grows
returns-clause-grows g c = joining_grows _ _ c.args.n c.join-joined.result c.requires.absent c.join-joined.ensures.joins c.join-joined.ensures.err
