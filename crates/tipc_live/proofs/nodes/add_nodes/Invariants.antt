use Rattle.tipc_live.proofs.Joining.{HaveJoined}
use Rattle.tipc_live.proofs.nodes.add_nodes.Given as goal

abbrev pub invariant-loop-locked : goal.invariant-loop-locked
invariant-loop-locked g l = HaveJoined g.P.Pick.gives l.nodes l.replay l.locked-index
