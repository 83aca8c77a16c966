use Rattle.std.proofs.Common.{◌≡◌}
use Rattle.tipc_sim.proofs.LiveLaws.{ShowSoFar}
use Rattle.tipc_sim.proofs.live.judging.judge_plan.Given as goal

-- the journals of the nodes before show the plan
abbrev pub invariant-loop-locked : goal.invariant-loop-locked
invariant-loop-locked g l = ShowSoFar l.plan l.nodes l.locked-index × (l.node ≡ l.locked-index)
