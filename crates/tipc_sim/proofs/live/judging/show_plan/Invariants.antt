use Rattle.std.specs.List.{All}
use Rattle.std.proofs.Common.{take}
use Rattle.tipc_sim.specs.LivePlans.{ShowsPart}
use Rattle.tipc_sim.proofs.live.judging.show_plan.Given as goal

-- the passes before show their parts
abbrev pub invariant-loop-pass : goal.invariant-loop-pass
invariant-loop-pass l = All (ShowsPart l.plan l.node) (take l.pass-index l.passes)
