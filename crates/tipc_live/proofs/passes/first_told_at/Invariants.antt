use Rattle.std.proofs.Common.{take}
use Rattle.tipc_live.proofs.Firsts.{FoundIn}
use Rattle.tipc_live.proofs.passes.first_told_at.Given as goal

abbrev pub invariant-loop-pass : goal.invariant-loop-pass
invariant-loop-pass g l = FoundIn l.locked.node.journal (take l.pass-index l.passes) l.first
