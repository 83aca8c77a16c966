use Rattle.std.proofs.Common.{◌≡◌, Ok, map}
use Rattle.tipc_work.proofs.crews.all_of.Given as goal

-- the values before
abbrev pub invariant-loop-one : goal.invariant-loop-one
invariant-loop-one g l = map Ok l.values.items ≡ l.yielded
