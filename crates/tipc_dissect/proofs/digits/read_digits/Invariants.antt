use Rattle.std.proofs.Common.{◌≡◌, ◌*◌, ◌++◌, drop}
use Rattle.tipc_dissect.specs.Digits.{spelled_frame}
use Rattle.tipc_dissect.proofs.digits.read_digits.Given as goal

abbrev pub invariant-loop-index : goal.invariant-loop-index
invariant-loop-index l = l.frame.items ++ spelled_frame (drop (2 * l.index) l.line) ≡ spelled_frame l.line
