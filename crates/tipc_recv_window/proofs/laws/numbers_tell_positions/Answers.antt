use Rattle.std.proofs.Common.{arith}
use Rattle.tipc_types.proofs.PositionLaws.{same_position}
use Rattle.tipc_recv_window.proofs.laws.numbers_tell_positions.Goals as goal

pub returns : goal.returns
returns c = λ p q high low same. same_position p q (omega arith) (omega arith) same
