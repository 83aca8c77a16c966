use Rattle.tipc_send_window.specs.Sending.{acked_of}
use Rattle.tipc_send_window.proofs.WindowLaws.{kept_after-at}
use Rattle.tipc_send_window.proofs.laws.shows_numbers.Goals as goal

pub returns : goal.returns
returns c = λ s i packet is. kept_after-at (acked_of s) s.unacked i packet is
