use Rattle.std.proofs.Common.{◌≡◌, ◌+◌, ◌-◌, ◌<◌, length, vec_len, deque_len, sym, ◌∙◌, ap, arith}
use Rattle.tipc_send_window.specs.Sending.{Sending}
use Rattle.tipc_send_window.proofs.Keeping.{IsStored-push, length-live}
use Rattle.tipc_send_window.proofs.window.SendWindow.due.Goals as goal

-- the packet is stored behind the others, with the next number
pub invariant_of-self-2 : goal.invariant_of-self-2
invariant_of-self-2 c =
    let w = c.self.inside in
    let pushed = c.push_reserved.ensures in
    let long = sym w.stored.ok.0 in
    let live = length-live w.released (vec_len w.stored) w.stored.items long in
    let flight : c.in_flight.result ≡ vec_len w.stored - w.released = c.in_flight.ensures ∙ ap (λ (s : Sending). length s.unacked) (sym c.self.view_is) ∙ live in
    let half = c.self.invariant.half in
    let narrow : vec_len w.stored < w.released + 50 = omega arith in
    let one : deque_len w.waiting ≡ deque_len c.pop_front.new.self + 1 = sym c.in_ok-packet.ensures.cases in
    let grown = IsStored-push w.numbered w.released _ _ _ _ w.stored.items c.in_ok-packet.packet long one narrow c.self.invariant in
    rw (pushed.items, pushed.len, pushed.capacity, c.sequence_number-number.ensures) grown
