-- What a node hears acknowledged was taken, as its peer's record in the contact has it, or had it when the contact ended.
use Rattle.std.proofs.Common.{◌≡◌, ◌≤◌, ◌+◌, ◌-◌, ℕ, List, Some, length, ap, subst, inl, inr, length-drop, arith}
use Rattle.tipc_header.specs.Spelling.{Fields}
use Rattle.tipc_send_window.specs.Sending.{Sending, acked_of, release_count}
use Rattle.tipc_link.specs.Links.{LinkEnd}
use Rattle.tipc_link.specs.Sessions.{SessionEnd, after_acknowledgement}
use Rattle.tipc_changeover.specs.Links.{State}
use Rattle.tipc_changeover.specs.Slots.{LinkSlot}
use Rattle.tipc_two_nodes.specs.links.Sending.{IsSender, end_seen, window_in}
use Rattle.tipc_two_nodes.specs.links.Steps.{AreTaken}
use Rattle.tipc_two_nodes.specs.links.Traffic.{Traffic}
use Rattle.tipc_two_nodes.proofs.links.sender.LinkSteps.{count_within}
use Rattle.tipc_two_nodes.proofs.links.sender.PairSteps.{up_state}
use Rattle.tipc_paired.proofs.Facts.{heard_taken, up_on_record}
use Rattle.tipc_paired.proofs.wires.Wires.{session_of_up}
use Rattle.tipc_paired.specs.Deeds.{Hears, IsUp}
use Rattle.tipc_paired.specs.Paired.{ArePaired}
use Rattle.tipc_paired.specs.Views.{View}
use Rattle.tipc_two_nodes.specs.Carriages.{IsCounted}
use Rattle.tipc_two_nodes.proofs.calls.HadSessions.{session_began}

-- what is heard acknowledged was taken in the state
pub heard_are_taken : (x y : View) (b contact : ℕ) (e : LinkEnd) (s : SessionEnd) (p : Fields) (P : LinkSlot → List ℕ → Type 0) (t : Traffic) (z : State) → ArePaired x y → IsUp (x.wires b) e s → Hears x y b s p → IsSender P t.near (end_seen contact (Some e)) z.near
    → z.near_record.session ≤ z.near.session → IsCounted x y x.node.contact x.node.seen b t.near z.near_record → 1 ≤ release_count s.sending p.acknowledgement → AreTaken z (release_count s.sending p.acknowledgement)
heard_are_taken x y b contact e s p P t z h up heard sender shown counted some =
    let count = release_count s.sending p.acknowledgement in
    let most = count_within s.sending p.acknowledgement in
    let sends = ((h.here.wires b).going s (session_of_up (x.wires b) e s up)).sends in
    let below = sends.below in
    let after : acked_of (after_acknowledgement s p.acknowledgement).sending ≡ s.sending.numbered - (length s.sending.unacked - count) = ap (λ n. s.sending.numbered - n) (length-drop count s.sending.unacked) in
    let taken = heard_taken x y b e s p h up heard in
    let own = (up_on_record x y b e s h up).0 in
    let place = sender.epoch in
    let queue = sender.queue (up_state e up.up) in
    let window : window_in e.session ≡ s.sending = ap window_in up.session_is in
    let acked = subst (λ (w : Sending). z.near.acked + length w.unacked ≡ w.numbered) window queue.acked in
    elim (counted s.epoch (session_began x y b s h (session_of_up (x.wires b) e s up)) (omega arith)) [
      | inl later ↦ absurd (let wrong : ⊥ = omega arith in wrong)
      | inr now ↦ (
          let session = now.0 in
          let places = now.1 in
          record { session = omega arith; places = omega arith })
    ]
