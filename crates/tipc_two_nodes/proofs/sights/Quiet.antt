-- Where neither link end has anything left, all that was put was given.
use Rattle.std.proofs.Common.{◌≡◌, ◌+◌, ◌∙◌, ℕ, zero, suc, true, List, [], ◌∷◌, Option, Some, None, take, length, refl, sym, ap, subst, arith}
use Rattle.std.specs.Prelude.{IfSome}
use Rattle.std.specs.List.{flat_map}
use Rattle.std.proofs.lemmas.List.{length-map, take_all}
use Rattle.tipc_types.specs.LinkStates.{is_up}
use Rattle.tipc_types.specs.declared.link_words.LinkState.{LinkState}
use Rattle.tipc_types.specs.declared.link_words.LinkState.TheVariants.{Held as held_state, ResetReset, ResetUnknown, WorkingUnknown, WorkingWorking}
use Rattle.tipc_bundle.specs.Bundles.{IsInner}
use Rattle.tipc_reassembly.proofs.FrontLaws.{opened_every}
use Rattle.tipc_reassembly.specs.Slots.{HasOpened, Slot, slot_bytes, slot_items}
use Rattle.tipc_link.specs.Links.{LinkEnd}
use Rattle.tipc_link.specs.Sessions.{SessionEnd}
use Rattle.tipc_changeover.specs.Slots.{LinkSlot, counted}
use Rattle.tipc_changeover.specs.Links.{Sender, Up}
use Rattle.tipc_changeover.proofs.Staying.{reached_sound}
use Rattle.tipc_paired.specs.Views.{Node}
use Rattle.tipc_two_nodes.specs.links.Packets.{AreFor}
use Rattle.tipc_two_nodes.specs.links.Sending.{IsSender, end_seen, state_as, window_in}
use Rattle.tipc_two_nodes.specs.links.Traffic.{Lines}
use Rattle.tipc_two_nodes.specs.Quiet.{HasNothingLeft, IsEmptied, QuietIsGiven}
use Rattle.tipc_two_nodes.proofs.contacts.AllTaken.{IsCleared, all_taken}
use Rattle.tipc_two_nodes.proofs.deeds.Wrapped.{all_of}
use Rattle.tipc_two_nodes.proofs.links.sender.Lists.{are_length}

-- ---- a link end as a sender

up_as : (state : LinkState) → state_as state ≡ Up → is_up state ≡ true
up_as WorkingWorking is = refl
up_as WorkingUnknown is = refl
up_as ResetUnknown is = absurd (let wrong : ⊥ = cc in wrong)
up_as ResetReset is = absurd (let wrong : ⊥ = cc in wrong)
up_as held_state is = absurd (let wrong : ⊥ = cc in wrong)

-- the window of its session is empty
empty_window : (session : Option SessionEnd) → IfSome session IsEmptied → ((window_in session).unacked ≡ []) × ((window_in session).waiting ≡ [])
empty_window None h = (refl, refl)
empty_window (Some s) h = h

none_for : (P : LinkSlot → List ℕ → Type 0) (zs : List LinkSlot) (ps : List (List ℕ)) → AreFor P zs ps → ps ≡ [] → zs ≡ []
none_for P [] ps h is = refl
none_for P (z ∷ zs) [] h is = absurd h
none_for P (z ∷ zs) (p ∷ ps) h is = absurd (let wrong : ⊥ = cc in wrong)

emptied : (contact : ℕ) (end : Option LinkEnd) → HasNothingLeft end → (end_seen contact end).state ≡ Up → ((end_seen contact end).window.unacked ≡ []) × ((end_seen contact end).window.waiting ≡ [])
emptied contact None left up = (refl, refl)
emptied contact (Some e) left up = empty_window e.session (left (up_as e.fsm.state up))

-- nothing is left of what it sends
cleared : (P : LinkSlot → List ℕ → Type 0) (l : Lines) (contact : ℕ) (end : Option LinkEnd) (x : Sender) → IsSender P l (end_seen contact end) x → HasNothingLeft end → IsCleared x
cleared P l contact end x h left = record {
  waiting = λ up.
      let is_up_there = sym h.state ∙ up in
      let q = h.queue is_up_there in
      none_for P x.waiting (end_seen contact end).window.waiting q.waits (emptied contact end left is_up_there).1;
  acked = λ up.
      let is_up_there = sym h.state ∙ up in
      let q = h.queue is_up_there in
      let none : length (end_seen contact end).window.unacked ≡ 0 = ap (λ (ps : List (List ℕ)). length ps) (emptied contact end left is_up_there).0 in
      let acked = q.acked in
      let numbered = q.numbered in
      let long = are_length P (x.line x.session) (l.line x.session) (h.lines x.session) in
      omega (arith, none, acked, numbered, long);
}

-- ---- the contact

counted_long : (before count : ℕ) → length (counted before count) ≡ count
unfolding counted
counted_long before zero = refl
counted_long before (suc count) = ap suc (counted_long (before + 1) count)

pub quiet_is_given : QuietIsGiven
quiet_is_given v w h near far =
    let x = h.here.view in
    let y = h.there.view in
    let own = x.node.contact in
    let theirs = x.node.seen in
    let twins = h.talking.twins in
    let c = twins.sends.carriage own theirs in
    let sent = twins.sends.sent own theirs in
    let stand = sent.now refl refl in
    let left_near = subst HasNothingLeft (sym (h.seen_here.ends 0)) near in
    let left_far = subst HasNothingLeft (sym (h.seen_here.ends 1)) far in
    let taken = all_taken c.state (reached_sound c.state sent.reached) (cleared _ c.traffic.near own (x.wires 0).end c.state.near stand.near left_near) (cleared _ c.traffic.far own (x.wires 1).end c.state.far stand.far left_far) in
    let many : length c.state.delivered ≡ c.state.put = ap (λ (is : List ℕ). length is) taken ∙ counted_long 0 c.state.put in
    let talk = h.talking.sends.each own theirs in
    let m = talk.are in
    let put = h.here.put own theirs in
    let given = h.there.given theirs own in
    let slots_long : length m.slots ≡ length c.traffic.put = sym (length-map m.slots slot_bytes) ∙ ap (λ (ps : List (List ℕ)). length ps) m.bytes in
    let all_put = stand.put in
    let whole : take (length c.state.delivered) m.slots ≡ m.slots = take_all (length c.state.delivered) m.slots (omega (arith, many, slots_long, all_put)) in
    let opened : HasOpened (flat_map slot_items m.slots) given talk.last = subst (λ (ss : List Slot). HasOpened (flat_map slot_items ss) given talk.last) whole m.opened in
    let every : given ≡ put = (opened_every put (flat_map slot_items m.slots) given talk.last opened (all_of IsInner put m.messages) m.whole).0 in
    let node = h.seen_here.node in
    let here : w.given theirs own ≡ v.put own theirs = sym (h.seen_there.given theirs own) ∙ every ∙ h.seen_here.put own theirs in
    subst (λ (n : Node). w.given n.seen n.contact ≡ v.put n.contact n.seen) node here
