-- What a packet with a number makes of a session and its record.
use Rattle.std.proofs.Common.{◌≡◌, ℕ, ◌+◌, ◌-◌, ◌<◌, ◌≤◌, ◌==◌, ◌&&◌, if◌then◌else◌, nat_lt, Bool, true, false, List, [], length, take, drop, Option, Some, None, option_map, zero, suc, Result, Ok, Err, refl, sym, ap, subst, ◌∙◌, arith}
use Rattle.std.specs.Prelude.{All, IfNone, IfSome, OnErr, OnOk, ◌⊎◌}
use Rattle.std.proofs.lemmas.List.Elements.{All-append, All-drop, All-push, All-take}
use Rattle.tipc_types.specs.declared.packet_lists.Taken.{Taken}
use Rattle.tipc_send_window.specs.Sending.{IsSending, Sending, moved, offered, swapped}
use Rattle.tipc_recv_window.specs.declared.outcomes.Place.{Place}
use Rattle.tipc_recv_window.specs.declared.outcomes.Place.TheVariants as place
use Rattle.std.proofs.lemmas.Bool.Decides.{nat_tests}
use Rattle.tipc_recv_window.specs.Receiving.{Receiving, arrived_at, deferred_at, deferred_count, drained, filled, is_new, next_of, past_wanted, place_at, run_of, with_packet}
use Rattle.tipc_types.specs.Position.{distance_of, number_of}
use Rattle.tipc_types.proofs.PositionLaws.{distance_of-ahead}
use Rattle.tipc_recv_window.proofs.Comings.{due_in_order, due_none, passes}
use Rattle.tipc_recv_window.proofs.Runs.{run_leaves, run_none}
use Rattle.tipc_recv_window.proofs.ArrivalLaws.{arrived_at-far, place_at-far, place_at-wanted}
use Rattle.tipc_link.specs.Links.{record_in}
use Rattle.tipc_link.specs.Records.{Received, advanced_by, early_of, freed, is_early_tunnel, is_next, named, standing, tunnelled, unheard, window_of, with_coming}
use Rattle.tipc_link.specs.Sessions.{SessionEnd, Unanswered, all_answered, IsWaiting, due_with, is_deferred, is_only_deferred, past, receiving, receiving_record, after_acknowledgement, took, with_record}
use Rattle.tipc_link.specs.Hearings.{HoldsNone, IsRecord, IsSession}
use Rattle.tipc_link.proofs.Standing.{standing_early, standing_plain}

-- the packets that were taken are counted
pub IsSession-took : (bearer : ℕ) (unanswered : Unanswered) (window : Sending) (before after : Received) → before.taken ≤ after.taken → IsSession bearer unanswered window before
    → IsSession bearer (record { packets = unanswered.packets + (after.taken - before.taken); broadcasts = unanswered.broadcasts }) window after
IsSession-took bearer unanswered window before after more h =
    let few = h.few in
    record { two_bearers = h.two_bearers; few = omega arith; answers = h.answers; sending = h.sending; waiting = h.waiting; unacked = h.unacked }

-- the first packet that waits was numbered, and a frame was sent
pub IsSession-due : (o : Option ℕ) (bearer : ℕ) (unanswered : Unanswered) (window after : Sending) (r : Received) → IsSending after
    → IfSome o (λ (number : ℕ). (number ≡ number_of (window.numbered + 1)) × (after ≡ moved window) × (0 < length window.waiting) × (length window.unacked < 50))
    → IfNone o ((after ≡ window) × ((window.waiting ≡ []) ⊎ (length window.unacked ≡ 50)))
    → IsSession bearer unanswered window r → IsSession bearer all_answered after r
IsSession-due None bearer unanswered window after r sending some none h =
    rw (none.0) (record { two_bearers = h.two_bearers; few = omega arith; answers = omega arith; sending = h.sending; waiting = h.waiting; unacked = h.unacked })
IsSession-due (Some number) bearer unanswered window after r sending some none h = rw (some.1) (record {
  two_bearers = h.two_bearers;
  few = omega arith;
  answers = omega arith;
  sending = subst IsSending some.1 sending;
  waiting = All-drop IsWaiting 1 window.waiting h.waiting;
  unacked = All-append IsWaiting window.unacked (take 1 window.waiting) h.unacked (All-take IsWaiting 1 window.waiting h.waiting);
})

-- the last packet that waits is another one
pub IsSession-joined : (bearer : ℕ) (unanswered : Unanswered) (window after : Sending) (r : Received) (packet : List ℕ) → IsWaiting packet → IsSending after → after ≡ swapped window packet
    → IsSession bearer unanswered window r → IsSession bearer unanswered after r
IsSession-joined bearer unanswered window after r packet waits sending is h = rw is (record {
  two_bearers = h.two_bearers;
  few = h.few;
  answers = h.answers;
  sending = subst IsSending is sending;
  waiting = All-push IsWaiting (take (length window.waiting - 1) window.waiting) packet (All-take IsWaiting (length window.waiting - 1) window.waiting h.waiting) waits;
  unacked = h.unacked;
})

-- more packets wait, or none
pub IsSession-offered : {F : Type 0} (r : Result (Unit {0}) F) (bearer : ℕ) (unanswered : Unanswered) (window after : Sending) (kept : Received) (pieces : List (List ℕ))
    → All IsWaiting pieces → IsSending after → OnOk r (after ≡ offered window pieces) → OnErr r (after ≡ window)
    → IsSession bearer unanswered window kept → IsSession bearer unanswered after kept
IsSession-offered (Ok done) bearer unanswered window after kept pieces all sending ok err h = rw ok (record {
  two_bearers = h.two_bearers;
  few = h.few;
  answers = h.answers;
  sending = subst IsSending ok sending;
  waiting = All-append IsWaiting window.waiting pieces h.waiting all;
  unacked = h.unacked;
})
IsSession-offered (Err fault) bearer unanswered window after kept pieces all sending ok err h = rw err h

-- what is acknowledged doesn't bear on what is taken
pub took-released : (e : SessionEnd) (acknowledgement : ℕ) (t : Taken) → after_acknowledgement (took e t) acknowledgement ≡ took (after_acknowledgement e acknowledgement) t
unfolding due_with is_only_deferred
took-released e acknowledgement t = refl

-- an arrival doesn't move the window
arrived_wanted : (r : Receiving) (d : ℕ) (t : Taken) → (arrived_at r d t).wanted ≡ r.wanted
arrived_wanted r d t = elim (is_new r d) as (λ b. (if b then record { wanted = r.wanted; held = filled r.held d t } else r).wanted ≡ r.wanted) [
  | true ↦ refl
  | false ↦ refl
]

-- the wanted position doesn't fall
pub drained_wanted : (r : Receiving) (t : Taken) → (drained (with_packet r t)).wanted ≡ r.wanted + length (run_of (with_packet r t).held)
drained_wanted r t = ap (λ n. n + length (run_of (with_packet r t).held)) (arrived_wanted r (past_wanted r t.number) t)

pub drained_wants : (r : Receiving) (t : Taken) → next_of (drained (with_packet r t)) ≡ None
drained_wants r t = run_leaves (with_packet r t).held

-- the receive window of a record
pub window_is : (r : Receiving) → 1 ≤ r.wanted → r ≡ record { wanted = r.wanted - 1 + 1; held = r.held }
window_is r first = ap (λ n. record { wanted = n; held = r.held }) (let same : r.wanted ≡ r.wanted - 1 + 1 = omega arith in same)

-- how many packets a record has taken then
pub taken_with : (r : Received) (t : Taken) → (with_coming r t).taken ≡ r.taken + length (run_of (with_packet (window_of r) t).held)
taken_with r t = let more = drained_wanted (window_of r) t in omega arith

-- a record keeps its facts then
pub IsRecord-coming : (window after : Receiving) (shown : ℕ) (t : Taken) → after ≡ drained (with_packet window t) → IsRecord window shown → IsRecord after shown
IsRecord-coming window after shown t is h =
    let wanted = h.wanted in
    let near = h.near in
    let more : after.wanted ≡ window.wanted + length (run_of (with_packet window t).held) = ap (λ (w : Receiving). w.wanted) is ∙ drained_wanted window t in
    record { wanted = omega arith; wants = ap next_of is ∙ drained_wants window t; near = omega arith }

-- ---- the wanted packet

number_past : (r : Receiving) (number : ℕ) → number ≡ number_of r.wanted → past_wanted r number ≡ 0
number_past r number same =
    let none : distance_of (number_of r.wanted) (number_of r.wanted) ≡ r.wanted - r.wanted = distance_of-ahead r.wanted r.wanted (omega arith) (omega arith) in
    ap (distance_of (number_of r.wanted)) same ∙ none ∙ omega arith

-- it is due, with those that are held behind it
pub wanted_freed : (r : Received) (t : Taken) → next_of (window_of r) ≡ None → t.number ≡ number_of (r.taken + 1) → run_of (with_packet (window_of r) t).held ≡ freed r t
wanted_freed r t free same =
    let w = window_of r in
    ap (λ d. run_of (arrived_at w d t).held) (number_past w t.number same) ∙ due_in_order w 0 t free (place_at-wanted w free)

-- and all of them leave the window
pub wanted_advanced : (r : Received) (t : Taken) → next_of (window_of r) ≡ None → t.number ≡ number_of (r.taken + 1) → with_coming r t ≡ advanced_by r t
wanted_advanced r t free same =
    let w = window_of r in
    let run : run_of (arrived_at w 0 t).held ≡ freed r t = due_in_order w 0 t free (place_at-wanted w free) in
    let pass : record { wanted = w.wanted + length (run_of (arrived_at w 0 t).held); held = drop (length (run_of (arrived_at w 0 t).held)) w.held } ≡ drained (arrived_at w 0 t) =
    passes w 0 t free (ap (λ p. deferred_at p t) (place_at-wanted w free)) in
    let whole : drained (with_packet w t) ≡ record { wanted = w.wanted + length (freed r t); held = drop (length (freed r t)) w.held } =
    ap (λ d. drained (arrived_at w d t)) (number_past w t.number same) ∙ sym pass ∙ ap (λ (us : List Taken). record { wanted = w.wanted + length us; held = drop (length us) w.held }) run in
    let taken : w.wanted + length (freed r t) - 1 ≡ r.taken + length (freed r t) = omega arith in
    ap (λ (v : Receiving). record { epoch = r.epoch; taken = v.wanted - 1; held = v.held; shown = r.shown }) whole
    ∙ ap (λ n. record { epoch = r.epoch; taken = n; held = drop (length (freed r t)) r.held; shown = r.shown }) taken

-- a packet that is deferred leaves nothing due, so it is the only one also then
deferred_same : (r : Receiving) (d : ℕ) (t : Taken) (place : Place) → next_of r ≡ None → place ≡ place_at r d
    → (is_deferred place && (deferred_count (drained (arrived_at r d t)) == 1)) ≡ (is_deferred place && (deferred_count (arrived_at r d t) == 1))
deferred_same r d t place.InOrder free at = refl
deferred_same r d t place.Deferred free at =
    let none : run_of (arrived_at r d t).held ≡ [] = due_none r d t free (λ e. let first : place.Deferred ≡ place.InOrder = at ∙ e in let no : ⊥ = cc in no) in
    ap (λ n. deferred_count (record { wanted = (arrived_at r d t).wanted; held = drop n (arrived_at r d t).held }) == 1) (ap length none)
deferred_same r d t place.Old free at = refl

-- ---- what a session took

abbrev took_by : SessionEnd → Receiving → List Taken → Place → SessionEnd
took_by e w due place = record e {
  taken = e.taken + length due;
  held = drop (length due) w.held;
  unanswered = record { packets = e.unanswered.packets + length due; broadcasts = e.unanswered.broadcasts };
  owes = is_deferred place && (deferred_count w == 1);
}

abbrev took_at : SessionEnd → Taken → ℕ → SessionEnd
took_at e t d = took_by e (arrived_at (receiving e) d t) (run_of (arrived_at (receiving e) d t).held) (place_at (receiving e) d)

took-at : (e : SessionEnd) (t : Taken) → took_at e t (standing (receiving e) t) ≡ took e t
unfolding due_with is_only_deferred
took-at e t = refl

-- a tunnel packet that isn't wanted is passed over
pub took_early : (e : SessionEnd) (t : Taken) → next_of (receiving e) ≡ None → is_early_tunnel (receiving e) t ≡ true → record e { owes = false } ≡ took e t
took_early e t free early =
    let r = receiving e in
    let same : arrived_at r 50 t ≡ r = arrived_at-far r 50 t (omega arith) in
    let old : place_at r 50 ≡ place.Old = place_at-far r 50 (omega arith) in
    let none : run_of e.held ≡ [] = run_none e.held free in
    let still : e.taken ≡ e.taken + 0 = omega arith in
    let silent : e.unanswered.packets ≡ e.unanswered.packets + 0 = omega arith in
    ap (λ n. record e { taken = n; owes = false }) still
    ∙ ap (λ n. record e { taken = e.taken + 0; unanswered = record { packets = n; broadcasts = e.unanswered.broadcasts }; owes = false }) silent
    ∙ ap (λ due. took_by e r due place.Old) (sym none) ∙ ap (took_by e r (run_of e.held)) (sym old) ∙ ap (λ (w : Receiving). took_by e w (run_of w.held) (place_at r 50)) (sym same)
    ∙ ap (took_at e t) (sym (standing_early r t early)) ∙ took-at e t

-- the session took what its record did
pub took_is : (e : SessionEnd) (t : Taken) (after : Received) (packets : ℕ) (owes : Bool) (place : Place) → next_of (receiving e) ≡ None → is_early_tunnel (receiving e) t ≡ false
    → after ≡ with_coming (receiving_record e) t → place ≡ place_at (receiving e) (past e t.number) → packets ≡ e.unanswered.packets + (after.taken - e.taken)
    → owes ≡ (is_deferred place && (deferred_count (window_of after) == 1))
    → record e { record_epoch = after.epoch; taken = after.taken; held = after.held; shown = after.shown; unanswered = record { packets = packets; broadcasts = e.unanswered.broadcasts }; owes = owes } ≡ took e t
took_is e t after packets owes place free plain is at count asks =
    let r = receiving e in
    let d = past e t.number in
    let due : ℕ = length (run_of (arrived_at r d t).held) in
    let taken : after.taken ≡ e.taken + due = ap (λ (x : Received). x.taken) is ∙ taken_with (receiving_record e) t in
    let held : after.held ≡ drop due (arrived_at r d t).held = ap (λ (x : Received). x.held) is in
    let epoch : after.epoch ≡ e.record_epoch = ap (λ (x : Received). x.epoch) is in
    let shown : after.shown ≡ e.shown = ap (λ (x : Received). x.shown) is in
    let more : packets ≡ e.unanswered.packets + due = omega (arith, taken, count) in
    let wanted : after.taken + 1 ≡ (drained (arrived_at r d t)).wanted = omega (arith, taken, drained_wanted r t) in
    let window : window_of after ≡ drained (arrived_at r d t) = ap (λ n. record { wanted = n; held = after.held }) wanted ∙ ap (λ xs. record { wanted = (drained (arrived_at r d t)).wanted; held = xs }) held in
    let owes_is : owes ≡ (is_deferred (place_at r d) && (deferred_count (arrived_at r d t) == 1)) =
    asks ∙ ap (λ w. is_deferred place && (deferred_count w == 1)) window ∙ deferred_same r d t place free at ∙ ap (λ p. is_deferred p && (deferred_count (arrived_at r d t) == 1)) at in
    rw (epoch, taken, held, shown, more, owes_is) (ap (took_at e t) (sym (standing_plain r t plain)) ∙ took-at e t)

-- ---- another record

same_epoch : (n : ℕ) → (n == n) ≡ true
same_epoch n = grind (arith, nat_tests)

-- a record of the same epoch leaves unanswered what was
pub with_same : (e : SessionEnd) (r : Received) → r.epoch ≡ e.record_epoch → record e { record_epoch = r.epoch; taken = r.taken; held = r.held; shown = r.shown } ≡ with_record e r
with_same e r same =
    let one : (r.epoch == e.record_epoch) ≡ true = ap (λ n. n == e.record_epoch) same ∙ same_epoch e.record_epoch in
    rw one refl

pub with_other : (e : SessionEnd) (r : Received) → (r.epoch == e.record_epoch) ≡ false → record e { record_epoch = r.epoch; taken = r.taken; held = r.held; shown = r.shown; unanswered = record { packets = 0; broadcasts = e.unanswered.broadcasts } } ≡ with_record e r
with_other e r other = rw other refl

-- no packet of a tunnel packet changes a record's epoch
pub tunnelled_epoch : (r : Received) (epoch : ℕ) (t : Taken) → (tunnelled r epoch t).epoch ≡ r.epoch
tunnelled_epoch r epoch t = elim (is_next r epoch t) as (λ b. (if b then advanced_by r t else r).epoch ≡ r.epoch) [
  | true ↦ refl
  | false ↦ refl
]

-- the record that an epoch names, which is above its own or isn't
pub named_above : (r : Received) (epoch : ℕ) → r.epoch < epoch → named (Some r) epoch ≡ unheard epoch
named_above r epoch above =
    let is : nat_lt r.epoch epoch ≡ true = grind (arith, nat_tests) in
    rw is refl

pub named_below : (r : Received) (epoch : ℕ) → epoch ≤ r.epoch → named (Some r) epoch ≡ r
named_below r epoch below =
    let is : nat_lt r.epoch epoch ≡ false = grind (arith, nat_tests) in
    rw is refl

-- a session whose record stays is as it was
pub with_itself : (e : SessionEnd) → e ≡ with_record e (receiving_record e)
with_itself e = with_same e (receiving_record e) refl

-- ---- a record before there was a session

pub early_whole : (o : Option Received) → HoldsNone o → record_in None (option_map early_of o) ≡ o
early_whole None h = refl
early_whole (Some r) h = ap (λ xs. Some (record { epoch = r.epoch; taken = r.taken; held = xs; shown = 1 })) (sym h.0) ∙ ap (λ n. Some (record { epoch = r.epoch; taken = r.taken; held = r.held; shown = n })) (sym h.1)

drop_nothing : (n : ℕ) (held : List (Option Taken)) → held ≡ [] → drop n held ≡ []
drop_nothing n held none = ap (drop n) none ∙ nothing n
  where
    nothing : (n : ℕ) → drop {A = Option Taken} n [] ≡ []
    nothing zero = refl
    nothing (suc n) = refl

pub named_none : (o : Option Received) (epoch : ℕ) → HoldsNone o → HoldsNone (Some (named o epoch))
named_none None epoch h = (refl, refl)
named_none (Some r) epoch h = elim (nat_lt r.epoch epoch) as (λ b. HoldsNone (Some (if b then unheard epoch else r))) [
  | true ↦ (refl, refl)
  | false ↦ h
]

pub tunnelled_none : (r : Received) (epoch : ℕ) (t : Taken) → HoldsNone (Some r) → HoldsNone (Some (tunnelled r epoch t))
tunnelled_none r epoch t h = elim (is_next r epoch t) as (λ b. HoldsNone (Some (if b then advanced_by r t else r))) [
  | true ↦ (drop_nothing (length (freed r t)) r.held h.0, h.1)
  | false ↦ h
]
