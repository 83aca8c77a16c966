-- What every broadcast link keeps, it keeps behind each lawful deed.
use Rattle.std.proofs.Common.{◌≡◌, ◌≤◌, ◌+◌, ◌^◌, ℕ, Bool, true, false, if◌then◌else◌, List, [], ◌∷◌, length, take, map, refl, sym, subst, ◌∙◌, length-append, length-drop, arith, zero, suc}
use Rattle.std.specs.Prelude.{All}
use Rattle.std.proofs.lemmas.List.{length-take-le}
use Rattle.std.proofs.lemmas.List.Elements.{All-append, All-drop, All-nil, All-push, All-take}
use Rattle.tipc_types.specs.declared.link_words.BroadcastState.{BroadcastState}
use Rattle.tipc_send_window.specs.Sending.{IsSending, acked_of, passed_over, advanced, room}
use Rattle.tipc_broadcast.specs.declared.contacts.Contact.{Contact}
use Rattle.tipc_broadcast.specs.Casting.{Casting, IsCasting, accepted, accepting, answered, credited, flushed, informed, kept_for, left_with, moved_up, next_start, rounds_of_departure, settled, with_contacts, with_message}
use Rattle.tipc_broadcast.specs.Contacts.{IsContact, acknowledging, carried, heard, joined, member_set, refusal, told, without}
use Rattle.tipc_broadcast.specs.Deeds.{CanSend, CastDeed, IsLawful, after_deed, sends_nothing}
use Rattle.tipc_broadcast.specs.Frames.{accepted_frame}
use Rattle.tipc_broadcast.proofs.Apart.{accepted_flushed}
use Rattle.tipc_broadcast.proofs.Deeds.{changed_all}
use Rattle.tipc_broadcast.proofs.Keeping.{acknowledging-keeps, heard-keeps, leave-keeps, offer-keeps, release-keeps, to_release, told-keeps}

-- what is true of every broadcast link
pub record IsLink (v : Casting) : Type 0 where
  pub window : IsSending v.sending
  pub casting : IsCasting v.own v.sending v.contacts

-- with other contacts that stand so
with_all : (v : Casting) (cs : List Contact) → IsLink v → All (IsContact (acked_of v.sending) (accepted v.sending)) cs → IsLink (with_contacts v cs)
with_all v cs h all = record {
  window = h.window;
  casting = (let k = h.casting in record { node = k.node; few = k.few; unacked = k.unacked; waiting = k.waiting; short_unacked = k.short_unacked; short_waiting = k.short_waiting; contacts = all });
}

-- ---- packets move

flushed_right : (v : Casting) → IsLink v → IsLink (flushed v)
unfolding flushed
flushed_right v h =
    let s = v.sending in
    let n = room s in
    let k = h.casting in
    let few = h.window.window in
    let begun = h.window.numbered in
    let most = h.window.counted in
    let within : n ≤ length s.waiting = omega arith in
    let fits : n + length s.unacked ≤ 50 = omega (arith, few) in
    let taken = length-take-le n s.waiting within in
    let both = length-append s.unacked (take n s.waiting) in
    let left = length-drop n s.waiting in
    let released_same : acked_of (advanced n s) ≡ acked_of s = omega (arith, taken, both, begun) in
    let accepted_same : accepted (advanced n s) ≡ accepted s = omega (arith, left, within) in
    let Long : List ℕ → Type 0 = λ frame. 32 ≤ length frame in
    let Short : List ℕ → Type 0 = λ frame. length frame ≤ 1516 in
    record {
      window = record { window = omega (arith, taken, both, fits); numbered = omega (arith, taken, both, begun); counted = omega (arith, left, within, most) };
      casting = record {
        node = k.node;
        few = omega (arith, left, k.few);
        unacked = All-append Long s.unacked (take n s.waiting) k.unacked (All-take Long n s.waiting k.waiting);
        waiting = All-drop Long n s.waiting k.waiting;
        short_unacked = All-append Short s.unacked (take n s.waiting) k.short_unacked (All-take Short n s.waiting k.short_waiting);
        short_waiting = All-drop Short n s.waiting k.short_waiting;
        contacts = subst (λ low. All (IsContact low (accepted (advanced n s))) v.contacts) (sym released_same) (subst (λ high. All (IsContact (acked_of s) high) v.contacts) (sym accepted_same) k.contacts);
      };
    }

pub settled_right : (v : Casting) → IsLink v → IsLink (settled v)
unfolding settled
settled_right v h =
    let s = v.sending in
    let n = to_release s v.contacts in
    let left = length-drop n s.unacked in
    record {
      window = record { window = omega (arith, left, h.window.window); numbered = omega (arith, left, h.window.numbered); counted = h.window.counted };
      casting = release-keeps v.own s v.contacts h.window h.casting;
    }

-- with nobody in contact all is given up
given_up : (v : Casting) → v.contacts ≡ [] → IsLink v → IsLink (record v { sending = passed_over v.sending })
given_up v none h = record {
  window = record { window = omega arith; numbered = omega arith; counted = omega (arith, h.window.counted) };
  casting = record {
    node = h.casting.node;
    few = omega arith;
    unacked = All-nil (λ (frame : List ℕ). 32 ≤ length frame);
    waiting = All-nil (λ (frame : List ℕ). 32 ≤ length frame);
    short_unacked = All-nil (λ (frame : List ℕ). length frame ≤ 1516);
    short_waiting = All-nil (λ (frame : List ℕ). length frame ≤ 1516);
    contacts = subst (All (IsContact (acked_of (passed_over v.sending)) (accepted (passed_over v.sending)))) (sym none) (All-nil (IsContact (acked_of (passed_over v.sending)) (accepted (passed_over v.sending))));
  };
}

pub moved_right : (n : ℕ) (v : Casting) → IsLink v → IsLink (moved_up n v)
unfolding moved_up
moved_right zero v h = h
moved_right (suc n) v h = flushed_right (settled (moved_up n v)) (settled_right (moved_up n v) (moved_right n v h))

left_right : (cs : List Contact) (v : Casting) → v.contacts ≡ cs → IsLink v → IsLink (left_with cs v)
left_right [] v none h = given_up v none h
left_right (c ∷ cs) v some h = moved_right rounds_of_departure v h

kept_right : (cs : List Contact) (v : Casting) → v.contacts ≡ cs → IsLink v → IsLink (kept_for cs v)
kept_right [] v none h = given_up v none h
kept_right (c ∷ cs) v some h = h

-- ---- a peer tells a STATE

informed_right : (v : Casting) (peer start next : ℕ) → IsLink v → IsLink (informed v peer start next)
informed_right v peer start next h =
    let P : Contact → Type 0 = IsContact (acked_of v.sending) (accepted v.sending) in
    with_all v _ h (changed_all P peer (told start next) v.contacts (told-keeps start next (acked_of v.sending) (accepted v.sending)) h.casting.contacts)

credited_right : (v : Casting) (peer number : ℕ) → IsLink v → IsLink (credited v peer number)
credited_right v peer number h =
    let P : Contact → Type 0 = IsContact (acked_of v.sending) (accepted v.sending) in
    with_all v _ h (changed_all P peer (acknowledging v.sending.numbered number) v.contacts (acknowledging-keeps v.sending (acked_of v.sending) number) h.casting.contacts)

stated_right : (v : Casting) (peer : ℕ) (seen : BroadcastState) (b : Bool) → IsLink v
    → IsLink (if b then answered (informed v peer seen.start seen.next) peer seen.acknowledged else informed v peer seen.start seen.next)
stated_right v peer seen true h =
    let u = credited (informed v peer seen.start seen.next) peer seen.acknowledged in
    flushed_right (settled u) (settled_right u (credited_right (informed v peer seen.start seen.next) peer seen.acknowledged (informed_right v peer seen.start seen.next h)))
stated_right v peer seen false h = informed_right v peer seen.start seen.next h

-- ---- a message

-- all that is accepted has a number or waits for one
accepted_kept : (cs : List Contact) (v : Casting) → accepted (kept_for cs v).sending ≡ accepted v.sending
accepted_kept [] v = omega arith
accepted_kept (c ∷ cs) v = refl

same_contacts : (v : Casting) → (flushed v).contacts ≡ v.contacts
unfolding flushed
same_contacts v = refl

sent_right : (v : Casting) (pieces : List (List ℕ)) → CanSend v pieces → accepted (accepting v pieces).sending ≤ 2 ^ 62 → IsLink v → IsLink (accepting v pieces)
sent_right v pieces can counted h =
    let w = with_message v pieces in
    let frames = map (accepted_frame v.own v.boot (member_set v.contacts)) pieces in
    let all : accepted w.sending ≤ 2 ^ 62 = subst (λ n. n ≤ 2 ^ 62) (accepted_kept v.contacts (flushed w) ∙ accepted_flushed w) counted in
    let is : IsLink w = record {
      window = record { window = h.window.window; numbered = h.window.numbered; counted = all };
      casting = offer-keeps v.own v.boot (member_set v.contacts) v.sending v.contacts pieces can.long can.short can.room can.few h.casting;
    } in
    kept_right v.contacts (flushed w) (same_contacts w) (flushed_right w is)

-- ---- any deed

-- a peer that joins has acknowledged all that was accepted before
begins_right : (v : Casting) (peer boot : ℕ) → IsLawful (CastDeed.joins peer boot) v → IsContact (acked_of v.sending) (accepted v.sending) (joined peer boot (next_start v))
begins_right v peer boot lawful = record { node = lawful.0; after_release = omega arith; before_accepted = omega arith; begun = omega arith; free = tt }

-- where a message is sent, no more is accepted than has numbers
pub deed_right : (d : CastDeed) (v : Casting) → IsLawful d v → (sends_nothing d ≡ false → accepted (after_deed d v).sending ≤ 2 ^ 62) → IsLink v → IsLink (after_deed d v)
deed_right (CastDeed.joins peer boot) v lawful counted h =
    let P : Contact → Type 0 = IsContact (acked_of v.sending) (accepted v.sending) in
    with_all v _ h (All-push P v.contacts (joined peer boot (next_start v)) h.casting.contacts (begins_right v peer boot lawful))
deed_right (CastDeed.leaves peer) v lawful counted h =
    let cs = without peer v.contacts in
    left_right cs (with_contacts v cs) refl (record { window = h.window; casting = leave-keeps v.own v.sending v.contacts peer h.casting })
deed_right (CastDeed.states peer seen) v lawful counted h = stated_right v peer seen seen.in_step h
deed_right (CastDeed.bears bearer is_mended) v lawful counted h = record { window = h.window; casting = h.casting }
deed_right (CastDeed.hears boot members by packet) v lawful counted h =
    let P : Contact → Type 0 = IsContact (acked_of v.sending) (accepted v.sending) in
    with_all v _ h
    (changed_all P packet.previous (λ c. heard (carried packet by) c (refusal v.own boot members c)) v.contacts
    (λ c is. heard-keeps (acked_of v.sending) (accepted v.sending) (carried packet by) c (refusal v.own boot members c) is) h.casting.contacts)
deed_right (CastDeed.sends pieces) v lawful counted h = sent_right v pieces lawful (counted refl) h
