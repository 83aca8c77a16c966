-- What is acknowledged, wanted and shown doesn't fall.
use Rattle.std.proofs.Common.{◌≡◌, ℕ, ◌+◌, ◌-◌, ◌≤◌, Bool, true, false, if◌then◌else◌, List, Option, Some, None, is_some, length, take, refl, sym, ap, subst, ◌∙◌, inl, inr, length-append, length-drop, length-take, arith}
use Rattle.std.specs.Prelude.{max}
use Rattle.tipc_types.specs.declared.link_words.BroadcastState.{BroadcastState}
use Rattle.tipc_types.specs.declared.link_words.Why.{Why}
use Rattle.tipc_types.specs.declared.packet_lists.Taken.{Taken}
use Rattle.tipc_send_window.specs.Sending.{acked_of, IsSending, room}
use Rattle.tipc_recv_window.specs.Receiving.{ahead, arrived_at, filled, fresh, is_new, past_wanted, Receiving}
use Rattle.tipc_broadcast.specs.declared.contacts.Contact.{Contact}
use Rattle.tipc_broadcast.specs.Casting.{answered, Casting, credited, flushed, informed, settled}
use Rattle.tipc_broadcast.specs.Contacts.{acked_by_all, acknowledging, contact_with, heard, noted_in, refusal, stepped, taken_in, told, with_changed}
use Rattle.tipc_broadcast.proofs.Keeping.{acked_by_all-below, acknowledged_to-bounds, told-same}
use Rattle.tipc_broadcast_law.proofs.calls.Crediting.{changed-here, changed-there}
use Rattle.tipc_broadcast_law.proofs.Places.{same_or_not}
use Rattle.tipc_broadcast_repair.specs.Laws.{CastGoesOn, GoesOnWith, HearersGoOn, CastHearingsGoOn, CastStatesGoOn, StaysInStep, ToldMembersGoOn}

-- ---- at the caster

same_with : (o : Option Contact) → GoesOnWith o o
same_with None = tt
same_with (Some c) = (omega arith, refl)

on_with : (a b c : Option Contact) → (b ≡ None → a ≡ None) → GoesOnWith a b → GoesOnWith b c → GoesOnWith a c
on_with None b c lost one two = tt
on_with (Some x) None c lost one two = absurd (let wrong : Some x ≡ None = lost refl in let no : ⊥ = cc in no)
on_with (Some x) (Some y) None lost one two = tt
on_with (Some x) (Some y) (Some z) lost one two = (let low = one.0 in let high = two.0 in omega (arith, low, high), two.1 ∙ one.1)

-- a change of one contact that goes on
abbrev Rises : (Contact → Contact) → Type 0
Rises change = (c : Contact) → ((change c).peer ≡ c.peer) × (c.acked ≤ (change c).acked) × ((change c).start ≡ c.start)

changed_on : (peer m : ℕ) (change : Contact → Contact) (cs : List Contact) → Rises change → GoesOnWith (contact_with m cs) (contact_with m (with_changed peer change cs))
changed_on peer m change cs rises = elim (same_or_not m peer) [
  | inl is ↦ subst (λ n. GoesOnWith (contact_with n cs) (contact_with n (with_changed peer change cs))) (sym is) (here (contact_with peer cs) refl)
  | inr never ↦ subst (λ o. GoesOnWith (contact_with m cs) o) (sym (changed-there change (λ d. (rises d).0) peer m cs never)) (same_with (contact_with m cs))
]
  where
    here : (o : Option Contact) → contact_with peer cs ≡ o → GoesOnWith o (contact_with peer (with_changed peer change cs))
    here None none = tt
    here (Some c) there = subst (GoesOnWith (Some c)) (sym (changed-here change (λ d. (rises d).0) peer cs c there)) ((rises c).1, (rises c).2)

-- no contact is lost
changed_stays : (peer m : ℕ) (change : Contact → Contact) (cs : List Contact) → Rises change → contact_with m (with_changed peer change cs) ≡ None → contact_with m cs ≡ None
changed_stays peer m change cs rises none = elim (same_or_not m peer) [
  | inl is ↦ subst (λ n. contact_with n cs ≡ None) (sym is) (here (contact_with peer cs) refl (subst (λ n. contact_with n (with_changed peer change cs) ≡ None) is none))
  | inr never ↦ sym (changed-there change (λ d. (rises d).0) peer m cs never) ∙ none
]
  where
    here : (o : Option Contact) → contact_with peer cs ≡ o → contact_with peer (with_changed peer change cs) ≡ None → contact_with peer cs ≡ None
    here None is gone = is
    here (Some c) there gone = absurd (let wrong : Some (change c) ≡ None = sym (changed-here change (λ d. (rises d).0) peer cs c there) ∙ gone in let no : ⊥ = cc in no)

heard_rises : (own boot members : ℕ) (t : Taken) → Rises (λ c. heard t c (refusal own boot members c))
heard_rises own boot members t c = by (refusal own boot members c)
  where
    in_it : (o : Option Receiving) → ((taken_in c t o).peer ≡ c.peer) × (c.acked ≤ (taken_in c t o).acked) × ((taken_in c t o).start ≡ c.start)
    in_it None = (refl, omega arith, refl)
    in_it (Some r) = (refl, omega arith, refl)

    by : (o : Option Why) → ((heard t c o).peer ≡ c.peer) × (c.acked ≤ (heard t c o).acked) × ((heard t c o).start ≡ c.start)
    by None = in_it c.window
    by (Some reason) = (refl, omega arith, refl)

pub hearings_go_on : CastHearingsGoOn
hearings_go_on v peer boot members t = record {
  each = λ m. changed_on peer m (λ c. heard t c (refusal v.own boot members c)) v.contacts (heard_rises v.own boot members t);
  acked = omega arith;
  numbered = omega arith;
}

told_rises : (start next : ℕ) → Rises (told start next)
told_rises start next c = (let same = told-same start next c in (same.peer, (let is = same.acked in omega (arith, is)), same.start))

credit_rises : (numbered number : ℕ) → Rises (acknowledging numbered number)
credit_rises numbered number c = (refl, (acknowledged_to-bounds numbered c.acked number).0, refl)

-- what is released, and moves up
pub settled_acked : (v : Casting) → IsSending v.sending → acked_of (settled v).sending ≡ max (acked_of v.sending) (acked_by_all v.sending.numbered v.contacts)
unfolding settled
settled_acked v is =
    let below = acked_by_all-below v.sending.numbered v.contacts in
    let kept = is.numbered in
    let left = length-drop (acked_by_all v.sending.numbered v.contacts - acked_of v.sending) v.sending.unacked in
    omega (arith, below, kept, left)

pub flushed_acked : (v : Casting) → acked_of (flushed v).sending ≡ acked_of v.sending
unfolding flushed
flushed_acked v =
    let within : room v.sending ≤ length v.sending.waiting = omega arith in
    let first = length-take (room v.sending) v.sending.waiting in
    let all = length-append v.sending.unacked (take (room v.sending) v.sending.waiting) in
    omega (arith, within, first, all)

flushed_numbered : (v : Casting) → v.sending.numbered ≤ (flushed v).sending.numbered
unfolding flushed
flushed_numbered v = omega arith

settled_numbered : (v : Casting) → ((settled v).sending.numbered ≡ v.sending.numbered) × ((settled v).contacts ≡ v.contacts)
unfolding settled
settled_numbered v = (refl, refl)

flushed_contacts : (v : Casting) → (flushed v).contacts ≡ v.contacts
unfolding flushed
flushed_contacts v = refl

-- the contacts after a STATE of a member that is in step
pub answered_contacts : (v : Casting) (peer number : ℕ) → (answered v peer number).contacts ≡ (credited v peer number).contacts
answered_contacts v peer number = flushed_contacts (settled (credited v peer number)) ∙ (settled_numbered (credited v peer number)).1

informed_on : (v : Casting) (peer start next : ℕ) → CastGoesOn v (informed v peer start next)
informed_on v peer start next = record { each = λ m. changed_on peer m (told start next) v.contacts (told_rises start next); acked = omega arith; numbered = omega arith }

-- the contact with a peer after what was told of it, and after what it acknowledged
answered_each : (v : Casting) (peer start next number m : ℕ) → GoesOnWith (contact_with m v.contacts) (contact_with m (credited (informed v peer start next) peer number).contacts)
answered_each v peer start next number m =
    let u = informed v peer start next in
    let credit = acknowledging u.sending.numbered number in
    on_with (contact_with m v.contacts) (contact_with m u.contacts) (contact_with m (with_changed peer credit u.contacts)) (changed_stays peer m (told start next) v.contacts (told_rises start next))
    (changed_on peer m (told start next) v.contacts (told_rises start next)) (changed_on peer m credit u.contacts (credit_rises u.sending.numbered number))

answered_on : (v : Casting) (peer start next number : ℕ) → IsSending v.sending → CastGoesOn v (answered (informed v peer start next) peer number)
answered_on v peer start next number is =
    let w = credited (informed v peer start next) peer number in
    let released = settled_acked w is in
    let up = flushed_acked (settled w) in
    let more = flushed_numbered (settled w) in
    let same = (settled_numbered w).0 in
    record {
      each = λ m. subst (λ cs. GoesOnWith (contact_with m v.contacts) (contact_with m cs)) (sym (answered_contacts (informed v peer start next) peer number)) (answered_each v peer start next number m);
      acked = omega (arith, released, up);
      numbered = omega (arith, more, same);
    }

states_on : (v : Casting) (peer : ℕ) (seen : BroadcastState) (b : Bool) → IsSending v.sending
    → CastGoesOn v (if b then answered (informed v peer seen.start seen.next) peer seen.acknowledged else informed v peer seen.start seen.next)
states_on v peer seen true is = answered_on v peer seen.start seen.next seen.acknowledged is
states_on v peer seen false is = informed_on v peer seen.start seen.next

pub states_go_on : CastStatesGoOn
states_go_on v peer seen is = states_on v peer seen seen.in_step is

-- ---- at the member

noted_on : (next : ℕ) (k : Contact) (o : Option Receiving) → k.window ≡ o → StaysInStep k.shown o (noted_in next k o).shown (noted_in next k o).window
noted_on next k None is = tt
noted_on next k (Some r) is = subst (StaysInStep k.shown (Some r) (max k.shown (r.wanted + ahead r next))) (sym is) (omega arith, omega arith)

stepped_on : (start next : ℕ) (k : Contact) (o : Option Receiving) → k.window ≡ o → StaysInStep k.shown o (told start next k).shown (told start next k).window
stepped_on start next k None is = tt
stepped_on start next k (Some r) is =
    let stepping : stepped start k ≡ k = ap (λ p. if is_some p then k else record k { window = Some (fresh start); shown = start }) is in
    subst (λ (d : Contact). StaysInStep k.shown (Some r) (noted_in next d d.window).shown (noted_in next d d.window).window) (sym stepping)
    (subst (λ p. StaysInStep k.shown (Some r) (noted_in next k p).shown (noted_in next k p).window) (sym is) (noted_on next k (Some r) is))

pub told_go_on : ToldMembersGoOn
told_go_on k start next = stepped_on start next k k.window refl

same_step : (shown : ℕ) (o : Option Receiving) → StaysInStep shown o shown o
same_step shown None = tt
same_step shown (Some r) = (omega arith, omega arith)

pub stays_wanted : (r : Receiving) (d : ℕ) (t : Taken) → (arrived_at r d t).wanted ≡ r.wanted
stays_wanted r d t = elim (is_new r d) as (λ b. (if b then record { wanted = r.wanted; held = filled r.held d t } else r).wanted ≡ r.wanted) [
  | true ↦ refl
  | false ↦ refl
]

taken_on : (k : Contact) (t : Taken) (o : Option Receiving) → k.window ≡ o → StaysInStep k.shown o (taken_in k t o).shown (taken_in k t o).window
taken_on k t None is = tt
taken_on k t (Some r) is = (let same = stays_wanted r (past_wanted r t.number) t in omega (arith, same), omega arith)

pub heard_go_on : HearersGoOn
heard_go_on k t (Some reason) = same_step k.shown k.window
heard_go_on k t None = taken_on k t k.window refl
