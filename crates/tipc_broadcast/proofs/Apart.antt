-- What happens with one peer leaves the contact with another, and so what a STATE to that one shows, but for the next number.
use Rattle.std.proofs.Common.{◌≡◌, ◌∙◌, ◌+◌, ◌≤◌, ℕ, ◌==◌, Bool, true, false, not, cond, if◌then◌else◌, List, [], ◌∷◌, ◌++◌, Option, Some, None, length, refl, sym, ap, length-drop, eqb-true, arith, zero, suc}
use Rattle.std.specs.Prelude.{◌||◌}
use Rattle.std.specs.Option.{option_or}
use Rattle.std.specs.List.{list_all}
use Rattle.std.proofs.lemmas.Bool.{and_parts}
use Rattle.std.proofs.lemmas.List.Folds.{find-append}
use Rattle.tipc_types.specs.Position.{number_of}
use Rattle.tipc_types.specs.declared.link_words.BroadcastState.{BroadcastState}
use Rattle.tipc_recv_window.specs.Receiving.{Receiving}
use Rattle.tipc_broadcast.specs.declared.contacts.Contact.{Contact}
use Rattle.tipc_broadcast.specs.Casting.{Casting, accepted, accepting, answered, credited, flushed, informed, kept_for, leaving, left_with, moved_up, next_start, rounds_of_departure, settled, shown, with_contacts, with_message}
use Rattle.tipc_send_window.specs.Sending.{room}
use Rattle.tipc_broadcast.specs.Contacts.{acknowledging, carried, contact_with, is_with, joined, shown_in, shown_to, told, with_changed, without}
use Rattle.tipc_broadcast.specs.Deeds.{CastDeed, after_deed, after_deeds, is_deed_with, is_hearing_of, sends_nothing}
use Rattle.tipc_broadcast.proofs.Deeds.{LeavesBoot, accepting_alike, answered_alike, heard_keeps, left_alike, told_keeps}

-- ---- the contact with a peer, in the list

none_joined : (w peer boot start : ℕ) (cs : List Contact) → (peer == w) ≡ false → contact_with w (cs ++ joined peer boot start ∷ []) ≡ contact_with w cs
none_joined w peer boot start cs apart =
    find-append (is_with w) cs (joined peer boot start ∷ []) ∙ ap (λ b. option_or (contact_with w cs) (cond b (Some (joined peer boot start)) None)) apart ∙ or_none (contact_with w cs)
  where
    or_none : (o : Option Contact) → option_or o None ≡ o
    or_none None = refl
    or_none (Some c) = refl

none_left : (w peer : ℕ) (cs : List Contact) → (peer == w) ≡ false → contact_with w (without peer cs) ≡ contact_with w cs
none_left w peer [] apart = refl
none_left w peer (c ∷ cs) apart = by (none_left w peer cs apart) (is_with peer c) refl
  where
    by : contact_with w (without peer cs) ≡ contact_with w cs → (b : Bool) → is_with peer c ≡ b → contact_with w (cond (not b) (c ∷ without peer cs) (without peer cs)) ≡ contact_with w (c ∷ cs)
    by later true is =
        let same : c.peer.word ≡ peer = eqb-true c.peer.word peer is in
        later ∙ ap (λ b. cond b (Some c) (contact_with w cs)) (sym (ap (λ n. n == w) same ∙ apart))
    by later false is = ap (λ o. cond (is_with w c) (Some c) o) later

none_changed : (w peer : ℕ) (change : Contact → Contact) (cs : List Contact) → LeavesBoot change → (peer == w) ≡ false → contact_with w (with_changed peer change cs) ≡ contact_with w cs
none_changed w peer change [] keeps apart = refl
none_changed w peer change (c ∷ cs) keeps apart = by (none_changed w peer change cs keeps apart) (is_with peer c) refl
  where
    by : contact_with w (with_changed peer change cs) ≡ contact_with w cs → (b : Bool) → is_with peer c ≡ b
        → contact_with w (if b then change c ∷ cs else c ∷ with_changed peer change cs) ≡ contact_with w (c ∷ cs)
    by later true is =
        let same : c.peer.word ≡ peer = eqb-true c.peer.word peer is in
        let here : (c.peer.word == w) ≡ false = ap (λ n. n == w) same ∙ apart in
        let there : is_with w (change c) ≡ false = ap (λ a. a.word == w) (keeps c).1 ∙ here in
        ap (λ b. cond b (Some (change c)) (contact_with w cs)) there ∙ ap (λ b. cond b (Some c) (contact_with w cs)) (sym here)
    by later false is = ap (λ o. cond (is_with w c) (Some c) o) later

-- ---- deeds with other peers

-- whether a deed leaves the contact with a peer
abbrev pub is_apart : ℕ → CastDeed → Bool
is_apart w d = not (is_deed_with w d || is_hearing_of w d)

or_parts : (a b : Bool) → not (a || b) ≡ true → (a ≡ false) × (b ≡ false)
or_parts false false is = (refl, refl)
or_parts true b is = absurd (let wrong : false ≡ true = is in cc)
or_parts false true is = absurd (let wrong : false ≡ true = is in cc)

same_with : (w : ℕ) (u v : Casting) → u.contacts ≡ v.contacts → contact_with w u.contacts ≡ contact_with w v.contacts
same_with w u v same = ap (contact_with w) same

stated_apart : (w : ℕ) (v : Casting) (peer : ℕ) (seen : BroadcastState) (b : Bool) → (peer == w) ≡ false
    → contact_with w (if b then answered (informed v peer seen.start seen.next) peer seen.acknowledged else informed v peer seen.start seen.next).contacts ≡ contact_with w v.contacts
stated_apart w v peer seen true apart =
    let u = informed v peer seen.start seen.next in
    same_with w (answered u peer seen.acknowledged) (credited u peer seen.acknowledged) (answered_alike u peer seen.acknowledged).contacts
    ∙ none_changed w peer (acknowledging u.sending.numbered seen.acknowledged) u.contacts (λ c. (refl, refl)) apart
    ∙ none_changed w peer (told seen.start seen.next) v.contacts (told_keeps seen.start seen.next) apart
stated_apart w v peer seen false apart = none_changed w peer (told seen.start seen.next) v.contacts (told_keeps seen.start seen.next) apart

pub deed_apart : (w : ℕ) (d : CastDeed) (v : Casting) → is_apart w d ≡ true → contact_with w (after_deed d v).contacts ≡ contact_with w v.contacts
deed_apart w (CastDeed.joins peer boot) v apart = none_joined w peer boot (next_start v) v.contacts (or_parts (peer == w) false apart).0
deed_apart w (CastDeed.leaves peer) v apart =
    let u = with_contacts v (without peer v.contacts) in
    same_with w (leaving v peer) u (left_alike (without peer v.contacts) u).contacts ∙ none_left w peer v.contacts (or_parts (peer == w) false apart).0
deed_apart w (CastDeed.states peer seen) v apart = stated_apart w v peer seen seen.in_step (or_parts (peer == w) false apart).0
deed_apart w (CastDeed.bears bearer is_mended) v apart = refl
deed_apart w (CastDeed.hears boot members by packet) v apart =
    none_changed w packet.previous _ v.contacts (heard_keeps v.own boot members (carried packet by)) (or_parts false (packet.previous == w) apart).1
deed_apart w (CastDeed.sends pieces) v apart = same_with w (accepting v pieces) v (accepting_alike v pieces).contacts

-- ---- all that is accepted stays so

pub accepted_flushed : (v : Casting) → accepted (flushed v).sending ≡ accepted v.sending
unfolding flushed
accepted_flushed v =
    let within : room v.sending ≤ length v.sending.waiting = omega arith in
    omega (arith, length-drop (room v.sending) v.sending.waiting, within)

pub accepted_settled : (v : Casting) → accepted (settled v).sending ≡ accepted v.sending
unfolding settled
accepted_settled v = refl

accepted_moved : (n : ℕ) (v : Casting) → accepted (moved_up n v).sending ≡ accepted v.sending
unfolding moved_up
accepted_moved zero v = refl
accepted_moved (suc n) v = accepted_flushed (settled (moved_up n v)) ∙ (accepted_settled (moved_up n v) ∙ accepted_moved n v)

accepted_left : (cs : List Contact) (v : Casting) → accepted (left_with cs v).sending ≡ accepted v.sending
accepted_left [] v = omega arith
accepted_left (c ∷ cs) v = accepted_moved rounds_of_departure v

accepted_stated : (v : Casting) (peer : ℕ) (seen : BroadcastState) (b : Bool)
    → accepted (if b then answered (informed v peer seen.start seen.next) peer seen.acknowledged else informed v peer seen.start seen.next).sending ≡ accepted v.sending
accepted_stated v peer seen true =
    let u = credited (informed v peer seen.start seen.next) peer seen.acknowledged in
    accepted_flushed (settled u) ∙ accepted_settled u
accepted_stated v peer seen false = refl

pub deed_accepted : (d : CastDeed) (v : Casting) → sends_nothing d ≡ true → accepted (after_deed d v).sending ≡ accepted v.sending
deed_accepted (CastDeed.joins peer boot) v quiet = refl
deed_accepted (CastDeed.leaves peer) v quiet = accepted_left (without peer v.contacts) (with_contacts v (without peer v.contacts))
deed_accepted (CastDeed.states peer seen) v quiet = accepted_stated v peer seen seen.in_step
deed_accepted (CastDeed.bears bearer is_mended) v quiet = refl
deed_accepted (CastDeed.hears boot members by packet) v quiet = refl
deed_accepted (CastDeed.sends pieces) v quiet = absurd (let wrong : false ≡ true = quiet in cc)

pub deeds_accepted : (ds : List CastDeed) (v : Casting) → list_all sends_nothing ds ≡ true → accepted (after_deeds ds v).sending ≡ accepted v.sending
deeds_accepted [] v quiet = refl
deeds_accepted (d ∷ ds) v quiet =
    let parts = and_parts (sends_nothing d) (list_all sends_nothing ds) quiet in
    deeds_accepted ds (after_deed d v) parts.1 ∙ deed_accepted d v parts.0

-- ---- a number is never taken back

flushed_rises : (v : Casting) → v.sending.numbered ≤ (flushed v).sending.numbered
unfolding flushed
flushed_rises v = omega arith

settled_same : (v : Casting) → (settled v).sending.numbered ≡ v.sending.numbered
unfolding settled
settled_same v = refl

moved_up_rises : (n : ℕ) (v : Casting) → v.sending.numbered ≤ (moved_up n v).sending.numbered
unfolding moved_up
moved_up_rises zero v = omega arith
moved_up_rises (suc n) v =
    let before = moved_up_rises n v in
    let same = settled_same (moved_up n v) in
    let more = flushed_rises (settled (moved_up n v)) in
    omega (arith, before, same, more)

left_rises : (cs : List Contact) (v : Casting) → v.sending.numbered ≤ (left_with cs v).sending.numbered
left_rises [] v = omega arith
left_rises (c ∷ cs) v = moved_up_rises 6 v

kept_rises : (cs : List Contact) (v : Casting) → v.sending.numbered ≤ (kept_for cs v).sending.numbered
kept_rises [] v = omega arith
kept_rises (c ∷ cs) v = omega arith

stated_rises : (v : Casting) (peer : ℕ) (seen : BroadcastState) (b : Bool) → v.sending.numbered ≤ (if b then answered (informed v peer seen.start seen.next) peer seen.acknowledged else informed v peer seen.start seen.next).sending.numbered
stated_rises v peer seen true =
    let credit = credited (informed v peer seen.start seen.next) peer seen.acknowledged in
    let same = settled_same credit in
    let more = flushed_rises (settled credit) in
    omega (arith, same, more)
stated_rises v peer seen false = omega arith

deed_rises : (d : CastDeed) (v : Casting) → v.sending.numbered ≤ (after_deed d v).sending.numbered
deed_rises (CastDeed.joins peer boot) v = omega arith
deed_rises (CastDeed.leaves peer) v = left_rises (without peer v.contacts) (with_contacts v (without peer v.contacts))
deed_rises (CastDeed.states peer seen) v = stated_rises v peer seen seen.in_step
deed_rises (CastDeed.bears bearer is_mended) v = omega arith
deed_rises (CastDeed.hears boot members by packet) v = omega arith
deed_rises (CastDeed.sends pieces) v =
    let kept = kept_rises v.contacts (flushed (with_message v pieces)) in
    let more = flushed_rises (with_message v pieces) in
    omega (arith, kept, more)

pub deeds_rise : (ds : List CastDeed) (v : Casting) → v.sending.numbered ≤ (after_deeds ds v).sending.numbered
deeds_rise [] v = omega arith
deeds_rise (d ∷ ds) v =
    let one = deed_rises d v in
    let more = deeds_rise ds (after_deed d v) in
    omega (arith, one, more)

-- ---- what a STATE shows

-- two broadcast links that have accepted alike, and have the same contact with a peer
pub record IsLikeFor (w : ℕ) (v u : Casting) : Type 0 where
  pub contact : contact_with w u.contacts ≡ contact_with w v.contacts
  pub accepted_is : accepted u.sending ≡ accepted v.sending

pub deeds_like : (w : ℕ) (ds : List CastDeed) (v : Casting) → list_all (is_apart w) ds ≡ true → list_all sends_nothing ds ≡ true → IsLikeFor w v (after_deeds ds v)
deeds_like w [] v apart quiet = record { contact = refl; accepted_is = refl }
deeds_like w (d ∷ ds) v apart quiet =
    let parts = and_parts (is_apart w d) (list_all (is_apart w) ds) apart in
    let still = and_parts (sends_nothing d) (list_all sends_nothing ds) quiet in
    let rest = deeds_like w ds (after_deed d v) parts.1 still.1 in
    record { contact = rest.contact ∙ deed_apart w d v parts.0; accepted_is = rest.accepted_is ∙ deed_accepted d v still.0 }

-- show the same, but for the next number
pub shown_like : (w : ℕ) (v u : Casting) → IsLikeFor w v u → shown u w ≡ record (shown v w) { next = number_of (u.sending.numbered + 1) }
shown_like w v u h =
    ap (λ o. shown_to (number_of (u.sending.numbered + 1)) (number_of (next_start u)) o) h.contact
    ∙ ap (λ n. shown_to (number_of (u.sending.numbered + 1)) (number_of (n + 1)) (contact_with w v.contacts)) h.accepted_is
    ∙ by (contact_with w v.contacts)
  where
    by_window : (start shown : ℕ) (o : Option Receiving)
        → shown_in (number_of (u.sending.numbered + 1)) start shown o ≡ record (shown_in (number_of (v.sending.numbered + 1)) start shown o) { next = number_of (u.sending.numbered + 1) }
    by_window start shown None = refl
    by_window start shown (Some r) = refl

    by : (o : Option Contact) → shown_to (number_of (u.sending.numbered + 1)) (number_of (next_start v)) o
        ≡ record (shown_to (number_of (v.sending.numbered + 1)) (number_of (next_start v)) o) { next = number_of (u.sending.numbered + 1) }
    by None = refl
    by (Some c) = by_window (number_of c.start) c.shown c.window
