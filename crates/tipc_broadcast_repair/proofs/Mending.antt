-- How a broadcast packet that a member lost is missed, told, sent again, taken and acknowledged.
use Rattle.std.proofs.Common.{◌≡◌, ℕ, zero, suc, ◌+◌, ◌-◌, ◌<◌, ◌≤◌, ◌==◌, Bool, true, false, cond, if◌then◌else◌, List, [], ◌∷◌, Option, Some, None, is_some, length, drop, filter, refl, sym, ap, subst, ◌∙◌, inl, inr, true≢false, length-drop, slice_get, arith}
use Rattle.std.specs.Prelude.{All, nat_le, position as first_place, slice_index_or, unwrap_or}
use Rattle.std.specs.List.{Contains}
use Rattle.std.proofs.lemmas.Bool.{cases_lt}
use Rattle.std.proofs.lemmas.Bool.Decides.{nat_tests}
use Rattle.std.proofs.lemmas.List.{get_or-drop}
use Rattle.std.proofs.lemmas.List.Elements.{All-head, All-tail, Contains-append_cases, Contains-append_left, Contains-append_right}
use Rattle.std.proofs.lemmas.List.Quantifiers.{position-Some}
use Rattle.std.proofs.lemmas.Option.{get_or_from_slice_get, same_Some, slice_get-get_or, slice_get_within}
use Rattle.tipc_types.specs.Position.{distance_of, number_of}
use Rattle.tipc_types.specs.declared.identity.To.TheVariants as to
use Rattle.tipc_types.specs.declared.link_words.BroadcastState.{BroadcastState}
use Rattle.tipc_types.specs.declared.packet_lists.Kept.{Kept}
use Rattle.tipc_types.specs.declared.packet_lists.Taken.{Taken}
use Rattle.tipc_types.proofs.PositionLaws.{distance_of-ahead}
use Rattle.tipc_outside.specs.declared.outgoing.Outgoing.{Outgoing}
use Rattle.tipc_send_window.specs.Sending.{acked_of, IsSending, kept_of, released, Sending}
use Rattle.tipc_send_window.proofs.Keeping.{kept_at}
use Rattle.tipc_send_window.proofs.WindowLaws.{kept_after-at}
use Rattle.tipc_recv_window.specs.Receiving.{ahead, arrived_at, fresh, gap_of, gap_to, missing, past_wanted, Receiving, run_of, with_packet}
use Rattle.tipc_recv_window.proofs.ArrivalLaws.{place_at-wanted}
use Rattle.tipc_recv_window.proofs.Comings.{due_in_order}
use Rattle.tipc_broadcast.specs.declared.contacts.Contact.{Contact}
use Rattle.tipc_broadcast.specs.Casting.{accepted, answered, answered_frames, Casting, credited, flush_frames, informed, is_behind, repeat_frames, settled, stating}
use Rattle.tipc_broadcast.specs.Contacts.{acked_by_all, acknowledged_to, acknowledging, contact_with, IsContact, is_with, noted_in, shown_in, stepped, told, with_changed}
use Rattle.tipc_broadcast.specs.Frames.{cast, cast_again, numbered_frame, on_bearer, on_bearers}
use Rattle.tipc_broadcast.proofs.Keeping.{acked_by_all-above, acked_by_all-each, told-same}
use Rattle.tipc_broadcast_law.specs.Groups.{Group, place}
use Rattle.tipc_broadcast_law.specs.Steps.{Shows}
use Rattle.tipc_broadcast_law.specs.Listening.{IsAt, WasShownIn, IsWindow, ToldNext}
use Rattle.tipc_broadcast_law.proofs.calls.Crediting.{changed-here}
use Rattle.tipc_broadcast_law.proofs.calls.Numbering.{tells_place}
use Rattle.tipc_broadcast_law.proofs.Listening.{had_come-place, had_come-start}
use Rattle.tipc_broadcast_law.proofs.MemberEvents.{place-begun, place-want}
use Rattle.tipc_broadcast_repair.specs.Laws.{CastGapsAreRepeated, CastGapsAreTold, IsMemberIn, CastRepeatsAreTaken, CastStatesAcknowledge, CastStatesRelease, StatesShowCasts, TellsCastGap, HasOrWasShown}
use Rattle.tipc_broadcast_repair.proofs.Going.{answered_contacts, flushed_acked, settled_acked, stays_wanted}

-- ---- a STATE shows the next position

number_again : (n : ℕ) → number_of n ≡ number_of (number_of n)
unfolding number_of
number_again n = omega arith

-- a next number past the wanted place leads so far
ahead_covers : (r : Receiving) (w n : ℕ) → number_of (w + 1) ≡ number_of r.wanted → w ≤ n → n ≤ w + 296 → ahead r (number_of (n + 1)) ≡ n - w
unfolding ahead
ahead_covers r w n wanted from near =
    let far : distance_of (number_of (w + 1)) (number_of (n + 1)) ≡ n + 1 - (w + 1) = distance_of-ahead (w + 1) (n + 1) (omega arith) (omega arith) in
    let past : past_wanted r (number_of (n + 1)) ≡ n - w = ap (λ x. distance_of x (number_of (n + 1))) (sym wanted) ∙ far ∙ omega arith in
    let test : nat_le (n - w) 32767 ≡ true = grind (arith, nat_tests) in
    rw past (rw test refl)

-- what was noted of this next number
noted_covers : (k : Contact) (r : Receiving) (w n next : ℕ) → next ≡ number_of (n + 1) → k.window ≡ Some r → number_of (w + 1) ≡ number_of r.wanted → n ≤ w + 296 → HasOrWasShown n w (noted_in next k (Some r))
noted_covers k r w n next is there wanted near = record {
  window = r;
  in_step = there;
  so_far = elim (cases_lt w n) [
    | inl ahead_of ↦
        let far = ap (ahead r) is ∙ ahead_covers r w n wanted (omega arith) near in
        inr (omega (arith, far))
    | inr taken ↦ inl taken
  ];
}

states_show_in : (g : Group) (m c s next stamp : ℕ) (k : Contact) (o : Option Receiving) → k.window ≡ o → IsMemberIn g m c k → IsWindow g m c o → (g.members m).begun c ≡ Some s → (t : ToldNext (g.members m) c next stamp)
    → HasOrWasShown t.numbered (place (g.members m) c) (told (number_of (s + 1)) next k)
states_show_in g m c s next stamp k None there h out begun t =
    let start = number_of (s + 1) in
    let anew : Contact = record k { window = Some (fresh start); shown = start } in
    let stepping : stepped start k ≡ anew = ap (λ o. if is_some o then k else anew) there in
    let here : place (g.members m) c ≡ s = place-begun (g.members m) c s out begun in
    let come = had_come-start g m c s t.place begun t.had_come out in
    let near = t.near in
    let by_then = t.by_then in
    subst (λ (d : Contact). HasOrWasShown t.numbered (place (g.members m) c) (noted_in next d d.window)) (sym stepping)
    (subst (λ w. HasOrWasShown t.numbered w (noted_in next anew (Some (fresh start)))) (sym here) (noted_covers anew (fresh start) s t.numbered next t.next_is refl (number_again (s + 1)) (omega (arith, near, by_then, come))))
states_show_in g m c s next stamp k (Some r) there h is begun t =
    let start = number_of (s + 1) in
    let w = is.0 in
    let stepping : stepped start k ≡ k = ap (λ o. if is_some o then k else record k { window = Some (fresh start); shown = start }) there in
    let here : place (g.members m) c ≡ w = place-want (g.members m) c w is.1 in
    let come = had_come-place g m c s t.place h.law begun t.had_come w is.1 in
    let near = t.near in
    let by_then = t.by_then in
    subst (λ (d : Contact). HasOrWasShown t.numbered (place (g.members m) c) (noted_in next d d.window)) (sym stepping)
    (subst (λ o. HasOrWasShown t.numbered (place (g.members m) c) (noted_in next k o)) (sym there)
    (subst (λ x. HasOrWasShown t.numbered x (noted_in next k (Some r))) (sym here) (noted_covers k r w t.numbered next t.next_is there is.2 (omega (arith, near, by_then, come)))))

-- the contact in which the member is
window_in : (g : Group) (m c : ℕ) (k : Contact) → IsMemberIn g m c k → IsWindow g m c k.window × WasShownIn g m c k.shown k.window
window_in g m c k h =
    let l = h.listens in
    let same : l.0 ≡ c = same_Some l.0 c (sym l.1 ∙ h.at) in
    subst (λ d. IsWindow g m d k.window × WasShownIn g m d k.shown k.window) same (l.3, l.4)

pub states_show : StatesShowCasts
states_show g m c s next stamp k h begun t = states_show_in g m c s next stamp k k.window refl h (window_in g m c k h).0 begun t

-- ---- a gap is told

some_of : {A : Type 0} (o : Option A) → is_some o ≡ true → (x : A) × (o ≡ Some x)
some_of None is = absurd (true≢false (sym is))
some_of (Some x) is = (x, refl)

-- so far is the first packet that is held: it has a number, as those have that lie before it
held_gap : (g : Group) (m c boot w : ℕ) (r : Receiving) → ((d : ℕ) (t : Taken) → slice_index_or r.held d None ≡ Some t → IsAt g.caster m c boot (w + d) t.packet) → g.caster.numbered boot ≤ w + 50
    → (o : Option ℕ) → first_place (λ t. is_some t) r.held ≡ o → 1 ≤ unwrap_or o 0 → unwrap_or o 0 ≤ 50
held_gap g m c boot w r holds near None is some = omega arith
held_gap g m c boot w r holds near (Some d) is some =
    let first = position-Some (λ t. is_some t) r.held d None is in
    let found = some_of (slice_index_or r.held d None) first.1 in
    let low = (holds d found.0 found.1).numbered in
    omega (arith, low, near)

gap_is : (g : Group) (m c boot w shown : ℕ) (r : Receiving) → ((d : ℕ) (t : Taken) → slice_index_or r.held d None ≡ Some t → IsAt g.caster m c boot (w + d) t.packet) → g.caster.numbered boot ≤ w + 50
    → r.wanted < shown → shown ≤ r.wanted + (g.caster.numbered boot - w) → (1 ≤ gap_to r shown) × (gap_to r shown ≤ 50)
unfolding gap_to
gap_is g m c boot w shown r holds near more within =
    let test : nat_le (shown - r.wanted) 50 ≡ true = grind (arith, nat_tests) in
    let none : missing r shown ≡ shown - r.wanted = rw test refl in
    elim (gap_of r == 0) as (λ b. (gap_of r == 0) ≡ b → (1 ≤ (if b then missing r shown else gap_of r)) × ((if b then missing r shown else gap_of r) ≤ 50)) [
      | true ↦ λ _. (omega (arith, none, more), omega (arith, none, within, near))
      | false ↦ λ other.
          let some : 1 ≤ gap_of r = grind (arith, nat_tests) in
          (some, held_gap g m c boot w r holds near (first_place (λ t. is_some t) r.held) refl some)
    ] refl

last_number : (w wanted : ℕ) → number_of (w + 1) ≡ number_of wanted → number_of (wanted + 65535) ≡ number_of w
unfolding number_of
last_number w wanted same = omega arith

pub gaps_are_told : CastGapsAreTold
gaps_are_told g m c w next start k r h want there more =
    let in_it = window_in g m c k h in
    let is : IsWindow g m c (Some r) = subst (IsWindow g m c) there in_it.0 in
    let same : is.0 ≡ w = same_Some is.0 w (sym is.1 ∙ want) in
    let boot = (g.members m).boots c in
    let within = (subst (WasShownIn g m c k.shown) there in_it.1) w want in
    let here : place (g.members m) c ≡ w = place-want (g.members m) c w want in
    let lead = (h.law.each m).joined_near c h.joined in
    let now = ap g.caster.numbered ((h.law.each m).joined_boot c h.joined) in
    let near : g.caster.numbered boot ≤ w + 50 = omega (arith, lead, now, here) in
    let gap = gap_is g m c boot w k.shown r (subst (λ x. (d : ℕ) (t : Taken) → slice_index_or r.held d None ≡ Some t → IsAt g.caster m c boot (x + d) t.packet) same is.3) near more within in
    subst (λ o. TellsCastGap w (shown_in next start k.shown o)) (sym there) (record {
      in_step = refl;
      taken = last_number w r.wanted (subst (λ x. number_of (x + 1) ≡ number_of r.wanted) same is.2);
      some = gap.0;
      most = gap.1;
    })

-- ---- the wanted packet is taken

pub repeats_are_taken : CastRepeatsAreTaken
repeats_are_taken k r t w x free wanted number near = (
  record { wanted = (with_packet r t).wanted + length (run_of (with_packet r t).held); held = drop (length (run_of (with_packet r t).held)) (with_packet r t).held },
  refl,
  elim (cases_lt x w) [
    | inl before ↦ (let same = stays_wanted r (past_wanted r t.number) t in omega (arith, before, same))
    | inr from ↦
        let same : number_of (x + 1) ≡ number_of (w + 1) = ap number_of (let is : x + 1 ≡ w + 1 = omega arith in is) in
        let none : distance_of (number_of (w + 1)) (number_of (w + 1)) ≡ w + 1 - (w + 1) = distance_of-ahead (w + 1) (w + 1) (omega arith) (omega arith) in
        let here : past_wanted r t.number ≡ 0 = (λ i. distance_of (sym wanted i) ((number ∙ same) i)) ∙ none ∙ omega arith in
        let due : run_of (arrived_at r (past_wanted r t.number) t).held ≡ t ∷ run_of (drop 1 r.held) = ap (λ d. run_of (arrived_at r d t).held) here ∙ due_in_order r 0 t free (place_at-wanted r free) in
        let count = ap (λ (ts : List Taken). length ts) due in
        let stays = stays_wanted r (past_wanted r t.number) t in
        omega (arith, near, count, stays)
  ],
)

-- ---- what is told is acknowledged

-- the contact with a member after its STATE, and how far it has acknowledged then
record IsCredited (v : Casting) (m : ℕ) (seen : BroadcastState) (acked : ℕ) : Type 0 where
  contact : Contact
  there : contact_with m (credited (informed v m seen.start seen.next) m seen.acknowledged).contacts ≡ Some contact
  acked_is : contact.acked ≡ acked

credited_to : (g : Group) (v : Casting) (m : ℕ) (seen : BroadcastState) → (shows : Shows g v m seen.acknowledged) → IsCredited v m seen (acknowledged_to v.sending.numbered shows.contact.acked (number_of shows.place))
credited_to g v m seen shows =
    let tell = told seen.start seen.next in
    let credit = acknowledging v.sending.numbered seen.acknowledged in
    let first = changed-here tell (λ d. (told-same seen.start seen.next d).peer) m v.contacts shows.contact shows.there in
    let second = changed-here credit (λ d. refl) m (with_changed m tell v.contacts) (tell shows.contact) first in
    let same = (told-same seen.start seen.next shows.contact).acked in
    record {
      contact = credit (tell shows.contact);
      there = second;
      acked_is = (λ i. acknowledged_to v.sending.numbered (same i) (shows.number_is i));
    }

-- all of the place that is told
told_place : (g : Group) (v : Casting) (m number : ℕ) → (shows : Shows g v m number) → shows.place ≤ acknowledged_to v.sending.numbered shows.contact.acked (number_of shows.place)
told_place g v m number shows =
    let told = tells_place v.sending.numbered shows.contact.acked shows.place shows.in_window shows.is_numbered shows.recent in
    elim (cases_lt shows.contact.acked shows.place) [
      | inl before ↦ (let is = told.later (omega arith) in omega (arith, is))
      | inr past ↦ (let is = told.earlier past in omega (arith, is, past))
    ]

-- the broadcast link after the STATE of a member that is in step
stating_is : (v : Casting) (peer : ℕ) (seen : BroadcastState) → seen.in_step ≡ true → stating v peer seen ≡ answered (informed v peer seen.start seen.next) peer seen.acknowledged
stating_is v peer seen step = ap (λ b. if b then answered (informed v peer seen.start seen.next) peer seen.acknowledged else informed v peer seen.start seen.next) step

stating_contacts : (v : Casting) (peer : ℕ) (seen : BroadcastState) → seen.in_step ≡ true → (stating v peer seen).contacts ≡ (credited (informed v peer seen.start seen.next) peer seen.acknowledged).contacts
stating_contacts v peer seen step = ap (λ (w : Casting). w.contacts) (stating_is v peer seen step) ∙ answered_contacts (informed v peer seen.start seen.next) peer seen.acknowledged

pub states_acknowledge : CastStatesAcknowledge
states_acknowledge g v m seen h step shows =
    let c = credited_to g v m seen shows in
    let is = c.acked_is in
    let low = told_place g v m seen.acknowledged shows in
    (c.contact, ap (contact_with m) (stating_contacts v m seen step) ∙ c.there, omega (arith, is, low))

pub states_release : CastStatesRelease
states_release v peer seen x is step numbered all =
    let w = credited (informed v peer seen.start seen.next) peer seen.acknowledged in
    let each : All (λ (c : Contact). x ≤ c.acked) w.contacts = subst (λ cs. All (λ (c : Contact). x ≤ c.acked) cs) (stating_contacts v peer seen step) all in
    let least = acked_by_all-above x v.sending.numbered w.contacts numbered each in
    let released = settled_acked w is in
    let up = flushed_acked (settled w) in
    let same = ap (λ (u : Casting). acked_of u.sending) (stating_is v peer seen step) in
    omega (arith, least, released, up, same)

-- ---- a gap is repeated

-- what is true of all contacts is true of one
contact_right : (m : ℕ) (cs : List Contact) (P : Contact → Type 0) → All P cs → (c : Contact) → contact_with m cs ≡ Some c → P c
contact_right m [] P all c is = absurd (let wrong : None ≡ Some c = is in let no : ⊥ = cc in no)
contact_right m (d ∷ ds) P all c is = by (contact_right m ds P (All-tail P d ds all) c) (is_with m d) is
  where
    by : (contact_with m ds ≡ Some c → P c) → (b : Bool) → cond b (Some d) (contact_with m ds) ≡ Some c → P c
    by rest true here = subst P (same_Some d c here) (All-head P d ds all)
    by rest false later = rest later

none_in : {A : Type 0} (x : A) → Contains [] x → ⊥
none_in x there = (let within = there.1 in omega (arith, within))

only_in : {A : Type 0} (y x : A) → Contains (y ∷ []) x → y ≡ x
only_in y x (zero, within, is) = is
only_in y x (suc i, within, is) = absurd (omega (arith, within))

one_on : (mended : List Bool) (frame : List ℕ) (bearer : ℕ) → slice_index_or mended bearer false ≡ true → Contains (on_bearer mended frame bearer) (record { bearer = bearer; to = to.All; frame = frame })
one_on mended frame bearer is = subst (λ b. Contains {X = Outgoing} (if b then record { bearer = bearer; to = to.All; frame = frame } ∷ [] else []) (record { bearer = bearer; to = to.All; frame = frame })) (sym is) (0, omega arith, refl)

-- a frame leaves on each bearer that is mended
on_its_bearer : (mended : List Bool) (frame : List ℕ) (bearer : ℕ) → bearer ≤ 1 → slice_index_or mended bearer false ≡ true → Contains (on_bearers mended frame) (record { bearer = bearer; to = to.All; frame = frame })
on_its_bearer mended frame zero low is = Contains-append_left (on_bearer mended frame 0) (on_bearer mended frame 1) _ (one_on mended frame 0 is)
on_its_bearer mended frame (suc zero) low is = Contains-append_right (on_bearer mended frame 0) (on_bearer mended frame 1) _ (one_on mended frame 1 is)
on_its_bearer mended frame (suc (suc bearer)) low is = absurd (omega (arith, low))

cast_has : (mended : List Bool) (kept : List Kept) (k : Kept) (bearer : ℕ) → bearer ≤ 1 → slice_index_or mended bearer false ≡ true → Contains kept k
    → Contains (cast_again mended kept) (record { bearer = bearer; to = to.All; frame = numbered_frame k.number k.packet })
cast_has mended [] k bearer low is there = absurd (none_in k there)
cast_has mended (x ∷ xs) k bearer low is there = elim (Contains-append_cases (x ∷ []) xs k there) [
  | inl first ↦ subst (λ (y : Kept). Contains (cast_again mended (x ∷ xs)) (record { bearer = bearer; to = to.All; frame = numbered_frame y.number y.packet })) (only_in x k first)
      (Contains-append_left (cast mended x.number x.packet) (cast_again mended xs) _ (on_its_bearer mended (numbered_frame x.number x.packet) bearer low is))
  | inr later ↦ Contains-append_right (cast mended x.number x.packet) (cast_again mended xs) _ (cast_has mended xs k bearer low is later)
]

filter_has : {A : Type 0} (p : A → Bool) (xs : List A) (k : ℕ) (x : A) → slice_get xs k ≡ Some x → p x ≡ true → Contains (filter p xs) x
filter_has p [] k x is passes = absurd (let none : ⊥ = cc in none)
filter_has p (y ∷ xs) zero x is passes =
    let same : y ≡ x = cc in
    let there : p y ≡ true = ap p same ∙ passes in
    subst (λ b. Contains (if b then y ∷ filter p xs else filter p xs) x) (sym there) (0, omega arith, same)
filter_has p (y ∷ xs) (suc k) x is passes =
    let rest = filter_has p xs k x is passes in
    elim (p y) as (λ b. Contains (if b then y ∷ filter p xs else filter p xs) x) [
      | true ↦ (suc rest.0, (let within = rest.1 in omega (arith, within)), rest.2)
      | false ↦ rest
    ]

-- the packet at a place is the first of a gap behind it
first_behind : (place gap : ℕ) (frame : List ℕ) → 1 ≤ gap → is_behind (number_of place) gap (kept_at (place + 1) frame) ≡ true
first_behind place gap frame some =
    let far : distance_of (number_of place) (number_of (place + 1)) ≡ place + 1 - place = distance_of-ahead place (place + 1) (omega arith) (omega arith) in
    rw far (grind (arith, nat_tests))

-- where it was unacknowledged, it is so when no more was released than up to that place
still_kept : (s : Sending) (n place : ℕ) (frame : List ℕ) → IsSending s → slice_get s.unacked (place - acked_of s) ≡ Some frame → acked_of s ≤ place → acked_of (released s n) ≤ place
    → slice_get (kept_of (released s n)) (place - acked_of (released s n)) ≡ Some (kept_at (place + 1) frame)
still_kept s n place frame is there from low =
    let within = slice_get_within s.unacked (place - acked_of s) frame there in
    let left = length-drop n s.unacked in
    let below = is.numbered in
    let i = place - acked_of (released s n) in
    let sum : n + i ≡ place - acked_of s = omega (arith, within, left, below, low, from) in
    let after : i < length (drop n s.unacked) = omega (arith, within, left, below, low, from) in
    let found : slice_get (drop n s.unacked) i ≡ Some frame = slice_get-get_or (drop n s.unacked) i frame after
    ∙ ap Some (get_or-drop n s.unacked i frame ∙ ap (λ k. slice_index_or s.unacked k frame) sum ∙ get_or_from_slice_get s.unacked (place - acked_of s) frame frame there) in
    let next : acked_of (released s n) + i + 1 ≡ place + 1 = omega (arith, low) in
    kept_after-at (acked_of (released s n)) (drop n s.unacked) i frame found ∙ ap (λ k. Some (kept_at k frame)) next

-- how many of what it sent are released
settled_is : (v : Casting) → (settled v).sending ≡ released v.sending (acked_by_all v.sending.numbered v.contacts - acked_of v.sending)
unfolding settled
settled_is v = refl

settled_mended : (v : Casting) → (settled v).mended ≡ v.mended
unfolding settled
settled_mended v = refl

repeats_it : (w : Casting) (place gap bearer : ℕ) (frame : List ℕ) → slice_get (kept_of w.sending) (place - acked_of w.sending) ≡ Some (kept_at (place + 1) frame) → 1 ≤ gap → bearer ≤ 1 → slice_index_or w.mended bearer false ≡ true
    → Contains (repeat_frames w (number_of place) gap) (record { bearer = bearer; to = to.All; frame = numbered_frame (number_of (place + 1)) frame })
unfolding repeat_frames
repeats_it w place gap bearer frame there some low is =
    cast_has w.mended (filter (is_behind (number_of place) gap) (kept_of w.sending)) (kept_at (place + 1) frame) bearer low is
    (filter_has (is_behind (number_of place) gap) (kept_of w.sending) (place - acked_of w.sending) (kept_at (place + 1) frame) there (first_behind place gap frame some))

pub gaps_are_repeated : CastGapsAreRepeated
gaps_are_repeated g v m bearer seen frame casts is casting step some shows acked there low mended =
    let w = credited (informed v m seen.start seen.next) m seen.acknowledged in
    let place = shows.place in
    let c = credited_to g v m seen shows in
    let told = tells_place v.sending.numbered shows.contact.acked place shows.in_window shows.is_numbered shows.recent in
    let later = told.later acked in
    let least = contact_right m w.contacts (λ (d : Contact). acked_by_all v.sending.numbered w.contacts ≤ d.acked) (acked_by_all-each v.sending.numbered w.contacts) c.contact c.there in
    let acked_is = c.acked_is in
    let before = (contact_right m v.contacts (IsContact (acked_of v.sending) (accepted v.sending)) casting.contacts shows.contact shows.there).after_release in
    let settles = settled_acked w is in
    let from : acked_of v.sending ≤ place = omega (arith, before, acked) in
    let to_it : acked_of (settled w).sending ≤ place = omega (arith, settles, least, acked_is, later, from) in
    let kept = still_kept v.sending (acked_by_all v.sending.numbered w.contacts - acked_of v.sending) place frame is there from (subst (λ (s : Sending). acked_of s ≤ place) (settled_is w) to_it) in
    let kept_then = subst (λ (s : Sending). slice_get (kept_of s) (place - acked_of s) ≡ Some (kept_at (place + 1) frame)) (sym (settled_is w)) kept in
    let one = repeats_it (settled w) place seen.gap bearer frame kept_then some low (ap (λ bs. slice_index_or bs bearer false) (settled_mended w) ∙ mended) in
    subst (λ b. Contains (if b then answered_frames (informed v m seen.start seen.next) m seen.acknowledged seen.gap else []) (record { bearer = bearer; to = to.All; frame = numbered_frame (number_of (place + 1)) frame })) (sym step)
    (Contains-append_left (repeat_frames (settled w) seen.acknowledged seen.gap) (flush_frames (settled w)) _
    (subst (λ n. Contains (repeat_frames (settled w) n seen.gap) (record { bearer = bearer; to = to.All; frame = numbered_frame (number_of (place + 1)) frame })) (sym shows.number_is) one))
