-- How a packet that was lost is missed, told, sent again, taken and acknowledged.
use Rattle.std.proofs.Common.{◌≡◌, ℕ, zero, suc, ◌+◌, ◌-◌, ◌<◌, ◌≤◌, ◌&&◌, ◌==◌, Bool, true, false, true≢false, if◌then◌else◌, List, [], ◌∷◌, Option, Some, None, is_some, Contains, length, drop, filter, refl, sym, ap, subst, ◌∙◌, inl, inr, length-drop, slice_get, arith}
use Rattle.std.specs.Prelude.{slice_index_or, nat_le, nat_lt, position as first_place, unwrap_or}
use Rattle.std.proofs.lemmas.Bool.{cases_lt}
use Rattle.std.proofs.lemmas.Bool.Decides.{nat_tests}
use Rattle.std.proofs.lemmas.List.{drop-drop, get_or-drop}
use Rattle.std.proofs.lemmas.List.Quantifiers.{position-Some}
use Rattle.std.proofs.lemmas.Option.{get_or_from_slice_get, slice_get-get_or, slice_get_within}
use Rattle.tipc_types.specs.Position.{distance_of, number_of}
use Rattle.tipc_types.specs.declared.packet_lists.Kept.{Kept}
use Rattle.tipc_types.specs.declared.packet_lists.Taken.{Taken}
use Rattle.tipc_types.proofs.PositionLaws.{distance_of-ahead}
use Rattle.tipc_send_window.specs.Sending.{Sending, acked_of, acknowledged, kept_after, kept_of, release_count}
use Rattle.tipc_send_window.proofs.Keeping.{kept_at}
use Rattle.tipc_send_window.proofs.WindowLaws.{kept_after-at}
use Rattle.tipc_recv_window.specs.Receiving.{Receiving, arrived_at, gap_of, past_wanted, run_of, ahead, gap_to, missing}
use Rattle.tipc_recv_window.proofs.ArrivalLaws.{place_at-wanted}
use Rattle.tipc_recv_window.proofs.Comings.{due_in_order}
use Rattle.tipc_link.specs.Records.{is_early_tunnel, is_tunnel, standing}
use Rattle.tipc_link.specs.Sessions.{SessionEnd, Carries, Shows, brought, content_of, due_with, gap, highest, is_behind, past, receiving, after_acknowledgement, repeated, spoke, state_fields}
use Rattle.tipc_link.specs.Direction.{IsDirection, IsReceiver}
use Rattle.tipc_link.proofs.Directions.{taken_recently}
use Rattle.tipc_repair.specs.Laws.{EarlierGapsAreRepeated, EarlierStatesRelease, EarlierStatesShow, GapsAreRepeated, GapsAreTold, RepeatsAreTaken, SendsTo, StatesRelease, StatesShow}
use Rattle.tipc_repair.proofs.Going.{hearings}

-- ---- a STATE shows the next position

spoke_highest : {A : Type 0} (e : SessionEnd) (xs : List A) (number : ℕ) → highest (spoke e xs) number ≡ highest e number
unfolding highest ahead
spoke_highest e [] number = refl
spoke_highest e (x ∷ xs) number = refl

spoke_sending : {A : Type 0} (e : SessionEnd) (xs : List A) → (spoke e xs).sending ≡ e.sending
spoke_sending e [] = refl
spoke_sending e (x ∷ xs) = refl

highest_is : (r : SessionEnd) (numbered : ℕ) → r.taken ≤ numbered → numbered ≤ r.taken + 50 → r.shown ≤ numbered + 1 → highest r (number_of (numbered + 1)) ≡ numbered + 1
unfolding highest ahead
highest_is r numbered from near shown =
    let far : past r (number_of (numbered + 1)) ≡ numbered + 1 - (r.taken + 1) = distance_of-ahead (r.taken + 1) (numbered + 1) (omega arith) (omega arith) in
    let test : nat_le (numbered + 1 - (r.taken + 1)) 32767 ≡ true = grind (arith, nat_tests) in
    rw far (rw test (omega arith))

highest_released : (r : SessionEnd) (acknowledgement number : ℕ) → highest (after_acknowledgement r acknowledgement) number ≡ highest r number
unfolding highest ahead
highest_released r acknowledgement number = refl

pub states_show : StatesShow
unfolding content_of state_fields
states_show s r line broadcast probe by h =
    let d = h.direction in
    let recent = taken_recently s.sending r.taken line d in
    let all = d.taken_numbered in
    spoke_highest (after_acknowledgement r (number_of s.taken)) (repeated (after_acknowledgement r (number_of s.taken)) (number_of s.taken) (gap s)) _
    ∙ highest_released r (number_of s.taken) _ ∙ highest_is r s.sending.numbered all recent h.shown

-- ---- a gap is told

some_of : {A : Type 0} (o : Option A) → is_some o ≡ true → (x : A) × (o ≡ Some x)
some_of None is = absurd (true≢false (sym is))
some_of (Some x) is = (x, refl)

-- so far is the first packet that is held, behind those that were taken
held_gap : (r : SessionEnd) (line : List (List ℕ)) → IsReceiver r.held r.taken line → (o : Option ℕ) → first_place (λ t. is_some t) r.held ≡ o → 1 ≤ unwrap_or o 0
    → (unwrap_or o 0 ≤ 50) × (r.taken + unwrap_or o 0 ≤ length line)
held_gap r line h None is some = absurd (omega (arith, some))
held_gap r line h (Some d) is some =
    let first = position-Some (λ t. is_some t) r.held d None is in
    let within = first.0 in
    let window = h.window in
    let found = some_of (slice_index_or r.held d None) first.1 in
    let sent = slice_get_within line (r.taken + d) found.0.packet (h.holds d found.0 found.1) in
    (omega (arith, within, window), omega (arith, sent))

missing_is : (r : SessionEnd) (numbered : ℕ) → r.taken + 1 < r.shown → r.shown ≤ numbered + 1 → numbered ≤ r.taken + 50 → missing (receiving r) r.shown ≡ r.shown - (r.taken + 1)
missing_is r numbered more shown near =
    let test : nat_le (r.shown - (r.taken + 1)) 50 ≡ true = grind (arith, nat_tests) in
    rw test refl

abbrev IsGap : SessionEnd → SessionEnd → ℕ → Type 0
IsGap s r n = (1 ≤ n) × (n ≤ 50) × (r.taken + n ≤ s.sending.numbered)

gap_is : (s r : SessionEnd) (line : List (List ℕ)) → SendsTo s r line → r.taken + 1 < r.shown → IsGap s r (gap r)
unfolding gap_to
gap_is s r line h more =
    let d = h.direction in
    let near = taken_recently s.sending r.taken line d in
    let shown = h.shown in
    let count = d.count in
    let none = missing_is r s.sending.numbered more shown near in
    elim (gap_of (receiving r) == 0) as (λ b. (gap_of (receiving r) == 0) ≡ b → IsGap s r (if b then missing (receiving r) r.shown else gap_of (receiving r))) [
      | true ↦ λ _. (omega (arith, none, more), omega (arith, none, shown, near), omega (arith, none, more, shown))
      | false ↦ λ other.
          let some : 1 ≤ gap_of (receiving r) = grind (arith, nat_tests) in
          let far = held_gap r line h.receiver (first_place (λ t. is_some t) r.held) refl some in
          (some, far.0, (let last = far.1 in omega (arith, last, count)))
    ] refl

pub gaps_are_told : GapsAreTold
gaps_are_told s r line h more = let is = gap_is s r line h more in record { some = is.0; most = is.1; numbered = is.2 }

-- ---- an acknowledgement of all that was taken

release_is : (s : Sending) (taken : ℕ) (line : List (List ℕ)) → IsDirection s taken line → release_count s (number_of taken) ≡ taken - acked_of s
unfolding release_count
release_is s taken line h =
    let window = h.window in
    let below = h.below in
    let acked = h.acked_taken in
    let all = h.taken_numbered in
    let near = distance_of-ahead (acked_of s) taken acked (omega arith) in
    rw near (grind (arith, nat_tests))

acked_is : (s : Sending) (taken : ℕ) (line : List (List ℕ)) → IsDirection s taken line → acked_of (acknowledged s (number_of taken)) ≡ taken
acked_is s taken line h =
    let is = release_is s taken line h in
    let fewer = length-drop (release_count s (number_of taken)) s.unacked in
    let window = h.window in
    let below = h.below in
    let acked = h.acked_taken in
    let all = h.taken_numbered in
    omega (arith, is, fewer, window, below, acked, all)

pub states_release : StatesRelease
unfolding content_of state_fields
states_release s r line broadcast probe by h =
    ap acked_of (spoke_sending (after_acknowledgement s (number_of r.taken)) (repeated (after_acknowledgement s (number_of r.taken)) (number_of r.taken) (gap r))) ∙ acked_is s.sending r.taken line h.direction

-- ---- a gap is repeated

filter_has : {A : Type 0} (p : A → Bool) (xs : List A) (k : ℕ) (x : A) → slice_get xs k ≡ Some x → p x ≡ true → Contains (filter p xs) x
filter_has p [] k x is passes = absurd (let none : ⊥ = cc in none)
filter_has p (y ∷ xs) zero x is passes =
    let same : y ≡ x = cc in
    let there : p y ≡ true = ap p same ∙ passes in
    subst (λ b. Contains (if b then y ∷ filter p xs else filter p xs) x) (sym there) (0, omega arith, same)
filter_has p (y ∷ xs) (suc k) x is passes =
    let rest = filter_has p xs k x is passes in
    elim (p y) as (λ b. Contains (if b then y ∷ filter p xs else filter p xs) x) [
      | true ↦ (suc rest.0, (let within = rest.1 in omega (arith, within)), rest.2)
      | false ↦ rest
    ]

behind : (taken position gap : ℕ) (packet : List ℕ) → taken < position → position ≤ taken + gap → gap ≤ 50 → is_behind (number_of taken) gap (kept_at position packet) ≡ true
behind taken position gap packet from last most =
    let far : distance_of (number_of taken) (number_of position) ≡ position - taken = distance_of-ahead taken position (omega arith) (omega arith) in
    rw far (grind (arith, nat_tests))

-- what is unacknowledged when all that was taken is acknowledged
left_is : (s : Sending) (taken : ℕ) (line : List (List ℕ)) → IsDirection s taken line → (acknowledged s (number_of taken)).unacked ≡ drop taken line
left_is s taken line h =
    let acked = h.acked_taken in
    let sum : acked_of s + (taken - acked_of s) ≡ taken = omega arith in
    ap (λ k. drop k s.unacked) (release_is s taken line h) ∙ ap (λ (xs : List (List ℕ)). drop (taken - acked_of s) xs) (sym h.kept) ∙ drop-drop (taken - acked_of s) (acked_of s) line ∙ ap (λ k. drop k line) sum

kept_is : (s : Sending) (taken : ℕ) (line : List (List ℕ)) → IsDirection s taken line → kept_of (acknowledged s (number_of taken)) ≡ kept_after taken (drop taken line)
kept_is s taken line h = ap (λ k. kept_after k (acknowledged s (number_of taken)).unacked) (acked_is s taken line h) ∙ ap (kept_after taken) (left_is s taken line h)

stands : (taken position : ℕ) (line : List (List ℕ)) (packet : List ℕ) → taken < position → slice_get line (position - 1) ≡ Some packet
    → slice_get (kept_after taken (drop taken line)) (position - 1 - taken) ≡ Some (kept_at position packet)
stands taken position line packet from there =
    let i = position - 1 - taken in
    let within = slice_get_within line (position - 1) packet there in
    let place : taken + i ≡ position - 1 = omega arith in
    let after : i < length (drop taken line) = omega (arith, within, length-drop taken line, place) in
    let found : slice_get (drop taken line) i ≡ Some packet = slice_get-get_or (drop taken line) i packet after ∙ ap Some (get_or-drop taken line i packet ∙ ap (λ k. slice_index_or line k packet) place ∙ get_or_from_slice_get line (position - 1) packet packet there) in
    let next : taken + i + 1 ≡ position = omega arith in
    kept_after-at taken (drop taken line) i packet found ∙ ap (λ k. Some (kept_at k packet)) next

pub gaps_are_repeated : GapsAreRepeated
unfolding content_of state_fields repeated
gaps_are_repeated s r line broadcast probe position packet h told from last there =
    let most = told.most in
    let at : slice_get (kept_of (acknowledged s.sending (number_of r.taken))) (position - 1 - r.taken) ≡ Some (kept_at position packet) =
    ap (λ (ks : List Kept). slice_get ks (position - 1 - r.taken)) (kept_is s.sending r.taken line h.direction) ∙ stands r.taken position line packet from there in
    filter_has (is_behind (number_of r.taken) (gap r)) (kept_of (acknowledged s.sending (number_of r.taken))) (position - 1 - r.taken) (kept_at position packet) at (behind r.taken position (gap r) packet from last most)

-- ---- the wanted packet is taken

standing_wanted : (w : Receiving) (t : Taken) → past_wanted w t.number ≡ 0 → standing w t ≡ 0
unfolding standing is_early_tunnel
standing_wanted w t is = elim (is_tunnel t.packet) as (λ b. (if b && nat_lt 0 (past_wanted w t.number) then 50 else past_wanted w t.number) ≡ 0) [ true ↦ rw is refl | false ↦ is ]

taken_now : (r : SessionEnd) (t : Taken) → slice_index_or r.held 0 None ≡ None → t.number ≡ number_of (r.taken + 1) → 1 ≤ length (due_with r t)
unfolding due_with
taken_now r t free same =
    let w = receiving r in
    let none : distance_of (number_of (r.taken + 1)) (number_of (r.taken + 1)) ≡ r.taken + 1 - (r.taken + 1) = distance_of-ahead (r.taken + 1) (r.taken + 1) (omega arith) (omega arith) in
    let here : past_wanted w t.number ≡ 0 = ap (distance_of (number_of (r.taken + 1))) same ∙ none ∙ omega arith in
    let due : run_of (arrived_at w (standing w t) t).held ≡ t ∷ run_of (drop 1 r.held) = ap (λ d. run_of (arrived_at w d t).held) (standing_wanted w t here) ∙ due_in_order w 0 t free (place_at-wanted w free) in
    let count = ap (λ (ts : List Taken). length ts) due in
    omega (arith, count)

pub repeats_are_taken : RepeatsAreTaken
repeats_are_taken s r line by acknowledgement position packet h near = elim (cases_lt position (r.taken + 1)) [
  | inl before ↦ let on = (hearings r by acknowledgement (Carries (number_of position) packet)).taken in omega (arith, before, on)
  | inr from ↦
      let same : number_of position ≡ number_of (r.taken + 1) = ap number_of (let is : position ≡ r.taken + 1 = omega arith in is) in
      let one = taken_now (after_acknowledgement r acknowledgement) (brought (number_of position) packet by) h.receiver.wants same in
      omega (arith, near, one)
]

-- ---- what was told a while ago

highest_covers : (r : SessionEnd) (numbered : ℕ) → r.taken ≤ numbered → numbered ≤ r.taken + 50 → numbered + 1 ≤ highest r (number_of (numbered + 1))
unfolding highest ahead
highest_covers r numbered from near =
    let far : past r (number_of (numbered + 1)) ≡ numbered + 1 - (r.taken + 1) = distance_of-ahead (r.taken + 1) (numbered + 1) (omega arith) (omega arith) in
    let test : nat_le (numbered + 1 - (r.taken + 1)) 32767 ≡ true = grind (arith, nat_tests) in
    rw far (rw test (omega arith))

pub earlier_states_show : EarlierStatesShow
unfolding content_of state_fields
earlier_states_show told s r line broadcast probe by h on from =
    let d = h.direction in
    let recent = taken_recently s.sending r.taken line d in
    let all = on.numbered in
    let next = number_of (told.sending.numbered + 1) in
    let released = after_acknowledgement r (number_of told.taken) in
    let same : highest (spoke released (repeated released (number_of told.taken) (gap told))) next ≡ highest r next =
    spoke_highest released (repeated released (number_of told.taken) (gap told)) next ∙ highest_released r (number_of told.taken) next in
    let covers = highest_covers r told.sending.numbered from (omega (arith, recent, all)) in
    omega (arith, same, covers)

-- the direction as it stands where so many, of those that were taken, are looked at
direction_to : (s : Sending) (taken so_far : ℕ) (line : List (List ℕ)) → IsDirection s taken line → acked_of s ≤ so_far → so_far ≤ taken → IsDirection s so_far line
direction_to s taken so_far line h from to =
    let all = h.taken_numbered in
    record { window = h.window; below = h.below; count = h.count; kept = h.kept; acked_taken = from; taken_numbered = omega (arith, all, to) }

-- what a STATE of so many that were taken leaves acknowledged
released_at_least : (s : Sending) (taken so_far : ℕ) (line : List (List ℕ)) → IsDirection s taken line → so_far ≤ taken → acked_of s ≤ so_far → so_far ≤ acked_of (acknowledged s (number_of so_far))
released_at_least s taken so_far line h to from = let is = acked_is s so_far line (direction_to s taken so_far line h from to) in omega (arith, is)

pub earlier_states_release : EarlierStatesRelease
unfolding content_of state_fields
earlier_states_release s told r line broadcast probe by h on =
    elim (cases_lt told.taken (acked_of s.sending)) [
      | inl released ↦
          let more = (hearings s by (number_of told.taken) (Shows (number_of (told.sending.numbered + 1)) (gap told) probe)).acked in
          omega (arith, released, more)
      | inr from ↦
          let released = after_acknowledgement s (number_of told.taken) in
          let same = ap acked_of (spoke_sending released (repeated released (number_of told.taken) (gap told))) in
          let acked = released_at_least s.sending r.taken told.taken line h.direction on.taken from in
          omega (arith, same, acked)
    ]

pub earlier_gaps_are_repeated : EarlierGapsAreRepeated
unfolding content_of state_fields repeated
earlier_gaps_are_repeated s told r line broadcast probe position packet h on acked most from last there =
    let d = direction_to s.sending r.taken told.taken line h.direction acked on.taken in
    let at : slice_get (kept_of (acknowledged s.sending (number_of told.taken))) (position - 1 - told.taken) ≡ Some (kept_at position packet) =
    ap (λ (ks : List Kept). slice_get ks (position - 1 - told.taken)) (kept_is s.sending told.taken line d) ∙ stands told.taken position line packet from there in
    filter_has (is_behind (number_of told.taken) (gap told)) (kept_of (acknowledged s.sending (number_of told.taken))) (position - 1 - told.taken) (kept_at position packet) at (behind told.taken position (gap told) packet from last most)
