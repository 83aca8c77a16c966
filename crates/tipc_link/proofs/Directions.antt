-- What an event at one end does to the two directions of a link, and to the frames that are under way.
use Rattle.std.proofs.Common.{◌≡◌, ℕ, ◌+◌, ◌-◌, ◌<◌, ◌≤◌, Bool, true, false, if◌then◌else◌, List, [], ◌∷◌, ◌++◌, Option, Some, None, zero, suc, length, take, drop, filter, map, slice_get, inl, inr, refl, sym, ap, ◌∙◌, subst, length-append, length-drop, length-take, option_map, get_or, arith}
use Rattle.std.specs.Prelude.{slice_index_or}
use Rattle.std.proofs.lemmas.Bool.{cases_eq, cases_lt}
use Rattle.std.proofs.lemmas.Bool.Decides.{nat_tests}
use Rattle.std.proofs.lemmas.List.{drop-append-le, drop-drop, length-take-le, get_or-drop, drop_more, length-map, get_or-append-add}
use Rattle.std.proofs.lemmas.Option.{get_or_from_slice_get, slice_get-get_or, slice_get-map, slice_get_within}
use Rattle.std.proofs.Math.ListN.{get_or-append}
use Rattle.tipc_types.specs.Position.{number_of}
use Rattle.tipc_types.specs.declared.packet_lists.Kept.{Kept}
use Rattle.tipc_types.specs.declared.packet_lists.Taken.{Taken}
use Rattle.tipc_types.proofs.PositionLaws.{distance_of-ahead, distance_of-behind}
use Rattle.tipc_send_window.specs.Sending.{Sending, acked_of, acknowledged, kept_after, kept_of, offered, release_count, swapped, advanced, room}
use Rattle.tipc_send_window.specs.Sending as window
use Rattle.tipc_send_window.proofs.Keeping.{kept_at}
use Rattle.tipc_recv_window.specs.Receiving.{Receiving, arrived_at, filled, is_new, past_wanted, run_of}
use Rattle.tipc_recv_window.proofs.ArrivalLaws as by_position
use Rattle.tipc_recv_window.proofs.Holding.{filled-other, filled-same, length-filled}
use Rattle.tipc_recv_window.proofs.Runs.{run_leaves}
use Rattle.tipc_link.specs.Sessions.{SessionEnd, Carries, due_with, is_behind, receiving, repeated, took, window_with}
use Rattle.tipc_link.specs.Records.{standing}
use Rattle.tipc_link.proofs.Standing.{arrived_early, standing_either}
use Rattle.tipc_link.specs.Direction.{IsDirection, IsReceiver, Flight, IsCarried, IsFlight, IsFresh, packet_flight, state_flight}

pub slice_get-append : {A : Type 0} (xs ys : List A) (i : ℕ) (x : A) → slice_get xs i ≡ Some x → slice_get (xs ++ ys) i ≡ Some x
slice_get-append xs ys i x e =
    let within : i < length xs = slice_get_within xs i x e in
    let longer : i < length (xs ++ ys) = omega (arith, length-append xs ys) in
    slice_get-get_or (xs ++ ys) i x longer ∙ ap Some (get_or-append xs ys x i within ∙ get_or_from_slice_get xs i x x e)

pub slice_get-behind : {A : Type 0} (xs ys : List A) (i : ℕ) (x : A) → slice_get ys i ≡ Some x → slice_get (xs ++ ys) (length xs + i) ≡ Some x
slice_get-behind xs ys i x e =
    let within : i < length ys = slice_get_within ys i x e in
    let longer : length xs + i < length (xs ++ ys) = omega (arith, length-append xs ys) in
    slice_get-get_or (xs ++ ys) (length xs + i) x longer ∙ ap Some (get_or-append-add xs ys i x ∙ get_or_from_slice_get ys i x x e)

pub slice_get-take : {A : Type 0} (n : ℕ) (xs : List A) (i : ℕ) (x : A) → i < n → slice_get xs i ≡ Some x → slice_get (take n xs) i ≡ Some x
slice_get-take zero xs i x before e = absurd (omega (arith, before))
slice_get-take (suc n) [] i x before e = absurd (let none : ⊥ = cc in none)
slice_get-take (suc n) (y ∷ xs) zero x before e = e
slice_get-take (suc n) (y ∷ xs) (suc i) x before e = slice_get-take n xs i x (omega (arith, before)) e

pub slice_get-from_take : {A : Type 0} (n : ℕ) (xs : List A) (i : ℕ) (x : A) → slice_get (take n xs) i ≡ Some x → slice_get xs i ≡ Some x
slice_get-from_take zero xs i x e = absurd (let none : ⊥ = cc in none)
slice_get-from_take (suc n) [] i x e = e
slice_get-from_take (suc n) (y ∷ xs) zero x e = e
slice_get-from_take (suc n) (y ∷ xs) (suc i) x e = slice_get-from_take n xs i x e

pub slice_get-drop : {A : Type 0} (n : ℕ) (xs : List A) (i : ℕ) (x : A) → slice_get (drop n xs) i ≡ Some x → slice_get xs (n + i) ≡ Some x
slice_get-drop n xs i x e =
    let within : i < length (drop n xs) = slice_get_within (drop n xs) i x e in
    let longer : n + i < length xs = omega (arith, length-drop n xs) in
    slice_get-get_or xs (n + i) x longer ∙ ap Some (sym (get_or-drop n xs i x) ∙ get_or_from_slice_get (drop n xs) i x x e)

-- ---- sending

-- packets that wait aren't numbered yet
pub offers : (s : Sending) (taken : ℕ) (line pieces : List (List ℕ)) → IsDirection s taken line → IsDirection (offered s pieces) taken line
offers s taken line pieces h = record { window = h.window; below = h.below; count = h.count; kept = h.kept; acked_taken = h.acked_taken; taken_numbered = h.taken_numbered }

pub swaps : (s : Sending) (taken : ℕ) (line : List (List ℕ)) (packet : List ℕ) → IsDirection s taken line → IsDirection (swapped s packet) taken line
swaps s taken line packet h = record { window = h.window; below = h.below; count = h.count; kept = h.kept; acked_taken = h.acked_taken; taken_numbered = h.taken_numbered }

-- the first n waiting packets are numbered, where the window has room for them
pub advances : (s : Sending) (taken n : ℕ) (line : List (List ℕ)) → n ≤ length s.waiting → length s.unacked + n ≤ 50 → IsDirection s taken line → IsDirection (advanced n s) taken (line ++ take n s.waiting)
advances s taken n line few fits h =
    let count = h.count in
    let below = h.below in
    let acked = h.acked_taken in
    let moved : length (take n s.waiting) ≡ n = length-take-le n s.waiting few in
    let new : length (s.unacked ++ take n s.waiting) ≡ length s.unacked + n = length-append s.unacked (take n s.waiting) ∙ ap (λ k. length s.unacked + k) moved in
    let same : s.numbered + n - length (s.unacked ++ take n s.waiting) ≡ acked_of s = omega arith in
    record {
      window = omega arith;
      below = omega arith;
      count = omega (arith, length-append line (take n s.waiting));
      kept = ap (λ k. drop k (line ++ take n s.waiting)) same ∙ drop-append-le (acked_of s) line (take n s.waiting) (omega arith) ∙ ap (λ xs. xs ++ take n s.waiting) h.kept;
      acked_taken = omega arith;
      taken_numbered = omega (arith, h.taken_numbered);
    }

pub moves_up : (s : Sending) (taken : ℕ) (line : List (List ℕ)) → IsDirection s taken line → IsDirection (advanced (room s) s) taken (line ++ take (room s) s.waiting)
moves_up s taken line h =
    let few : room s ≤ length s.waiting = omega arith in
    let fits : length s.unacked + room s ≤ 50 = omega (arith, h.window) in
    advances s taken (room s) line few fits h

-- ---- acknowledgements

-- the number of a position that isn't too old releases the packets up to that position
release_of : (s : Sending) (position : ℕ) → length s.unacked ≤ 50 → length s.unacked ≤ s.numbered → position ≤ s.numbered → s.numbered ≤ position + 32000 → release_count s (number_of position) ≡ position - acked_of s
unfolding release_count
release_of s position window below high low =
    elim (cases_lt position (acked_of s)) [
      | inl before ↦
          let far = distance_of-behind (acked_of s) position before (omega arith) in
          grind (arith, nat_tests)
      | inr from ↦
          let near = distance_of-ahead (acked_of s) position from (omega arith) in
          rw near (grind (arith, nat_tests))
    ]

-- so many unacknowledged packets are released, all of which were taken
releases_some : (s : Sending) (taken k : ℕ) (line : List (List ℕ)) → k ≤ length s.unacked → acked_of s + k ≤ taken → IsDirection s taken line → IsDirection (window.released s k) taken line
releases_some s taken k line few were_taken h =
    let below = h.below in
    let len = length-drop k s.unacked in
    let same : s.numbered - length (drop k s.unacked) ≡ acked_of s + k = omega arith in
    record {
      window = omega (arith, h.window);
      below = omega arith;
      count = h.count;
      kept = ap (λ i. drop i line) same ∙ sym (drop-drop k (acked_of s) line) ∙ ap (λ xs. drop k xs) h.kept;
      acked_taken = omega arith;
      taken_numbered = h.taken_numbered;
    }

-- an acknowledgement comes back: of a position that was taken, and that isn't too old
pub releases : (s : Sending) (taken : ℕ) (line : List (List ℕ)) (told : ℕ) → IsDirection s taken line → told ≤ taken → s.numbered ≤ told + 30050 → IsDirection (acknowledged s (number_of told)) taken line
releases s taken line told h were_taken recent =
    let window = h.window in
    let below = h.below in
    let high = h.taken_numbered in
    let acked = h.acked_taken in
    let is : release_count s (number_of told) ≡ told - acked_of s = release_of s told window below (omega arith) (omega arith) in
    releases_some s taken (release_count s (number_of told)) line (omega arith) (omega arith) h

-- how many packets were numbered, against those that were taken of them
pub taken_recently : (s : Sending) (taken : ℕ) (line : List (List ℕ)) → IsDirection s taken line → s.numbered ≤ taken + 50
taken_recently s taken line h = let window = h.window in let below = h.below in let acked = h.acked_taken in omega arith

-- ---- frames

-- each place of the first list holds the same in the second
abbrev pub Extends : List (List ℕ) → List (List ℕ) → Type 0
Extends xs ys = (i : ℕ) (x : List ℕ) → slice_get xs i ≡ Some x → slice_get ys i ≡ Some x

pub Extends-same : (xs : List (List ℕ)) → Extends xs xs
Extends-same xs i x e = e

pub Extends-append : (xs more : List (List ℕ)) → Extends xs (xs ++ more)
Extends-append xs more i x e = slice_get-append xs more i x e

pub IsCarried-stays : (line line' : List (List ℕ)) (numbered number : ℕ) (packet : List ℕ) → Extends line line' → IsCarried line numbered number packet → IsCarried line' numbered number packet
IsCarried-stays line line' numbered number packet longer c = record {
  position = c.position;
  positive = c.positive;
  number_is = c.number_is;
  recent = c.recent;
  sent = c.sent;
  packet_is = longer (c.position - 1) packet c.packet_is;
}

-- a frame under way stays one while both ends go on
pub IsFlight-stays : (n t p n' t' p' : ℕ) (line line' : List (List ℕ)) (f : Flight) → n ≤ n' → t ≤ t' → p ≤ p' → Extends line line' → IsFlight n t p line f → IsFlight n' t' p' line' f
IsFlight-stays n t p n' t' p' line line' f a b c longer h = record {
  told = h.told;
  told_is = h.told_is;
  told_taken = (let x = h.told_taken in omega arith);
  told_recent = h.told_recent;
  so_far = (let x = h.so_far in omega arith);
  peer_so_far = (let x = h.peer_so_far in omega arith);
  carried = λ number packet e. IsCarried-stays line line' f.numbered number packet longer (h.carried number packet e);
}

-- the k-th of n packets that are numbered now is carried under its number
pub IsCarried-sent : (s : Sending) (taken n k : ℕ) (line : List (List ℕ)) (packet : List ℕ) → IsDirection s taken line → n ≤ 50 → k < n → slice_get s.waiting k ≡ Some packet → IsCarried (line ++ take n s.waiting) (s.numbered + n) (number_of (s.numbered + k + 1)) packet
IsCarried-sent s taken n k line packet h few before there =
    let place : length line + k ≡ s.numbered + k + 1 - 1 = omega (arith, h.count) in
    record {
      position = s.numbered + k + 1;
      positive = omega arith;
      number_is = refl;
      recent = omega arith;
      sent = omega arith;
      packet_is = subst (λ i. slice_get (line ++ take n s.waiting) i ≡ Some packet) place (slice_get-behind line (take n s.waiting) k packet (slice_get-take n s.waiting k packet before there));
    }

-- what stands at a place among packets beside their numbers
kept_after-is : (before : ℕ) (packets : List (List ℕ)) (k : ℕ) (kept : Kept) → slice_get (kept_after before packets) k ≡ Some kept → (slice_get packets k ≡ Some kept.packet) × (kept.number ≡ number_of (before + k + 1))
kept_after-is before [] k kept is = absurd (let none : ⊥ = cc in none)
kept_after-is before (first ∷ packets) zero kept is =
    let same : kept_at (before + 1) first ≡ kept = cc in
    let place : before + 1 ≡ before + 0 + 1 = omega arith in
    (ap (λ (k : Kept). Some k.packet) same, sym (ap (λ (k : Kept). k.number) same) ∙ ap number_of place)
kept_after-is before (first ∷ packets) (suc k) kept is =
    let h = kept_after-is (before + 1) packets k kept is in
    let place : before + 1 + k + 1 ≡ before + suc k + 1 = omega arith in
    (h.0, h.1 ∙ ap number_of place)

-- An unacknowledged packet is carried under its number, and so it is after more packets were numbered, as long as the window has
-- room for them.
pub IsCarried-kept-later : (s : Sending) (taken n k : ℕ) (line : List (List ℕ)) (kept : Kept) → IsDirection s taken line → s.numbered ≤ n → n ≤ acked_of s + 50 → slice_get (kept_of s) k ≡ Some kept → IsCarried line n kept.number kept.packet
IsCarried-kept-later s taken n k line kept h later near is =
    let found = kept_after-is (acked_of s) s.unacked k kept is in
    let within : k < length s.unacked = slice_get_within s.unacked k kept.packet found.0 in
    let there : slice_get line (acked_of s + k) ≡ Some kept.packet = slice_get-drop (acked_of s) line k kept.packet (ap (λ xs. slice_get xs k) h.kept ∙ found.0) in
    let below = h.below in
    let place : acked_of s + k ≡ acked_of s + k + 1 - 1 = omega arith in
    record {
      position = acked_of s + k + 1;
      positive = omega arith;
      number_is = found.1;
      recent = omega arith;
      sent = omega arith;
      packet_is = subst (λ i. slice_get line i ≡ Some kept.packet) place there;
    }

pub IsCarried-kept : (s : Sending) (taken k : ℕ) (line : List (List ℕ)) (kept : Kept) → IsDirection s taken line → slice_get (kept_of s) k ≡ Some kept → IsCarried line s.numbered kept.number kept.packet
IsCarried-kept s taken k line kept h is =
    let window = h.window in
    let below = h.below in
    IsCarried-kept-later s taken s.numbered k line kept h (omega arith) (omega arith) is

passed_from : {A : Type 0} (p : A → Bool) (y : A) (xs : List A) (k : ℕ) (x : A)
    → ((i : ℕ) → slice_get (filter p xs) i ≡ Some x → (j : ℕ) × (slice_get xs j ≡ Some x))
    → slice_get (y ∷ filter p xs) k ≡ Some x → (i : ℕ) × (slice_get (y ∷ xs) i ≡ Some x)
passed_from p y xs zero x others e = (0, e)
passed_from p y xs (suc k) x others e = let found = others k e in (suc found.0, found.1)

-- what passes a filter stands in the list
pub filtered_from : {A : Type 0} (p : A → Bool) (xs : List A) (k : ℕ) (x : A) → slice_get (filter p xs) k ≡ Some x → (i : ℕ) × (slice_get xs i ≡ Some x)
filtered_from p [] k x e = absurd (let none : ⊥ = cc in none)
filtered_from p (y ∷ xs) k x e =
    elim (p y) as (λ b. slice_get (if b then y ∷ filter p xs else filter p xs) k ≡ Some x → (i : ℕ) × (slice_get (y ∷ xs) i ≡ Some x)) [
      | true ↦ λ e. passed_from p y xs k x (λ i is. filtered_from p xs i x is) e
      | false ↦ λ e. let found = filtered_from p xs k x e in (suc found.0, found.1)
    ] e

-- packets that are sent again are unacknowledged
pub repeated_from : (e : SessionEnd) (acknowledgement gap k : ℕ) (kept : Kept) → slice_get (repeated e acknowledgement gap) k ≡ Some kept → (i : ℕ) × (slice_get (kept_of e.sending) i ≡ Some kept)
unfolding repeated
repeated_from e acknowledgement gap k kept is = filtered_from (is_behind acknowledgement gap) (kept_of e.sending) k kept is

-- a frame with a packet that is carried, of an end that has taken and numbered so many packets
pub IsFlight-carried : (peer : Sending) (taken numbered number : ℕ) (line peer_line : List (List ℕ)) (packet : List ℕ) → IsDirection peer taken peer_line → IsCarried line numbered number packet
    → IsFlight numbered taken peer.numbered line (record { acknowledgement = number_of taken; content = Carries number packet; numbered = numbered; peer_numbered = peer.numbered })
IsFlight-carried peer taken numbered number line peer_line packet back c = record {
  told = taken;
  told_is = refl;
  told_taken = omega arith;
  told_recent = taken_recently peer taken peer_line back;
  so_far = omega arith;
  peer_so_far = omega arith;
  carried = λ other carried e.
      let same_number : number ≡ other = cc in
      let same_packet : packet ≡ carried = cc in
      subst (λ q. IsCarried line numbered other q) same_packet (subst (λ m. IsCarried line numbered m packet) same_number c);
}

-- a frame with the k-th of the packets that are numbered now
pub IsFlight-packet : (s peer : Sending) (taken peer_taken n k : ℕ) (line peer_line : List (List ℕ)) (packet : List ℕ) → IsDirection s peer_taken line → IsDirection peer taken peer_line → n ≤ 50 → k < n → slice_get s.waiting k ≡ Some packet → IsFlight (s.numbered + n) taken peer.numbered (line ++ take n s.waiting) (packet_flight taken (s.numbered + n) peer.numbered (s.numbered + k + 1) packet)
IsFlight-packet s peer taken peer_taken n k line peer_line packet h back few before there =
    IsFlight-carried peer taken (s.numbered + n) (number_of (s.numbered + k + 1)) (line ++ take n s.waiting) peer_line packet back (IsCarried-sent s peer_taken n k line packet h few before there)

-- a frame with a STATE
pub IsFlight-state : (s peer : Sending) (taken gap : ℕ) (probe : Bool) (line peer_line : List (List ℕ)) → IsDirection peer taken peer_line → IsFlight s.numbered taken peer.numbered line (state_flight taken s.numbered peer.numbered gap probe)
IsFlight-state s peer taken gap probe line peer_line back = record {
  told = taken;
  told_is = refl;
  told_taken = omega arith;
  told_recent = taken_recently peer taken peer_line back;
  so_far = omega arith;
  peer_so_far = omega arith;
  carried = λ number carried e. absurd (let x : ⊥ = cc in x);
}

-- ---- taking

-- each packet that is held was numbered, and stands at its place
unfoldable pub Holds : List (Option Taken) → ℕ → List (List ℕ) → Type 0
Holds held taken line = (d : ℕ) (t : Taken) → slice_index_or held d None ≡ Some t → slice_get line (taken + d) ≡ Some t.packet

-- one more is held, at its place
holds_filled : (held : List (Option Taken)) (taken d : ℕ) (t : Taken) (line : List (List ℕ)) → Holds held taken line → slice_get line (taken + d) ≡ Some t.packet → Holds (filled held d t) taken line
unfolding Holds
holds_filled held taken d t line h there k u is = elim (cases_eq k d) [
  | inl same ↦
      let here : slice_index_or (filled held d t) k None ≡ Some t = rw same (filled-same held d t) in
      let one : t ≡ u = cc in
      ap (λ i. slice_get line (taken + i)) same ∙ there ∙ ap (λ (p : Taken). Some p.packet) one
  | inr apart ↦ h k u (sym (filled-other held d k t apart) ∙ is)
]

holds_arrived : (r : Receiving) (taken d : ℕ) (t : Taken) (line : List (List ℕ)) → Holds r.held taken line → slice_get line (taken + d) ≡ Some t.packet → Holds (arrived_at r d t).held taken line
holds_arrived r taken d t line h there = elim (is_new r d) as (λ b. Holds (if b then record { wanted = r.wanted; held = filled r.held d t } else r).held taken line) [
  | true ↦ holds_filled r.held taken d t line h there
  | false ↦ h
]

window_arrived : (r : Receiving) (d : ℕ) (t : Taken) → length r.held ≤ 50 → length (arrived_at r d t).held ≤ 50
window_arrived r d t h = elim (is_new r d) as (λ b. is_new r d ≡ b → length (if b then record { wanted = r.wanted; held = filled r.held d t } else r).held ≤ 50) [
  | true ↦ λ new.
      let near : d < 50 = grind (arith, nat_tests, new) in
      omega (arith, h, near, length-filled r.held d t)
  | false ↦ λ old. h
] refl

-- a numbered packet that arrives at a window of its direction
pub record IsComing (e : SessionEnd) (line : List (List ℕ)) (t : Taken) : Type 0 where
  pub position : ℕ
  pub positive : 1 ≤ position
  pub number_is : t.number ≡ number_of position
  pub near : position ≤ e.taken + 1 + 32000
  pub recent : e.taken + 1 ≤ position + 32000
  pub packet_is : slice_get line (position - 1) ≡ Some t.packet

holds_with : (e : SessionEnd) (line : List (List ℕ)) (t : Taken) → IsComing e line t → Holds e.held e.taken line → Holds (window_with e t).held e.taken line
holds_with e line t c h =
    let r = receiving e in
    let law = by_position.arrives r (e.taken + 1) c.position t refl c.near c.recent in
    let number = c.number_is in
    let positive = c.positive in
    elim (standing_either r t) [
      | inl early ↦ subst (λ (w : Receiving). Holds w.held e.taken line) (sym (arrived_early r t early)) h
      | inr plain ↦ elim (cases_lt c.position (e.taken + 1)) [
        | inl before ↦
            let same : window_with e t ≡ r = ap (λ d. arrived_at r d t) plain ∙ ap (λ n. arrived_at r (past_wanted r n) t) number ∙ law.unchanged before in
            subst (λ (w : Receiving). Holds w.held e.taken line) (sym same) h
        | inr from ↦
            let d = c.position - (e.taken + 1) in
            let same : window_with e t ≡ arrived_at r d t = ap (λ k. arrived_at r k t) plain ∙ ap (λ n. arrived_at r (past_wanted r n) t) number ∙ law.after from in
            let place : c.position - 1 ≡ e.taken + d = omega arith in
            let there : slice_get line (e.taken + d) ≡ Some t.packet = subst (λ i. slice_get line i ≡ Some t.packet) place c.packet_is in
            subst (λ (w : Receiving). Holds w.held e.taken line) (sym same) (holds_arrived r e.taken d t line h there)
      ]
    ]

-- what can be taken are the next packets of the line
pub run_is : (held : List (Option Taken)) (taken : ℕ) (line : List (List ℕ)) → Holds held taken line → take (length (run_of held)) (drop taken line) ≡ map (λ (t : Taken). t.packet) (run_of held)
unfolding Holds
run_is [] taken line h = refl
run_is (None ∷ held) taken line h = refl
run_is (Some t ∷ held) taken line h =
    let first : slice_get line taken ≡ Some t.packet = subst (λ i. slice_get line i ≡ Some t.packet) (omega arith) (h 0 t refl) in
    let within : taken < length line = slice_get_within line taken t.packet first in
    let value : get_or line taken t.packet ≡ t.packet = get_or_from_slice_get line taken t.packet t.packet first in
    let split : drop taken line ≡ t.packet ∷ drop (taken + 1) line = drop_more line taken t.packet within ∙ ap (λ p. p ∷ drop (taken + 1) line) value in
    let rest : Holds held (taken + 1) line = λ d u is. subst (λ i. slice_get line i ≡ Some u.packet) (omega arith) (h (suc d) u is) in
    ap (λ xs. take (suc (length (run_of held))) xs) split ∙ ap (λ xs. t.packet ∷ xs) (run_is held (taken + 1) line rest)

-- and each of the others is nearer then
pub holds_drained : (held : List (Option Taken)) (n taken : ℕ) (line : List (List ℕ)) → Holds held taken line → Holds (drop n held) (taken + n) line
unfolding Holds
holds_drained held n taken line h d t is =
    let there : slice_index_or held (n + d) None ≡ Some t = sym (get_or-drop n held d None) ∙ is in
    let place : taken + (n + d) ≡ taken + n + d = omega arith in
    subst (λ i. slice_get line i ≡ Some t.packet) place (h (n + d) t there)

-- the receiver after a numbered packet arrived, and what it then takes
pub record IsTook (e : SessionEnd) (line : List (List ℕ)) (t : Taken) : Type 0 where
  pub receiver : IsReceiver (took e t).held (took e t).taken line
  pub next : take (length (due_with e t)) (drop e.taken line) ≡ map (λ (d : Taken). d.packet) (due_with e t)
  pub each : (k : ℕ) (d : Taken) → slice_get (due_with e t) k ≡ Some d → slice_get line (e.taken + k) ≡ Some d.packet
  pub within : (took e t).taken ≤ length line

pub takes_near : (e : SessionEnd) (line : List (List ℕ)) (t : Taken) → e.taken ≤ length line → IsReceiver e.held e.taken line → IsComing e line t → IsTook e line t
unfolding due_with Holds
takes_near e line t short held c =
    let w = (window_with e t).held in
    let n = length (run_of w) in
    let all : Holds w e.taken line = holds_with e line t c held.holds in
    let next : take n (drop e.taken line) ≡ map (λ (d : Taken). d.packet) (run_of w) = run_is w e.taken line all in
    let long : length (take n (drop e.taken line)) ≡ n = ap length next ∙ length-map (run_of w) (λ (d : Taken). d.packet) in
    let within : e.taken + n ≤ length line = omega (arith, long, length-take n (drop e.taken line), length-drop e.taken line, short) in
    record {
      receiver = record { window = omega (arith, length-drop n w, window_arrived (receiving e) (standing (receiving e) t) t held.window); wants = run_leaves w; holds = holds_drained w n e.taken line all };
      next = next;
      each = λ k d is.
          let there : slice_get (take n (drop e.taken line)) k ≡ Some d.packet = ap (λ ps. slice_get ps k) next ∙ slice_get-map (λ (d : Taken). d.packet) (run_of w) k ∙ ap (λ o. option_map (λ (d : Taken). d.packet) o) is in
          slice_get-drop e.taken line k d.packet (slice_get-from_take n (drop e.taken line) k d.packet there);
      within = within;
    }

-- with the direction in which it was numbered
pub record IsTaken (s : Sending) (e : SessionEnd) (line : List (List ℕ)) (t : Taken) : Type 0 where
  pub direction : IsDirection s (took e t).taken line
  pub receiver : IsReceiver (took e t).held (took e t).taken line
  pub next : take (length (due_with e t)) (drop e.taken line) ≡ map (λ (d : Taken). d.packet) (due_with e t)
  pub each : (k : ℕ) (d : Taken) → slice_get (due_with e t) k ≡ Some d → slice_get line (e.taken + k) ≡ Some d.packet
  pub within : (took e t).taken ≤ length line

pub arrives_near : (s : Sending) (e : SessionEnd) (line : List (List ℕ)) (t : Taken) → IsDirection s e.taken line → IsReceiver e.held e.taken line → IsComing e line t → IsTaken s e line t
arrives_near s e line t h held c =
    let count = h.count in
    let numbered = h.taken_numbered in
    let now = takes_near e line t (omega arith) held c in
    let within = now.within in
    record {
      direction = record { window = h.window; below = h.below; count = h.count; kept = h.kept; acked_taken = omega (arith, h.acked_taken); taken_numbered = omega arith };
      receiver = now.receiver;
      next = now.next;
      each = now.each;
      within = now.within;
    }

-- A numbered packet of a frame that isn't too old arrives.
pub arrives : (s : Sending) (peer_numbered : ℕ) (e : SessionEnd) (line : List (List ℕ)) (f : Flight) (t : Taken) → IsDirection s e.taken line → IsReceiver e.held e.taken line → IsFresh s.numbered peer_numbered f → f.numbered ≤ s.numbered → IsCarried line f.numbered t.number t.packet → IsTaken s e line t
arrives s peer_numbered e line f t h held new so_far c =
    let window = h.window in
    let below = h.below in
    let acked = h.acked_taken in
    let high = h.taken_numbered in
    let own = new.own in
    let recent = c.recent in
    let sent = c.sent in
    arrives_near s e line t h held (record { position = c.position; positive = c.positive; number_is = c.number_is; near = omega arith; recent = omega arith; packet_is = c.packet_is })

-- an end that has just begun holds nothing
pub holds_none : (line : List (List ℕ)) → IsReceiver [] 0 line
holds_none line = record { window = omega arith; wants = refl; holds = λ d t is. absurd (let none : ⊥ = cc in none) }

-- what a receiver holds stands in the line that has grown, too
pub IsReceiver-stays : (held : List (Option Taken)) (taken : ℕ) (line line' : List (List ℕ)) → Extends line line' → IsReceiver held taken line → IsReceiver held taken line'
IsReceiver-stays held taken line line' longer h = record { window = h.window; wants = h.wants; holds = λ d t is. longer (taken + d) t.packet (h.holds d t is) }
