-- Waiting packets that move up one after another, and unacknowledged ones that are sent again.
use Rattle.std.proofs.Common.{◌≡◌, ℕ, suc, ◌+◌, ◌<◌, ◌≤◌, Bool, true, false, if◌then◌else◌, List, [], ◌∷◌, ◌++◌, Some, length, take, drop, filter, slice_get, refl, sym, ap, ◌∙◌, append_assoc, append-nil, length-drop, get_or, add-zero, subst, arith}
use Rattle.std.proofs.lemmas.List.{drop-drop, get_or-drop, take_more, take_all, length-take-le}
use Rattle.std.proofs.lemmas.List.Elements.{All-append, All-cons, All-head, All-nil, All-tail, filter-append}
use Rattle.std.proofs.lemmas.Option.{slice_get-get_or}
use Rattle.std.proofs.Math.Seq.{take-add}
use Rattle.std.specs.Prelude.{All}
use Rattle.tipc_types.specs.Position.{number_of}
use Rattle.tipc_types.specs.declared.packet_lists.Kept.{Kept}
use Rattle.tipc_outside.proofs.Adding.{adds_more, adds_none}
use Rattle.tipc_outside.specs.Frames.{Adds, Out}
use Rattle.tipc_send_window.specs.Sending.{kept_after, kept_of, Sending, advanced, room}
use Rattle.tipc_broadcast.specs.Frames.{IsShort, cast, cast_again, cast_all}
use Rattle.tipc_broadcast.specs.Casting.{Casting, flush_frames, flushed, is_behind, moved_up_frames, moved_up, repeat_frames, rounds_of_departure, sent, settled}

advanced-none : (s : Sending) → advanced 0 s ≡ s
advanced-none s = let u : s.unacked ++ [] ≡ s.unacked = append-nil s.unacked in let n : s.numbered + 0 ≡ s.numbered = omega arith in rw (u, n) refl

advanced-more : (s : Sending) (i : ℕ) → advanced 1 (advanced i s) ≡ advanced (i + 1) s
advanced-more s i =
    let n : s.numbered + i + 1 ≡ s.numbered + (i + 1) = omega arith in
    let u : (s.unacked ++ take i s.waiting) ++ take 1 (drop i s.waiting) ≡ s.unacked ++ take (i + 1) s.waiting = append_assoc s.unacked (take i s.waiting) (take 1 (drop i s.waiting)) ∙ ap (λ xs. s.unacked ++ xs) (sym (take-add i 1 s.waiting)) in
    let w : drop 1 (drop i s.waiting) ≡ drop (i + 1) s.waiting = drop-drop 1 i s.waiting in
    rw (n, u, w) refl

pub sent-none : (v : Casting) → sent 0 v ≡ v
sent-none v = rw (advanced-none v.sending) refl

sent-more : (v : Casting) (i : ℕ) → sent 1 (sent i v) ≡ sent (i + 1) v
sent-more v i = rw (advanced-more v.sending i) refl

-- the frames of one more packet, behind others
cast_all-more : (mended : List Bool) (before : ℕ) (qs : List (List ℕ)) (q : List ℕ) → cast_all mended before (qs ++ q ∷ []) ≡ cast_all mended before qs ++ cast mended (number_of (before + length qs + 1)) q
cast_all-more mended before [] q = let place : before + 1 ≡ before + 0 + 1 = omega arith in append-nil (cast mended (number_of (before + 1)) q) ∙ ap (λ n. cast mended (number_of n) q) place
cast_all-more mended before (x ∷ qs) q =
    let place : before + 1 + length qs + 1 ≡ before + length (x ∷ qs) + 1 = omega arith in
    ap (λ fs. cast mended (number_of (before + 1)) x ++ fs) (cast_all-more mended (before + 1) qs q ∙ ap (λ n. cast_all mended (before + 1) qs ++ cast mended (number_of n) q) place)
    ∙ sym (append_assoc (cast mended (number_of (before + 1)) x) (cast_all mended (before + 1) qs) (cast mended (number_of (before + length (x ∷ qs) + 1)) q))

-- the packet that is the first to wait when i packets were sent
first_of_sent : (v : Casting) (i : ℕ) → i < length v.sending.waiting → slice_get (sent i v).sending.waiting 0 ≡ slice_get v.sending.waiting i
first_of_sent v i within =
    let w = v.sending.waiting in
    let there : 0 < length (drop i w) = omega (arith, length-drop i w) in
    slice_get-get_or (drop i w) 0 [] there ∙ ap Some (get_or-drop i w 0 [] ∙ ap (λ k. get_or w k []) (add-zero i)) ∙ sym (slice_get-get_or w i [] within)

-- i of n waiting packets were sent
pub record IsFlushing (before : Casting) (box_before : Out) (now : Casting) (box : Out) (i n : ℕ) : Type 0 where
  pub state : now ≡ sent i before
  pub frames : Adds box_before box (cast_all before.mended before.sending.numbered (take i before.sending.waiting))
  pub count : n ≡ room before.sending
  pub within : i ≤ n

pub flushing-start : (before : Casting) (box : Out) (n : ℕ) → n ≡ room before.sending → IsFlushing before box before box 0 n
flushing-start before box n is = record { state = sym (sent-none before); frames = adds_none box; count = is; within = omega arith }

-- one more was sent
pub flushing-step : (before now now' : Casting) (box_before box box' : Out) (i n : ℕ) → IsFlushing before box_before now box i n → i < n → now' ≡ sent 1 now → ((q : List ℕ) → slice_get now.sending.waiting 0 ≡ Some q → Adds box box' (cast now.mended (number_of (now.sending.numbered + 1)) q)) → IsFlushing before box_before now' box' (i + 1) n
flushing-step before now now' box_before box box' i n h more after frame =
    let w = before.sending.waiting in
    let count = h.count in
    let within : i < length w = omega arith in
    let q = get_or w i [] in
    let there : slice_get w i ≡ Some q = slice_get-get_or w i [] within in
    let first : slice_get now.sending.waiting 0 ≡ Some q = subst (λ (v : Casting). slice_get v.sending.waiting 0 ≡ Some q) (sym h.state) (first_of_sent before i within ∙ there) in
    let sent_frame = subst (λ (v : Casting). Adds box box' (cast v.mended (number_of (v.sending.numbered + 1)) q)) h.state (frame q first) in
    let long : length (take i w) ≡ i = length-take-le i w (omega arith) in
    let all : cast_all before.mended before.sending.numbered (take (i + 1) w) ≡ cast_all before.mended before.sending.numbered (take i w) ++ cast before.mended (number_of (before.sending.numbered + i + 1)) q =
    ap (λ qs. cast_all before.mended before.sending.numbered qs) (take_more w i [] within)
    ∙ cast_all-more before.mended before.sending.numbered (take i w) q
    ∙ ap (λ k. cast_all before.mended before.sending.numbered (take i w) ++ cast before.mended (number_of (before.sending.numbered + k + 1)) q) long in
    record {
      state = after ∙ ap (sent 1) h.state ∙ sent-more before i;
      frames = subst (λ fs. Adds box_before box' fs) (sym all) (adds_more box_before box box' _ _ h.frames sent_frame);
      count = h.count;
      within = omega arith;
    }

pub flushing-done : (before now : Casting) (box_before box : Out) (i n : ℕ) → IsFlushing before box_before now box i n → n ≤ i → (now ≡ flushed before) × Adds box_before box (flush_frames before)
unfolding flushed flush_frames
flushing-done before now box_before box i n h end =
    let within = h.within in
    let all : i ≡ room before.sending = omega (arith, h.count) in
    (h.state ∙ ap (λ k. sent k before) all, subst (λ k. Adds box_before box (cast_all before.mended before.sending.numbered (take k before.sending.waiting))) all h.frames)

-- ---- sent again

cast_again-append : (mended : List Bool) (ks ls : List Kept) → cast_again mended (ks ++ ls) ≡ cast_again mended ks ++ cast_again mended ls
cast_again-append mended [] ls = refl
cast_again-append mended (k ∷ ks) ls =
    ap (λ fs. cast mended k.number k.packet ++ fs) (cast_again-append mended ks ls) ∙ sym (append_assoc (cast mended k.number k.packet) (cast_again mended ks) (cast_again mended ls))

-- those among the first i unacknowledged packets
unfoldable pub first_repeated : Casting → ℕ → ℕ → ℕ → List Kept
first_repeated v acknowledgement gap i = filter (is_behind acknowledgement gap) (take i (kept_of v.sending))

-- the first i unacknowledged packets were looked at
abbrev pub IsRepeating : Casting → ℕ → ℕ → Out → Out → ℕ → Type 0
IsRepeating v acknowledgement gap box_before box i = Adds box_before box (cast_again v.mended (first_repeated v acknowledgement gap i))

pub repeating-start : (v : Casting) (acknowledgement gap : ℕ) (box : Out) → IsRepeating v acknowledgement gap box box 0
unfolding first_repeated
repeating-start v acknowledgement gap box = adds_none box

first_repeated-more : (v : Casting) (acknowledgement gap i : ℕ) (k : Kept) → i < length (kept_of v.sending) → get_or (kept_of v.sending) i k ≡ k
    → first_repeated v acknowledgement gap (i + 1) ≡ first_repeated v acknowledgement gap i ++ (if is_behind acknowledgement gap k then k ∷ [] else [])
unfolding first_repeated
first_repeated-more v acknowledgement gap i k within is =
    let p = is_behind acknowledgement gap in
    ap (λ ks. filter p ks) (take_more (kept_of v.sending) i k within)
    ∙ filter-append p (take i (kept_of v.sending)) (get_or (kept_of v.sending) i k ∷ [])
    ∙ ap (λ x. filter p (take i (kept_of v.sending)) ++ filter p (x ∷ [])) is

-- one that isn't missing is passed over
pub repeating-pass : (v : Casting) (acknowledgement gap : ℕ) (box_before box : Out) (i : ℕ) (k : Kept) (items : List Kept) → items ≡ kept_of v.sending → i < length items → k ≡ get_or items i k → is_behind acknowledgement gap k ≡ false
    → IsRepeating v acknowledgement gap box_before box i → IsRepeating v acknowledgement gap box_before box (i + 1)
repeating-pass v acknowledgement gap box_before box i k items all before item other h =
    let within : i < length (kept_of v.sending) = subst (λ ks. i < length ks) all before in
    let is : get_or (kept_of v.sending) i k ≡ k = sym (item ∙ ap (λ ks. get_or ks i k) all) in
    let more = first_repeated-more v acknowledgement gap i k within is in
    let same : first_repeated v acknowledgement gap (i + 1) ≡ first_repeated v acknowledgement gap i =
    more ∙ ap (λ t. first_repeated v acknowledgement gap i ++ (if t then k ∷ [] else [])) other ∙ append-nil (first_repeated v acknowledgement gap i) in
    rw same h

-- and one that is missing is sent again
pub repeating-send : (v : Casting) (acknowledgement gap : ℕ) (box_before box box' : Out) (i : ℕ) (k : Kept) (items : List Kept) → items ≡ kept_of v.sending → i < length items → k ≡ get_or items i k → is_behind acknowledgement gap k ≡ true → Adds box box' (cast v.mended k.number k.packet)
    → IsRepeating v acknowledgement gap box_before box i → IsRepeating v acknowledgement gap box_before box' (i + 1)
repeating-send v acknowledgement gap box_before box box' i k items all before item missing sent h =
    let within : i < length (kept_of v.sending) = subst (λ ks. i < length ks) all before in
    let is : get_or (kept_of v.sending) i k ≡ k = sym (item ∙ ap (λ ks. get_or ks i k) all) in
    let ks = first_repeated v acknowledgement gap i in
    let more : first_repeated v acknowledgement gap (i + 1) ≡ ks ++ k ∷ [] = first_repeated-more v acknowledgement gap i k within is ∙ ap (λ t. ks ++ (if t then k ∷ [] else [])) missing in
    let frames : cast_again v.mended (ks ++ k ∷ []) ≡ cast_again v.mended ks ++ cast v.mended k.number k.packet =
    cast_again-append v.mended ks (k ∷ []) ∙ ap (λ fs. cast_again v.mended ks ++ fs) (append-nil (cast v.mended k.number k.packet)) in
    rw (more, frames) (adds_more box_before box box' _ _ h sent)

pub repeating-done : (v : Casting) (acknowledgement gap : ℕ) (box_before box : Out) (i : ℕ) (items : List Kept) → items ≡ kept_of v.sending → length items ≤ i → IsRepeating v acknowledgement gap box_before box i
    → Adds box_before box (repeat_frames v acknowledgement gap)
unfolding first_repeated repeat_frames
repeating-done v acknowledgement gap box_before box i items all end h =
    let whole : take i (kept_of v.sending) ≡ kept_of v.sending = take_all i (kept_of v.sending) (subst (λ ks. length ks ≤ i) all end) in
    subst (λ ks. Adds box_before box (cast_again v.mended (filter (is_behind acknowledgement gap) ks))) whole h

-- what is sent again is long enough for its number
pub kept_long : (before : ℕ) (packets : List (List ℕ)) → All (λ packet. 32 ≤ length packet) packets → All (λ (k : Kept). 32 ≤ length k.packet) (kept_after before packets)
kept_long before [] h = All-nil (λ (k : Kept). 32 ≤ length k.packet)
kept_long before (packet ∷ packets) h =
    All-cons (λ (k : Kept). 32 ≤ length k.packet) _ _ (All-head (λ packet. 32 ≤ length packet) packet packets h) (kept_long (before + 1) packets (All-tail (λ packet. 32 ≤ length packet) packet packets h))

-- ---- what moves up when a peer leaves

-- so many rounds of the departure were made
pub record IsMovingUp (before : Casting) (box_before : Out) (now : Casting) (box : Out) (i : ℕ) : Type 0 where
  pub state : now ≡ moved_up i before
  pub frames : Adds box_before box (moved_up_frames i before)
  pub short : All IsShort (moved_up_frames i before)
  pub within : i ≤ rounds_of_departure

pub moving-start : (before : Casting) (box : Out) → IsMovingUp before box before box 0
unfolding moved_up moved_up_frames
moving-start before box = record { state = refl; frames = adds_none box; short = All-nil IsShort; within = omega arith }

-- one more was made
pub moving-step : (before now between now' : Casting) (box_before box box' : Out) (i : ℕ) → IsMovingUp before box_before now box i → i < rounds_of_departure → between ≡ settled now → now' ≡ flushed between → Adds box box' (flush_frames between) → All IsShort (flush_frames between)
    → IsMovingUp before box_before now' box' (i + 1)
unfolding moved_up moved_up_frames
moving-step before now between now' box_before box box' i h more released after frames short =
    let is : between ≡ settled (moved_up i before) = released ∙ ap settled h.state in
    let one : IsMovingUp before box_before now' box' (suc i) = record {
      state = after ∙ ap flushed is;
      frames = adds_more box_before box box' (moved_up_frames i before) (flush_frames (settled (moved_up i before))) h.frames (subst (λ v. Adds box box' (flush_frames v)) is frames);
      short = All-append IsShort (moved_up_frames i before) (flush_frames (settled (moved_up i before))) h.short (subst (λ v. All IsShort (flush_frames v)) is short);
      within = omega (arith, more);
    } in
    subst (λ k. IsMovingUp before box_before now' box' k) (omega arith) one

-- all were made
pub moving-done : (before now : Casting) (box_before box : Out) (i : ℕ) → IsMovingUp before box_before now box i → rounds_of_departure ≤ i → IsMovingUp before box_before now box rounds_of_departure
moving-done before now box_before box i h all = let within = h.within in subst (λ k. IsMovingUp before box_before now box k) (omega (arith, within, all)) h
