-- Waiting packets that move up one after another.
use Rattle.std.proofs.Common.{◌≡◌, ℕ, ◌+◌, ◌<◌, ◌≤◌, ◌==◌, false, List, [], ◌∷◌, ◌++◌, Some, length, take, drop, slice_get, refl, sym, ap, ◌∙◌, append_assoc, append-nil, length-drop, get_or, add-zero, subst, arith}
use Rattle.std.proofs.lemmas.Bool.Decides.{nat_tests}
use Rattle.std.proofs.lemmas.List.{drop-drop, get_or-drop, take_more, length-take-le}
use Rattle.tipc_types.specs.Position.{number_of}
use Rattle.tipc_outside.proofs.Adding.{adds_more, adds_none}
use Rattle.std.proofs.lemmas.Option.{slice_get-get_or}
use Rattle.std.proofs.Math.Seq.{take-add}
use Rattle.tipc_outside.specs.Frames.{Adds, Out}
use Rattle.tipc_send_window.specs.Sending.{Sending, advanced, room}
use Rattle.tipc_link.specs.Sessions.{SessionEnd, sent, packet_frame, packet_frames, flush_frames, flushed}

advanced-none : (s : Sending) → advanced 0 s ≡ s
advanced-none s = let u : s.unacked ++ [] ≡ s.unacked = append-nil s.unacked in let n : s.numbered + 0 ≡ s.numbered = omega arith in rw (u, n) refl

advanced-more : (s : Sending) (i : ℕ) → advanced 1 (advanced i s) ≡ advanced (i + 1) s
advanced-more s i =
    let n : s.numbered + i + 1 ≡ s.numbered + (i + 1) = omega arith in
    let u : (s.unacked ++ take i s.waiting) ++ take 1 (drop i s.waiting) ≡ s.unacked ++ take (i + 1) s.waiting = append_assoc s.unacked (take i s.waiting) (take 1 (drop i s.waiting)) ∙ ap (λ xs. s.unacked ++ xs) (sym (take-add i 1 s.waiting)) in
    let w : drop 1 (drop i s.waiting) ≡ drop (i + 1) s.waiting = drop-drop 1 i s.waiting in
    rw (n, u, w) refl

sent-none : (e : SessionEnd) → sent 0 e ≡ e
sent-none e = rw (advanced-none e.sending) refl

pub sent-more : (e : SessionEnd) (i : ℕ) → sent 1 (sent i e) ≡ sent (i + 1) e
sent-more e i =
    let tested : (i + 1 == 0) ≡ false = grind (arith, nat_tests) in
    rw (advanced-more e.sending i, tested) refl

-- the frame behind others
pub packet_frames-more : (e : SessionEnd) (before : ℕ) (qs : List (List ℕ)) (q : List ℕ) → packet_frames e before (qs ++ q ∷ []) ≡ packet_frames e before qs ++ packet_frame e (number_of (before + length qs + 1)) q ∷ []
packet_frames-more e before [] q = let place : before + 1 ≡ before + 0 + 1 = omega arith in ap (λ n. packet_frame e (number_of n) q ∷ []) place
packet_frames-more e before (x ∷ qs) q =
    let place : before + 1 + length qs + 1 ≡ before + length (x ∷ qs) + 1 = omega arith in
    ap (λ fs. packet_frame e (number_of (before + 1)) x ∷ fs) (packet_frames-more e (before + 1) qs q ∙ ap (λ n. packet_frames e (before + 1) qs ++ packet_frame e (number_of n) q ∷ []) place)

-- the packet that is the first to wait when i packets were sent
pub first_of_sent : (e : SessionEnd) (i : ℕ) → i < length e.sending.waiting → slice_get (sent i e).sending.waiting 0 ≡ slice_get e.sending.waiting i
first_of_sent e i within =
    let w = e.sending.waiting in
    let there : 0 < length (drop i w) = omega (arith, length-drop i w) in
    slice_get-get_or (drop i w) 0 [] there ∙ ap Some (get_or-drop i w 0 [] ∙ ap (λ k. get_or w k []) (add-zero i)) ∙ sym (slice_get-get_or w i [] within)

-- i of n waiting packets were sent
pub record IsFlushing (before : SessionEnd) (box_before : Out) (now : SessionEnd) (box : Out) (i n : ℕ) : Type 0 where
  pub state : now ≡ sent i before
  pub frames : Adds box_before box (packet_frames before before.sending.numbered (take i before.sending.waiting))
  pub count : n ≡ room before.sending
  pub within : i ≤ n

pub flushing-start : (before : SessionEnd) (box : Out) (n : ℕ) → n ≡ room before.sending → IsFlushing before box before box 0 n
flushing-start before box n is = record { state = sym (sent-none before); frames = adds_none box; count = is; within = omega arith }

-- one more was sent
pub flushing-step : (before now now' : SessionEnd) (box_before box box' : Out) (i n : ℕ) → IsFlushing before box_before now box i n → i < n → now' ≡ sent 1 now → ((q : List ℕ) → slice_get now.sending.waiting 0 ≡ Some q → Adds box box' (packet_frame now (number_of (now.sending.numbered + 1)) q ∷ [])) → IsFlushing before box_before now' box' (i + 1) n
flushing-step before now now' box_before box box' i n h more after frame =
    let w = before.sending.waiting in
    let count = h.count in
    let within : i < length w = omega arith in
    let q = get_or w i [] in
    let there : slice_get w i ≡ Some q = slice_get-get_or w i [] within in
    let first : slice_get now.sending.waiting 0 ≡ Some q = subst (λ (e : SessionEnd). slice_get e.sending.waiting 0 ≡ Some q) (sym h.state) (first_of_sent before i within ∙ there) in
    let sent_frame = subst (λ (e : SessionEnd). Adds box box' (packet_frame e (number_of (e.sending.numbered + 1)) q ∷ [])) h.state (frame q first) in
    let long : length (take i w) ≡ i = length-take-le i w (omega arith) in
    let all : packet_frames before before.sending.numbered (take (i + 1) w) ≡ packet_frames before before.sending.numbered (take i w) ++ packet_frame before (number_of (before.sending.numbered + i + 1)) q ∷ [] =
    ap (λ qs. packet_frames before before.sending.numbered qs) (take_more w i [] within)
    ∙ packet_frames-more before before.sending.numbered (take i w) q
    ∙ ap (λ k. packet_frames before before.sending.numbered (take i w) ++ packet_frame before (number_of (before.sending.numbered + k + 1)) q ∷ []) long in
    record {
      state = after ∙ ap (sent 1) h.state ∙ sent-more before i;
      frames = subst (λ fs. Adds box_before box' fs) (sym all) (adds_more box_before box box' _ _ h.frames sent_frame);
      count = h.count;
      within = omega arith;
    }

pub flushing-done : (before now : SessionEnd) (box_before box : Out) (i n : ℕ) → IsFlushing before box_before now box i n → n ≤ i → (now ≡ flushed before) × Adds box_before box (flush_frames before)
unfolding flushed flush_frames
flushing-done before now box_before box i n h end =
    let within = h.within in
    let all : i ≡ room before.sending = omega (arith, h.count) in
    (h.state ∙ ap (λ k. sent k before) all, subst (λ k. Adds box_before box (packet_frames before before.sending.numbered (take k before.sending.waiting))) all h.frames)
