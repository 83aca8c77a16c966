-- A frame that gets its number is the frame that is stamped with it.
use Rattle.std.proofs.Common.{◌≡◌, ℕ, ◌+◌, ◌≤◌, List, [], ◌∷◌, ◌++◌, length, take, drop, refl, sym, ap, ◌∙◌, append_assoc, zero-add, length-append, arith}
use Rattle.std.proofs.lemmas.List.Concat.{flat_map-cons}
use Rattle.std.proofs.lemmas.List.{drop_at, length-take-le, take_at}
use Rattle.tipc_header.specs.Frames.{envelope, frame_of, stamped}
use Rattle.tipc_header.specs.Spelling.{from_bit, word, words}
use Rattle.tipc_header.proofs.FrameWords.{length-envelope}
use Rattle.tipc_header.proofs.Words.{length-word}
use Rattle.tipc_broadcast.specs.Frames.{accepted_frame, numbered_frame}

-- the number stands between what is before it and what is behind it
pub numbered_is : (number : ℕ) (frame : List ℕ) → numbered_frame number frame ≡ take 24 frame ++ (word number ++ drop 28 frame)
unfolding numbered_frame word
numbered_is number frame = refl

pub frames_are_stamped : (own boot members number : ℕ) (packet : List ℕ) → 16 ≤ length packet → numbered_frame number (accepted_frame own boot members packet) ≡ frame_of boot members (stamped 0 number own packet)
unfolding stamped
frames_are_stamped own boot members number packet long =
    let env = envelope boot members in
    let front = take 8 packet in
    let rest = drop 16 packet in
    let last = words (own ∷ []) in
    let two : (n : ℕ) → words ((from_bit 16 0 + n) ∷ own ∷ []) ≡ word n ++ last = λ n. flat_map-cons word (from_bit 16 0 + n) (own ∷ []) ∙ ap (λ k. word k ++ last) (zero-add n) in
    let shape : (n : ℕ) → frame_of boot members (stamped 0 n own packet) ≡ (env ++ front) ++ (word n ++ (last ++ rest)) = λ n.
    ap (λ ws. env ++ (front ++ (ws ++ rest))) (two n) ∙ ap (λ xs. env ++ (front ++ xs)) (append_assoc (word n) last rest) ∙ sym (append_assoc env front (word n ++ (last ++ rest))) in
    let size : length (env ++ front) ≡ 24 = omega (arith, length-append env front, length-envelope boot members, length-take-le 8 packet (omega (arith, long))) in
    let frame = (env ++ front) ++ (word 0 ++ (last ++ rest)) in
    let head : take 24 frame ≡ env ++ front = take_at (env ++ front) (word 0 ++ (last ++ rest)) 24 size in
    let behind : drop 28 frame ≡ last ++ rest =
    ap (drop 28) (sym (append_assoc (env ++ front) (word 0) (last ++ rest))) ∙ drop_at ((env ++ front) ++ word 0) (last ++ rest) 28 (omega (arith, size, length-append (env ++ front) (word 0), length-word 0)) in
    ap (numbered_frame number) (shape 0) ∙ numbered_is number frame ∙ ap (λ xs. xs ++ (word number ++ drop 28 frame)) head ∙ ap (λ xs. (env ++ front) ++ (word number ++ xs)) behind ∙ sym (shape number)
