-- What stands where in a frame, and a packet's words 2 and 3 written anew.
use Rattle.std.proofs.Common.{◌≡◌, ℕ, ◌+◌, ◌≤◌, ◌<◌, ◌^◌, true, List, [], ◌∷◌, ◌++◌, length, take, drop, refl, sym, ap, ◌∙◌, append_assoc, append-nil, length-append, subst, arith}
use Rattle.std.proofs.lemmas.Bool.Decides.{nat_tests}
use Rattle.std.proofs.lemmas.List.{drop_at, take_at}
use Rattle.std.proofs.lemmas.List.Concat.{flat_map-cons}
use Rattle.tipc_header.specs.Spelling.{Fields, from_bit, word, words, word_0, word_1, word_2, two_words, spelling, user_words, number_words}
use Rattle.tipc_header.specs.Frames.{envelope, first_of, frame_of, is_epoch, is_of_link, stamped, sent_as}
use Rattle.tipc_header.specs.Reading.{word_at, long_at}
use Rattle.tipc_header.proofs.Places.{long-high, long-joined, long-low}
use Rattle.tipc_header.proofs.Words.{AreWords, IsBytes, length-word, length-words, word_at-below, word_at-words, words_of_all}

pub length-envelope : (first second : ℕ) → length (envelope first second) ≡ 16
unfolding envelope
length-envelope first second = length-words (two_words first ++ two_words second)

-- four parts of four bytes and more behind them: what stands before the third, and what behind the fourth
take_8 : (a b c : List ℕ) → length a ≡ 4 → length b ≡ 4 → take 8 (a ++ (b ++ c)) ≡ a ++ b
take_8 a b c la lb = ap (λ xs. take 8 xs) (sym (append_assoc a b c)) ∙ take_at (a ++ b) c 8 (omega (arith, length-append a b))

drop_16 : (a b c d e : List ℕ) → length a ≡ 4 → length b ≡ 4 → length c ≡ 4 → length d ≡ 4 → drop 16 (a ++ (b ++ (c ++ (d ++ e)))) ≡ e
drop_16 a b c d e la lb lc ld =
    let front : a ++ (b ++ (c ++ (d ++ e))) ≡ (a ++ b ++ c ++ d) ++ e = sym (simp append_assoc) in
    ap (λ xs. drop 16 xs) front ∙ drop_at (a ++ b ++ c ++ d) e 16 (omega (arith, length-append (a ++ b ++ c) d, length-append (a ++ b) c, length-append a b))

-- the spelling, word by word
spelled : (p : Fields) → spelling p ≡ word (word_0 p) ++ (word (word_1 p.header) ++ (word (word_2 p) ++ (word p.previous ++ (words (user_words p.header ++ number_words p.header) ++ p.rest))))
unfolding spelling
spelled p = simp (flat_map-cons, append_assoc)

same_first_word : (p : Fields) (acknowledgement sequence previous : ℕ) → word_0 (sent_as acknowledgement sequence previous p) ≡ word_0 p
unfolding word_0
same_first_word p acknowledgement sequence previous = refl

third_word : (p : Fields) (acknowledgement sequence previous : ℕ) → word_2 (sent_as acknowledgement sequence previous p) ≡ from_bit 16 acknowledgement + sequence
unfolding word_2
third_word p acknowledgement sequence previous = refl

-- parts of four bytes, of which the third and the fourth are written anew
rewritten : (a b c d e s t : List ℕ) → length a ≡ 4 → length b ≡ 4 → length c ≡ 4 → length d ≡ 4 → take 8 (a ++ (b ++ (c ++ (d ++ e)))) ++ ((s ++ t) ++ drop 16 (a ++ (b ++ (c ++ (d ++ e))))) ≡ a ++ (b ++ (s ++ (t ++ e)))
rewritten a b c d e s t la lb lc ld =
    ap (λ xs. xs ++ ((s ++ t) ++ drop 16 (a ++ (b ++ (c ++ (d ++ e)))))) (take_8 a b (c ++ (d ++ e)) la lb)
    ∙ ap (λ xs. (a ++ b) ++ ((s ++ t) ++ xs)) (drop_16 a b c d e la lb lc ld)
    ∙ simp append_assoc

two_words_are : (m n : ℕ) → words (m ∷ n ∷ []) ≡ word m ++ word n
two_words_are m n = ap (λ xs. word m ++ xs) (append-nil (word n))

-- words 2 and 3 of a packet written anew: the packet as it is sent
pub stamped-spelling : (p : Fields) (acknowledgement sequence previous : ℕ) → stamped acknowledgement sequence previous (spelling p) ≡ spelling (sent_as acknowledgement sequence previous p)
unfolding stamped
stamped-spelling p acknowledgement sequence previous =
    let behind = words (user_words p.header ++ number_words p.header) ++ p.rest in
    let new = from_bit 16 acknowledgement + sequence in
    ap (λ xs. take 8 xs ++ (words (new ∷ previous ∷ []) ++ drop 16 xs)) (spelled p)
    ∙ ap (λ xs. take 8 (word (word_0 p) ++ (word (word_1 p.header) ++ (word (word_2 p) ++ (word p.previous ++ behind)))) ++ (xs ++ drop 16 (word (word_0 p) ++ (word (word_1 p.header) ++ (word (word_2 p) ++ (word p.previous ++ behind)))))) (two_words_are new previous)
    ∙ rewritten (word (word_0 p)) (word (word_1 p.header)) (word (word_2 p)) (word p.previous) behind (word new) (word previous) (length-word _) (length-word _) (length-word _) (length-word _)
    ∙ ap (λ n. word n ++ (word (word_1 p.header) ++ (word new ++ (word previous ++ behind)))) (sym (same_first_word p acknowledgement sequence previous))
    ∙ ap (λ n. word (word_0 (sent_as acknowledgement sequence previous p)) ++ (word (word_1 p.header) ++ (word n ++ (word previous ++ behind)))) (sym (third_word p acknowledgement sequence previous))
    ∙ sym (spelled (sent_as acknowledgement sequence previous p))

-- a spelling has its four first words
pub length-spelling : (p : Fields) → 16 ≤ length (spelling p)
length-spelling p =
    let behind = words (user_words p.header ++ number_words p.header) ++ p.rest in
    subst (λ xs. 16 ≤ length xs) (sym (spelled p)) (omega (arith, length-append (word (word_0 p)) (word (word_1 p.header) ++ (word (word_2 p) ++ (word p.previous ++ behind))), length-append (word (word_1 p.header)) (word (word_2 p) ++ (word p.previous ++ behind)), length-append (word (word_2 p)) (word p.previous ++ behind), length-append (word p.previous) behind, length-word (word_0 p), length-word (word_1 p.header), length-word (word_2 p), length-word p.previous))

-- the first number of a frame is read back
pub first_of-frame : (first second : ℕ) (rest : List ℕ) → first < 2 ^ 64 → first_of (frame_of first second rest) ≡ first
unfolding envelope
first_of-frame first second rest fits =
    let parts : words (two_words first ++ two_words second) ++ rest ≡ words (two_words first) ++ (words (two_words second) ++ rest) = simp (flat_map-cons, append_assoc) in
    let two : AreWords (two_words first) = (omega arith, (omega arith, tt)) in
    let high = word_at-words 0 (two_words first) (words (two_words second) ++ rest) two (omega arith) in
    let low = word_at-words 1 (two_words first) (words (two_words second) ++ rest) two (omega arith) in
    ap first_of parts ∙ rw (high, low) (long-joined first)

-- a frame under an epoch is one of a link
pub of_link : (first second : ℕ) (rest : List ℕ) → 4294967296 ≤ first → first < 2 ^ 64 → is_of_link (frame_of first second rest) ≡ true
of_link first second rest least fits = ap is_epoch (first_of-frame first second rest fits) ∙ grind (arith, nat_tests, least)

-- the envelope that a frame begins with, read and written again
pub envelope-reads : (b : List ℕ) → IsBytes b → 16 ≤ length b → b ≡ envelope (long_at 0 b) (long_at 2 b) ++ drop 16 b
unfolding envelope
envelope-reads b h long =
    let low_1 = word_at-below 1 b h in
    let low_3 = word_at-below 3 b h in
    let numbers : words (two_words (long_at 0 b) ++ two_words (long_at 2 b)) ≡ words (word_at 0 b ∷ word_at 1 b ∷ word_at 2 b ∷ word_at 3 b ∷ []) =
    rw (long-high (word_at 0 b) (word_at 1 b) low_1, long-low (word_at 0 b) (word_at 1 b) low_1, long-high (word_at 2 b) (word_at 3 b) low_3, long-low (word_at 2 b) (word_at 3 b) low_3) refl in
    words_of_all 4 b h long ∙ ap (λ xs. xs ++ drop 16 b) (sym numbers)
