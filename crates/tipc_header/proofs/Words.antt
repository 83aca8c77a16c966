-- Words as bytes: what was read is written again, and what was written is read again.
use Rattle.std.proofs.Common.{◌≡◌, ℕ, zero, suc, ◌+◌, ◌*◌, ◌^◌, ◌<◌, ◌≤◌, List, [], ◌∷◌, ◌++◌, length, get_or, take, drop, refl, sym, ap, ◌∙◌, append_assoc, arith, inl, inr}
use Rattle.std.specs.Int.{w32, from_be_bytes, to_be_bytes}
use Rattle.std.proofs.lemmas.List.{take_at, drop_at, drop-drop, take-append-drop, length-append, length-take, length-drop, get_or-drop, get_or-take, get_or_past}
use Rattle.std.proofs.lemmas.List.Concat.{flat_map-cons}
use Rattle.std.proofs.lemmas.Bool.{cases_lt}
use Rattle.std.proofs.lemmas.Nat.{be_bytes_4, from_be_bytes-to_be_bytes_4}
use Rattle.tipc_header.specs.Spelling.{word, words}
use Rattle.tipc_header.specs.Reading.{word_at}

abbrev pub IsBytes : List ℕ → Type 0
IsBytes b = (i : ℕ) → get_or b i 0 < 256

IsBytes-drop : (n : ℕ) (b : List ℕ) → IsBytes b → IsBytes (drop n b)
IsBytes-drop n b h i = rw get_or-drop (h (n + i))

IsBytes-take : (n : ℕ) (b : List ℕ) → IsBytes b → IsBytes (take n b)
IsBytes-take n b h i =
    elim (cases_lt i n) [
      | inl lt ↦ rw (get_or-take n b i 0 lt) (h i)
      | inr le ↦ rw (get_or_past (take n b) i 0 (omega (arith, length-take n b))) (omega arith)
    ]

pub length-word : (n : ℕ) → length (word n) ≡ 4
unfolding word
length-word n = refl

pub length-words : (ns : List ℕ) → length (words ns) ≡ 4 * length ns
length-words [] = refl
length-words (n ∷ ns) = rw flat_map-cons (omega (arith, length-append (word n) (words ns), length-word n, length-words ns))

-- a word is below 2 ^ 32
pub word_at-below : (i : ℕ) (b : List ℕ) → IsBytes b → word_at i b < 2 ^ 32
unfolding word_at
word_at-below i b h =
    let bytes = IsBytes-take 4 (drop (4 * i) b) (IsBytes-drop (4 * i) b h) in
    omega (arith, bytes 0, bytes 1, bytes 2, bytes 3)

-- a word that was read is written again
word-word_at : (i : ℕ) (b : List ℕ) → IsBytes b → 4 * i + 4 ≤ length b → word (word_at i b) ≡ take 4 (drop (4 * i) b)
unfolding word word_at
word-word_at i b h long =
    be_bytes_4 (take 4 (drop (4 * i) b)) _ (omega (arith, length-take 4 (drop (4 * i) b), length-drop (4 * i) b)) (IsBytes-take 4 (drop (4 * i) b) (IsBytes-drop (4 * i) b h)) refl

-- the words from this one on
abbrev pub words_from : ℕ → ℕ → List ℕ → List ℕ
words_from i zero b = []
words_from i (suc n) b = word_at i b ∷ words_from (i + 1) n b

-- the bytes from a word on are that word and the next ones
pub words_take : (n i : ℕ) (b : List ℕ) → IsBytes b → 4 * (i + n) ≤ length b → drop (4 * i) b ≡ words (words_from i n b) ++ drop (4 * (i + n)) b
words_take zero i b h long = ap (λ (k : ℕ). drop k b) (omega arith)
words_take (suc n) i b h long =
    let first : word (word_at i b) ≡ take 4 (drop (4 * i) b) = word-word_at i b h (omega arith) in
    let later = words_take n (i + 1) b h (omega arith) in
    let next : drop 4 (drop (4 * i) b) ≡ drop (4 * (i + 1)) b = drop-drop 4 (4 * i) b ∙ ap (λ (k : ℕ). drop k b) (omega arith) in
    let last : drop (4 * (i + 1 + n)) b ≡ drop (4 * (i + suc n)) b = ap (λ (k : ℕ). drop k b) (omega arith) in
    sym (take-append-drop 4 (drop (4 * i) b))
    ∙ ap (λ (x : List ℕ). x ++ drop 4 (drop (4 * i) b)) (sym first)
    ∙ ap (λ (x : List ℕ). word (word_at i b) ++ x) (next ∙ later ∙ ap (λ (x : List ℕ). words (words_from (i + 1) n b) ++ x) last)
    ∙ sym (append_assoc (word (word_at i b)) (words (words_from (i + 1) n b)) (drop (4 * (i + suc n)) b))
    ∙ ap (λ (x : List ℕ). x ++ drop (4 * (i + suc n)) b) (sym (flat_map-cons word (word_at i b) (words_from (i + 1) n b)))

-- all of the bytes
pub words_of_all : (n : ℕ) (b : List ℕ) → IsBytes b → 4 * n ≤ length b → b ≡ words (words_from 0 n b) ++ drop (4 * n) b
words_of_all n b h long = words_take n 0 b h (omega arith) ∙ ap (λ (k : ℕ). words (words_from 0 n b) ++ drop k b) (omega arith)

-- numbers that are words
abbrev pub AreWords : List ℕ → Type 0
AreWords [] = Unit {0}
AreWords (n ∷ ns) = (n < 2 ^ 32) × AreWords ns

-- a word that was written is read again
word_at-first : (n : ℕ) (b : List ℕ) → n < 2 ^ 32 → word_at 0 (word n ++ b) ≡ n
unfolding word word_at
word_at-first n b lt = ap (from_be_bytes w32) (take_at (to_be_bytes w32 n) b 4 refl) ∙ from_be_bytes-to_be_bytes_4 n lt

word_at-later : (i n : ℕ) (b : List ℕ) → word_at (suc i) (word n ++ b) ≡ word_at i b
unfolding word word_at
word_at-later i n b =
    let past : drop (4 * suc i) (to_be_bytes w32 n ++ b) ≡ drop (4 * i) b =
    ap (λ (k : ℕ). drop k (to_be_bytes w32 n ++ b)) (omega arith)
    ∙ sym (drop-drop (4 * i) 4 (to_be_bytes w32 n ++ b))
    ∙ ap (drop (4 * i)) (drop_at (to_be_bytes w32 n) b 4 refl) in
    ap (λ (x : List ℕ). from_be_bytes w32 (take 4 x)) past

pub word_at-words : (i : ℕ) (ns b : List ℕ) → AreWords ns → i < length ns → word_at i (words ns ++ b) ≡ get_or ns i 0
word_at-words i [] b are lt = absurd (omega arith)
word_at-words zero (n ∷ ns) b are lt =
    ap (word_at 0) (ap (λ (x : List ℕ). x ++ b) (flat_map-cons word n ns) ∙ append_assoc (word n) (words ns) b) ∙ word_at-first n (words ns ++ b) are.0
word_at-words (suc i) (n ∷ ns) b are lt =
    ap (word_at (suc i)) (ap (λ (x : List ℕ). x ++ b) (flat_map-cons word n ns) ∙ append_assoc (word n) (words ns) b)
    ∙ word_at-later i n (words ns ++ b)
    ∙ word_at-words i ns b are.1 (omega arith)
