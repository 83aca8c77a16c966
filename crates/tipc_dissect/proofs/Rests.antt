-- What follows the fields of two packets is the same, where it is shown alike.
use Rattle.std.proofs.Common.{◌≡◌, ℕ, zero, suc, ◌+◌, ◌*◌, ◌/◌, ◌%◌, ◌^◌, ◌<◌, ◌≤◌, true, false, Option, Some, None, Result, List, [], ◌∷◌, ◌++◌, length, get_or, refl, sym, ap, subst, ◌∙◌, append_assoc, append-nil, arith, inl, inr}
use Rattle.std.specs.Prelude.{codes}
use Rattle.std.specs.List.{flat_map, range_with_len}
use Rattle.std.specs.Fmt.{decimal}
use Rattle.std.specs.Result.{result_unwrap_or}
use Rattle.std.proofs.lemmas.Bool.{cases_lt}
use Rattle.std.proofs.lemmas.Fmt.{decimal_injective}
use Rattle.std.proofs.lemmas.List.{drop_all}
use Rattle.std.proofs.lemmas.List.Concat.{flat_map-cons}
use Rattle.hex.specs.Hex.{decode_of, encode_lower, encode_with, hex_digit_value, lower_digits}
use Rattle.hex.specs.declared.error.FromHexError.{FromHexError}
use Rattle.hex.proofs.HexLemmas.{decode_of-encode_lower, IsDigits-lower_digits, length-encode_with}
use Rattle.tipc_header.specs.declared.packet.Header.{Header}
use Rattle.tipc_header.specs.declared.packet.Header.TheVariants as header
use Rattle.tipc_header.specs.Grammar.{RestFits}
use Rattle.tipc_header.specs.Reading.{word_at}
use Rattle.tipc_header.specs.Spelling.{words}
use Rattle.tipc_header.proofs.Words.{IsBytes, word_at-below, words_from, words_of_all}
use Rattle.tipc_tunnel.specs.Tunnels.{is_tunnel}
use Rattle.tipc_dissect.specs.Lines.{bytes_text, shown_line}
use Rattle.tipc_dissect.specs.Packets.{item_line, item_text, items_text, rest_text}
use Rattle.tipc_dissect.proofs.Cutting.{AllAbove, above-append, cut_at, decimal_above}
use Rattle.tipc_dissect.proofs.Shapes.{line_tells}

-- ---- bytes in hexadecimal

some_or_none : (d : ℕ) (o : Option ℕ) → o ≡ Some d → o ≡ None → ⊥
some_or_none d o e f = cc (sym e ∙ f)

no_digit : (c : ℕ) → c < 48 → hex_digit_value c ≡ None
no_digit c low = grind (arith)

digit_above : (k : ℕ) → k < 16 → 47 < get_or lower_digits k 0
digit_above k small =
    elim (cases_lt 47 (get_or lower_digits k 0)) [
      | inl above ↦ above
      | inr low ↦ absurd (some_or_none k _ (IsDigits-lower_digits k small) (no_digit (get_or lower_digits k 0) (omega (arith, low))))
    ]

hex_above : (bytes : List ℕ) → IsBytes bytes → AllAbove 10 (encode_lower bytes)
unfolding encode_with
hex_above [] are = tt
hex_above (b ∷ bytes) are =
    let small : b < 256 = are 0 in
    (omega (arith, digit_above (b / 16) (omega arith)), (omega (arith, digit_above (b % 16) (omega arith)), hex_above bytes (λ i. are (suc i))))

bytes_above : (bytes : List ℕ) → IsBytes bytes → AllAbove 10 (bytes_text bytes)
bytes_above [] are = (omega arith, tt)
bytes_above (b ∷ bytes) are = hex_above (b ∷ bytes) are

hex_injective : (a b : List ℕ) → IsBytes a → IsBytes b → encode_lower a ≡ encode_lower b → a ≡ b
hex_injective a b p q e =
    ap (λ (r : Result (List ℕ) FromHexError). result_unwrap_or r []) (sym (decode_of-encode_lower a p) ∙ ap decode_of e ∙ decode_of-encode_lower b q)

-- the sign for no bytes is one character, and bytes have two each
no_sign : (b : ℕ) (bytes : List ℕ) → codes "-" ≡ encode_lower (b ∷ bytes) → ⊥
no_sign b bytes e = omega (arith, ap length e, length-encode_with lower_digits (b ∷ bytes))

bytes_injective : (a b : List ℕ) → IsBytes a → IsBytes b → bytes_text a ≡ bytes_text b → a ≡ b
bytes_injective [] [] p q e = refl
bytes_injective [] (y ∷ b) p q e = absurd (no_sign y b e)
bytes_injective (x ∷ a) [] p q e = absurd (no_sign x a (sym e))
bytes_injective (x ∷ a) (y ∷ b) p q e = hex_injective (x ∷ a) (y ∷ b) p q e

-- a line of bytes tells them
pub bytes_tell : (indent name a b xs ys : List ℕ) → IsBytes a → IsBytes b → shown_line indent name (bytes_text a) ++ xs ≡ shown_line indent name (bytes_text b) ++ ys → (a ≡ b) × (xs ≡ ys)
bytes_tell indent name a b xs ys p q e =
    let both = line_tells indent name (bytes_text a) (bytes_text b) xs ys (bytes_above a p) (bytes_above b q) e in
    (bytes_injective a b p q both.0, both.1)

-- ---- items

-- the five words of the item of this index are the same
record SameItem (r s : List ℕ) (k : ℕ) : Type 0 where
  kind : word_at (5 * k) r ≡ word_at (5 * k) s
  lower : word_at (5 * k + 1) r ≡ word_at (5 * k + 1) s
  upper : word_at (5 * k + 2) r ≡ word_at (5 * k + 2) s
  port : word_at (5 * k + 3) r ≡ word_at (5 * k + 3) s
  key : word_at (5 * k + 4) r ≡ word_at (5 * k + 4) s

word_wide : (i : ℕ) (b : List ℕ) → IsBytes b → word_at i b < 2 ^ 64
word_wide i b are = omega (arith, word_at-below i b are)

word_above : (x i : ℕ) (b : List ℕ) → x < 48 → IsBytes b → AllAbove x (decimal (word_at i b))
word_above x i b low are = decimal_above x (word_at i b) low (word_wide i b are)

word_same : (i : ℕ) (r s : List ℕ) → IsBytes r → IsBytes s → decimal (word_at i r) ≡ decimal (word_at i s) → word_at i r ≡ word_at i s
word_same i r s p q e = decimal_injective (word_at i r) (word_at i s) (word_wide i r p) (word_wide i s q) e

-- a word with a comma behind it
word_cut : (i : ℕ) (r s xs ys : List ℕ) → IsBytes r → IsBytes s → decimal (word_at i r) ++ (44 ∷ xs) ≡ decimal (word_at i s) ++ (44 ∷ ys) → (word_at i r ≡ word_at i s) × (xs ≡ ys)
word_cut i r s xs ys p q e =
    let both = cut_at 44 (decimal (word_at i r)) (decimal (word_at i s)) xs ys (word_above 44 i r (omega arith) p) (word_above 44 i s (omega arith) q) e in
    (word_same i r s p q both.0, both.1)

item_same : (k : ℕ) (r s : List ℕ) → IsBytes r → IsBytes s → item_text k r ≡ item_text k s → SameItem r s k
item_same k r s p q e =
    let first = word_cut (5 * k) r s _ _ p q e in
    let second = word_cut (5 * k + 1) r s _ _ p q first.1 in
    let third = word_cut (5 * k + 2) r s _ _ p q second.1 in
    let fourth = word_cut (5 * k + 3) r s _ _ p q third.1 in
    record { kind = first.0; lower = second.0; upper = third.0; port = fourth.0; key = word_same (5 * k + 4) r s p q fourth.1 }

item_above : (k : ℕ) (r : List ℕ) → IsBytes r → AllAbove 10 (item_text k r)
item_above k r p =
    let word = λ (i : ℕ). word_above 10 i r (omega arith) p in
    let comma : 10 < 44 = omega arith in
    above-append 10 _ _ (word (5 * k)) (
      comma,
      above-append 10 _ _ (word (5 * k + 1)) (comma, above-append 10 _ _ (word (5 * k + 2)) (comma, above-append 10 _ _ (word (5 * k + 3)) (comma, word (5 * k + 4)))),
    )

first_item : (indent r xs : List ℕ) (k : ℕ) (ks : List ℕ) → flat_map (item_line indent r) (k ∷ ks) ++ xs ≡ item_line indent r k ++ (flat_map (item_line indent r) ks ++ xs)
first_item indent r xs k ks =
    ap (λ (t : List ℕ). t ++ xs) (flat_map-cons (item_line indent r) k ks) ∙ append_assoc (item_line indent r k) (flat_map (item_line indent r) ks) xs

-- the items from one index on, so many
SameItems : List ℕ → List ℕ → ℕ → ℕ → Type 0
SameItems r s a n = (k : ℕ) → a ≤ k → k < a + n → SameItem r s k

items_same : (indent r s xs ys : List ℕ) (a n : ℕ) → IsBytes r → IsBytes s → flat_map (item_line indent r) (range_with_len a n) ++ xs ≡ flat_map (item_line indent s) (range_with_len a n) ++ ys
    → SameItems r s a n × (xs ≡ ys)
unfolding SameItems
items_same indent r s xs ys a zero p q e = (λ k low high. absurd (omega arith), e)
items_same indent r s xs ys a (suc n) p q e =
    let lines = sym (first_item indent r xs a (range_with_len (a + 1) n)) ∙ e ∙ first_item indent s ys a (range_with_len (a + 1) n) in
    let here = line_tells indent (codes "item") (item_text a r) (item_text a s) _ _ (item_above a r p) (item_above a s q) lines in
    let later = items_same indent r s xs ys (a + 1) n p q here.1 in
    (λ k low high. elim (cases_lt a k) [ inl lt ↦ later.0 k (omega (arith, lt)) (omega (arith, high)) | inr le ↦ subst (SameItem r s) (omega (arith, le, low)) (item_same a r s p q here.0) ], later.1)

-- the words of an item by their place in it
item_word : (r s : List ℕ) (k d : ℕ) → SameItem r s k → d < 5 → word_at (5 * k + d) r ≡ word_at (5 * k + d) s
item_word r s k zero same low = subst (λ (j : ℕ). word_at j r ≡ word_at j s) (omega arith) same.kind
item_word r s k (suc zero) same low = same.lower
item_word r s k (suc (suc zero)) same low = same.upper
item_word r s k (suc (suc (suc zero))) same low = same.port
item_word r s k (suc (suc (suc (suc zero)))) same low = same.key
item_word r s k (suc (suc (suc (suc (suc d))))) same low = absurd (omega (arith, low))

items_word : (r s : List ℕ) (n j : ℕ) → SameItems r s 0 n → j < 5 * n → word_at j r ≡ word_at j s
unfolding SameItems
items_word r s n j same low =
    let place : 5 * (j / 5) + j % 5 ≡ j = omega arith in
    subst (λ (i : ℕ). word_at i r ≡ word_at i s) place (item_word r s (j / 5) (j % 5) (same (j / 5) (omega arith) (omega (arith, low))) (omega arith))

words_same : (m i : ℕ) (r s : List ℕ) → ((j : ℕ) → i ≤ j → j < i + m → word_at j r ≡ word_at j s) → words_from i m r ≡ words_from i m s
words_same zero i r s same = refl
words_same (suc m) i r s same =
    ap (λ (w : ℕ). w ∷ words_from (i + 1) m r) (same i (omega arith) (omega arith))
    ∙ ap (λ (ws : List ℕ). word_at i s ∷ ws) (words_same m (i + 1) r s (λ j low high. same j (omega (arith, low)) (omega (arith, high))))

words_alone : (m : ℕ) (r : List ℕ) → IsBytes r → length r ≡ 4 * m → r ≡ words (words_from 0 m r)
words_alone m r p long =
    words_of_all m r p (omega (arith, long)) ∙ ap (λ (t : List ℕ). words (words_from 0 m r) ++ t) (drop_all (4 * m) r (omega (arith, long))) ∙ append-nil (words (words_from 0 m r))

-- bytes of which each word is the same
bytes_by_words : (m : ℕ) (r s : List ℕ) → IsBytes r → IsBytes s → length r ≡ 4 * m → length s ≡ 4 * m → ((j : ℕ) → j < m → word_at j r ≡ word_at j s) → r ≡ s
bytes_by_words m r s p q r_long s_long same =
    words_alone m r p r_long ∙ ap words (words_same m 0 r s (λ j low high. same j (omega (arith, high)))) ∙ sym (words_alone m s q s_long)

items_tell : (indent r s xs ys : List ℕ) → IsBytes r → IsBytes s → length r ≡ length s → length r % 20 ≡ 0 → items_text indent r ++ xs ≡ items_text indent s ++ ys → (r ≡ s) × (xs ≡ ys)
unfolding items_text
items_tell indent r s xs ys p q long whole e =
    let n = length r / 20 in
    let count : length s / 20 ≡ n = omega (arith, long) in
    let same = items_same indent r s xs ys 0 n p q (e ∙ ap (λ (m : ℕ). flat_map (item_line indent s) (range_with_len 0 m) ++ ys) count) in
    (bytes_by_words (5 * n) r s p q (omega (arith, whole)) (omega (arith, whole, long)) (λ j low. items_word r s n j same.0 low), same.1)

-- ---- what follows a header

true_or_false : true ≡ false → ⊥
true_or_false e = cc e

empty_is : (r : List ℕ) → length r ≡ 0 → r ≡ []
empty_is [] e = refl
empty_is (x ∷ r) e = absurd (omega (arith, e))

both_empty : (r s : List ℕ) → length r ≡ length s → length r ≡ 0 → r ≡ s
both_empty r s long e = empty_is r e ∙ sym (empty_is s (sym long ∙ e))

-- all of it is told, but for a tunnel packet
unfoldable pub SameRest : Header → List ℕ → List ℕ → Type 0
SameRest h r s = is_tunnel h ≡ false → r ≡ s

pub rests_tell : (indent : List ℕ) (h : Header) (r s xs ys : List ℕ) → IsBytes r → IsBytes s → length r ≡ length s → RestFits h (length r) → rest_text indent h r ++ xs ≡ rest_text indent h s ++ ys
    → SameRest h r s × (xs ≡ ys)
unfolding SameRest
rests_tell indent (header.Payload m) r s xs ys p q long f e = let both = bytes_tell indent (codes "rest") r s xs ys p q e in (λ no. both.0, both.1)
rests_tell indent (header.Bundler b) r s xs ys p q long f e = let both = bytes_tell indent (codes "rest") r s xs ys p q e in (λ no. both.0, both.1)
rests_tell indent (header.State c) r s xs ys p q long f e = (λ no. both_empty r s long f, e)
rests_tell indent (header.Reset c) r s xs ys p q long f e = (λ no. both_empty r s long f, e)
rests_tell indent (header.Activate c) r s xs ys p q long f e = (λ no. both_empty r s long f, e)
rests_tell indent (header.Changeover c) r s xs ys p q long f e = (λ no. absurd (true_or_false no), e)
rests_tell indent (header.NameDistributor d) r s xs ys p q long f e = let both = items_tell indent r s xs ys p q long f.2 e in (λ no. both.0, both.1)
rests_tell indent (header.Fragmenter g) r s xs ys p q long f e = let both = bytes_tell indent (codes "rest") r s xs ys p q e in (λ no. both.0, both.1)
rests_tell indent (header.Discovery d) r s xs ys p q long f e = (λ no. both_empty r s long f, e)
