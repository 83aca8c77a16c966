-- A text ends at the first byte that is lower than each of its own. So numbers, addresses and bytes end at the space, comma,
-- point or newline behind them.
use Rattle.std.proofs.Common.{◌≡◌, ℕ, ◌/◌, ◌%◌, ◌^◌, ◌<◌, List, [], ◌∷◌, ◌++◌, get_or, drop, refl, ap, arith}
use Rattle.std.specs.Fmt.{decimal}
use Rattle.std.specs.Str.Parse.{AllDigits}
use Rattle.std.proofs.lemmas.Fmt.{decimal_is_IsNumeral, decimal_injective}
use Rattle.std.proofs.lemmas.Str.Parse.{digit_from_value}
use Rattle.tipc_dissect.specs.Lines.{address_text}

-- each byte of a text is above this one
abbrev pub AllAbove : ℕ → List ℕ → Type 0
AllAbove x [] = Unit {0}
AllAbove x (b ∷ bs) = (x < b) × AllAbove x bs

cons_parts : (a b : ℕ) (xs ys : List ℕ) → a ∷ xs ≡ b ∷ ys → (a ≡ b) × (xs ≡ ys)
cons_parts a b xs ys e = (ap (λ (l : List ℕ). get_or l 0 0) e, ap (drop 1) e)

cons_same : (a b : ℕ) (xs ys : List ℕ) → a ≡ b → xs ≡ ys → ◌≡◌ {A = List ℕ} (a ∷ xs) (b ∷ ys)
cons_same a b xs ys e f = cc

-- two texts and what is behind them are the same each, where both together are and a lower byte stands between
pub cut_at : (x : ℕ) (a b xs ys : List ℕ) → AllAbove x a → AllAbove x b → a ++ (x ∷ xs) ≡ b ++ (x ∷ ys) → (a ≡ b) × (xs ≡ ys)
cut_at x [] [] xs ys p q e = (refl, (cons_parts x x xs ys e).1)
cut_at x [] (c ∷ b) xs ys p q e = let parts = cons_parts x c xs (b ++ (x ∷ ys)) e in absurd (omega (arith, parts.0, q.0))
cut_at x (d ∷ a) [] xs ys p q e = let parts = cons_parts d x (a ++ (x ∷ xs)) ys e in absurd (omega (arith, parts.0, p.0))
cut_at x (d ∷ a) (c ∷ b) xs ys p q e =
    let parts = cons_parts d c (a ++ (x ∷ xs)) (b ++ (x ∷ ys)) e in
    let later = cut_at x a b xs ys p.1 q.1 parts.1 in
    (cons_same d c a b parts.0 later.0, later.1)

pub above-append : (x : ℕ) (a b : List ℕ) → AllAbove x a → AllAbove x b → AllAbove x (a ++ b)
above-append x [] b p q = q
above-append x (c ∷ a) b p q = (p.0, above-append x a b p.1 q)

digits_above : (x : ℕ) (digits : List ℕ) → x < 48 → AllDigits 10 digits → AllAbove x digits
digits_above x [] low are = tt
digits_above x (c ∷ cs) low are = (omega (arith, digit_from_value c are.0), digits_above x cs low are.1)

pub decimal_above : (x n : ℕ) → x < 48 → n < 2 ^ 64 → AllAbove x (decimal n)
decimal_above x n low wide = digits_above x (decimal n) low (decimal_is_IsNumeral n wide).0.1

-- ---- addresses

pub address_above : (x word : ℕ) → x < 46 → word < 2 ^ 32 → AllAbove x (address_text word)
address_above x word low wide =
    above-append x _ _ (decimal_above x (word / 2 ^ 24) (omega arith) (omega arith)) (
      low,
      above-append x _ _ (decimal_above x (word / 2 ^ 12 % 2 ^ 12) (omega arith) (omega arith)) (low, decimal_above x (word % 2 ^ 12) (omega arith) (omega arith)),
    )

point_above : (n : ℕ) → n < 2 ^ 64 → AllAbove 46 (decimal n)
point_above n wide = decimal_above 46 n (omega arith) wide

-- an address is told by its zone, cluster and node
pub address_injective : (v w : ℕ) → v < 2 ^ 32 → w < 2 ^ 32 → address_text v ≡ address_text w → v ≡ w
address_injective v w v_wide w_wide e =
    let zones = cut_at 46 (decimal (v / 2 ^ 24)) (decimal (w / 2 ^ 24)) _ _ (point_above _ (omega arith)) (point_above _ (omega arith)) e in
    let clusters = cut_at 46 (decimal (v / 2 ^ 12 % 2 ^ 12)) (decimal (w / 2 ^ 12 % 2 ^ 12)) _ _ (point_above _ (omega arith)) (point_above _ (omega arith)) zones.1 in
    let zone = decimal_injective (v / 2 ^ 24) (w / 2 ^ 24) (omega arith) (omega arith) zones.0 in
    let cluster = decimal_injective (v / 2 ^ 12 % 2 ^ 12) (w / 2 ^ 12 % 2 ^ 12) (omega arith) (omega arith) clusters.0 in
    let node = decimal_injective (v % 2 ^ 12) (w % 2 ^ 12) (omega arith) (omega arith) clusters.1 in
    omega (arith, zone, cluster, node)
