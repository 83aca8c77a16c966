-- The users and types one by one, and tests taken apart.
use Rattle.std.proofs.Common.{◌≡◌, ℕ, zero, suc, ◌<◌, ◌≤◌, Bool, true, false, List, [], ◌∷◌, refl, subst, inl, inr, ◌⊎◌, arith}
use Rattle.std.specs.Prelude.{◌&&◌, ◌||◌, nat_le, ◌==◌}
use Rattle.std.proofs.lemmas.Bool.{eqb-true, leb-true}
use Rattle.std.proofs.lemmas.Bool.Decides.{nat_tests}
use Rattle.tipc_header.specs.Reading.{payload_at, header_at}
use Rattle.tipc_header.specs.Faults.{is_one_of, all_zero, has_user, types_of, size_of_type, non_sequenced, payload_is_clean, reset_is_clean, user_is_clean}
use Rattle.tipc_header.proofs.Sound.{both}

either : (x y : Bool) → (x || y) ≡ true → (x ≡ true) ⊎ (y ≡ true)
either true y h = inl refl
either false y h = inr h

-- what holds of each of these numbers
abbrev pub HoldsOfEach : (ℕ → Type 0) → List ℕ → Type 0
HoldsOfEach P [] = Unit {0}
HoldsOfEach P (k ∷ ks) = P k × HoldsOfEach P ks

pub one_of : (P : ℕ → Type 0) (ks : List ℕ) (n : ℕ) → HoldsOfEach P ks → is_one_of ks n ≡ true → P n
one_of P [] n each h = absurd cc
one_of P (k ∷ ks) n each h =
    elim (either (k == n) (is_one_of ks n) h) [
      | inl e ↦ subst P (eqb-true k n e) each.0
      | inr r ↦ one_of P ks n each.1 r
    ]

-- what holds at each user
pub each_user : (P : ℕ → Type 0) (u : ℕ) → has_user u ≡ true → (u ≤ 3 → P u) → HoldsOfEach P (6 ∷ 7 ∷ 10 ∷ 11 ∷ 12 ∷ 13 ∷ []) → P u
each_user P u h low others =
    elim (either (nat_le u 3) (is_one_of (6 ∷ 7 ∷ 10 ∷ 11 ∷ 12 ∷ 13 ∷ []) u) h) [
      | inl e ↦ low (leb-true _ _ e)
      | inr r ↦ one_of P (6 ∷ 7 ∷ 10 ∷ 11 ∷ 12 ∷ 13 ∷ []) u others r
    ]

-- what holds at each type
pub each_type_2 : (P : ℕ → Type 0) (t : ℕ) → t < 2 → P 0 → P 1 → P t
each_type_2 P zero lt p0 p1 = p0
each_type_2 P (suc zero) lt p0 p1 = p1
each_type_2 P (suc (suc t)) lt p0 p1 = absurd (omega arith)

pub each_type_3 : (P : ℕ → Type 0) (t : ℕ) → t < 3 → P 0 → P 1 → P 2 → P t
each_type_3 P zero lt p0 p1 p2 = p0
each_type_3 P (suc zero) lt p0 p1 p2 = p1
each_type_3 P (suc (suc zero)) lt p0 p1 p2 = p2
each_type_3 P (suc (suc (suc t))) lt p0 p1 p2 = absurd (omega arith)

pub each_type_4 : (P : ℕ → Type 0) (t : ℕ) → t < 4 → P 0 → P 1 → P 2 → P 3 → P t
each_type_4 P zero lt p0 p1 p2 p3 = p0
each_type_4 P (suc zero) lt p0 p1 p2 p3 = p1
each_type_4 P (suc (suc zero)) lt p0 p1 p2 p3 = p2
each_type_4 P (suc (suc (suc zero))) lt p0 p1 p2 p3 = p3
each_type_4 P (suc (suc (suc (suc t)))) lt p0 p1 p2 p3 = absurd (omega arith)

-- numbers that are zero
abbrev pub AreZero : List ℕ → Type 0
AreZero [] = Unit {0}
AreZero (n ∷ ns) = (n ≡ 0) × AreZero ns

pub are_zero : (ns : List ℕ) → all_zero ns ≡ true → AreZero ns
are_zero [] h = tt
are_zero (n ∷ ns) h = let parts = both (n == 0) (all_zero ns) h in (eqb-true n 0 parts.0, are_zero ns parts.1)

pub all_zero-from : (ns : List ℕ) → AreZero ns → all_zero ns ≡ true
all_zero-from [] h = refl
all_zero-from (n ∷ ns) h = rw (h.0) (all_zero-from ns h.1)

pub both_true : (x y : Bool) → x ≡ true → y ≡ true → (x && y) ≡ true
both_true x y e f = rw (e, f) refl

pub cons_same : {m n : ℕ} {ms ns : List ℕ} → m ≡ n → ms ≡ ns → (m ∷ ms) ≡ (n ∷ ns)
cons_same e f = cc

-- ---- what the tables say of payload, of the other users, and of RESET and ACTIVATE

pub low_user : (u : ℕ) → u ≤ 3 → has_user u ≡ true
low_user u low = grind (arith, nat_tests)

pub low_types : (u : ℕ) → u ≤ 3 → types_of u ≡ 4
low_types u low = grind (arith, nat_tests)

pub low_size : (u t : ℕ) → u ≤ 3 → size_of_type u t ≡ size_of_type 0 t
low_size u t low = grind (arith, nat_tests)

pub low_sequenced : (u : ℕ) → u ≤ 3 → non_sequenced u ≡ 0
low_sequenced u low = grind (arith, nat_tests)

pub low_clean : (u t : ℕ) (b : List ℕ) → u ≤ 3 → user_is_clean u t b ≡ payload_is_clean b
unfolding user_is_clean
low_clean u t b low = grind (arith, nat_tests)

pub low_header : (u t : ℕ) (b : List ℕ) → u ≤ 3 → header_at u t b ≡ payload_at u t b
unfolding header_at
low_header u t b low = grind (arith, nat_tests)

pub high_size : (u t : ℕ) → 3 < u → size_of_type u t ≡ 10
high_size u t high = grind (arith, nat_tests)

pub reset_clean : (b : List ℕ) (t : ℕ) → 1 ≤ t → user_is_clean 7 t b ≡ reset_is_clean b
unfolding user_is_clean
reset_clean b t some = grind (arith, nat_tests)
