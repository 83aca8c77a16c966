-- The rule of the word that stamps are drawn from, and what a draw and a look tell a seat.
use Rattle.std.specs.Prelude.{◌≡◌, ℕ, ◌+◌, ◌-◌, ◌^◌, ◌<◌, ◌≤◌, ◌==◌, nat_lt, if◌then◌else◌, List, [], ◌∷◌, ◌++◌, length, slice_index, All}
use Rattle.std.specs.List.{count_by, sum_by}
use mathlib.Core.Option.{some}
use lib.ListN.{get_elem?}
use Rattle.atomic_table.specs.Table.{Me, State}
use Rattle.tipc_stamp.specs.declared.rule.Drawn.{Drawn}

-- a seat that drew these numbers and may draw so many more; and the least number that wasn't drawn when it last looked
abbrev pub knows : List ℕ → ℕ → ℕ → Drawn
knows drawn left seen = record { drawn = drawn; left = left; seen = seen }

-- how often a number stands in a list
abbrev pub times : ℕ → List ℕ → ℕ
times x xs = count_by (λ y. y == x) xs

-- once for the numbers below this one, and never for the others
abbrev pub once_below : ℕ → ℕ → ℕ
once_below x n = if nat_lt x n then 1 else 0

-- The rule: there is one word; the seats together drew each number below it once, and no other; it and the draws that are
-- left are at most 2^50; and no seat saw a greater number.
pub record Given {S : Type 0} (s : State S Drawn) : Type 0 where
  pub word : length s.words ≡ 1
  pub each : (x : ℕ) → sum_by (λ v. times x v.drawn) s.views ≡ once_below x (slice_index s.words 0)
  pub budget : slice_index s.words 0 + sum_by (λ v. v.left) s.views ≤ 2 ^ 50
  pub seen : (id : ℕ) (v : Drawn) → get_elem? s.views id ≡ some v → v.seen ≤ slice_index s.words 0

-- the number found is above each that the seat drew, and not below what it saw
abbrev pub IsAhead : ℕ → Drawn → Type 0
IsAhead n v = All (λ x. x < n) v.drawn × (v.seen ≤ n)

-- the number found is the seat's from now on
abbrev pub Draws : {S : Type 0} → Me S Drawn → ℕ → Me S Drawn → Type 0
Draws me n me' = (me'.0 ≡ knows (me.0.drawn ++ n ∷ []) (me.0.left - 1) me.0.seen) × (me'.1 ≡ me.1) × IsAhead n me.0

-- the number found is what the seat saw
abbrev pub Looks : {S : Type 0} → Me S Drawn → ℕ → Me S Drawn → Type 0
Looks me n me' = (me'.0 ≡ knows me.0.drawn me.0.left n) × (me'.1 ≡ me.1) × IsAhead n me.0
