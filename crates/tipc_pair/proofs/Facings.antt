-- A pair that is seen from its other link is the same pair, and what is done to both of its ends is done from either side.
use Rattle.std.specs.Prelude.{if◌then◌else◌, ◌==◌, ◌-◌}
use Rattle.std.proofs.Common.{◌≡◌, ◌≤◌, ◌∙◌, ℕ, true, false, refl, ap, arith}
use Rattle.std.proofs.lemmas.Bool.Decides.{nat_tests}
use Rattle.tipc_pair.specs.Facing.{PairEnds, facing, turned}

-- seen from the bearer that the near link is on, and from the other one
pub facing_near : (bearer : ℕ) (x : PairEnds) → x.bearer ≡ bearer → facing bearer x ≡ x
unfolding facing
facing_near bearer x is = let same : (x.bearer == bearer) ≡ true = grind (arith, nat_tests) in ap (λ b. if b then x else turned x) same

pub facing_far : (bearer : ℕ) (x : PairEnds) → (x.bearer == bearer) ≡ false → facing bearer x ≡ turned x
unfolding facing
facing_far bearer x differs = ap (λ b. if b then x else turned x) differs

pub turned_back : (x : PairEnds) → x.bearer ≤ 1 → turned (turned x) ≡ x
turned_back x two = let back : 1 - (1 - x.bearer) ≡ x.bearer = omega arith in ap (λ b. record x { bearer = b }) back

-- a pair has two bearers, from whichever it is seen
pub facing_two : (bearer : ℕ) (x : PairEnds) → x.bearer ≤ 1 → (facing bearer x).bearer ≤ 1
unfolding facing
facing_two bearer x two = elim (x.bearer == bearer) as (λ b. (if b then x else turned x).bearer ≤ 1) [ true ↦ two | false ↦ omega arith ]

-- and back again
pub facing_back : (bearer : ℕ) (x : PairEnds) → bearer ≤ 1 → x.bearer ≤ 1 → facing x.bearer (facing bearer x) ≡ x
unfolding facing
facing_back bearer x one two = elim (x.bearer == bearer) as (λ b. (x.bearer == bearer) ≡ b → facing x.bearer (if b then x else turned x) ≡ x) [
  | true ↦ λ same. facing_near x.bearer x refl
  | false ↦ λ differs. let there : ((1 - x.bearer) == x.bearer) ≡ false = grind (arith, nat_tests) in facing_far x.bearer (turned x) there ∙ turned_back x two
] refl

-- the two links by bearer are the two links that it has
pub facing_one : (x : PairEnds) → x.bearer ≤ 1 → (facing 1 x).near ≡ (facing 0 x).far
unfolding facing
facing_one x two = elim (x.bearer == 0) as (λ b. (x.bearer == 0) ≡ b → (facing 1 x).near ≡ (if b then x else turned x).far) [
  | true ↦ λ zero_is. let one : (x.bearer == 1) ≡ false = grind (arith, nat_tests) in ap (λ (y : PairEnds). y.near) (facing_far 1 x one)
  | false ↦ λ other_is. let one : x.bearer ≡ 1 = grind (arith, nat_tests) in ap (λ (y : PairEnds). y.near) (facing_near 1 x one)
] refl

-- a step that is the same from either side
pub facing_same : (bearer : ℕ) (step : PairEnds → PairEnds) (x : PairEnds) → (step x).bearer ≡ x.bearer → turned (step x) ≡ step (turned x) → facing bearer (step x) ≡ step (facing bearer x)
unfolding facing
facing_same bearer step x stays turns = ap (λ n. if n == bearer then step x else turned (step x)) stays ∙ elim (x.bearer == bearer) as (λ b. (if b then step x else turned (step x)) ≡ step (if b then x else turned x)) [
  | true ↦ refl
  | false ↦ turns
]

pub facing_contact : (bearer : ℕ) (x : PairEnds) → (facing bearer x).contact ≡ x.contact
unfolding facing
facing_contact bearer x = elim (x.bearer == bearer) as (λ b. (if b then x else turned x).contact ≡ x.contact) [ true ↦ refl | false ↦ refl ]

pub facing_begun : (bearer : ℕ) (x : PairEnds) → (facing bearer x).begun ≡ x.begun
unfolding facing
facing_begun bearer x = elim (x.bearer == bearer) as (λ b. (if b then x else turned x).begun ≡ x.begun) [ true ↦ refl | false ↦ refl ]
