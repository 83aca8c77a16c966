-- The places of a node's neighbours.
use Rattle.std.proofs.Common.{◌≡◌, ◌<◌, ◌⊎◌, ℕ, zero, suc, List, [], ◌∷◌, Option, Some, None, inl, inr, length, sym, ◌∙◌, subst, arith}
use Rattle.std.specs.Prelude.{slice_index_or, slice_set}
use Rattle.std.proofs.lemmas.Bool.{cases_eq}
use Rattle.std.proofs.lemmas.List.{get_or-set_other, get_or-set_same}

-- one that is there is within
pub is_within : {A : Type 0} (xs : List (Option A)) (place : ℕ) (x : A) → slice_index_or xs place None ≡ Some x → place < length xs
is_within [] place x there = absurd cc
is_within (y ∷ ys) zero x there = omega arith
is_within (y ∷ ys) (suc place) x there = let rest = is_within ys place x there in omega (arith, rest)

-- at its place stands what was set there, where something stood before
pub set_there : {A : Type 0} (xs : List (Option A)) (place : ℕ) (x y : A) → slice_index_or xs place None ≡ Some x → slice_index_or (slice_set xs place (Some y)) place None ≡ Some y
set_there xs place x y there = get_or-set_same xs place (Some y) None (is_within xs place x there)

-- what stands at a place after something was set there stood there before, or was set
pub set_either : {A : Type 0} (xs : List (Option A)) (place : ℕ) (x y : A) → slice_index_or (slice_set xs place (Some y)) place None ≡ Some x → y ≡ x
set_either [] place x y there = absurd cc
set_either (z ∷ zs) zero x y there = cc
set_either (z ∷ zs) (suc place) x y there = set_either zs place x y there

-- what stands at any place then stands there since it was set, or stood there before
pub set_cases : {A : Type 0} (xs : List (Option A)) (place k : ℕ) (x y : A) → slice_index_or (slice_set xs place (Some y)) k None ≡ Some x
    → ((k ≡ place) × (y ≡ x)) ⊎ (slice_index_or xs k None ≡ Some x)
set_cases xs place k x y there =
    elim (cases_eq k place) [
      | inl here ↦ inl (here, set_either xs place x y (subst (λ j. slice_index_or (slice_set xs place (Some y)) j None ≡ Some x) here there))
      | inr other ↦ inr (sym (get_or-set_other xs place k (Some y) None other) ∙ there)
    ]

-- where nothing stood, nothing stands then, if something stood where it was set
pub set_none : {A : Type 0} (xs : List (Option A)) (place k : ℕ) (x y : A) → slice_index_or xs place None ≡ Some x → slice_index_or xs k None ≡ None
    → slice_index_or (slice_set xs place (Some y)) k None ≡ None
set_none xs place k x y was none =
    elim (cases_eq k place) [
      | inl here ↦ absurd (let wrong : Some x ≡ None = sym was ∙ subst (λ j. slice_index_or xs j None ≡ None) here none in cc)
      | inr other ↦ get_or-set_other xs place k (Some y) None other ∙ none
    ]
