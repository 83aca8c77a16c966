-- Neighbours are made what they were from the copies of those that changed.
use Rattle.std.proofs.Common.{◌≡◌, ℕ, zero, suc, true, false, List, [], ◌∷◌, ◌++◌, Option, Some, None, length, refl, sym, ap, ◌∙◌, length-set}
use Rattle.std.specs.Prelude.{is_some, slice_index_or, slice_set}
use Rattle.tipc_node.specs.declared.neighbours.Neighbour.{Neighbour}
use Rattle.tipc_node.specs.Drafts.{restored, with_copy}

-- nothing changed where nothing was copied
pub restored_none : (copies xs : List (Option Neighbour)) → ((k : ℕ) → slice_index_or copies k None ≡ None) → restored copies xs ≡ xs
unfolding restored
restored_none [] [] none = refl
restored_none (c ∷ cs) [] none = refl
restored_none [] (x ∷ xs) none = refl
restored_none (None ∷ cs) (x ∷ xs) none = ap (λ ys. x ∷ ys) (restored_none cs xs (λ k. none (suc k)))
restored_none (Some c ∷ cs) (x ∷ xs) none = let wrong : Some c ≡ None = none 0 in absurd cc

-- one more is copied as it is
pub keep_one : (copies xs : List (Option Neighbour)) (i : ℕ) (y : Neighbour) → slice_index_or copies i None ≡ None → slice_index_or xs i None ≡ Some y
    → restored (slice_set copies i (Some y)) xs ≡ restored copies xs
unfolding restored
keep_one [] xs i y none there = refl
keep_one (c ∷ cs) [] i y none there = absurd cc
keep_one (None ∷ cs) (x ∷ xs) zero y none there = ap (λ z. z ∷ restored cs xs) (sym there)
keep_one (Some c ∷ cs) (x ∷ xs) zero y none there = absurd cc
keep_one (None ∷ cs) (x ∷ xs) (suc i) y none there = ap (λ ys. x ∷ ys) (keep_one cs xs i y none there)
keep_one (Some c ∷ cs) (x ∷ xs) (suc i) y none there = ap (λ ys. Some c ∷ ys) (keep_one cs xs i y none there)

-- one that was copied changes
pub change_one : (copies xs : List (Option Neighbour)) (i : ℕ) (y : Option Neighbour) → is_some (slice_index_or copies i None) ≡ true → restored copies (slice_set xs i y) ≡ restored copies xs
unfolding restored
change_one [] xs i y there = absurd cc
change_one (c ∷ cs) [] i y there = refl
change_one (None ∷ cs) (x ∷ xs) zero y there = absurd cc
change_one (Some c ∷ cs) (x ∷ xs) zero y there = refl
change_one (None ∷ cs) (x ∷ xs) (suc i) y there = ap (λ ys. x ∷ ys) (change_one cs xs i y there)
change_one (Some c ∷ cs) (x ∷ xs) (suc i) y there = ap (λ ys. Some c ∷ ys) (change_one cs xs i y there)

-- what was copied is changed, as the neighbours were seen when they were copied
pub kept_changed : (copies copies' seen xs : List (Option Neighbour)) (i : ℕ) (y : Option Neighbour) → seen ≡ xs → is_some (slice_index_or copies' i None) ≡ true → restored copies' seen ≡ restored copies seen
    → restored copies' (slice_set xs i y) ≡ restored copies xs
kept_changed copies copies' seen xs i y seen_is there same = change_one copies' xs i y there ∙ ap (restored copies') (sym seen_is) ∙ same ∙ ap (restored copies) seen_is

-- ---- one after the other, from the last on

pub copy_wide : (xs : List (Option Neighbour)) (place : ℕ) (copy : Option Neighbour) → length (with_copy xs place copy) ≡ length xs
copy_wide xs place None = refl
copy_wide xs place (Some c) = length-set xs place (Some c)

-- nothing is made what it was where no copy is left
pub restore_last : (xs : List (Option Neighbour)) → restored [] xs ≡ xs
unfolding restored
restore_last [] = refl
restore_last (x ∷ xs) = refl

-- the last copy that is left is put back at its place
pub restore_next : (copies : List (Option Neighbour)) (copy : Option Neighbour) (xs : List (Option Neighbour)) → restored copies (with_copy xs (length copies) copy) ≡ restored (copies ++ copy ∷ []) xs
unfolding restored
restore_next [] None [] = refl
restore_next [] (Some c) [] = refl
restore_next [] None (x ∷ xs) = ap (λ ys. x ∷ ys) (sym (restore_last xs))
restore_next [] (Some c) (x ∷ xs) = ap (λ ys. Some c ∷ ys) (sym (restore_last xs))
restore_next (k ∷ copies) None [] = refl
restore_next (k ∷ copies) (Some c) [] = refl
restore_next (None ∷ copies) None (x ∷ xs) = ap (λ ys. x ∷ ys) (restore_next copies None xs)
restore_next (None ∷ copies) (Some c) (x ∷ xs) = ap (λ ys. x ∷ ys) (restore_next copies (Some c) xs)
restore_next (Some k ∷ copies) None (x ∷ xs) = ap (λ ys. Some k ∷ ys) (restore_next copies None xs)
restore_next (Some k ∷ copies) (Some c) (x ∷ xs) = ap (λ ys. Some k ∷ ys) (restore_next copies (Some c) xs)

-- one more is copied, as the code has it
pub keep_there : (copies xs : List (Option Neighbour)) (i : ℕ) (y : Neighbour) → is_some (slice_index_or copies i None) ≡ false → slice_index_or xs i None ≡ Some y
    → restored (slice_set copies i (Some y)) xs ≡ restored copies xs
keep_there copies xs i y empty there = keep_one copies xs i y (none_at (slice_index_or copies i None) empty) there
  where
    none_at : (place : Option Neighbour) → is_some place ≡ false → place ≡ None
    none_at None is = refl
    none_at (Some c) is = absurd cc

-- a place that is taken is read so with any default
pub there_is : (xs : List (Option Neighbour)) (i : ℕ) (place : Option Neighbour) (y : Neighbour) → is_some (slice_index_or xs i None) ≡ true → place ≡ slice_index_or xs i place → place ≡ Some y → slice_index_or xs i None ≡ Some y
there_is [] i place y there read is = absurd cc
there_is (x ∷ xs) zero place y there read is = sym read ∙ is
there_is (x ∷ xs) (suc i) place y there read is = there_is xs i place y there read is

-- ---- the table stays

pub restored_wide : (copies xs : List (Option Neighbour)) → length (restored copies xs) ≡ length xs
unfolding restored
restored_wide copies [] = refl
restored_wide [] (x ∷ xs) = refl
restored_wide (None ∷ copies) (x ∷ xs) = ap suc (restored_wide copies xs)
restored_wide (Some c ∷ copies) (x ∷ xs) = ap suc (restored_wide copies xs)

pub restored_first : (copies xs : List (Option Neighbour)) → slice_index_or copies 0 None ≡ None → slice_index_or xs 0 None ≡ None → slice_index_or (restored copies xs) 0 None ≡ None
unfolding restored
restored_first copies [] none nobody = refl
restored_first [] (x ∷ xs) none nobody = nobody
restored_first (None ∷ copies) (x ∷ xs) none nobody = nobody
restored_first (Some c ∷ copies) (x ∷ xs) none nobody = let wrong : Some c ≡ None = none in absurd cc
