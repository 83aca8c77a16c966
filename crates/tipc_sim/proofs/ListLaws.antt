-- A place in a list, and a list with one more element.
use Rattle.std.proofs.Common.{◌≡◌, ℕ, zero, suc, ◌<◌, Some, List, [], ◌∷◌, ◌++◌, length, take, drop, refl, ap, arith}
use Rattle.std.specs.Prelude.{slice_get}

-- x stands behind the first n elements, and rest behind it
pub record IsHere {A : Type 0} (xs : List A) (n : ℕ) (x : A) (rest : List A) : Type 0 where
  pub at : slice_get xs n ≡ Some x
  pub front : take (suc n) xs ≡ take n xs ++ x ∷ []
  pub behind : drop (suc n) xs ≡ rest
  pub within : n < length xs

here_first : {A : Type 0} (y : A) (ys : List A) (x : A) (rest : List A) → y ∷ ys ≡ x ∷ rest → IsHere (y ∷ ys) 0 x rest
here_first y ys x rest e = record { at = cc; front = cc; behind = cc; within = omega arith }

pub here : {A : Type 0} (xs : List A) (n : ℕ) (x : A) (rest : List A) → drop n xs ≡ x ∷ rest → IsHere xs n x rest
here [] zero x rest e = absurd cc
here [] (suc n) x rest e = absurd cc
here (y ∷ ys) zero x rest e = here_first y ys x rest e
here (y ∷ ys) (suc n) x rest e =
    let h = here ys n x rest e in
    record { at = h.at; front = ap (λ zs. y ∷ zs) h.front; behind = h.behind; within = omega (arith, h.within) }

pub get_front : {A : Type 0} (xs ys : List A) (i : ℕ) → i < length xs → slice_get (xs ++ ys) i ≡ slice_get xs i
get_front [] ys i lt = absurd (omega arith)
get_front (x ∷ xs) ys zero lt = refl
get_front (x ∷ xs) ys (suc i) lt = get_front xs ys i (omega arith)

pub get_last : {A : Type 0} (xs : List A) (y : A) → slice_get (xs ++ y ∷ []) (length xs) ≡ Some y
get_last [] y = refl
get_last (x ∷ xs) y = get_last xs y
