-- What stands in a list, at some place.
use Rattle.std.specs.Prelude.{All, slice_get}
use Rattle.std.proofs.lemmas.Option.{get_or_from_slice_get, slice_get_within}
use Rattle.std.proofs.lemmas.List.Elements.{All-cons, All-head, All-nil, All-tail}
use Rattle.std.proofs.Common.{◌⊎◌, ◌≡◌, ℕ, zero, suc, Bool, true, false, List, [], ◌∷◌, ◌++◌, Some, filter, map, take, if◌then◌else◌, refl, sym, ap, subst, inl, inr}

abbrev pub Stands : {A : Type 0} → List A → A → Type 0
Stands xs x = (k : ℕ) × (slice_get xs k ≡ Some x)

pub stands_later : {A : Type 0} (y : A) (xs : List A) (x : A) → Stands xs x → Stands (y ∷ xs) x
stands_later y xs x h = (suc h.0, h.1)

-- in a part of a list
pub stands_left : {A : Type 0} (xs ys : List A) (x : A) → Stands xs x → Stands (xs ++ ys) x
stands_left [] ys x (k, is) = absurd cc
stands_left (y ∷ xs) ys x (zero, is) = (zero, is)
stands_left (y ∷ xs) ys x (suc k, is) = stands_later y (xs ++ ys) x (stands_left xs ys x (k, is))

pub stands_right : {A : Type 0} (xs ys : List A) (x : A) → Stands ys x → Stands (xs ++ ys) x
stands_right [] ys x h = h
stands_right (y ∷ xs) ys x h = stands_later y (xs ++ ys) x (stands_right xs ys x h)

-- in one of its two parts
pub stands_either : {A : Type 0} (xs ys : List A) (x : A) → Stands (xs ++ ys) x → Stands xs x ⊎ Stands ys x
stands_either [] ys x h = inr h
stands_either (y ∷ xs) ys x (zero, is) = inl (zero, is)
stands_either (y ∷ xs) ys x (suc k, is) = elim (stands_either xs ys x (k, is)) [
  | inl here ↦ inl (stands_later y xs x here)
  | inr there ↦ inr there
]

pub stands_mapped : {A B : Type 0} (f : A → B) (xs : List A) (y : B) → Stands (map f xs) y → (x : A) × Stands xs x × (y ≡ f x)
stands_mapped f [] y (k, is) = absurd cc
stands_mapped f (x ∷ xs) y (zero, is) = (x, (0, refl), (let same : f x ≡ y = cc in sym same))
stands_mapped f (x ∷ xs) y (suc k, is) = let found = stands_mapped f xs y (k, is) in (found.0, stands_later x xs found.0 found.1, found.2)

pub stands_map : {A B : Type 0} (f : A → B) (xs : List A) (x : A) → Stands xs x → Stands (map f xs) (f x)
stands_map f [] x (k, is) = absurd cc
stands_map f (y ∷ xs) x (zero, is) = (0, (let same : y ≡ x = cc in ap (λ z. Some (f z)) same))
stands_map f (y ∷ xs) x (suc k, is) = stands_later (f y) (map f xs) (f x) (stands_map f xs x (k, is))

pub stands_passing : {A : Type 0} (p : A → Bool) (xs : List A) (x : A) → Stands xs x → p x ≡ true → Stands (filter p xs) x
stands_passing p [] x (k, is) passes = absurd cc
stands_passing {A} p (y ∷ xs) x h passes = case (λ k. stands_passing p xs x k passes) (p y) refl h
  where
    case : (Stands xs x → Stands (filter p xs) x) → (b : Bool) → p y ≡ b → Stands (y ∷ xs) x → Stands (if b then y ∷ filter p xs else filter p xs) x
    case more true yes_ (zero, is) = (zero, is)
    case more true yes_ (suc k, is) = stands_later y (filter p xs) x (more (k, is))
    case more false no_ (zero, is) = absurd (let same : y ≡ x = cc in let wrong : p y ≡ true = subst (λ z. p z ≡ true) (sym same) passes in cc)
    case more false no_ (suc k, is) = more (k, is)

pub stands_passed : {A : Type 0} (p : A → Bool) (xs : List A) (x : A) → Stands (filter p xs) x → Stands xs x × (p x ≡ true)
stands_passed p [] x (k, is) = absurd cc
stands_passed {A} p (y ∷ xs) x h = case (stands_passed p xs x) (p y) refl h
  where
    case : (Stands (filter p xs) x → Stands xs x × (p x ≡ true)) → (b : Bool) → p y ≡ b → Stands (if b then y ∷ filter p xs else filter p xs) x → Stands (y ∷ xs) x × (p x ≡ true)
    case more true yes_ (zero, is) = ((zero, is), (let same : y ≡ x = cc in subst (λ z. p z ≡ true) same yes_))
    case more true yes_ (suc k, is) = let found = more (k, is) in (stands_later y xs x found.0, found.1)
    case more false no_ h = let found = more h in (stands_later y xs x found.0, found.1)

-- what stands in the front of a list stands in it
pub stands_front : {A : Type 0} (n : ℕ) (xs : List A) (x : A) → Stands (take n xs) x → Stands xs x
stands_front zero xs x (k, is) = absurd cc
stands_front (suc n) [] x (k, is) = absurd cc
stands_front (suc n) (y ∷ xs) x (zero, is) = (zero, is)
stands_front (suc n) (y ∷ xs) x (suc k, is) = stands_later y xs x (stands_front n xs x (k, is))

-- what holds of all that stands in a list gives what follows from it there
pub all_weaker : {A : Type 0} (P Q : A → Type 0) (xs : List A) → ((x : A) → Stands xs x → P x → Q x) → All P xs → All Q xs
all_weaker P Q [] more all = All-nil Q
all_weaker P Q (x ∷ xs) more all = All-cons Q x xs (more x (0, refl) (All-head P x xs all)) (all_weaker P Q xs (λ y there. more y (stands_later x xs y there)) (All-tail P x xs all))

-- what holds of all holds of each
pub all_at : {A : Type 0} (P : A → Type 0) (xs : List A) (k : ℕ) (x : A) → All P xs → slice_get xs k ≡ Some x → P x
all_at P xs k x all there = subst P (get_or_from_slice_get xs k x x there) (all k x (slice_get_within xs k x there))
