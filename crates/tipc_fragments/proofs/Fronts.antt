-- What came, behind which more is to come, against lists that stand one behind the other.
use Rattle.std.proofs.Common.{◌≡◌, ℕ, ◌≤◌, List, ◌++◌, length, take, drop, map, refl, sym, ap, ◌∙◌, arith}
use Rattle.std.proofs.lemmas.List.{drop_at, drop-append-le, drop-map, length-map, take_all, take_at, take-append-drop, take-append-le, take-map}
use Rattle.tipc_types.specs.Prefixes.{IsPrefixOf}

-- As long as no more came than the first list has, it is a front of that.
pub front_of_first : {A B : Type 0} (f : A → B) (first others rest : List B) (came : List A)
    → first ++ others ≡ map f came ++ rest → length came ≤ length first → IsPrefixOf (map f came) first
front_of_first f first others rest came same short =
    let n = length came in
    let mine : map f came ≡ take n first =
    sym (take_at (map f came) rest n (length-map came f)) ∙ ap (take n) (sym same) ∙ take-append-le n first others short in
    (drop n first, sym (take-append-drop n first) ∙ ap (λ xs. xs ++ drop n first) (sym mine))

-- Where at least so many came, the first list came,
pub first_came : {A B : Type 0} (f : A → B) (first others rest : List B) (came : List A) (n : ℕ)
    → first ++ others ≡ map f came ++ rest → length first ≡ n → n ≤ length came → map f (take n came) ≡ first
first_came f first others rest came n same long all =
    let within : n ≤ length (map f came) = omega (arith, length-map came f) in
    sym (take-map f n came) ∙ sym (take-append-le n (map f came) rest within) ∙ ap (take n) (sym same) ∙ take_at first others n long

-- and what came behind it is a front of the others.
pub others_came : {A B : Type 0} (f : A → B) (first others rest : List B) (came : List A) (n : ℕ)
    → first ++ others ≡ map f came ++ rest → length first ≡ n → n ≤ length came → others ≡ map f (drop n came) ++ rest
others_came f first others rest came n same long all =
    let within : n ≤ length (map f came) = omega (arith, length-map came f) in
    sym (drop_at first others n long) ∙ ap (drop n) same ∙ drop-append-le n (map f came) rest within
    ∙ ap (λ xs. xs ++ rest) (drop-map f n came)

-- A front that is as long as the list is the list.
pub whole_front : {A : Type 0} (front xs : List A) → IsPrefixOf front xs → length xs ≤ length front → front ≡ xs
whole_front front xs is long =
    sym (take_at front is.0 (length front) refl) ∙ ap (take (length front)) (sym is.1) ∙ take_all (length front) xs long
