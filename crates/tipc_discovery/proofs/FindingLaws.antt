-- What is found, and that it stays known.
use Rattle.std.proofs.Common.{◌≡◌, ℕ, Bool, true, false, not, ◌||◌, List, [], ◌∷◌, ◌++◌, if◌then◌else◌, refl, sym, ap, true≢false, eq-eqb}
use Rattle.std.specs.Prelude.{◌==◌}
use Rattle.std.specs.List.{list_any}
use Rattle.tipc_types.specs.declared.link_words.Why.TheVariants as why
use Rattle.tipc_header.specs.declared.packet.Header.{Header}
use Rattle.tipc_discovery.specs.declared.neighbours.Found.{Found}
use Rattle.tipc_discovery.specs.declared.neighbours.Found.TheVariants.{New, Known, Ignored}
use Rattle.tipc_discovery.specs.Finding.{after_hearing, found_of}
use Rattle.tipc_discovery.specs.Hearing.{has_node, is_of_network}

-- the four answers by the three tests
abbrev answer_of : Bool → Bool → Bool → Found
answer_of own network known = if own then Ignored why.Own else (if network then Ignored why.Network else (if known then Known else New))

new_only : (own network known : Bool) → answer_of own network known ≡ New → (own ≡ false) × (network ≡ false) × (known ≡ false)
new_only true network known e = absurd cc
new_only false true known e = absurd cc
new_only false false true e = absurd cc
new_only false false false e = (refl, refl, refl)

known_only : (own network known : Bool) → answer_of own network known ≡ Known → (own ≡ false) × (network ≡ false) × (known ≡ true)
known_only true network known e = absurd cc
known_only false true known e = absurd cc
known_only false false true e = (refl, refl, refl)
known_only false false false e = absurd cc

known_then : (own network known : Bool) → own ≡ false → network ≡ false → known ≡ true → answer_of own network known ≡ Known
known_then own network known a b c = rw (a, b, c) refl

pub new_absent : (own previous : ℕ) (header : Header) (heard : List ℕ) → found_of own previous header heard ≡ New → list_any (λ other. previous == other) heard ≡ false
unfolding found_of
new_absent own previous header heard e =
    (new_only ((previous == own) || not (has_node previous)) (not (is_of_network header)) (list_any (λ other. previous == other) heard) e).2

either_true : (a b : Bool) → b ≡ true → a || b ≡ true
either_true true b e = refl
either_true false b e = e

found_last : (n : ℕ) (xs : List ℕ) → list_any (λ other. n == other) (xs ++ n ∷ []) ≡ true
found_last n [] = ap (λ (b : Bool). b || false) (eq-eqb n n refl)
found_last n (x ∷ xs) = either_true (n == x) (list_any (λ other. n == other) (xs ++ n ∷ [])) (found_last n xs)

still_found : (n m : ℕ) (xs : List ℕ) → list_any (λ other. n == other) xs ≡ true → list_any (λ other. n == other) (xs ++ m ∷ []) ≡ true
still_found n m [] e = absurd (true≢false (sym e))
still_found n m (x ∷ xs) e = by (n == x) refl (still_found n m xs) e
  where
    by : (b : Bool) → (n == x) ≡ b → (list_any (λ other. n == other) xs ≡ true → list_any (λ other. n == other) (xs ++ m ∷ []) ≡ true) → b || list_any (λ other. n == other) xs ≡ true → b || list_any (λ other. n == other) (xs ++ m ∷ []) ≡ true
    by true same later here = refl
    by false same later here = later here

pub known_once : (own previous : ℕ) (header : Header) (heard : List ℕ) → found_of own previous header heard ≡ New → found_of own previous header (heard ++ previous ∷ []) ≡ Known
unfolding found_of
known_once own previous header heard e =
    let first = new_only ((previous == own) || not (has_node previous)) (not (is_of_network header)) (list_any (λ other. previous == other) heard) e in
    known_then ((previous == own) || not (has_node previous)) (not (is_of_network header)) (list_any (λ other. previous == other) (heard ++ previous ∷ [])) first.0 first.1 (found_last previous heard)

still_known : (own previous other : ℕ) (header : Header) (heard : List ℕ) → found_of own previous header heard ≡ Known → found_of own previous header (heard ++ other ∷ []) ≡ Known
unfolding found_of
still_known own previous other header heard e =
    let first = known_only ((previous == own) || not (has_node previous)) (not (is_of_network header)) (list_any (λ k. previous == k) heard) e in
    known_then ((previous == own) || not (has_node previous)) (not (is_of_network header)) (list_any (λ k. previous == k) (heard ++ other ∷ [])) first.0 first.1 (still_found previous other heard first.2)

pub known_for_ever : (own previous other : ℕ) (header : Header) (result : Found) (heard : List ℕ) → found_of own previous header heard ≡ Known → found_of own previous header (after_hearing result other heard) ≡ Known
known_for_ever own previous other header New heard e = still_known own previous other header heard e
known_for_ever own previous other header Known heard e = e
known_for_ever own previous other header (Ignored w) heard e = e
