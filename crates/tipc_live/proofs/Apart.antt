-- Nodes that can be audited together: each is one of the cluster's, and each address is that of one of them.
use Rattle.std.specs.List.{count_by, list_all}
use Rattle.std.specs.Prelude.{Some, None, nat_le, nat_lt, slice_get}
use Rattle.std.proofs.Common.{◌≡◌, ℕ, zero, suc, ◌+◌, ◌==◌, ◌≤◌, Bool, true, false, cond, arith, List, [], ◌∷◌, refl, sym, ◌∙◌, ap, eq-eqb, eqb-true}
use Rattle.std.proofs.lemmas.List.Sums.{sum_by-cons}
use Rattle.std.proofs.lemmas.Bool.{and_parts}
use Rattle.std.proofs.lemmas.Bool.Decides.{nat_tests}
use Rattle.tipc_types.specs.Address.{node_word}
use Rattle.tipc_node_lock.specs.Locked.{LockedState}
use Rattle.tipc_live.specs.Nodes.{can_audit, is_fit, is_of_cluster}

-- what holds of all holds of one
pub all_at : {X : Type 0} (p : X → Bool) (xs : List X) (i : ℕ) (x : X) → list_all p xs ≡ true → slice_get xs i ≡ Some x → p x ≡ true
all_at p [] i x all there = let none : None ≡ Some x = there in absurd cc
all_at p (y ∷ ys) zero x all there =
    let one : Some y ≡ Some x = there in
    let same : y ≡ x = cc in
    sym (ap p same) ∙ (and_parts (p y) _ all).0
all_at p (y ∷ ys) (suc i) x all there = all_at p ys i x (and_parts (p y) _ all).1 there

-- a count of one element more
count_more : {X : Type 0} (p : X → Bool) (x : X) (xs : List X) (b : Bool) → p x ≡ b → count_by p (x ∷ xs) ≡ cond b 1 0 + count_by p xs
count_more p x xs b is =
    let first = sum_by-cons (λ w. cond (p w) 1 0) x xs in
    let here : ◌≡◌ {A = ℕ} (cond (p x) 1 0) (cond b 1 0) = ap (λ c. cond c 1 0) is in
    omega (arith, first, here)

-- one that passes is counted
counted_at : {X : Type 0} (p : X → Bool) (xs : List X) (i : ℕ) (x : X) → slice_get xs i ≡ Some x → p x ≡ true → 1 ≤ count_by p xs
counted_at p [] i x there passes = let none : None ≡ Some x = there in absurd cc
counted_at p (y ∷ ys) zero x there passes =
    let one : Some y ≡ Some x = there in
    let same : y ≡ x = cc in
    let count = count_more p y ys true (ap p same ∙ passes) in
    omega (arith, count)
counted_at p (y ∷ ys) (suc i) x there passes =
    let later = counted_at p ys i x there passes in
    let count = count_more p y ys (p y) refl in
    omega (arith, later, count)

-- where one passes, it stands at one place
sole_at : {X : Type 0} (p : X → Bool) (xs : List X) (i j : ℕ) (x y : X) → count_by p xs ≡ 1 → slice_get xs i ≡ Some x → p x ≡ true
    → slice_get xs j ≡ Some y → p y ≡ true → i ≡ j
sole_at p [] i j x y one there passes there' passes' = let none : None ≡ Some x = there in absurd cc
sole_at p (z ∷ zs) zero zero x y one there passes there' passes' = refl
sole_at p (z ∷ zs) zero (suc j) x y one there passes there' passes' =
    let is : Some z ≡ Some x = there in
    let same : z ≡ x = cc in
    let count = count_more p z zs true (ap p same ∙ passes) in
    let more = counted_at p zs j y there' passes' in
    absurd (omega (arith, count, more, one))
sole_at p (z ∷ zs) (suc i) zero x y one there passes there' passes' =
    let is : Some z ≡ Some y = there' in
    let same : z ≡ y = cc in
    let count = count_more p z zs true (ap p same ∙ passes') in
    let more = counted_at p zs i x there passes in
    absurd (omega (arith, count, more, one))
sole_at p (z ∷ zs) (suc i) (suc j) x y one there passes there' passes' =
    (elim (p z) as (λ b. p z ≡ b → suc i ≡ suc j) [
      | true ↦ λ first.
          let count = count_more p z zs true first in
          let more = counted_at p zs i x there passes in
          absurd (omega (arith, count, more, one))
      | false ↦ λ first.
          let count = count_more p z zs false first in
          let left : count_by p zs ≡ 1 = omega (arith, count, one) in
          ap suc (sole_at p zs i j x y left there passes there' passes')
    ]) refl

-- each node is one of the cluster's
pub cluster_at : {P : Type 0} (nodes : List (LockedState P)) (i : ℕ) (n : LockedState P) → can_audit nodes ≡ true → slice_get nodes i ≡ Some n
    → is_of_cluster n ≡ true
unfolding can_audit
cluster_at nodes i n can there = (and_parts (is_of_cluster n) _ (all_at (is_fit nodes) nodes i n can there)).0

-- and in a boot from 1 on
pub boot_of : {P : Type 0} (n : LockedState P) → is_of_cluster n ≡ true → 1 ≤ n.node.boot
boot_of n is = from (n.node.boot) (and_parts (nat_le n.node.own (node_word 32)) _ (and_parts (nat_lt (node_word 0) n.node.own) _ is).1).1
  where
    from : (boot : ℕ) → nat_le 1 boot ≡ true → 1 ≤ boot
    from boot is = grind (arith, nat_tests)

-- two places of one address are one
pub apart : {P : Type 0} (nodes : List (LockedState P)) (i j : ℕ) (n m : LockedState P) → can_audit nodes ≡ true → slice_get nodes i ≡ Some n
    → slice_get nodes j ≡ Some m → m.node.own ≡ n.node.own → i ≡ j
unfolding can_audit
apart nodes i j n m can there there' same =
    let sole = (and_parts (is_of_cluster n) _ (all_at (is_fit nodes) nodes i n can there)).1 in
    let one : count_by (λ x. x.node.own == n.node.own) nodes ≡ 1 = eqb-true _ _ sole in
    sole_at (λ x. x.node.own == n.node.own) nodes i j n m one there (eq-eqb n.node.own n.node.own refl) there' (eq-eqb m.node.own n.node.own same)
