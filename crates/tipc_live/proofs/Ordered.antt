-- The steps of all nodes in order of stamp: each is one of a journal, each of a journal is among them, and no two have
-- one stamp.
use Rattle.std.specs.List.{Contains, count_by}
use Rattle.std.specs.List.Sorted.{IsNonDecreasing, IsPermutation}
use Rattle.std.specs.Prelude.{Some, None, slice_get}
use Rattle.std.proofs.Common.{◌≡◌, ◌⊎◌, inl, inr, ℕ, zero, suc, ◌+◌, ◌-◌, ◌==◌, ◌≤◌, arith, List, [], ◌∷◌, get_or, length, map, take, refl, sym, ◌∙◌, ap, eq-eqb}
use Rattle.std.proofs.lemmas.List.Sorted.{Contains-permutation, IsPermutation-sym}
use Rattle.std.proofs.lemmas.List.Sums.{count_by_more_yes}
use Rattle.std.proofs.lemmas.Option.{get_or_from_slice_get, slice_get-get_or, slice_get_within}
use Rattle.tipc_journal.specs.declared.entries.Entry.{Entry}
use Rattle.tipc_journal.specs.Steps.{PlacedStep, steps}
use Rattle.tipc_node_lock.specs.Locked.{LockedState}
use Rattle.tipc_live.specs.declared.keeping.KeptStep.{KeptStep}
use Rattle.tipc_live.specs.Following.{IsKeptOf}
use Rattle.tipc_live.specs.Keeping.{kept_in, kept_step, uses_in}
use Rattle.tipc_live.specs.Stamping.{kept_from}
use Rattle.tipc_live.proofs.Comparing.{kept_there}
use Rattle.tipc_live.proofs.Nexts.{get_append, get_behind, get_longer}
use Rattle.tipc_live.proofs.Twins.{RiseTo, counted_all, counted_up}

-- ---- places in lists

at_from_contains : (ks : List KeptStep) (k : KeptStep) → Contains ks k → (j : ℕ) × (slice_get ks j ≡ Some k)
at_from_contains ks k (j, within, is) = (j, slice_get-get_or ks j k within ∙ ap Some is)

contains_from_at : (ks : List KeptStep) (j : ℕ) (k : KeptStep) → slice_get ks j ≡ Some k → Contains ks k
contains_from_at ks j k there = (j, slice_get_within ks j k there, get_or_from_slice_get ks j k k there)

-- in another order a step stands somewhere too
moved : (ks ls : List KeptStep) (j : ℕ) (k : KeptStep) → IsPermutation ks ls → slice_get ks j ≡ Some k → (i : ℕ) × (slice_get ls i ≡ Some k)
moved ks ls j k same there = at_from_contains ls k (Contains-permutation ks ls k same (contains_from_at ks j k there))

-- ---- the steps of the nodes

-- each step of a node's journal is among those that are kept
kept_of_node : (place : ℕ) (journal : List Entry) (i : ℕ) (p : PlacedStep) → slice_get (steps journal) i ≡ Some p → slice_get (kept_in place journal) i ≡ Some (kept_step place p)
unfolding kept_in
kept_of_node place journal i p there = at (steps journal) i there
  where
    at : (ps : List PlacedStep) (j : ℕ) → slice_get ps j ≡ Some p → slice_get (map (kept_step place) ps) j ≡ Some (kept_step place p)
    at [] j is = let none : None ≡ Some p = is in absurd cc
    at (q ∷ qs) zero is = let one : Some q ≡ Some p = is in let same : q ≡ p = cc in ap (λ x. Some (kept_step place x)) same
    at (q ∷ qs) (suc j) is = at qs j is

among_kept : {P : Type 0} (base : ℕ) (nodes : List (LockedState P)) (place i : ℕ) (n : LockedState P) (p : PlacedStep) → slice_get nodes place ≡ Some n
    → slice_get (steps n.node.journal) i ≡ Some p → (j : ℕ) × (slice_get (kept_from base nodes) j ≡ Some (kept_step (base + place) p))
among_kept base [] place i n p there stands = let none : None ≡ Some n = there in absurd cc
among_kept {P} base (m ∷ ms) zero i n p there stands =
    let one : Some m ≡ Some n = there in
    let same : m ≡ n = cc in
    let e : base ≡ base + 0 = omega arith in
    let here = kept_of_node base m.node.journal i p (ap (λ (x : LockedState P). slice_get (steps x.node.journal) i) same ∙ stands) in
    (i, get_longer (kept_in base m.node.journal) (kept_from (base + 1) ms) i (kept_step base p) here ∙ ap (λ b. Some (kept_step b p)) e)
among_kept base (m ∷ ms) (suc place) i n p there stands =
    let later = among_kept (base + 1) ms place i n p there stands in
    let e : base + 1 + place ≡ base + suc place = omega arith in
    let behind = get_behind (kept_in base m.node.journal) (kept_from (base + 1) ms) later.0 (kept_step (base + 1 + place) p) later.1 in
    (behind.0, behind.1 ∙ ap (λ b. Some (kept_step b p)) e)

-- each kept step is one of a journal
pub record IsFrom {P : Type 0} (base : ℕ) (nodes : List (LockedState P)) (k : KeptStep) : Type 0 where
  pub place : ℕ
  pub node : LockedState P
  pub there : slice_get nodes place ≡ Some node
  pub index : ℕ
  pub placed : PlacedStep
  pub stands : slice_get (steps node.node.journal) index ≡ Some placed
  pub is : k ≡ kept_step (base + place) placed

first_or_later : {P : Type 0} (base : ℕ) (m : LockedState P) (ms : List (LockedState P)) (j : ℕ) (k : KeptStep) → ((i : ℕ) → slice_get (kept_from (base + 1) ms) i ≡ Some k → IsFrom (base + 1) ms k)
    → (slice_get (kept_in base m.node.journal) j ≡ Some k) ⊎ ((i : ℕ) × (slice_get (kept_from (base + 1) ms) i ≡ Some k)) → IsFrom base (m ∷ ms) k
first_or_later base m ms j k rest (inl here) =
    let at = kept_there base m.node.journal (kept_in base m.node.journal) j k refl here in
    let e : base ≡ base + 0 = omega arith in
    record { place = 0; node = m; there = refl; index = j; placed = at.placed; stands = at.there; is = at.is ∙ ap (λ b. kept_step b at.placed) e }
first_or_later base m ms j k rest (inr (i, later)) =
    let at = rest i later in
    let e : base + 1 + at.place ≡ base + suc at.place = omega arith in
    record { place = suc at.place; node = at.node; there = at.there; index = at.index; placed = at.placed; stands = at.stands; is = at.is ∙ ap (λ b. kept_step b at.placed) e }

from_kept : {P : Type 0} (base : ℕ) (nodes : List (LockedState P)) (j : ℕ) (k : KeptStep) → slice_get (kept_from base nodes) j ≡ Some k → IsFrom base nodes k
from_kept base [] j k there = let none : None ≡ Some k = there in absurd cc
from_kept {P} base (m ∷ ms) j k there = first_or_later base m ms j k (λ i later. from_kept (base + 1) ms i k later) (get_append (kept_in base m.node.journal) (kept_from (base + 1) ms) j k there)

-- each of them is a step of its node
pub kept_of : {P : Type 0} (nodes : List (LockedState P)) (ks : List KeptStep) (j : ℕ) (k : KeptStep) → IsPermutation (kept_from 0 nodes) ks → slice_get ks j ≡ Some k → IsKeptOf nodes k
kept_of nodes ks j k same there =
    let at = moved ks (kept_from 0 nodes) j k (IsPermutation-sym (kept_from 0 nodes) ks same) there in
    let f = from_kept 0 nodes at.0 k at.1 in
    let e : 0 + f.place ≡ f.place = omega arith in
    let is : k ≡ kept_step f.place f.placed = f.is ∙ ap (λ b. kept_step b f.placed) e in
    let node_is : k.node ≡ f.place = ap (λ (x : KeptStep). x.node) is in
    record {
      node = f.node;
      there = ap (slice_get nodes) node_is ∙ f.there;
      index = f.index;
      placed = f.placed;
      stands = f.stands;
      is = is ∙ ap (λ b. kept_step b f.placed) (sym node_is);
    }

-- each step of a node is one of them
pub among_all : {P : Type 0} (nodes : List (LockedState P)) (ks : List KeptStep) (place i : ℕ) (n : LockedState P) (p : PlacedStep) → IsPermutation (kept_from 0 nodes) ks
    → slice_get nodes place ≡ Some n → slice_get (steps n.node.journal) i ≡ Some p → (j : ℕ) × (slice_get ks j ≡ Some (kept_step place p))
among_all nodes ks place i n p same there stands =
    let at = among_kept 0 nodes place i n p there stands in
    let e : 0 + place ≡ place = omega arith in
    moved (kept_from 0 nodes) ks at.0 (kept_step place p) same (at.1 ∙ ap (λ b. Some (kept_step b p)) e)

-- ---- stamps

-- where no stamp stands twice, stamps that don't fall rise
pub rise_where_once : (xs : List ℕ) → IsNonDecreasing xs → ((x : ℕ) → uses_in xs x ≤ 1) → RiseTo xs (length xs)
rise_where_once xs order once i j before within =
    let up = order i j 0 (omega (arith, before)) within in
    let other : get_or xs i 0 ≡ get_or xs j 0 → ⊥ = λ same. twice same in
    omega (arith, up, other)
  where
    twice : get_or xs i 0 ≡ get_or xs j 0 → ⊥
    twice same =
        let one = count_by_more_yes (λ y. y == get_or xs j 0) xs i 0 (omega (arith, before, within)) (eq-eqb _ _ same) in
        let two = count_by_more_yes (λ y. y == get_or xs j 0) xs j 0 within (eq-eqb (get_or xs j 0) _ refl) in
        let first = counted_up (λ y. y == get_or xs j 0) xs (i + 1) (j - (i + 1)) (omega (arith, before, within)) in
        let link : i + 1 + (j - (i + 1)) ≡ j = omega (arith, before) in
        let here = ap (λ k. count_by (λ y. y == get_or xs j 0) (take k xs)) link in
        let second = counted_up (λ y. y == get_or xs j 0) xs (j + 1) (length xs - (j + 1)) (omega (arith, within)) in
        let all = counted_all (λ y. y == get_or xs j 0) xs (j + 1 + (length xs - (j + 1))) (omega (arith, within)) in
        let most = once (get_or xs j 0) in
        absurd (omega (arith, one, two, first, here, second, all, most))
