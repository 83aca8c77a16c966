-- The steps of all nodes, put together node by node, and their stamps.
use Rattle.std.specs.List.{count_by, flat_map}
use Rattle.std.specs.List.Sorted.{IsPermutation}
use Rattle.std.proofs.Common.{◌≡◌, ℕ, ◌+◌, ◌==◌, ◌<◌, ◌≤◌, Bool, cond, arith, List, [], ◌∷◌, ◌++◌, get_or, length, map, take, refl, sym, ◌∙◌, ap, append_assoc}
use Rattle.std.proofs.lemmas.List.{append-nil, length-take, map-append, take_more}
use Rattle.std.proofs.lemmas.List.Sorted.{IsPermutation-map, sum_by-IsPermutation}
use Rattle.tipc_journal.specs.declared.entries.Entry.{Entry}
use Rattle.tipc_journal.specs.Counting.{stamps}
use Rattle.tipc_journal.specs.Steps.{PlacedStep, steps}
use Rattle.tipc_node_lock.specs.Locked.{LockedState}
use Rattle.tipc_live.specs.declared.keeping.KeptStep.{KeptStep}
use Rattle.tipc_live.specs.Keeping.{FirstTwice, kept_in, kept_step, stamp_of, uses_in}
use Rattle.tipc_live.specs.Stamping.{all_stamps, kept_from}

-- one node more
pub kept_from_more : {P : Type 0} (place : ℕ) (ns : List (LockedState P)) (n : LockedState P)
    → kept_from place (ns ++ n ∷ []) ≡ kept_from place ns ++ kept_in (place + length ns) n.node.journal
kept_from_more place [] n =
    let e : place ≡ place + 0 = omega arith in
    append-nil (kept_in place n.node.journal) ∙ ap (λ k. kept_in k n.node.journal) e
kept_from_more place (m ∷ ms) n =
    let e : place + 1 + length ms ≡ place + length (m ∷ ms) = omega arith in
    ap (λ w. kept_in place m.node.journal ++ w) (kept_from_more (place + 1) ms n ∙ ap (λ k. kept_from (place + 1) ms ++ kept_in k n.node.journal) e)
    ∙ sym (append_assoc (kept_in place m.node.journal) (kept_from (place + 1) ms) (kept_in (place + length (m ∷ ms)) n.node.journal))

-- the next node of a list
pub kept_from_next : {P : Type 0} (ns : List (LockedState P)) (i : ℕ) (n : LockedState P) (ks more : List KeptStep) → i < length ns → n ≡ get_or ns i n
    → ks ≡ kept_from 0 (take i ns) → more ≡ ks ++ kept_in i n.node.journal → more ≡ kept_from 0 (take (i + 1) ns)
kept_from_next ns i n ks more within is was new =
    let size : 0 + length (take i ns) ≡ i = omega (arith, length-take i ns, within) in
    new ∙ ap (λ w. w ++ kept_in i n.node.journal) was ∙ ap (λ k. kept_from 0 (take i ns) ++ kept_in k n.node.journal) (sym size)
    ∙ sym (kept_from_more 0 (take i ns) n) ∙ ap (λ x. kept_from 0 (take i ns ++ x ∷ [])) is ∙ ap (kept_from 0) (sym (take_more ns i n within))

-- ---- stamps

-- the stamps of placed steps
stamps_of : (place : ℕ) (ps : List PlacedStep) → map stamp_of (map (kept_step place) ps) ≡ map (λ p. p.step.by.stamp) ps
stamps_of place [] = refl
stamps_of place (p ∷ ps) = ap (λ w. p.step.by.stamp ∷ w) (stamps_of place ps)

stamps_in : (place : ℕ) (journal : List Entry) → map stamp_of (kept_in place journal) ≡ stamps journal
unfolding kept_in stamps
stamps_in place journal = stamps_of place (steps journal)

stamps_from : {P : Type 0} (place : ℕ) (ns : List (LockedState P)) → map stamp_of (kept_from place ns) ≡ flat_map (λ n. stamps n.node.journal) ns
stamps_from place [] = refl
stamps_from place (n ∷ ns) =
    map-append stamp_of (kept_in place n.node.journal) (kept_from (place + 1) ns)
    ∙ ap (λ w. w ++ map stamp_of (kept_from (place + 1) ns)) (stamps_in place n.node.journal)
    ∙ ap (λ w. stamps n.node.journal ++ w) (stamps_from (place + 1) ns)

-- ---- counts of a list in another order

count_same : (p : ℕ → Bool) (xs ys : List ℕ) → IsPermutation xs ys → count_by p ys ≡ count_by p xs
count_same p xs ys same = sum_by-IsPermutation (λ x. cond (p x) 1 0) xs ys same

-- a stamp stands as often in the steps of all nodes, in any order, as in their journals
pub same_uses : {P : Type 0} (nodes : List (LockedState P)) (ks : List KeptStep) (stamp : ℕ) → IsPermutation (kept_from 0 nodes) ks
    → uses_in (map stamp_of ks) stamp ≡ uses_in (all_stamps nodes) stamp
unfolding all_stamps
same_uses nodes ks stamp same =
    count_same (λ s. s == stamp) (map stamp_of (kept_from 0 nodes)) (map stamp_of ks) (IsPermutation-map stamp_of (kept_from 0 nodes) ks same)
    ∙ ap (λ w. uses_in w stamp) (stamps_from 0 nodes)

-- so what stands twice first in the one does in the other
pub twice_in_all : {P : Type 0} (nodes : List (LockedState P)) (ks : List KeptStep) (stamp : ℕ) → IsPermutation (kept_from 0 nodes) ks
    → FirstTwice (map stamp_of ks) stamp → FirstTwice (all_stamps nodes) stamp
twice_in_all nodes ks stamp same f = record {
  twice = let here = f.twice in let uses = same_uses nodes ks stamp same in omega (arith, here, uses);
  first = λ s less. let here = f.first s less in let uses = same_uses nodes ks s same in omega (arith, here, uses);
}

pub once_in_all : {P : Type 0} (nodes : List (LockedState P)) (ks : List KeptStep) → IsPermutation (kept_from 0 nodes) ks
    → ((stamp : ℕ) → uses_in (map stamp_of ks) stamp ≤ 1) → (stamp : ℕ) → uses_in (all_stamps nodes) stamp ≤ 1
once_in_all nodes ks same once stamp = let here = once stamp in let uses = same_uses nodes ks stamp same in omega (arith, here, uses)
