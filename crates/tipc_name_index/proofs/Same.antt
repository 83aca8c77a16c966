-- The same publications in two orders.
use Rattle.std.proofs.Common.{◌≡◌, ℕ, suc, ◌+◌, ◌≤◌, Bool, true, false, cond, ◌&&◌, not, List, [], ◌∷◌, ◌++◌, Contains, filter, refl, sym, ap, ap₂, subst, ◌∙◌, true≢false, eqb-true, arith, IsPermutation}
use Rattle.std.specs.Prelude.{count_by, find, Option, None, Some, unwrap_or, ◌==◌}
use Rattle.std.specs.List.{AllByRecursion, AllPairs}
use Rattle.std.specs.List.Sorted.{IsStrictlySortedBy}
use Rattle.std.specs.Ordering.{is_lt}
use Rattle.std.specs.declared.cmp.Ordering.TheVariants.{Less}
use Rattle.std.proofs.lemmas.Bool.Decides.{nat_tests}
use Rattle.std.proofs.lemmas.List.Elements.{recursion_from_All}
use Rattle.std.proofs.lemmas.Option.{none-some}
use Rattle.std.proofs.lemmas.List.Filters.{sum_by-filter_both}
use Rattle.std.proofs.lemmas.List.Sorted.{sum_by-IsPermutation}
use Rattle.std.proofs.lemmas.List.Sums.{sum_by-append, sum_by-cons}
use Rattle.tipc_types.specs.declared.services.Publication.{Publication}
use Rattle.tipc_types.specs.declared.services.Scope.{Scope}
use Rattle.tipc_types.specs.declared.services.Scope.TheVariants.{Zone, Cluster, Node}
use Rattle.tipc_types.specs.Tables.{is_named, place_cmp, put, stands_before}
use Rattle.tipc_types.proofs.Places.{count_by-put}
use Rattle.tipc_name_index.specs.Ranges.{AreSame}
use Rattle.tipc_name_index.proofs.Order.{none_counted}

counted : (test : Publication → Bool) (p : Publication) (ps : List Publication) → count_by test (p ∷ ps) ≡ cond (test p) 1 0 + count_by test ps
counted test p ps = sum_by-cons (λ q. cond (test q) 1 0) p ps

pub same_moved : (ps qs : List Publication) → IsPermutation ps qs → AreSame ps qs
same_moved ps qs h test = sym (sum_by-IsPermutation (λ p. cond (test p) 1 0) ps qs h)

-- one more of each
pub same_with_one : (before : Publication → Bool) (p : Publication) (ps qs : List Publication) → AreSame ps qs → AreSame (put p ps) (filter before qs ++ p ∷ filter (λ q. not (before q)) qs)
same_with_one before p ps qs h test =
    let one = count_by-put test p ps in
    let both = sum_by-append (λ q. cond (test q) 1 0) (filter before qs) (p ∷ filter (λ q. not (before q)) qs) in
    let later = counted test p (filter (λ q. not (before q)) qs) in
    let parts = sum_by-filter_both before (λ q. not (before q)) (λ _. refl) (λ q. cond (test q) 1 0) qs in
    let same = h test in
    omega (arith, one, both, later, parts, same)

count_by-kept : (kept test : Publication → Bool) (ps : List Publication) → count_by test (filter kept ps) ≡ count_by (λ p. kept p && test p) ps
count_by-kept kept test [] = refl
count_by-kept kept test (p ∷ ps) = by (kept p) refl (count_by-kept kept test ps)
  where
    by : (b : Bool) → kept p ≡ b → count_by test (filter kept ps) ≡ count_by (λ q. kept q && test q) ps → count_by test (cond b (p ∷ filter kept ps) (filter kept ps)) ≡ count_by (λ q. kept q && test q) (p ∷ ps)
    by true e rest =
        let here : ◌≡◌ {A = ℕ} (cond (kept p && test p) 1 0) (cond (test p) 1 0) = ap (λ (a : Bool). cond (a && test p) 1 0) e in
        omega (arith, here, rest, counted test p (filter kept ps), counted (λ q. kept q && test q) p ps)
    by false e rest =
        let here : ◌≡◌ {A = ℕ} (cond (kept p && test p) 1 0) 0 = ap (λ (a : Bool). cond (a && test p) 1 0) e in
        omega (arith, here, rest, counted (λ q. kept q && test q) p ps)

-- those of each that pass a test
pub same_kept : (kept : Publication → Bool) (ps qs : List Publication) → AreSame ps qs → AreSame (filter kept ps) (filter kept qs)
same_kept kept ps qs h test = count_by-kept kept test ps ∙ h (λ p. kept p && test p) ∙ sym (count_by-kept kept test qs)

-- ---- whether two publications are the same one

same_scope : Scope → Scope → Bool
same_scope Zone Zone = true
same_scope Cluster Cluster = true
same_scope Node Node = true
same_scope s t = false

same_scope_is : (s t : Scope) → same_scope s t ≡ true → s ≡ t
unfolding same_scope
same_scope_is Zone Zone e = refl
same_scope_is Zone Cluster e = absurd (true≢false (sym e))
same_scope_is Zone Node e = absurd (true≢false (sym e))
same_scope_is Cluster Zone e = absurd (true≢false (sym e))
same_scope_is Cluster Cluster e = refl
same_scope_is Cluster Node e = absurd (true≢false (sym e))
same_scope_is Node Zone e = absurd (true≢false (sym e))
same_scope_is Node Cluster e = absurd (true≢false (sym e))
same_scope_is Node Node e = refl

scope_itself : (s : Scope) → same_scope s s ≡ true
unfolding same_scope
scope_itself Zone = refl
scope_itself Cluster = refl
scope_itself Node = refl

pub is_same : Publication → Publication → Bool
is_same p q =
    (p.range.kind == q.range.kind) && ((p.range.lower == q.range.lower) && ((p.range.upper == q.range.upper) && ((p.at.node.word == q.at.node.word) && ((p.at.port == q.at.port) && ((p.key == q.key) && same_scope p.scope q.scope)))))

pub both_true : (a b : Bool) → a && b ≡ true → (a ≡ true) × (b ≡ true)
both_true true b e = (refl, e)
both_true false b e = absurd (true≢false (sym e))

pub and_true : (a b : Bool) → a ≡ true → b ≡ true → a && b ≡ true
and_true a b e k = ap (λ x. x && b) e ∙ k

same_is : (p q : Publication) → is_same p q ≡ true → p ≡ q
unfolding is_same
same_is p q e =
    let a = both_true (p.range.kind == q.range.kind) _ e in
    let b = both_true (p.range.lower == q.range.lower) _ a.1 in
    let c = both_true (p.range.upper == q.range.upper) _ b.1 in
    let d = both_true (p.at.node.word == q.at.node.word) _ c.1 in
    let f = both_true (p.at.port == q.at.port) _ d.1 in
    let g = both_true (p.key == q.key) _ f.1 in
    let kind : p.range.kind ≡ q.range.kind = eqb-true _ _ a.0 in
    let lower : p.range.lower ≡ q.range.lower = eqb-true _ _ b.0 in
    let upper : p.range.upper ≡ q.range.upper = eqb-true _ _ c.0 in
    let node : p.at.node.word ≡ q.at.node.word = eqb-true _ _ d.0 in
    let port : p.at.port ≡ q.at.port = eqb-true _ _ f.0 in
    let key : p.key ≡ q.key = eqb-true _ _ g.0 in
    let scope : p.scope ≡ q.scope = same_scope_is p.scope q.scope g.1 in
    λ i. record {
      range = record { kind = kind i; lower = lower i; upper = upper i };
      scope = scope i;
      at = record { node = record { word = node i }; port = port i };
      key = key i;
    }

itself : (n : ℕ) → (n == n) ≡ true
itself n = grind (arith, nat_tests)

pub named_itself : (p : Publication) → is_named p.at.node.word p.key p ≡ true
named_itself p = and_true _ _ (itself p.at.node.word) (itself p.key)

same_itself : (p : Publication) → is_same p p ≡ true
unfolding is_same
same_itself p =
    and_true _ _ (itself p.range.kind) (and_true _ _ (itself p.range.lower) (and_true _ _ (itself p.range.upper) (and_true _ _ (itself p.at.node.word) (and_true _ _ (itself p.at.port) (and_true _ _ (itself p.key) (scope_itself p.scope))))))

-- what holds of all holds of one that is counted among them
held_by : (P : Publication → Type 0) (p : Publication) (ps : List Publication) → AllByRecursion P ps → 1 ≤ count_by (is_same p) ps → P p
held_by P p [] h some = absurd (omega (arith, some))
held_by P p (q ∷ qs) h some = by (is_same p q) refl (held_by P p qs h.1)
  where
    by : (b : Bool) → is_same p q ≡ b → (1 ≤ count_by (is_same p) qs → P p) → P p
    by true e later = subst P (sym (same_is p q e)) h.0
    by false e later =
        let here : ◌≡◌ {A = ℕ} (cond (is_same p q) 1 0) 0 = ap (λ (b : Bool). cond b 1 0) e in
        later (omega (arith, some, here, counted (is_same p) q qs))

there_from : (p : Publication) (ps : List Publication) → 1 ≤ count_by (is_same p) ps → Contains ps p
there_from p [] some = absurd (omega (arith, some))
there_from p (q ∷ qs) some = by (is_same p q) refl (there_from p qs)
  where
    by : (b : Bool) → is_same p q ≡ b → (1 ≤ count_by (is_same p) qs → Contains qs p) → Contains (q ∷ qs) p
    by true e rest = (0, omega arith, sym (same_is p q e))
    by false e rest =
        let here : ◌≡◌ {A = ℕ} (cond (is_same p q) 1 0) 0 = ap (λ (b : Bool). cond b 1 0) e in
        let later = rest (omega (arith, some, here, counted (is_same p) q qs)) in
        (suc later.0, omega (arith, later.1), later.2)

-- what a search finds is the one that it found
found_is : (p q : Publication) (qs : List Publication) (test : Publication → Bool) → test q ≡ true → find test (q ∷ qs) ≡ Some p → q ≡ p
found_is p q qs test k e = ap (λ (o : Option Publication). unwrap_or o q) (sym (ap (λ (b : Bool). cond b (Some q) (find test qs)) k) ∙ e)

found_later : (p q : Publication) (qs : List Publication) (test : Publication → Bool) → test q ≡ false → find test (q ∷ qs) ≡ Some p → find test qs ≡ Some p
found_later p q qs test k e = sym (ap (λ (b : Bool). cond b (Some q) (find test qs)) k) ∙ e

pub found_counted : (test : Publication → Bool) (p : Publication) (ps : List Publication) → find test ps ≡ Some p → 1 ≤ count_by (is_same p) ps
found_counted test p [] e = absurd cc
found_counted test p (q ∷ qs) e = by (test q) refl (found_counted test p qs)
  where
    by : (b : Bool) → test q ≡ b → (find test qs ≡ Some p → 1 ≤ count_by (is_same p) qs) → 1 ≤ count_by (is_same p) (q ∷ qs)
    by true k later =
        let here : ◌≡◌ {A = ℕ} (cond (is_same p q) 1 0) 1 = ap (λ (b : Bool). cond b 1 0) (subst (λ (r : Publication). is_same r q ≡ true) (found_is p q qs test k e) (same_itself q)) in
        omega (arith, here, counted (is_same p) q qs)
    by false k later = let some = later (found_later p q qs test k e) in omega (arith, some, counted (is_same p) q qs)

-- what is found passes, and is there in whatever order
pub found_there : (test : Publication → Bool) (p : Publication) (ps qs : List Publication) → AreSame ps qs → find test ps ≡ Some p → Contains ps p × Contains qs p
found_there test p ps qs h e =
    let some = found_counted test p ps e in
    let same = h (is_same p) in
    (there_from p ps some, there_from p qs (omega (arith, some, same)))

pub found_passes : (test : Publication → Bool) (p : Publication) (ps : List Publication) → find test ps ≡ Some p → test p ≡ true
found_passes test p [] e = absurd cc
found_passes test p (q ∷ qs) e = by (test q) refl (found_passes test p qs)
  where
    by : (b : Bool) → test q ≡ b → (find test qs ≡ Some p → test p ≡ true) → test p ≡ true
    by true k later = subst (λ (r : Publication). test r ≡ true) (found_is p q qs test k e) k
    by false k later = later (found_later p q qs test k e)

-- where one alone passes, and it is there, a search finds it
pub same_found : (test : Publication → Bool) (p : Publication) (ps : List Publication) → test p ≡ true → 1 ≤ count_by (is_same p) ps → count_by test ps ≤ 1 → find test ps ≡ Some p
same_found test p [] passes some one = absurd (omega (arith, some))
same_found test p (q ∷ qs) passes some one = by (test q) (is_same p q) refl refl (same_found test p qs passes)
  where
    by : (b c : Bool) → test q ≡ b → is_same p q ≡ c → (1 ≤ count_by (is_same p) qs → count_by test qs ≤ 1 → find test qs ≡ Some p) → cond b (Some q) (find test qs) ≡ Some p
    by true true k e later = ap (λ (r : Publication). Some r) (sym (same_is p q e))
    by true false k e later =
        let here : ◌≡◌ {A = ℕ} (cond (is_same p q) 1 0) 0 = ap (λ (b : Bool). cond b 1 0) e in
        let passed : ◌≡◌ {A = ℕ} (cond (test q) 1 0) 1 = ap (λ (b : Bool). cond b 1 0) k in
        let none : count_by test qs ≡ 0 = omega (arith, one, passed, counted test q qs) in
        absurd (true≢false (sym passes ∙ held_by (λ r. test r ≡ false) p qs (none_counted test qs none) (omega (arith, some, here, counted (is_same p) q qs))))
    by false true k e later = absurd (true≢false (sym passes ∙ ap test (same_is p q e) ∙ k))
    by false false k e later =
        let here : ◌≡◌ {A = ℕ} (cond (is_same p q) 1 0) 0 = ap (λ (b : Bool). cond b 1 0) e in
        let passed : ◌≡◌ {A = ℕ} (cond (test q) 1 0) 0 = ap (λ (b : Bool). cond b 1 0) k in
        later (omega (arith, some, here, counted (is_same p) q qs)) (omega (arith, one, passed, counted test q qs))

-- where a search finds none, none passes
pub unfound : (test : Publication → Bool) (ps : List Publication) → find test ps ≡ None → count_by test ps ≡ 0
unfound test [] e = refl
unfound test (p ∷ ps) e = by (test p) refl (unfound test ps)
  where
    by : (b : Bool) → test p ≡ b → (find test ps ≡ None → count_by test ps ≡ 0) → count_by test (p ∷ ps) ≡ 0
    by true k later = absurd (none-some p (sym e ∙ ap (λ (b : Bool). cond b (Some p) (find test ps)) k))
    by false k later =
        let passed : ◌≡◌ {A = ℕ} (cond (test p) 1 0) 0 = ap (λ (b : Bool). cond b 1 0) k in
        let rest = later (sym (ap (λ (b : Bool). cond b (Some p) (find test ps)) k) ∙ e) in
        omega (arith, passed, rest, counted test p ps)

-- ---- two lists of the same publications, each in order of node, port and key, are one list

pub in_order_is : (ps qs : List Publication) → IsStrictlySortedBy place_cmp ps → AllPairs (λ p q. stands_before q p ≡ false) qs → AreSame ps qs → qs ≡ ps
unfolding IsStrictlySortedBy
in_order_is [] [] h k s = refl
in_order_is [] (q ∷ qs) h k s = let none = s (λ _. true) in absurd (omega (arith, none, counted (λ _. true) q qs))
in_order_is (p ∷ ps) [] h k s = let none = s (λ _. true) in absurd (omega (arith, none, counted (λ _. true) p ps))
in_order_is (p ∷ ps) (q ∷ qs) h k s = ap₂ (λ r rs. r ∷ rs) (sym first) (in_order_is ps qs h.1 (λ i j d below within. k (suc i) (suc j) d (omega arith) (omega arith)) rest)
  where
    first : p ≡ q
    first = by (is_same p q) (is_same q p) refl refl
      where
        by : (b c : Bool) → is_same p q ≡ b → is_same q p ≡ c → p ≡ q
        by true c e f = same_is p q e
        by false true e f = sym (same_is q p f)
        by false false e f =
            let one : ◌≡◌ {A = ℕ} (cond (is_same p p) 1 0) 1 = ap (λ (b : Bool). cond b 1 0) (same_itself p) in
            let two : ◌≡◌ {A = ℕ} (cond (is_same q q) 1 0) 1 = ap (λ (b : Bool). cond b 1 0) (same_itself q) in
            let other : ◌≡◌ {A = ℕ} (cond (is_same p q) 1 0) 0 = ap (λ (b : Bool). cond b 1 0) e in
            let another : ◌≡◌ {A = ℕ} (cond (is_same q p) 1 0) 0 = ap (λ (b : Bool). cond b 1 0) f in
            let p_there = held_by (λ r. stands_before r q ≡ false) p qs (recursion_from_All (λ r. stands_before r q ≡ false) qs (λ j d within. k 0 (suc j) d (omega arith) (omega arith)))
            (omega (arith, one, other, s (is_same p), counted (is_same p) p ps, counted (is_same p) q qs)) in
            let q_there = held_by (λ r. place_cmp p r ≡ Less) q ps h.0
            (omega (arith, two, another, s (is_same q), counted (is_same q) p ps, counted (is_same q) q qs)) in
            absurd (true≢false (sym (ap is_lt q_there) ∙ p_there))

    rest : AreSame ps qs
    rest test =
        let here : ◌≡◌ {A = ℕ} (cond (test p) 1 0) (cond (test q) 1 0) = ap (λ (r : Publication). cond (test r) 1 0) first in
        omega (arith, here, s test, counted test p ps, counted test q qs)

-- ---- one that passes a test is among those that are kept

pub find_kept : (test kept : Publication → Bool) → ((p : Publication) → test p ≡ true → kept p ≡ true) → (ps : List Publication) → find test (filter kept ps) ≡ find test ps
find_kept test kept h [] = refl
find_kept test kept h (p ∷ ps) = by (kept p) (test p) refl refl (find_kept test kept h ps)
  where
    by : (b c : Bool) → kept p ≡ b → test p ≡ c → find test (filter kept ps) ≡ find test ps → find test (cond b (p ∷ filter kept ps) (filter kept ps)) ≡ cond (test p) (Some p) (find test ps)
    by true c e f rest = ap (λ (o : Option Publication). cond (test p) (Some p) o) rest
    by false true e f rest = absurd (true≢false (sym (h p f) ∙ e))
    by false false e f rest = rest ∙ ap (λ (b : Bool). cond b (Some p) (find test ps)) (sym f)
