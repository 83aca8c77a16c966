-- Publications that are some of those that are there can be removed one after another.
use Rattle.std.specs.Prelude.{◌==◌, ◌&&◌, count_by, find, nat_eq}
use Rattle.std.proofs.Common.{◌≡◌, ◌+◌, ◌≤◌, ◌∷◌, [], ℕ, Bool, true, false, List, Some, cond, filter, fold, refl, sym, ap, ◌∙◌, arith, true≢false, eqb-true}
use Rattle.std.proofs.lemmas.Bool.Decides.{nat_tests}
use Rattle.std.proofs.lemmas.List.Sums.{sum_by-cons}
use Rattle.tipc_types.specs.declared.services.Publication.{Publication}
use Rattle.tipc_types.specs.declared.services.Scope.{Scope}
use Rattle.tipc_types.specs.declared.services.Scope.TheVariants.{Node, Cluster, Zone}
use Rattle.tipc_types.specs.Watching.{is_same_name}
use Rattle.tipc_topology.specs.Transitions.{left_by, AreRemovable}
use Rattle.tipc_topology.proofs.Removing.{counted_left}

-- ---- the same publication

abbrev pub scope_eq : Scope → Scope → Bool
scope_eq Node Node = true
scope_eq Cluster Cluster = true
scope_eq Zone Zone = true
scope_eq s t = false

scope_same : (s t : Scope) → scope_eq s t ≡ true → s ≡ t
scope_same Node Node e = refl
scope_same Cluster Cluster e = refl
scope_same Zone Zone e = refl
scope_same Node Cluster e = absurd (true≢false (sym e))
scope_same Node Zone e = absurd (true≢false (sym e))
scope_same Cluster Node e = absurd (true≢false (sym e))
scope_same Cluster Zone e = absurd (true≢false (sym e))
scope_same Zone Node e = absurd (true≢false (sym e))
scope_same Zone Cluster e = absurd (true≢false (sym e))

scope_itself : (s : Scope) → scope_eq s s ≡ true
scope_itself Node = refl
scope_itself Cluster = refl
scope_itself Zone = refl

-- whether two publications are the same
abbrev is_same : Publication → Publication → Bool
is_same p q =
    is_same_name p q && ((p.at.port == q.at.port) && (scope_eq p.scope q.scope && ((p.range.kind == q.range.kind) && ((p.range.lower == q.range.lower) && (p.range.upper == q.range.upper)))))

and_parts : (a b : Bool) → a && b ≡ true → (a ≡ true) × (b ≡ true)
and_parts true b e = (refl, e)
and_parts false b e = absurd (true≢false (sym e))

same_is : (p q : Publication) → is_same p q ≡ true → p ≡ q
same_is p q e =
    let one = and_parts (is_same_name p q) _ e in
    let name = and_parts (p.at.node.word == q.at.node.word) (p.key == q.key) one.0 in
    let two = and_parts (p.at.port == q.at.port) _ one.1 in
    let three = and_parts (scope_eq p.scope q.scope) _ two.1 in
    let four = and_parts (p.range.kind == q.range.kind) _ three.1 in
    let five = and_parts (p.range.lower == q.range.lower) (p.range.upper == q.range.upper) four.1 in
    let node : p.at.node.word ≡ q.at.node.word = eqb-true _ _ name.0 in
    let key : p.key ≡ q.key = eqb-true _ _ name.1 in
    let port : p.at.port ≡ q.at.port = eqb-true _ _ two.0 in
    let scope = scope_same p.scope q.scope three.0 in
    let kind : p.range.kind ≡ q.range.kind = eqb-true _ _ four.0 in
    let lower : p.range.lower ≡ q.range.lower = eqb-true _ _ five.0 in
    let upper : p.range.upper ≡ q.range.upper = eqb-true _ _ five.1 in
    (λ i. record {
      range = record { kind = kind i; lower = lower i; upper = upper i };
      scope = scope i;
      at = record { node = record { word = node i }; port = port i };
      key = key i;
    })

eq_itself : (n : ℕ) → nat_eq n n ≡ true
eq_itself n = grind (arith, nat_tests)

same_itself : (p : Publication) → is_same p p ≡ true
same_itself p =
    rw (eq_itself p.at.node.word, eq_itself p.key, eq_itself p.at.port, scope_itself p.scope, eq_itself p.range.kind, eq_itself p.range.lower, eq_itself p.range.upper) refl

-- ---- one of a name

none_of : {A : Type 0} (test : A → Bool) (xs : List A) → count_by test xs ≡ 0 → filter test xs ≡ []
none_of test [] zero = refl
none_of test (x ∷ xs) zero = by (test x) (sym (sum_by-cons (λ y. cond (test y) 1 0) x xs) ∙ zero) (none_of test xs)
  where
    by : (b : Bool) → cond b 1 0 + count_by test xs ≡ 0 → (count_by test xs ≡ 0 → filter test xs ≡ []) → cond b (x ∷ filter test xs) (filter test xs) ≡ []
    by true sum later = absurd (omega (arith, sum))
    by false sum later = later (omega (arith, sum))

-- where one at most passes, and p does and is there, it is the one
pub one_passes : (test : Publication → Bool) (p : Publication) (ps : List Publication) → ((q : Publication) → is_same p q ≡ true → test q ≡ true)
    → count_by test ps ≤ 1 → 1 ≤ count_by (is_same p) ps → filter test ps ≡ p ∷ []
one_passes test p [] all once there = absurd (omega (arith, there))
one_passes test p (q ∷ qs) all once there =
    by (is_same p q) refl (test q) refl (sum_by-cons (λ x. cond (test x) 1 0) q qs) (sum_by-cons (λ x. cond (is_same p x) 1 0) q qs) (one_passes test p qs all)
  where
    each : (x : Publication) → cond {A = ℕ} (is_same p x) 1 0 ≤ cond {A = ℕ} (test x) 1 0
    each x = one (is_same p x) refl
      where
        one : (b : Bool) → is_same p x ≡ b → cond {A = ℕ} b 1 0 ≤ cond {A = ℕ} (test x) 1 0
        one true is = let passes : cond {A = ℕ} (test x) 1 0 ≡ 1 = ap (λ (b : Bool). cond {A = ℕ} b 1 0) (all x is) in omega (arith, passes)
        one false is = omega arith

    passing : (xs : List Publication) → count_by (is_same p) xs ≤ count_by test xs
    passing [] = omega arith
    passing (x ∷ xs) =
        let later = passing xs in
        let sum = sum_by-cons (λ y. cond (test y) 1 0) x xs in
        let some = sum_by-cons (λ y. cond (is_same p y) 1 0) x xs in
        let here = each x in
        omega (arith, later, sum, some, here)

    by : (same : Bool) → is_same p q ≡ same → (passes : Bool) → test q ≡ passes → count_by test (q ∷ qs) ≡ cond (test q) 1 0 + count_by test qs
        → count_by (is_same p) (q ∷ qs) ≡ cond (is_same p q) 1 0 + count_by (is_same p) qs
        → (count_by test qs ≤ 1 → 1 ≤ count_by (is_same p) qs → filter test qs ≡ p ∷ []) → cond (test q) (q ∷ filter test qs) (filter test qs) ≡ p ∷ []
    by true is passes tested sum some later =
        let here = all q is in
        let one : cond {A = ℕ} (test q) 1 0 ≡ 1 = ap (λ (b : Bool). cond {A = ℕ} b 1 0) here in
        let none = none_of test qs (omega (arith, once, sum, one)) in
        ap (λ (b : Bool). cond b (q ∷ filter test qs) (filter test qs)) here
        ∙ ap (λ (rest : List Publication). q ∷ rest) none
        ∙ ap (λ (r : Publication). r ∷ []) (sym (same_is p q is))
    by false is true tested sum some later =
        let more : 1 ≤ count_by (is_same p) qs = let zero : cond {A = ℕ} (is_same p q) 1 0 ≡ 0 = ap (λ (b : Bool). cond {A = ℕ} b 1 0) is in omega (arith, there, some, zero) in
        let fewer = passing qs in
        let one : cond {A = ℕ} (test q) 1 0 ≡ 1 = ap (λ (b : Bool). cond {A = ℕ} b 1 0) tested in
        absurd (omega (arith, once, sum, one, fewer, more))
    by false is false tested sum some later =
        let none : cond {A = ℕ} (test q) 1 0 ≡ 0 = ap (λ (b : Bool). cond {A = ℕ} b 1 0) tested in
        let zero : cond {A = ℕ} (is_same p q) 1 0 ≡ 0 = ap (λ (b : Bool). cond {A = ℕ} b 1 0) is in
        ap (λ (b : Bool). cond b (q ∷ filter test qs) (filter test qs)) tested
        ∙ later (omega (arith, once, sum, none)) (omega (arith, there, some, zero))

-- the one that was found is the only one that passes
pub found_only : (test : Publication → Bool) (p : Publication) (ps : List Publication) → count_by test ps ≤ 1 → find test ps ≡ Some p → filter test ps ≡ p ∷ []
found_only test p [] once found = absurd cc
found_only test p (q ∷ qs) once found = by (test q) (sum_by-cons (λ x. cond (test x) 1 0) q qs) found (found_only test p qs)
  where
    by : (b : Bool) → count_by test (q ∷ qs) ≡ cond b 1 0 + count_by test qs → cond b (Some q) (find test qs) ≡ Some p
        → (count_by test qs ≤ 1 → find test qs ≡ Some p → filter test qs ≡ p ∷ []) → cond b (q ∷ filter test qs) (filter test qs) ≡ p ∷ []
    by true sum is later =
        let same : q ≡ p = cc in
        ap (λ (rest : List Publication). q ∷ rest) (none_of test qs (omega (arith, once, sum))) ∙ ap (λ (r : Publication). r ∷ []) same
    by false sum is later = later (omega (arith, once, sum)) is

-- ---- some of those that are there

-- each test is passed by no more of these than of those
abbrev pub IsPart : List Publication → List Publication → Type 0
IsPart ps there = (test : Publication → Bool) → count_by test ps ≤ count_by test there

-- node and key name one
abbrev pub AreNamed : List Publication → Type 0
AreNamed there = (p : Publication) → count_by (is_same_name p) there ≤ 1

-- one of a part is the only one of its name
pub first_only : (p : Publication) (ps there : List Publication) → IsPart (p ∷ ps) there → AreNamed there → filter (is_same_name p) there ≡ p ∷ []
first_only p ps there part named =
    one_passes (is_same_name p) p there (λ q is. (and_parts (is_same_name p q) _ is).0) (named p)
    (let all = part (is_same p) in
    let sum = sum_by-cons (λ x. cond (is_same p x) 1 0) p ps in
    let one : cond {A = ℕ} (is_same p p) 1 0 ≡ 1 = ap (λ (b : Bool). cond {A = ℕ} b 1 0) (same_itself p) in
    omega (arith, all, sum, one))

-- The publications of a part can be removed one after another.
pub part_removable : (ps there : List Publication) → IsPart ps there → AreNamed there → AreRemovable there ps
part_removable [] there part named = tt
part_removable (p ∷ ps) there part named =
    let alone = first_only p ps there part named in (
      alone,
      part_removable ps (left_by there p)
          (λ test.
          let all = part test in
          let sum = sum_by-cons (λ x. cond (test x) 1 0) p ps in
          let left = counted_left test there p alone in
          omega (arith, all, sum, left))
          (λ q.
          let most = named q in
          let left = counted_left (is_same_name q) there p alone in
          omega (arith, most, left)),
    )

-- a part leaves of each test as many as pass fewer
pub counted_without : (test : Publication → Bool) (ps there : List Publication) → AreRemovable there ps
    → count_by test there ≡ count_by test ps + count_by test (fold left_by there ps)
counted_without test [] there may = omega arith
counted_without test (p ∷ ps) there may =
    let first = counted_left test there p may.0 in
    let later = counted_without test ps (left_by there p) may.1 in
    let sum = sum_by-cons (λ x. cond (test x) 1 0) p ps in
    omega (arith, first, later, sum)
