-- The order of names: where the publication of a node and key stands in it, and that it is found there.
use Rattle.std.proofs.Common.{◌≡◌, ℕ, ◌+◌, ◌<◌, ◌≤◌, Bool, true, false, cond, ◌||◌, not, List, [], ◌∷◌, drop, get_or, length, filter, refl, sym, ap, ap₂, subst, ◌∙◌, true≢false, eqb-true, arith, Contains}
use Rattle.std.specs.Prelude.{count_by, find, is_some, nat_eq, Option, None, Some, ◌==◌}
use Rattle.std.specs.Cmp.{unsigned_ties}
use Rattle.std.specs.Cmp.Lexicographic.{lists_ties, slice_cmp}
use Rattle.std.specs.List.{list_any, AllByRecursion}
use Rattle.std.specs.List.Sorted.{IsStrictlySortedBy}
use Rattle.std.specs.Ordering.{is_eq, is_lt, nat_cmp}
use Rattle.std.specs.declared.cmp.Ordering.TheVariants.{Less, Equal}
use Rattle.std.proofs.lemmas.Cmp.{nat_list_cmp_total, tied_itself}
use Rattle.std.proofs.lemmas.List.{drop_more}
use Rattle.std.proofs.lemmas.List.Kept.{IsStrictlySortedBy-filter}
use Rattle.tipc_types.specs.declared.services.Publication.{Publication}
use Rattle.tipc_types.specs.Tables.{is_named}
use Rattle.tipc_types.proofs.Places.{none_counted as none_of, none_passes}
use Rattle.tipc_name_index.specs.Ranges.{name_before, name_cmp, name_of, AreSame}
use Rattle.tipc_name_index.proofs.Order.{none_counted}
use Rattle.tipc_name_index.proofs.Same.{and_true, both_true, find_kept, found_counted, found_passes, found_there, is_same, same_found, unfound}

-- ---- what has a name

-- the publication of a node and key has their name
name_is : (node key : ℕ) (p : Publication) → is_named node key p ≡ true → name_of p ≡ node ∷ key ∷ []
name_is node key p e =
    let both = both_true (p.at.node.word == node) (p.key == key) e in
    ap₂ (λ n k. n ∷ k ∷ []) (eqb-true _ _ both.0) (eqb-true _ _ both.1)

-- what ties in the order of names is of one node and key
pub tie_of_name : (p q : Publication) → name_cmp q p ≡ Equal → is_named p.at.node.word p.key q ≡ true
tie_of_name p q e =
    let all = lists_ties {E = nat_eq} nat_cmp unsigned_ties (name_of q) (name_of p) ∙ ap is_eq e in
    let node = both_true (q.at.node.word == p.at.node.word) _ all in
    let key = both_true (q.key == p.key) true node.1 in
    and_true (q.at.node.word == p.at.node.word) (q.key == p.key) node.0 key.0

-- it doesn't stand before their name
pub named_is_behind : (node key : ℕ) (p : Publication) → is_named node key p ≡ true → not (name_before node key p) ≡ true
named_is_behind node key p e =
    ap not (ap (λ n. is_lt (slice_cmp nat_cmp n (node ∷ key ∷ []))) (name_is node key p e) ∙ ap is_lt (tied_itself nat_list_cmp_total (node ∷ key ∷ [])))

-- what stands behind one that doesn't stand before the name doesn't have it
later_unnamed : (node key : ℕ) (q r : Publication) → name_before node key q ≡ false → name_cmp q r ≡ Less → is_named node key r ≡ false
later_unnamed node key q r behind less = by (is_named node key r) refl
  where
    by : (b : Bool) → is_named node key r ≡ b → b ≡ false
    by true e = absurd (true≢false (sym (ap is_lt less) ∙ ap (λ n. is_lt (slice_cmp nat_cmp (name_of q) n)) (name_is node key r e) ∙ behind))
    by false e = refl

-- ---- where it is found

not_true : (b : Bool) → not b ≡ true → b ≡ false
not_true true e = absurd (true≢false (sym e))
not_true false e = refl

all_pass : {X : Type 0} (test : X → Bool) (xs : List X) → AllByRecursion (λ x. test x ≡ true) (filter test xs)
all_pass test [] = tt
all_pass {X} test (x ∷ xs) = by (test x) refl (all_pass test xs)
  where
    by : (b : Bool) → test x ≡ b → AllByRecursion (λ y. test y ≡ true) (filter test xs) → AllByRecursion (λ y. test y ≡ true) (cond b (x ∷ filter test xs) (filter test xs))
    by true e rest = (e, rest)
    by false e rest = rest

none_found : (test : Publication → Bool) (ps : List Publication) → AllByRecursion (λ p. test p ≡ false) ps → find test ps ≡ None
none_found test [] h = refl
none_found test (p ∷ ps) h = ap (λ b. cond b (Some p) (find test ps)) h.0 ∙ none_found test ps h.1

all_unnamed : (node key : ℕ) (q : Publication) (rs : List Publication) → name_before node key q ≡ false → AllByRecursion (λ r. name_cmp q r ≡ Less) rs → AllByRecursion (λ r. is_named node key r ≡ false) rs
all_unnamed node key q [] behind h = tt
all_unnamed node key q (r ∷ rs) behind h = (later_unnamed node key q r behind h.0, all_unnamed node key q rs behind h.1)

-- the first of those that don't stand before the name alone may have it
first_named : (node key : ℕ) (q : Publication) (rs : List Publication) → IsStrictlySortedBy name_cmp (q ∷ rs) → AllByRecursion (λ p. not (name_before node key p) ≡ true) (q ∷ rs)
    → find (is_named node key) (q ∷ rs) ≡ cond (is_named node key q) (Some q) None
unfolding IsStrictlySortedBy
first_named node key q rs sorted behind =
    ap (λ (o : Option Publication). cond (is_named node key q) (Some q) o) (none_found (is_named node key) rs (all_unnamed node key q rs (not_true _ behind.0) sorted.0))

pub found_at : (node key : ℕ) (xs : List Publication) (i : ℕ) (d : Publication) → IsStrictlySortedBy name_cmp xs → drop i xs ≡ filter (λ q. not (name_before node key q)) xs → i < length xs
    → find (is_named node key) xs ≡ cond (is_named node key (get_or xs i d)) (Some (get_or xs i d)) None
found_at node key xs i d sorted behind within =
    let kept = λ (q : Publication). not (name_before node key q) in
    let whole : get_or xs i d ∷ drop (i + 1) xs ≡ filter kept xs = sym (drop_more xs i d within) ∙ behind in
    sym (find_kept (is_named node key) kept (named_is_behind node key) xs) ∙ ap (find (is_named node key)) (sym whole)
    ∙ first_named node key (get_or xs i d) (drop (i + 1) xs) (subst (IsStrictlySortedBy name_cmp) (sym whole) (IsStrictlySortedBy-filter name_cmp kept xs sorted))
    (subst (AllByRecursion (λ p. kept p ≡ true)) (sym whole) (all_pass kept xs))

pub found_past : (node key : ℕ) (xs : List Publication) → [] ≡ filter (λ q. not (name_before node key q)) xs → find (is_named node key) xs ≡ None
found_past node key xs behind =
    let kept = λ (q : Publication). not (name_before node key q) in
    sym (find_kept (is_named node key) kept (named_is_behind node key) xs) ∙ ap (find (is_named node key)) (sym behind)

-- ---- what is found in one order is found in the other

pub find_same : (test : Publication → Bool) (ps qs : List Publication) → AreSame ps qs → count_by test ps ≤ 1 → find test qs ≡ find test ps
find_same test ps qs h one = sym (by (find test qs) refl)
  where
    by : (o : Option Publication) → find test qs ≡ o → find test ps ≡ o
    by None e = none_found test ps (none_counted test ps (h test ∙ unfound test qs e))
    by (Some p) e = let some = found_counted test p qs e in let same = h (is_same p) in
        same_found test p ps (found_passes test p qs e) (omega (arith, some, same)) one

pub any_found : (test : Publication → Bool) (ps : List Publication) → is_some (find test ps) ≡ list_any test ps
any_found test [] = refl
any_found test (p ∷ ps) = by (test p) (any_found test ps)
  where
    by : (b : Bool) → is_some (find test ps) ≡ list_any test ps → is_some (cond b (Some p) (find test ps)) ≡ b || list_any test ps
    by true rest = refl
    by false rest = rest

none_any : (test : Publication → Bool) (ps : List Publication) → count_by test ps ≡ 0 → list_any test ps ≡ false
none_any test ps e = sym (any_found test ps) ∙ ap is_some (none_found test ps (none_counted test ps e))

pub any_same : (test : Publication → Bool) (ps qs : List Publication) → AreSame ps qs → list_any test qs ≡ list_any test ps
any_same test ps qs h = by (list_any test qs) (list_any test ps) refl refl
  where
    by : (b c : Bool) → list_any test qs ≡ b → list_any test ps ≡ c → b ≡ c
    by true true e f = refl
    by false false e f = refl
    by true false e f = absurd (true≢false (sym e ∙ none_any test qs (sym (h test) ∙ none_of test ps (none_passes test ps f))))
    by false true e f = absurd (true≢false (sym f ∙ none_any test ps (h test ∙ none_of test qs (none_passes test qs e))))

-- the publication of a node and key is there in each order where it is found in that of names
pub named_there : (node key : ℕ) (p : Publication) (ps qs ns : List Publication) → AreSame ps qs → AreSame ps ns → count_by (is_named node key) ps ≤ 1 → find (is_named node key) ns ≡ Some p
    → (find (is_named node key) ps ≡ Some p) × Contains ps p × Contains qs p × Contains ns p
named_there node key p ps qs ns h k one e =
    let found = sym (find_same (is_named node key) ps ns k one) ∙ e in
    let first = found_there (is_named node key) p ps qs h found in
    (found, first.0, first.1, (found_there (is_named node key) p ps ns k found).1)

-- it has their name
pub name_found : (node key : ℕ) (p : Publication) (ps : List Publication) → find (is_named node key) ps ≡ Some p → (p.at.node.word ≡ node) × (p.key ≡ key)
name_found node key p ps e =
    let both = both_true (p.at.node.word == node) (p.key == key) (found_passes (is_named node key) p ps e) in
    (eqb-true _ _ both.0, eqb-true _ _ both.1)
