-- What every name table holds stays so, and what is found in look-ups.
use Rattle.std.proofs.Common.{◌≡◌, ◌≢◌, ℕ, ◌+◌, ◌<◌, ◌≤◌, Bool, true, false, cond, ◌&&◌, List, [], ◌∷◌, ◌++◌, Contains, ◌⊎◌, inl, inr, if◌then◌else◌, filter, refl, sym, ap, subst, ◌∙◌, true≢false, eqb-true, arith}
use Rattle.std.specs.Prelude.{count_by, nat_eq, ◌==◌}
use Rattle.std.specs.Ordering.{is_eq, nat_cmp}
use Rattle.std.specs.declared.cmp.Ordering.TheVariants.{Equal}
use Rattle.std.specs.Cmp.{unsigned_ties}
use Rattle.std.specs.Cmp.Lexicographic.{lists_ties}
use Rattle.std.specs.List.{All, AllByRecursion, list_any}
use Rattle.std.specs.List.Sorted.{IsStrictlySortedBy}
use Rattle.std.proofs.lemmas.List.Elements.{All-filter, All-from_recursion, Contains-append_cases, Contains-append_left, Contains-append_right, Contains-get_or, Contains-push_cases, filter_passes}
use Rattle.tipc_types.specs.declared.services.Publication.{Publication}
use Rattle.tipc_types.specs.Matching.{closest, preferred}
use Rattle.tipc_types.specs.Tables.{is_named, is_of, place_cmp, place_of, put, stands_before, IsInOrder, IsTable}
use Rattle.tipc_types.proofs.Places.{count_by-kept, count_by-put, kept_in_order, none_counted, none_kept, none_passes, put_in_order}

pub table_none : IsTable []
unfolding IsStrictlySortedBy
table_none = record { ordered = tt; named = λ node key. omega arith; few = λ node. omega arith }

pub table_kept : (test : Publication → Bool) (ps : List Publication) → IsTable ps → IsTable (filter test ps)
table_kept test ps h = record {
  ordered = kept_in_order test ps h.ordered;
  named = λ node key. omega (arith, count_by-kept (is_named node key) test ps, h.named node key);
  few = λ node. omega (arith, count_by-kept (is_of node) test ps, h.few node);
}

-- ---- one more

first_and_last : (a b c : Bool) → a && (b && (c && true)) ≡ true → a && c ≡ true
first_and_last true true true e = refl
first_and_last true true false e = e
first_and_last true false c e = absurd (true≢false (sym e))
first_and_last false b c e = absurd (true≢false (sym e))

same_place_named : (p q : Publication) → place_cmp q p ≡ Equal → is_named p.at.node.word p.key q ≡ true
same_place_named p q e =
    first_and_last (q.at.node.word == p.at.node.word) (q.at.port == p.at.port) (q.key == p.key)
    (lists_ties {E = nat_eq} nat_cmp unsigned_ties (place_of q) (place_of p) ∙ ap is_eq e)

others_apart : (p : Publication) (qs : List Publication) → AllByRecursion (λ q. is_named p.at.node.word p.key q ≡ false) qs → AllByRecursion (λ q. place_cmp q p ≢ Equal) qs
others_apart p [] h = tt
others_apart p (q ∷ qs) h = ((λ e. true≢false (sym (same_place_named p q e) ∙ h.0)), others_apart p qs h.1)

both_true : (a b : Bool) → a && b ≡ true → (a ≡ true) × (b ≡ true)
both_true true b e = (refl, e)
both_true false b e = absurd (true≢false (sym e))

named_most : (node key : ℕ) (p : Publication) (ps : List Publication) → count_by (is_named node key) ps ≤ 1 → AllByRecursion (λ q. is_named p.at.node.word p.key q ≡ false) ps → cond (is_named node key p) 1 0 + count_by (is_named node key) ps ≤ 1
named_most node key p ps few none = by (is_named node key p) refl
  where
    by : (b : Bool) → is_named node key p ≡ b → cond b 1 0 + count_by (is_named node key) ps ≤ 1
    by true e =
        let both = both_true (p.at.node.word == node) (p.key == key) e in
        let n : p.at.node.word ≡ node = eqb-true _ _ both.0 in
        let k : p.key ≡ key = eqb-true _ _ both.1 in
        let zero = none_counted (is_named node key) ps (subst (λ (i : ℕ). AllByRecursion (λ q. is_named i key q ≡ false) ps) n (subst (λ (j : ℕ). AllByRecursion (λ q. is_named p.at.node.word j q ≡ false) ps) k none)) in
        omega (arith, zero)
    by false e = omega (arith, few)

few_most : (node : ℕ) (p : Publication) (ps : List Publication) → count_by (is_of node) ps ≤ 1024 → count_by (is_of p.at.node.word) ps < 1024 → cond (is_of node p) 1 0 + count_by (is_of node) ps ≤ 1024
few_most node p ps few room = by (is_of node p) refl
  where
    by : (b : Bool) → is_of node p ≡ b → cond b 1 0 + count_by (is_of node) ps ≤ 1024
    by true e =
        let n : p.at.node.word ≡ node = eqb-true _ _ e in
        let here = subst (λ (i : ℕ). count_by (is_of i) ps < 1024) n room in
        omega (arith, here)
    by false e = omega (arith, few)

pub table_put : (p : Publication) (ps : List Publication) → IsTable ps → list_any (is_named p.at.node.word p.key) ps ≡ false → count_by (is_of p.at.node.word) ps < 1024 → IsTable (put p ps)
table_put p ps h unheld room =
    let none = none_passes (is_named p.at.node.word p.key) ps unheld in
    record {
      ordered = put_in_order p ps h.ordered (others_apart p ps none);
      named = λ node key. omega (arith, count_by-put (is_named node key) p ps, named_most node key p ps (h.named node key) none);
      few = λ node. omega (arith, count_by-put (is_of node) p ps, few_most node p ps (h.few node) room);
    }

-- ---- what is held with one more

put_between : (p : Publication) (ps : List Publication) → (xs : List Publication) × (ys : List Publication) × (ps ≡ xs ++ ys) × (put p ps ≡ xs ++ p ∷ ys)
put_between p [] = ([], [], refl, refl)
put_between p (q ∷ qs) = by (stands_before q p) (put_between p qs)
  where
    by : (b : Bool) → ((xs : List Publication) × (ys : List Publication) × (qs ≡ xs ++ ys) × (put p qs ≡ xs ++ p ∷ ys))
        → (xs : List Publication) × (ys : List Publication) × (q ∷ qs ≡ xs ++ ys) × ((if b then q ∷ put p qs else p ∷ q ∷ qs) ≡ xs ++ p ∷ ys)
    by true later = (q ∷ later.0, later.1, ap (λ (zs : List Publication). q ∷ zs) later.2, ap (λ (zs : List Publication). q ∷ zs) later.3)
    by false later = ([], q ∷ qs, refl, refl)

one_found : (p q : Publication) → Contains (p ∷ []) q → q ≡ p
one_found p q h = elim (Contains-push_cases [] p q h) as (λ _. q ≡ p) [ inl none ↦ absurd (omega (arith, none.1)) | inr e ↦ sym e ]

pub put_held : (p q : Publication) (ps : List Publication) → Contains (put p ps) q → (q ≡ p) ⊎ Contains ps q
put_held p q ps h =
    let b = put_between p ps in
    let there = subst (λ (zs : List Publication). Contains zs q) b.3 h in
    let back = λ (k : Contains (b.0 ++ b.1) q). subst (λ (zs : List Publication). Contains zs q) (sym b.2) k in
    elim (Contains-append_cases b.0 (p ∷ b.1) q there) as (λ _. (q ≡ p) ⊎ Contains ps q) [
      | inl k ↦ inr (back (Contains-append_left b.0 b.1 q k))
      | inr k ↦ elim (Contains-append_cases (p ∷ []) b.1 q k) as (λ _. (q ≡ p) ⊎ Contains ps q) [ inl one ↦ inl (one_found p q one) | inr more ↦ inr (back (Contains-append_right b.0 b.1 q more)) ]
    ]

pub put_itself : (p : Publication) (ps : List Publication) → Contains (put p ps) p
put_itself p ps =
    let b = put_between p ps in
    subst (λ (zs : List Publication). Contains zs p) (sym b.3) (Contains-append_right b.0 (p ∷ b.1) p (Contains-get_or (p ∷ b.1) 0 p (omega arith)))

pub put_others : (p q : Publication) (ps : List Publication) → Contains ps q → Contains (put p ps) q
put_others p q ps h =
    let b = put_between p ps in
    subst (λ (zs : List Publication). Contains zs q) (sym b.3)
    (elim (Contains-append_cases b.0 b.1 q (subst (λ (zs : List Publication). Contains zs q) b.2 h)) as (λ _. Contains (b.0 ++ p ∷ b.1) q) [
      | inl k ↦ Contains-append_left b.0 (p ∷ b.1) q k
      | inr k ↦ Contains-append_right b.0 (p ∷ b.1) q (Contains-append_right (p ∷ []) b.1 q k)
    ])

-- ---- two look-ups one after the other

pub filters_commute : (test kept : Publication → Bool) (ps : List Publication) → filter test (filter kept ps) ≡ filter kept (filter test ps)
filters_commute test kept [] = refl
filters_commute test kept (p ∷ ps) = by (test p) (kept p) refl refl (filters_commute test kept ps)
  where
    by : (b c : Bool) → test p ≡ b → kept p ≡ c → filter test (filter kept ps) ≡ filter kept (filter test ps)
        → filter test (cond c (p ∷ filter kept ps) (filter kept ps)) ≡ filter kept (cond b (p ∷ filter test ps) (filter test ps))
    by true true e k later = ap (λ (a : Bool). cond a (p ∷ filter test (filter kept ps)) (filter test (filter kept ps))) e ∙ ap (λ (zs : List Publication). p ∷ zs) later ∙ ap (λ (a : Bool). cond a (p ∷ filter kept (filter test ps)) (filter kept (filter test ps))) (sym k)
    by true false e k later = later ∙ ap (λ (a : Bool). cond a (p ∷ filter kept (filter test ps)) (filter kept (filter test ps))) (sym k)
    by false true e k later = ap (λ (a : Bool). cond a (p ∷ filter test (filter kept ps)) (filter test (filter kept ps))) e ∙ later
    by false false e k later = later

-- ---- the closest

pub closest_in_order : (own : ℕ) (ps : List Publication) → IsInOrder ps → IsInOrder (closest own ps)
closest_in_order own ps h = by (filter (is_of own) ps) (kept_in_order (is_of own) ps h)
  where
    by : (near : List Publication) → IsInOrder near → IsInOrder (preferred near ps)
    by [] k = h
    by (q ∷ qs) k = k

pub closest_some : (own : ℕ) (ps : List Publication) → closest own ps ≡ [] → ps ≡ []
closest_some own ps e = by (filter (is_of own) ps) e
  where
    by : (near : List Publication) → preferred near ps ≡ [] → ps ≡ []
    by [] k = k
    by (q ∷ qs) k = absurd cc

pub closest_found : (own : ℕ) (p : Publication) (ps : List Publication) → Contains (closest own ps) p → Contains ps p
closest_found own p ps h = by (filter (is_of own) ps) (All-filter (is_of own) (λ (q : Publication). Contains ps q) ps (λ k d within. Contains-get_or ps k d within)) h
  where
    by : (near : List Publication) → All (λ q. Contains ps q) near → Contains (preferred near ps) p → Contains ps p
    by [] all k = k
    by (q ∷ qs) all k = subst (λ (r : Publication). Contains ps r) k.2 (all k.0 p k.1)

pub closest_own : (own : ℕ) (p q : Publication) (ps : List Publication) → Contains ps p → is_of own p ≡ true → Contains (closest own ps) q → is_of own q ≡ true
closest_own own p q ps there here h = by (filter (is_of own) ps) refl (filter_passes (is_of own) ps) h
  where
    by : (near : List Publication) → filter (is_of own) ps ≡ near → All (λ r. is_of own r ≡ true) near → Contains (preferred near ps) q → is_of own q ≡ true
    by [] e all k =
        let none = All-from_recursion (λ (r : Publication). is_of own r ≡ false) ps (none_kept (is_of own) ps e) in
        absurd (true≢false (sym here ∙ subst (λ (r : Publication). is_of own r ≡ false) there.2 (none there.0 p there.1)))
    by (r ∷ rs) e all k = subst (λ (x : Publication). is_of own x ≡ true) k.2 (all k.0 q k.1)
