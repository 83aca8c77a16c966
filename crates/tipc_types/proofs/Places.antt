-- Publications in order: one more is put in its place, and a look-up leaves some out.
use Rattle.std.proofs.Common.{◌≡◌, ◌≢◌, ℕ, ◌+◌, ◌≤◌, Bool, true, false, cond, List, [], ◌∷◌, if◌then◌else◌, filter, refl, sym, ap, ◌∙◌, true≢false, arith}
use Rattle.std.specs.Prelude.{count_by, ◌||◌}
use Rattle.std.specs.List.{list_any, AllByRecursion}
use Rattle.std.proofs.lemmas.List.Sums.{sum_by-cons}
use Rattle.std.specs.Cmp.{nat_cmp_total, IsTotalOrder}
use Rattle.std.specs.Cmp.Lexicographic.{lists_total, slice_cmp}
use Rattle.std.specs.Ordering.{is_lt, nat_cmp, ordering_reverse}
use Rattle.std.specs.declared.cmp.Ordering.{Ordering}
use Rattle.std.specs.declared.cmp.Ordering.TheVariants.{Less, Equal, Greater}
use Rattle.std.specs.List.Sorted.{IsStrictlySortedBy}
use Rattle.std.proofs.lemmas.List.Kept.{IsStrictlySortedBy-filter}
use Rattle.tipc_types.specs.declared.services.Publication.{Publication}
use Rattle.tipc_types.specs.Tables.{place_cmp, place_of, put, stands_before, IsInOrder}

total : IsTotalOrder (slice_cmp nat_cmp)
total = lists_total nat_cmp_total

-- what passes a test for all passes for some of them
pub all_kept : (P : Publication → Type 0) (test : Publication → Bool) (ps : List Publication) → AllByRecursion P ps → AllByRecursion P (filter test ps)
all_kept P test [] h = tt
all_kept P test (p ∷ ps) h = by (test p) (all_kept P test ps h.1)
  where
    by : (b : Bool) → AllByRecursion P (filter test ps) → AllByRecursion P (cond b (p ∷ filter test ps) (filter test ps))
    by true later = (h.0, later)
    by false later = later

pub all_put : (P : Publication → Type 0) (p : Publication) (ps : List Publication) → P p → AllByRecursion P ps → AllByRecursion P (put p ps)
all_put P p [] here h = (here, tt)
all_put P p (q ∷ qs) here h = by (stands_before q p) (all_put P p qs here h.1)
  where
    by : (b : Bool) → AllByRecursion P (put p qs) → AllByRecursion P (if b then q ∷ put p qs else p ∷ q ∷ qs)
    by true later = (h.0, later)
    by false later = (here, h)

all_mapped : (P Q : Publication → Type 0) (ps : List Publication) → ((p : Publication) → P p → Q p) → AllByRecursion P ps → AllByRecursion Q ps
all_mapped P Q [] f h = tt
all_mapped P Q (p ∷ ps) f h = (f p h.0, all_mapped P Q ps f h.1)

-- ---- the order

-- of two places one stands before the other, or they are the same
less_from : (o : Ordering) → is_lt o ≡ true → o ≡ Less
less_from Less e = refl
less_from Equal e = absurd (true≢false (sym e))
less_from Greater e = absurd (true≢false (sym e))

greater_from : (o : Ordering) → is_lt o ≡ false → o ≢ Equal → o ≡ Greater
greater_from Less e other = absurd (true≢false e)
greater_from Equal e other = absurd (other refl)
greater_from Greater e other = refl

turned : (p q : Publication) → place_cmp q p ≡ Greater → place_cmp p q ≡ Less
turned p q e = total.antisymm (place_of p) (place_of q) ∙ ap ordering_reverse e

chained : (p q r : Publication) → place_cmp p q ≡ Less → place_cmp q r ≡ Less → place_cmp p r ≡ Less
chained p q r h k = total.trans (place_of p) (place_of q) (place_of r) h k

-- a publication behind one that doesn't stand before p doesn't stand before p
not_before : (p q r : Publication) → stands_before q p ≡ false → place_cmp q r ≡ Less → stands_before r p ≡ false
not_before p q r e h = by (stands_before r p) refl
  where
    by : (b : Bool) → stands_before r p ≡ b → b ≡ false
    by true before = absurd (true≢false (sym (ap is_lt (chained q r p h (less_from (place_cmp r p) before))) ∙ e))
    by false before = refl

put_first : (p : Publication) (ps : List Publication) → AllByRecursion (λ q. stands_before q p ≡ false) ps → put p ps ≡ p ∷ ps
put_first p [] h = refl
put_first p (q ∷ qs) h = ap (λ (b : Bool). if b then q ∷ put p qs else p ∷ q ∷ qs) h.0

none_before : (p q : Publication) (qs : List Publication) → stands_before q p ≡ false → IsInOrder (q ∷ qs) → AllByRecursion (λ r. stands_before r p ≡ false) (q ∷ qs)
unfolding IsStrictlySortedBy
none_before p q qs e h = (e, all_mapped (λ r. place_cmp q r ≡ Less) (λ r. stands_before r p ≡ false) qs (λ r k. not_before p q r e k) h.0)

-- ---- one more, and a look-up

put_passing : (b c : Bool) (p q : Publication) (kept put_kept : List Publication) → stands_before q p ≡ true → put_kept ≡ (if c then put p kept else kept)
    → cond b (q ∷ put_kept) put_kept ≡ (if c then put p (cond b (q ∷ kept) kept) else cond b (q ∷ kept) kept)
put_passing true true p q kept put_kept before e = ap (λ (xs : List Publication). q ∷ xs) e ∙ sym (ap (λ (b : Bool). if b then q ∷ put p kept else p ∷ q ∷ kept) before)
put_passing true false p q kept put_kept before e = ap (λ (xs : List Publication). q ∷ xs) e
put_passing false c p q kept put_kept before e = e

put_leading : (c : Bool) (p : Publication) (kept : List Publication) → put p kept ≡ p ∷ kept → cond c (p ∷ kept) kept ≡ (if c then put p kept else kept)
put_leading true p kept e = sym e
put_leading false p kept e = refl

pub filter-put : (test : Publication → Bool) (p : Publication) (ps : List Publication) → IsInOrder ps → filter test (put p ps) ≡ (if test p then put p (filter test ps) else filter test ps)
unfolding IsStrictlySortedBy
filter-put test p [] h = by (test p)
  where
    by : (b : Bool) → cond b (p ∷ []) [] ≡ (if b then p ∷ [] else [])
    by true = refl
    by false = refl
filter-put test p (q ∷ qs) h = by (stands_before q p) refl (filter-put test p qs h.1)
  where
    by : (b : Bool) → stands_before q p ≡ b → filter test (put p qs) ≡ (if test p then put p (filter test qs) else filter test qs) → filter test (if b then q ∷ put p qs else p ∷ q ∷ qs) ≡ (if test p then put p (filter test (q ∷ qs)) else filter test (q ∷ qs))
    by true before later = put_passing (test q) (test p) p q (filter test qs) (filter test (put p qs)) before later
    by false before later = put_leading (test p) p (filter test (q ∷ qs)) (put_first p (filter test (q ∷ qs)) (all_kept (λ r. stands_before r p ≡ false) test (q ∷ qs) (none_before p q qs before h)))

pub put_in_order : (p : Publication) (ps : List Publication) → IsInOrder ps → AllByRecursion (λ q. place_cmp q p ≢ Equal) ps → IsInOrder (put p ps)
unfolding IsStrictlySortedBy
put_in_order p [] h other = (tt, tt)
put_in_order p (q ∷ qs) h other = by (stands_before q p) refl (put_in_order p qs h.1 other.1)
  where
    by : (b : Bool) → stands_before q p ≡ b → IsInOrder (put p qs) → IsInOrder (if b then q ∷ put p qs else p ∷ q ∷ qs)
    by true before later = (all_put (λ r. place_cmp q r ≡ Less) p qs (less_from (place_cmp q p) before) h.0, later)
    by false before later =
        let first = turned p q (greater_from (place_cmp q p) before other.0) in
        ((first, all_mapped (λ r. place_cmp q r ≡ Less) (λ r. place_cmp p r ≡ Less) qs (λ r k. chained p q r first k) h.0), h)

pub kept_in_order : (test : Publication → Bool) (ps : List Publication) → IsInOrder ps → IsInOrder (filter test ps)
kept_in_order test ps h = IsStrictlySortedBy-filter place_cmp test ps h

-- ---- how many pass a test

pub count_by-put : (test : Publication → Bool) (p : Publication) (ps : List Publication) → count_by test (put p ps) ≡ cond (test p) 1 0 + count_by test ps
count_by-put test p [] = sum_by-cons (λ (x : Publication). cond (test x) 1 0) p []
count_by-put test p (q ∷ qs) = by (stands_before q p) (count_by-put test p qs)
  where
    by : (b : Bool) → count_by test (put p qs) ≡ cond (test p) 1 0 + count_by test qs → count_by test (if b then q ∷ put p qs else p ∷ q ∷ qs) ≡ cond (test p) 1 0 + count_by test (q ∷ qs)
    by true later = omega (arith, later, sum_by-cons (λ (x : Publication). cond (test x) 1 0) q (put p qs), sum_by-cons (λ (x : Publication). cond (test x) 1 0) q qs)
    by false later = sum_by-cons (λ (x : Publication). cond (test x) 1 0) p (q ∷ qs)

pub count_by-kept : (test kept : Publication → Bool) (ps : List Publication) → count_by test (filter kept ps) ≤ count_by test ps
count_by-kept test kept [] = omega arith
count_by-kept test kept (p ∷ ps) = by (kept p) (count_by-kept test kept ps)
  where
    by : (b : Bool) → count_by test (filter kept ps) ≤ count_by test ps → count_by test (cond b (p ∷ filter kept ps) (filter kept ps)) ≤ count_by test (p ∷ ps)
    by true later = omega (arith, later, sum_by-cons (λ (x : Publication). cond (test x) 1 0) p (filter kept ps), sum_by-cons (λ (x : Publication). cond (test x) 1 0) p ps)
    by false later = omega (arith, later, sum_by-cons (λ (x : Publication). cond (test x) 1 0) p ps)

pub none_counted : (test : Publication → Bool) (ps : List Publication) → AllByRecursion (λ q. test q ≡ false) ps → count_by test ps ≡ 0
none_counted test [] h = refl
none_counted test (p ∷ ps) h =
    let here : ◌≡◌ {A = ℕ} (cond (test p) 1 0) 0 = ap (λ (b : Bool). cond b 1 0) h.0 in
    omega (arith, here, sum_by-cons (λ (x : Publication). cond (test x) 1 0) p ps, none_counted test ps h.1)

pub none_passes : (test : Publication → Bool) (ps : List Publication) → list_any test ps ≡ false → AllByRecursion (λ q. test q ≡ false) ps
none_passes test [] h = tt
none_passes test (p ∷ ps) h = by (test p) refl h (none_passes test ps)
  where
    by : (b : Bool) → test p ≡ b → b || list_any test ps ≡ false → (list_any test ps ≡ false → AllByRecursion (λ q. test q ≡ false) ps) → AllByRecursion (λ q. test q ≡ false) (p ∷ ps)
    by true e none later = absurd (true≢false none)
    by false e none later = (e, later none)

pub none_kept : (test : Publication → Bool) (ps : List Publication) → filter test ps ≡ [] → AllByRecursion (λ q. test q ≡ false) ps
none_kept test [] h = tt
none_kept test (p ∷ ps) h = by (test p) refl h (none_kept test ps)
  where
    by : (b : Bool) → test p ≡ b → cond b (p ∷ filter test ps) (filter test ps) ≡ [] → (filter test ps ≡ [] → AllByRecursion (λ q. test q ≡ false) ps) → AllByRecursion (λ q. test q ≡ false) (p ∷ ps)
    by true e none later = absurd cc
    by false e none later = (e, later none)
