-- Publications in the order in which they are told of, whatever order they stood in.
use Rattle.std.specs.Prelude.{count_by, nat_eq, ◌==◌}
use Rattle.std.proofs.Common.{◌≡◌, ◌≢◌, ℕ, ◌+◌, ◌≤◌, Bool, true, false, cond, ◌&&◌, List, [], ◌∷◌, if◌then◌else◌, filter, fold, refl, sym, ap, ◌∙◌, true≢false, arith}
use Rattle.std.specs.Cmp.{nat_cmp_total, unsigned_ties, IsTotalOrder}
use Rattle.std.specs.Cmp.Lexicographic.{lists_ties, lists_total, slice_cmp}
use Rattle.std.specs.List.{AllByRecursion}
use Rattle.std.specs.Ordering.{is_eq, is_lt, nat_cmp, ordering_reverse}
use Rattle.std.specs.declared.cmp.Ordering.{Ordering}
use Rattle.std.specs.declared.cmp.Ordering.TheVariants.{Less, Equal, Greater}
use Rattle.std.proofs.lemmas.Bool.Decides.{nat_tests}
use Rattle.std.proofs.lemmas.List.Sums.{sum_by-cons}
use Rattle.tipc_types.specs.declared.services.Publication.{Publication}
use Rattle.tipc_types.specs.Watching.{in_order, is_before, placed, rank_of}
use Rattle.tipc_types.specs.Tables.{is_named, put, stands_before}
use Rattle.tipc_types.proofs.Places.{count_by-kept, count_by-put}
use Rattle.tipc_journal.specs.Matches.{arranged}
use Rattle.tipc_journal.proofs.MatchLaws.{filter_arranged}

-- ---- the order

total : IsTotalOrder (slice_cmp nat_cmp)
total = lists_total nat_cmp_total

abbrev rank_cmp : Publication → Publication → Ordering
rank_cmp p q = slice_cmp nat_cmp (rank_of p) (rank_of q)

less_from : (o : Ordering) → is_lt o ≡ true → o ≡ Less
less_from Less e = refl
less_from Equal e = absurd (true≢false (sym e))
less_from Greater e = absurd (true≢false (sym e))

greater_from : (o : Ordering) → is_lt o ≡ false → o ≢ Equal → o ≡ Greater
greater_from Less e other = absurd (true≢false e)
greater_from Equal e other = absurd (other refl)
greater_from Greater e other = refl

-- of two one alone is before the other
not_after : (p q : Publication) → is_before p q ≡ true → is_before q p ≡ false
not_after p q e = ap is_lt (total.antisymm (rank_of q) (rank_of p) ∙ ap ordering_reverse (less_from (rank_cmp p q) e))

-- one of them is, where they aren't told of at the same place
is_after : (p q : Publication) → is_before p q ≡ false → rank_cmp p q ≢ Equal → is_before q p ≡ true
is_after p q e other = ap is_lt (total.antisymm (rank_of q) (rank_of p) ∙ ap ordering_reverse (greater_from (rank_cmp p q) e other))

chained : (p q r : Publication) → is_before p q ≡ true → is_before q r ≡ true → is_before p r ≡ true
chained p q r h k = ap is_lt (total.trans (rank_of p) (rank_of q) (rank_of r) (less_from (rank_cmp p q) h) (less_from (rank_cmp q r) k))

third_and_last : (a b c d e : Bool) → a && (b && (c && (d && (e && true)))) ≡ true → c && e ≡ true
third_and_last true true true true true h = refl
third_and_last true true true true false h = h
third_and_last true true true false e h = absurd (true≢false (sym h))
third_and_last true true false d e h = absurd (true≢false (sym h))
third_and_last true false c d e h = absurd (true≢false (sym h))
third_and_last false b c d e h = absurd (true≢false (sym h))

-- two that are told of at the same place have the same name
same_rank_named : (p q : Publication) → rank_cmp q p ≡ Equal → is_named p.at.node.word p.key q ≡ true
same_rank_named p q e =
    third_and_last (q.range.lower == p.range.lower) (q.range.upper == p.range.upper) (q.at.node.word == p.at.node.word) (q.at.port == p.at.port) (q.key == p.key)
    (lists_ties {E = nat_eq} nat_cmp unsigned_ties (rank_of q) (rank_of p) ∙ ap is_eq e)

-- ---- one after another

-- two that are put in their places one after another stand so whichever comes first
placed_turned : (p q : Publication) (ps : List Publication) → is_before p q ≡ true → placed p (placed q ps) ≡ placed q (placed p ps)
placed_turned p q [] before =
    ap (λ (b : Bool). if b then q ∷ p ∷ [] else p ∷ q ∷ []) (not_after p q before)
    ∙ sym (ap (λ (b : Bool). if b then p ∷ q ∷ [] else q ∷ p ∷ []) before)
placed_turned p q (x ∷ xs) before = by (is_before x p) refl (is_before x q) refl (placed_turned p q xs before)
  where
    behind : (b : Bool) → is_before x q ≡ b → is_before x p ≡ false
        → placed p (if b then x ∷ placed q xs else q ∷ x ∷ xs) ≡ p ∷ (if b then x ∷ placed q xs else q ∷ x ∷ xs)
    behind true here other = ap (λ (b : Bool). if b then x ∷ placed p (placed q xs) else p ∷ x ∷ placed q xs) other
    behind false here other = ap (λ (b : Bool). if b then q ∷ placed p (x ∷ xs) else p ∷ q ∷ x ∷ xs) (not_after p q before)

    by : (b : Bool) → is_before x p ≡ b → (c : Bool) → is_before x q ≡ c → placed p (placed q xs) ≡ placed q (placed p xs)
        → placed p (if is_before x q then x ∷ placed q xs else q ∷ x ∷ xs) ≡ placed q (if b then x ∷ placed p xs else p ∷ x ∷ xs)
    by true first c second later =
        let both = chained x p q first before in
        ap (λ (d : Bool). placed p (if d then x ∷ placed q xs else q ∷ x ∷ xs)) both
        ∙ ap (λ (d : Bool). if d then x ∷ placed p (placed q xs) else p ∷ x ∷ placed q xs) first
        ∙ ap (λ (ys : List Publication). x ∷ ys) later
        ∙ sym (ap (λ (d : Bool). if d then x ∷ placed q (placed p xs) else q ∷ x ∷ placed p xs) both)
    by false first c second later =
        behind (is_before x q) refl first
        ∙ sym (ap (λ (d : Bool). if d then p ∷ (if is_before x q then x ∷ placed q xs else q ∷ x ∷ xs) else q ∷ p ∷ x ∷ xs) before)

placed_apart : (p q : Publication) (ps : List Publication) → rank_cmp p q ≢ Equal → placed p (placed q ps) ≡ placed q (placed p ps)
placed_apart p q ps other = by (is_before p q) refl
  where
    by : (b : Bool) → is_before p q ≡ b → placed p (placed q ps) ≡ placed q (placed p ps)
    by true before = placed_turned p q ps before
    by false after = sym (placed_turned q p ps (is_after p q after other))

abbrev all_placed : List Publication → List Publication → List Publication
all_placed so_far ps = fold (λ sorted p. placed p sorted) so_far ps

-- no other is told of at the same place
abbrev AreApart : Publication → List Publication → Type 0
AreApart p qs = AllByRecursion (λ q. rank_cmp p q ≢ Equal) qs

-- one that is put in its place before the others could be put there behind them
placed_first : (p : Publication) (so_far ps : List Publication) → AreApart p ps → all_placed (placed p so_far) ps ≡ placed p (all_placed so_far ps)
placed_first p so_far [] apart = refl
placed_first p so_far (q ∷ qs) apart =
    sym (ap (λ (sorted : List Publication). all_placed sorted qs) (placed_apart p q so_far apart.0)) ∙ placed_first p (placed q so_far) qs apart.1

-- wherever one stands among the others
put_placed : (p : Publication) (so_far ps : List Publication) → AreApart p ps → all_placed so_far (put p ps) ≡ placed p (all_placed so_far ps)
put_placed p so_far [] apart = refl
put_placed p so_far (q ∷ qs) apart = by (stands_before q p) (put_placed p (placed q so_far) qs apart.1)
  where
    by : (b : Bool) → all_placed (placed q so_far) (put p qs) ≡ placed p (all_placed (placed q so_far) qs)
        → all_placed so_far (if b then q ∷ put p qs else p ∷ q ∷ qs) ≡ placed p (all_placed (placed q so_far) qs)
    by true later = later
    by false later = placed_first p so_far (q ∷ qs) apart

-- ---- publications of which node and key name one

-- none of the others has this one's name
unnamed_apart : (p : Publication) (qs : List Publication) → count_by (is_named p.at.node.word p.key) qs ≡ 0 → AreApart p qs
unnamed_apart p [] none = tt
unnamed_apart p (q ∷ qs) none =
    let here = sum_by-cons (λ (x : Publication). cond (is_named p.at.node.word p.key x) 1 0) q qs in (
      (λ same. by (is_named p.at.node.word p.key q) (same_rank_named p q (turned same)) (sym here ∙ none)),
      unnamed_apart p qs (omega (arith, here, none)),
    )
  where
    turned : rank_cmp p q ≡ Equal → rank_cmp q p ≡ Equal
    turned same = total.antisymm (rank_of q) (rank_of p) ∙ ap ordering_reverse same

    by : (b : Bool) → b ≡ true → cond b 1 0 + count_by (is_named p.at.node.word p.key) qs ≡ 0 → ⊥
    by true e sum = absurd (omega (arith, sum))
    by false e sum = absurd (true≢false (sym e))

-- a publication has its own name
named_itself : (p : Publication) → is_named p.at.node.word p.key p ≡ true
named_itself p = itself (p.at.node.word) (p.key)
  where
    eq_itself : (n : ℕ) → nat_eq n n ≡ true
    eq_itself n = grind (arith, nat_tests)

    itself : (n k : ℕ) → (n == n) && (k == k) ≡ true
    itself n k = rw (eq_itself n) (eq_itself k)

arranged_placed : (acc ps : List Publication) → ((node key : ℕ) → count_by (is_named node key) acc + count_by (is_named node key) ps ≤ 1)
    → all_placed [] (fold (λ sorted p. put p sorted) acc ps) ≡ all_placed (all_placed [] acc) ps
arranged_placed acc [] once = refl
arranged_placed acc (p ∷ ps) once =
    arranged_placed (put p acc) ps
    (λ node key.
    let h = once node key in
    let more = count_by-put (is_named node key) p acc in
    let parts = sum_by-cons (λ (x : Publication). cond (is_named node key x) 1 0) p ps in
    omega (arith, h, more, parts))
    ∙ ap (λ (sorted : List Publication). all_placed sorted ps) (put_placed p [] acc (unnamed_apart p acc none))
  where
    none : count_by (is_named p.at.node.word p.key) acc ≡ 0
    none =
        let h = once p.at.node.word p.key in
        let parts = sum_by-cons (λ (x : Publication). cond (is_named p.at.node.word p.key x) 1 0) p ps in
        let one : cond {A = ℕ} (is_named p.at.node.word p.key p) 1 0 ≡ 1 = ap (λ (b : Bool). cond {A = ℕ} b 1 0) (named_itself p) in
        omega (arith, h, parts, one)

all_arranged : (qs : List Publication) → ((node key : ℕ) → count_by (is_named node key) qs ≤ 1) → all_placed [] (arranged qs) ≡ all_placed [] qs
unfolding arranged
all_arranged qs each = arranged_placed [] qs (λ node key. let h = each node key in omega (arith, h))

-- Where node and key name one, the same are told of in the same order, whether they stood in order of node, port and key or not.
pub in_order_arranged : (test : Publication → Bool) (ps : List Publication) → ((node key : ℕ) → count_by (is_named node key) ps ≤ 1)
    → in_order (filter test (arranged ps)) ≡ in_order (filter test ps)
unfolding in_order
in_order_arranged test ps once =
    ap (λ (qs : List Publication). all_placed [] qs) (filter_arranged test ps)
    ∙ all_arranged (filter test ps) (λ node key. let h = once node key in let fewer = count_by-kept (is_named node key) test ps in omega (arith, h, fewer))
