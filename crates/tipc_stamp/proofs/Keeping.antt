-- The steps on the word keep the rule of the stamps.
use Rattle.std.proofs.Common.{◌≡◌, ℕ, ◌+◌, ◌-◌, ◌%◌, ◌^◌, ◌<◌, ◌≤◌, List, [], ◌∷◌, ◌++◌, length, set, sym, refl, ap, ◌∙◌, ⊎_elim, arith}
use Rattle.std.specs.Prelude.{slice_index}
use Rattle.std.specs.List.{sum_by, AllByRecursion}
use Rattle.std.proofs.lemmas.List.Elements.{All-from_recursion}
use Rattle.std.proofs.lemmas.List.Sums.{sum_by_push}
use mathlib.Core.Option.{some, some-ne-none}
use lib.ListN.{get_elem?, length-set}
use Rattle.atomic_table.specs.Table.{keeps, Allows, Me, Splits, State}
use Rattle.atomic_table.proofs.Lists.{at_set, at_snoc}
use Rattle.tipc_stamp.specs.declared.rule.Drawn.{Drawn}
use Rattle.tipc_stamp.specs.Given.{knows, once_below, times, Draws, Given, IsAhead, Looks}
use Rattle.tipc_stamp.proofs.Counting.{once_more, once_within, sum_has, sum_set, times_cons, times_last, times_self}

word_set : (words : List ℕ) (n : ℕ) → length words ≡ 1 → slice_index (set words 0 n) 0 ≡ n
word_set [] n one = absurd (omega (arith, one))
word_set (x ∷ xs) n one = refl

below_by : (n : ℕ) (ys : List ℕ) → ((x : ℕ) → times x ys ≤ once_below x n) → AllByRecursion (λ x. x < n) ys
below_by n [] few = tt
below_by n (y ∷ ys) few =
    let self = times_self y in
    let all = times_cons y y ys in
    let most = few y in
    (once_within y n (omega (arith, self, all, most)), below_by n ys (λ x. let more = times_cons x y ys in let most = few x in omega (arith, more, most)))

-- what a seat drew is below the word, and what it saw isn't above it
pub ahead : {S : Type 0} (s : State S Drawn) → Given s → (id : ℕ) (v : Drawn) → get_elem? s.views id ≡ some v → IsAhead (slice_index s.words 0) v
ahead s given id v at =
    let n = slice_index s.words 0 in (
      All-from_recursion (λ x. x < n) v.drawn (below_by n v.drawn (λ x. let one = given.each x in let has = sum_has (λ (u : Drawn). times x u.drawn) s.views id v at in omega (arith, one, has))),
      given.seen id v at,
    )

pub draws : {S : Type 0} (slots id : ℕ) (me : Me S Drawn) → 0 < me.0.left → Allows Given slots id me 0 (λ n. (n + 1) % 2 ^ 64) (Draws me)
draws slots id me more s given homes at small =
    let n : ℕ = slice_index s.words 0 in
    let v : Drawn = me.0 in
    let w : Drawn = knows (v.drawn ++ n ∷ []) (v.left - 1) v.seen in
    let left = sum_set (λ (u : Drawn). u.left) s.views id v w at in
    let has = sum_has (λ (u : Drawn). u.left) s.views id v at in
    let budget = given.budget in
    let next : (n + 1) % 2 ^ 64 ≡ n + 1 = omega (arith, has, budget, more) in
    let is = word_set s.words ((n + 1) % 2 ^ 64) given.word ∙ next in (
      w,
      keeps,
      tt,
      record {
        word = length-set s.words 0 _ ∙ given.word;
        each = λ x.
            let drew = sum_set (λ (u : Drawn). times x u.drawn) s.views id v w at in
            let last = times_last x n v.drawn in
            let one = given.each x in
            let past = once_more x n in
            (let all : sum_by (λ u. times x u.drawn) (set s.views id w) ≡ once_below x (n + 1) = omega (arith, drew, last, one, past) in all ∙ ap (once_below x) (sym is));
        budget = omega (arith, left, budget, is, more, has);
        seen = λ j u at'. ⊎_elim (λ (e : (j ≡ id) × (w ≡ u)). let old = given.seen id v at in let same = ap (λ (y : Drawn). y.seen) e.1 in omega (arith, old, same, is))
            (λ e. let old = given.seen j u e.1 in omega (arith, old, is)) (at_set s.views id j w u at');
      },
      (refl, refl, ahead s given id v at),
    )

pub looks : {S : Type 0} (slots id : ℕ) (me : Me S Drawn) → Allows Given slots id me 0 (λ n. n) (Looks me)
looks slots id me s given homes at small =
    let n : ℕ = slice_index s.words 0 in
    let v : Drawn = me.0 in
    let w : Drawn = knows v.drawn v.left n in
    let is = word_set s.words n given.word in (
      w,
      keeps,
      tt,
      record {
        word = length-set s.words 0 _ ∙ given.word;
        each = λ x.
            let same = sum_set (λ (u : Drawn). times x u.drawn) s.views id v w at in
            let one = given.each x in
            (let all : sum_by (λ u. times x u.drawn) (set s.views id w) ≡ once_below x n = omega (arith, same, one) in all ∙ ap (once_below x) (sym is));
        budget = let same = sum_set (λ (u : Drawn). u.left) s.views id v w at in let budget = given.budget in omega (arith, same, budget, is);
        seen = λ j u at'. ⊎_elim (λ (e : (j ≡ id) × (w ≡ u)). let same = ap (λ (y : Drawn). y.seen) e.1 in omega (arith, same, is))
            (λ e. let old = given.seen j u e.1 in omega (arith, old, is)) (at_set s.views id j w u at');
      },
      (refl, refl, ahead s given id v at),
    )

-- a seat with enough draws gives a new one those of a seat
pub deals : {S : Type 0} (id : ℕ) (v : Drawn) → 2 ^ 40 ≤ v.left → Splits (Given {S = S}) id v (knows v.drawn (v.left - 2 ^ 40) v.seen) (knows [] (2 ^ 40) 0)
deals id v enough s given at =
    let l : Drawn = knows v.drawn (v.left - 2 ^ 40) v.seen in
    let r : Drawn = knows [] (2 ^ 40) 0 in
    record {
      word = given.word;
      each = λ x.
          let same = sum_set (λ (u : Drawn). times x u.drawn) s.views id v l at in
          let last = sum_by_push (λ (u : Drawn). times x u.drawn) (set s.views id l) r in
          let one = given.each x in
          omega (arith, same, last, one);
      budget =
          let less = sum_set (λ (u : Drawn). u.left) s.views id v l at in
          let last = sum_by_push (λ (u : Drawn). u.left) (set s.views id l) r in
          let budget = given.budget in
          omega (arith, less, last, budget, enough);
      seen = λ j u at'. ⊎_elim (λ first. ⊎_elim (λ (e : (j ≡ id) × (l ≡ u)). let old = given.seen id v at in let same = ap (λ (y : Drawn). y.seen) e.1 in omega (arith, old, same))
          (λ e. given.seen j u e.1) (at_set s.views id j l u first)) (λ is. let same = ap (λ (y : Drawn). y.seen) is in omega (arith, same)) (at_snoc (set s.views id l) r u j at');
    }
