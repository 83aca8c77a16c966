-- The step of a journal with the least stamp behind a front, and the front with it.
use Rattle.std.specs.List.{All, flat_map}
use Rattle.std.specs.Prelude.{Some, None, slice_get}
use Rattle.std.proofs.Common.{◌≡◌, ◌⊎◌, inl, inr, ℕ, zero, suc, ◌+◌, ◌<◌, ◌≤◌, arith, List, [], ◌∷◌, ◌++◌, get_or, length, length-append, map, refl, sym, subst, ◌∙◌, ap}
use Rattle.std.proofs.lemmas.List.{append-nil}
use Rattle.std.proofs.lemmas.Option.{slice_get-get_or}
use Rattle.tipc_journal.specs.declared.entries.Entry.{Entry}
use Rattle.tipc_journal.specs.Counting.{stamps}
use Rattle.tipc_journal.specs.Steps.{IsWhole, NodeStep, PlacedStep, step_entries, steps}
use Rattle.tipc_replay.proofs.InLists.{all_at}
use Rattle.tipc_live.specs.Fronts.{IsFrontBelow}
use Rattle.tipc_live.proofs.Fronts.{IsAmong, among_placed, front_later, front_more, placed, some_entries, steps_joined}

-- ---- look-ups

-- one of two lists, one behind the other
pub get_append : {A : Type 0} (xs ys : List A) (i : ℕ) (x : A) → slice_get (xs ++ ys) i ≡ Some x
    → (slice_get xs i ≡ Some x) ⊎ ((j : ℕ) × (slice_get ys j ≡ Some x))
get_append [] ys i x there = inr (i, there)
get_append (z ∷ zs) ys zero x there = inl there
get_append (z ∷ zs) ys (suc i) x there = get_append zs ys i x there

-- what is in the second of two lists is behind the first
pub get_behind : {A : Type 0} (xs ys : List A) (j : ℕ) (x : A) → slice_get ys j ≡ Some x → (i : ℕ) × (slice_get (xs ++ ys) i ≡ Some x)
get_behind [] ys j x there = (j, there)
get_behind (z ∷ zs) ys j x there = let later = get_behind zs ys j x there in (suc later.0, later.1)

-- what is in the first of two lists is at its place
pub get_longer : {A : Type 0} (xs ys : List A) (i : ℕ) (x : A) → slice_get xs i ≡ Some x → slice_get (xs ++ ys) i ≡ Some x
get_longer [] ys i x there = let none : None ≡ Some x = there in absurd cc
get_longer (z ∷ zs) ys zero x there = there
get_longer (z ∷ zs) ys (suc i) x there = get_longer zs ys i x there

-- what holds of all values that a function gives
all_given : {A : Type 0} (f : A → ℕ) (P : ℕ → Type 0) (xs : List A) (i : ℕ) (x : A) → All P (map f xs) → slice_get xs i ≡ Some x → P (f x)
all_given f P [] i x all there = let none : None ≡ Some x = there in absurd cc
all_given f P (y ∷ ys) zero x all there =
    let one : Some y ≡ Some x = there in
    let same : y ≡ x = cc in
    subst (λ z. P (f z)) same (all 0 (f y) (omega arith))
all_given f P (y ∷ ys) (suc i) x all there = all_given f P ys i x (λ k d within. all (suc k) d (omega (arith, within))) there

-- all of a list, from each of its elements
pub all_from : {A : Type 0} (P : A → Type 0) (xs : List A) → ((i : ℕ) (x : A) → slice_get xs i ≡ Some x → P x) → All P xs
all_from P xs each i d within = each i (get_or xs i d) (slice_get-get_or xs i d within)

-- a stamp of a front
stamp_in : (F : List Entry) (stamp i : ℕ) (p : PlacedStep) → All (λ s. s < stamp) (stamps F) → slice_get (steps F) i ≡ Some p → p.step.by.stamp < stamp
unfolding stamps
stamp_in F stamp i p all there = all_given (λ (q : PlacedStep). q.step.by.stamp) (λ s. s < stamp) (steps F) i p all there

-- ---- the steps behind a front

-- a step behind a front, as it stands in the journal
pub record IsPlaced (before : List Entry) (ss : List NodeStep) (j : ℕ) (u : NodeStep) : Type 0 where
  pub step : PlacedStep
  pub there : slice_get (placed before ss) j ≡ Some step
  pub is : step.step ≡ u
  pub behind : length before ≤ length step.before

pub placed_at : (before : List Entry) (ss : List NodeStep) (j : ℕ) (u : NodeStep) → slice_get ss j ≡ Some u → IsPlaced before ss j u
placed_at before [] j u there = let none : None ≡ Some u = there in absurd cc
placed_at before (s ∷ ss) zero u there =
    let one : Some s ≡ Some u = there in
    let same : s ≡ u = cc in
    record { step = record { before = before; step = s }; there = refl; is = same; behind = omega arith }
placed_at before (s ∷ ss) (suc j) u there =
    let later = placed_at (before ++ step_entries s) ss j u there in
    let more = length-append before (step_entries s) in
    let behind = later.behind in
    record { step = later.step; there = later.there; is = later.is; behind = omega (arith, more, behind) }

-- the steps of a journal with a front
pub steps_fronted : (stamp : ℕ) (J F : List Entry) (f : IsFrontBelow stamp J F) → IsWhole F → steps J ≡ steps F ++ placed F f.rest
steps_fronted stamp J F f whole = ap steps f.joined ∙ steps_joined F f.rest whole f.clean

-- a step whose stamp isn't below is behind the front
pub behind_below : (stamp : ℕ) (J F : List Entry) (f : IsFrontBelow stamp J F) (i : ℕ) (p : PlacedStep) → IsWhole F → slice_get (steps J) i ≡ Some p
    → stamp ≤ p.step.by.stamp → IsAmong F f.rest p
behind_below stamp J F f i p whole there above =
    by (get_append (steps F) (placed F f.rest) i p (subst (λ w. slice_get w i ≡ Some p) (steps_fronted stamp J F f whole) there))
  where
    by : (slice_get (steps F) i ≡ Some p) ⊎ ((j : ℕ) × (slice_get (placed F f.rest) j ≡ Some p)) → IsAmong F f.rest p
    by (inl here) = let below = stamp_in F stamp i p f.below here in absurd (omega (arith, below, above))
    by (inr (j, here)) = among_placed F f.rest j p here

-- each step behind a front stands in the journal
pub rest_stands : (stamp : ℕ) (J F : List Entry) (f : IsFrontBelow stamp J F) (j : ℕ) (u : NodeStep) → IsWhole F → slice_get f.rest j ≡ Some u
    → (i : ℕ) × (q : PlacedStep) × (slice_get (steps J) i ≡ Some q) × (q.step ≡ u)
rest_stands stamp J F f j u whole there =
    let at = placed_at F f.rest j u there in
    let in_all = get_behind (steps F) (placed F f.rest) j at.step at.there in
    (in_all.0, at.step, subst (λ w. slice_get w in_all.0 ≡ Some at.step) (sym (steps_fronted stamp J F f whole)) in_all.1, at.is)

-- where no step of a journal has the stamp, its front is that of the next stamp too
pub front_stays : (stamp : ℕ) (J F : List Entry) (f : IsFrontBelow stamp J F) → IsWhole F
    → ((i : ℕ) (q : PlacedStep) → slice_get (steps J) i ≡ Some q → q.step.by.stamp ≡ stamp → ⊥) → IsFrontBelow (stamp + 1) J F
front_stays stamp J F f whole none = front_later stamp (stamp + 1) J F f (omega arith) (all_from (λ u. stamp + 1 ≤ u.by.stamp) f.rest later)
  where
    later : (j : ℕ) (u : NodeStep) → slice_get f.rest j ≡ Some u → stamp + 1 ≤ u.by.stamp
    later j u there =
        let low = all_at (λ s. stamp ≤ s.by.stamp) f.rest j u f.not_below there in
        let at = rest_stands stamp J F f j u whole there in
        let other : u.by.stamp ≡ stamp → ⊥ = λ same. none at.0 at.1 at.2 (ap (λ (s : NodeStep). s.by.stamp) at.3 ∙ same) in
        omega (arith, low, other)

-- The front with its next step, which alone has the stamp.
pub front_grows : (stamp : ℕ) (J F : List Entry) (f : IsFrontBelow stamp J F) (s : NodeStep) (back : List NodeStep) → IsWhole F → f.rest ≡ s ∷ back
    → s.by.stamp ≡ stamp
    → ((i : ℕ) (q : PlacedStep) → slice_get (steps J) i ≡ Some q → q.step.by.stamp ≡ stamp → length q.before ≡ length F)
    → IsFrontBelow (stamp + 1) J (F ++ step_entries s)
front_grows stamp J F f s back whole rest_is stamp_is own = front_more stamp J F s back f whole rest_is stamp_is (all_from (λ u. stamp + 1 ≤ u.by.stamp) back later)
  where
    later : (j : ℕ) (u : NodeStep) → slice_get back j ≡ Some u → stamp + 1 ≤ u.by.stamp
    later j u there =
        let in_rest : slice_get f.rest (suc j) ≡ Some u = ap (λ w. slice_get w (suc j)) rest_is ∙ there in
        let low = all_at (λ x. stamp ≤ x.by.stamp) f.rest (suc j) u f.not_below in_rest in
        let at = placed_at (F ++ step_entries s) back j u there in
        let in_placed : slice_get (placed F f.rest) (suc j) ≡ Some at.step = ap (λ w. slice_get (placed F w) (suc j)) rest_is ∙ at.there in
        let in_all = get_behind (steps F) (placed F f.rest) (suc j) at.step in_placed in
        let stands = subst (λ w. slice_get w in_all.0 ≡ Some at.step) (sym (steps_fronted stamp J F f whole)) in_all.1 in
        let more = length-append F (step_entries s) in
        let some = (some_entries s).1 in
        let behind = at.behind in
        let other : u.by.stamp ≡ stamp → ⊥ =
        λ same. (let here = own in_all.0 at.step stands (ap (λ (x : NodeStep). x.by.stamp) at.is ∙ same) in omega (arith, here, behind, more, some)) in
        omega (arith, low, other)

-- where no step is left, the front is the journal
pub front_all : (stamp : ℕ) (J F : List Entry) (f : IsFrontBelow stamp J F) → IsWhole F
    → ((i : ℕ) (q : PlacedStep) → slice_get (steps J) i ≡ Some q → q.step.by.stamp < stamp) → F ≡ J
front_all stamp J F f whole below = by f.rest f.joined (λ j u there. rest_stands stamp J F f j u whole there) (λ j u there. all_at (λ s. stamp ≤ s.by.stamp) f.rest j u f.not_below there)
  where
    by : (rest : List NodeStep) → J ≡ F ++ flat_map step_entries rest
        → ((j : ℕ) (u : NodeStep) → slice_get rest j ≡ Some u → (i : ℕ) × (q : PlacedStep) × (slice_get (steps J) i ≡ Some q) × (q.step ≡ u))
        → ((j : ℕ) (u : NodeStep) → slice_get rest j ≡ Some u → stamp ≤ u.by.stamp) → F ≡ J
    by [] joined stands above = sym (joined ∙ append-nil F)
    by (u ∷ us) joined stands above =
        let at = stands 0 u refl in
        let low = above 0 u refl in
        let high = below at.0 at.1 at.2 in
        let same = ap (λ (s : NodeStep). s.by.stamp) at.3 in
        absurd (omega (arith, low, high, same))
