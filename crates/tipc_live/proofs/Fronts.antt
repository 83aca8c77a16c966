-- A step that is made again behind a front gives what the journal keeps only where the journal keeps it there.
use Rattle.std.specs.List.{All, flat_map, list_all}
use Rattle.std.specs.Prelude.{Some, None, slice_get}
use Rattle.std.proofs.Common.{◌≡◌, ℕ, zero, suc, ◌+◌, ◌<◌, ◌≤◌, true, false, arith, List, [], ◌∷◌, ◌++◌, length, length-append, refl, sym, subst, ◌∙◌, ap, append_assoc}
use Rattle.std.proofs.lemmas.Bool.{and_parts}
use Rattle.std.proofs.lemmas.List.{append-nil}
use Rattle.std.proofs.lemmas.List.Elements.{All-push}
use Rattle.tipc_types.specs.declared.node_calls.By.{By}
use Rattle.tipc_types.specs.declared.node_calls.EventNote.{EventNote}
use Rattle.tipc_journal.specs.declared.entries.Entry.{Entry}
use Rattle.tipc_journal.specs.declared.entries.Entry.TheVariants.{Answered, Step}
use Rattle.tipc_journal.specs.Counting.{stamps}
use Rattle.tipc_journal.specs.Steps.{IsInside, IsWhole, NodeStep, PlacedStep, is_inner, step_entries, steps}
use Rattle.tipc_journal.proofs.CountLaws.{stamps_step}
use Rattle.tipc_journal.proofs.StepLaws.{IsWhole_more, steps_more}
use Rattle.tipc_live.specs.Fronts.{IsFrontBelow}

-- none of these steps has a beginning or an end inside
abbrev pub AreClean : List NodeStep → Type 0
AreClean made = list_all (λ s. list_all is_inner s.inside) made ≡ true

-- ---- the steps behind a front

-- steps, each beside what stands before it
abbrev pub placed : List Entry → List NodeStep → List PlacedStep
placed before [] = []
placed before (s ∷ ss) = record { before = before; step = s } ∷ placed (before ++ step_entries s) ss

-- the steps of a front and those behind it
pub steps_joined : (J : List Entry) (ss : List NodeStep) → IsWhole J → AreClean ss → steps (J ++ flat_map step_entries ss) ≡ steps J ++ placed J ss
steps_joined J [] whole clean = ap steps (append-nil J) ∙ sym (append-nil (steps J))
steps_joined J (s ∷ ss) whole clean =
    let parts = and_parts (list_all is_inner s.inside) _ clean in
    let one : List PlacedStep = record { before = J; step = s } ∷ [] in
    ap steps (sym (append_assoc J (step_entries s) (flat_map step_entries ss)))
    ∙ steps_joined (J ++ step_entries s) ss (IsWhole_more J s whole parts.0) parts.1
    ∙ ap (λ w. w ++ placed (J ++ step_entries s) ss) (steps_more J s whole parts.0)
    ∙ append_assoc (steps J) one (placed (J ++ step_entries s) ss)

-- a step among others, with those before and those behind it
pub record IsAmong (before : List Entry) (ss : List NodeStep) (p : PlacedStep) : Type 0 where
  pub front : List NodeStep
  pub back : List NodeStep
  pub all : ss ≡ front ++ p.step ∷ back
  pub before_is : p.before ≡ before ++ flat_map step_entries front

pub among_placed : (before : List Entry) (ss : List NodeStep) (i : ℕ) (p : PlacedStep) → slice_get (placed before ss) i ≡ Some p → IsAmong before ss p
among_placed before [] i p there = let none : None ≡ Some p = there in absurd cc
among_placed before (s ∷ ss) zero p there =
    let first : PlacedStep = record { before = before; step = s } in
    let one : Some first ≡ Some p = there in
    let same : first ≡ p = cc in
    record {
      front = [];
      back = ss;
      all = ap (λ (q : PlacedStep). q.step ∷ ss) same;
      before_is = sym (ap (λ (q : PlacedStep). q.before) same) ∙ sym (append-nil before);
    }
among_placed before (s ∷ ss) (suc i) p there =
    let a = among_placed (before ++ step_entries s) ss i p there in
    record {
      front = s ∷ a.front;
      back = a.back;
      all = ap (λ w. s ∷ w) a.all;
      before_is = a.before_is ∙ append_assoc before (step_entries s) (flat_map step_entries a.front);
    }

-- ---- entries of steps

-- no step begins inside another, or with its end
begins_none : (inside : List Entry) (last : Entry) (k : ℕ) (by : By) (event : EventNote) → list_all is_inner inside ≡ true
    → (last ≡ Step by event → ⊥) → slice_get (inside ++ last ∷ []) k ≡ Some (Step by event) → ⊥
begins_none [] last zero by event clean other there = let one : Some last ≡ Some (Step by event) = there in let same : last ≡ Step by event = cc in other same
begins_none [] last (suc k) by event clean other there = let none : None ≡ Some (Step by event) = there in absurd cc
begins_none (e ∷ es) last zero by event clean other there =
    let parts = and_parts (is_inner e) _ clean in
    let one : Some e ≡ Some (Step by event) = there in
    let same : e ≡ Step by event = cc in
    let inner : false ≡ true = sym (ap is_inner same) ∙ parts.0 in
    absurd cc
begins_none (e ∷ es) last (suc k) by event clean other there =
    let parts = and_parts (is_inner e) _ clean in
    begins_none es last k by event parts.1 other there

begins_once : (t : NodeStep) (k : ℕ) (by : By) (event : EventNote) → IsInside t.inside → slice_get (step_entries t) (suc k) ≡ Some (Step by event) → ⊥
begins_once t k by event clean there = begins_none t.inside (Answered t.caller t.call t.answer) k by event clean (λ same. absurd cc) there

-- two lists that end with their one entry that isn't inside are one, where all of the second stands in the first
same_inside : (xs ys : List Entry) (a b : Entry) → list_all is_inner xs ≡ true → list_all is_inner ys ≡ true → is_inner a ≡ false → is_inner b ≡ false
    → ((k : ℕ) → k < length (ys ++ b ∷ []) → slice_get (xs ++ a ∷ []) k ≡ slice_get (ys ++ b ∷ []) k) → xs ++ a ∷ [] ≡ ys ++ b ∷ []
same_inside [] [] a b _ _ _ _ same = let one : Some a ≡ Some b = same 0 (omega arith) in let is : a ≡ b = cc in ap (λ e. e ∷ []) is
same_inside [] (y ∷ ys) a b _ clean ends _ same =
    let parts = and_parts (is_inner y) _ clean in
    let one : Some a ≡ Some y = same 0 (omega arith) in
    let is : a ≡ y = cc in
    let inner : false ≡ true = sym ends ∙ ap is_inner is ∙ parts.0 in
    absurd cc
same_inside (x ∷ xs) [] a b clean _ _ ends same =
    let parts = and_parts (is_inner x) _ clean in
    let one : Some x ≡ Some b = same 0 (omega arith) in
    let is : x ≡ b = cc in
    let inner : false ≡ true = sym ends ∙ sym (ap is_inner is) ∙ parts.0 in
    absurd cc
same_inside (x ∷ xs) (y ∷ ys) a b clean clean' ends ends' same =
    let parts = and_parts (is_inner x) _ clean in
    let parts' = and_parts (is_inner y) _ clean' in
    let one : Some x ≡ Some y = same 0 (omega arith) in
    let is : x ≡ y = cc in
    ap (λ e. e ∷ (xs ++ a ∷ [])) is
    ∙ ap (λ w. y ∷ w) (same_inside xs ys a b parts.1 parts'.1 ends ends' (λ k less. same (suc k) (omega (arith, less))))

-- so two steps have the same entries, where all of the second stand in the first
same_step : (s t : NodeStep) → IsInside s.inside → IsInside t.inside
    → ((k : ℕ) → k < length (step_entries s) → slice_get (step_entries t) k ≡ slice_get (step_entries s) k) → step_entries t ≡ step_entries s
same_step s t clean clean' same =
    let one : Some (Step t.by t.event) ≡ Some (Step s.by s.event) = same 0 (omega arith) in
    let first : Step t.by t.event ≡ Step s.by s.event = cc in
    let later : List Entry = t.inside ++ Answered t.caller t.call t.answer ∷ [] in
    ap (λ e. e ∷ later) first
    ∙ ap (λ w. Step s.by s.event ∷ w) (same_inside t.inside s.inside (Answered t.caller t.call t.answer) (Answered s.caller s.call s.answer) clean' clean refl refl (λ k less. same (suc k) (omega (arith, less))))

-- ---- a step that compares well

-- what stands behind a front
pub behind_front : (xs ys : List Entry) (k : ℕ) → slice_get (xs ++ ys) (length xs + k) ≡ slice_get ys k
behind_front [] ys k = let e : 0 + k ≡ k = omega arith in ap (slice_get ys) e
behind_front (x ∷ xs) ys k =
    let e : length (x ∷ xs) + k ≡ suc (length xs + k) = omega arith in
    ap (slice_get (x ∷ (xs ++ ys))) e ∙ behind_front xs ys k

-- a step has an entry at least
pub some_entries : (s : NodeStep) → (n : ℕ) × (length (step_entries s) ≡ suc n)
some_entries s = (length (s.inside ++ Answered s.caller s.call s.answer ∷ []), refl)

-- Behind a front F stand kept steps, and the replay made a step t behind F. Where all entries of the kept step s stand
-- at their places in the replay, s is the first of the kept steps, and t has its entries.
pub compares_well : (F : List Entry) (front : List NodeStep) (s t : NodeStep) → IsInside s.inside → IsInside t.inside
    → ((k : ℕ) → k < length (step_entries s) → slice_get (F ++ step_entries t) (length (F ++ flat_map step_entries front) + k) ≡ slice_get (step_entries s) k)
    → (front ≡ []) × (step_entries t ≡ step_entries s)
compares_well F [] s t clean clean' same = (
  refl,
  same_step s t clean clean' (λ k less.
      sym (behind_front F (step_entries t) k)
      ∙ ap (λ n. slice_get (F ++ step_entries t) (n + k)) (sym (ap length (append-nil F)))
      ∙ same k less),
)
compares_well F (u ∷ us) s t clean clean' same = absurd (begins_once t j s.by s.event clean' there)
  where
    j : ℕ
    j = (some_entries u).0 + length (flat_map step_entries us)

    place : length (F ++ flat_map step_entries (u ∷ us)) + 0 ≡ length F + suc j
    place =
        let all = length-append F (flat_map step_entries (u ∷ us)) in
        let parts = length-append (step_entries u) (flat_map step_entries us) in
        let one = (some_entries u).1 in
        omega (arith, all, parts, one)

    there : slice_get (step_entries t) (suc j) ≡ Some (Step s.by s.event)
    there =
        sym (behind_front F (step_entries t) (suc j))
        ∙ ap (slice_get (F ++ step_entries t)) (sym place)
        ∙ same 0 (omega arith)

-- ---- the next front

-- a front is one of the steps below a later stamp too, where no other step is below that
pub front_later : (stamp later : ℕ) (journal F : List Entry) (f : IsFrontBelow stamp journal F) → stamp ≤ later → All (λ s. later ≤ s.by.stamp) f.rest
    → IsFrontBelow later journal F
front_later stamp later journal F f above all = record {
  rest = f.rest;
  clean = f.clean;
  joined = f.joined;
  below = λ i d within. let one = f.below i d within in omega (arith, one, above);
  not_below = all;
}

-- the front with its next step
pub front_more : (stamp : ℕ) (journal F : List Entry) (s : NodeStep) (back : List NodeStep) (f : IsFrontBelow stamp journal F) → IsWhole F
    → f.rest ≡ s ∷ back → s.by.stamp ≡ stamp → All (λ u. stamp + 1 ≤ u.by.stamp) back → IsFrontBelow (stamp + 1) journal (F ++ step_entries s)
front_more stamp journal F s back f whole rest_is stamp_is above =
    let parts = and_parts (list_all is_inner s.inside) _ (sym (ap (λ w. list_all (λ u. list_all is_inner u.inside) w) rest_is) ∙ f.clean) in
    record {
      rest = back;
      clean = parts.1;
      joined = f.joined ∙ ap (λ w. F ++ flat_map step_entries w) rest_is ∙ sym (append_assoc F (step_entries s) (flat_map step_entries back));
      below =
          subst (All (λ x. x < stamp + 1)) (sym (stamps_step F s whole parts.0))
          (All-push (λ x. x < stamp + 1) (stamps F) s.by.stamp (λ i d within. let one = f.below i d within in omega (arith, one)) (omega (arith, stamp_is)));
      not_below = above;
    }
