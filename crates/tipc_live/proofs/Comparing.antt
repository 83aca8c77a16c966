-- The calls that a caller tells beside its steps in a journal, one after the other.
use Rattle.std.specs.List.{filter_map, flat_map, list_all}
use Rattle.std.specs.Prelude.{Option, Some, None, slice_get}
use Rattle.std.proofs.Common.{◌≡◌, inl, inr, ℕ, zero, suc, ◌+◌, ◌==◌, ◌<◌, ◌≤◌, true, false, cond, arith, List, [], ◌∷◌, ◌++◌, length, length-append, map, take, drop, refl, sym, subst, ◌∙◌, ap, append_assoc, eq-eqb}
use Rattle.std.proofs.lemmas.Bool.{and_parts}
use Rattle.std.proofs.lemmas.Bool.Decides.{nat_tests}
use Rattle.std.proofs.lemmas.List.{append-nil, length-map, take-append-drop, take_all, take_at, take_more}
use Rattle.std.proofs.lemmas.List.Concat.{flat_map-append}
use Rattle.std.proofs.lemmas.List.Elements.{filter_map-append}
use Rattle.std.proofs.lemmas.Option.{get_or_from_slice_get, slice_get_cases, slice_get_past, slice_get_within}
use Rattle.tipc_types.specs.declared.node_calls.Answer.{Answer}
use Rattle.tipc_types.specs.declared.node_calls.EventNote.{EventNote}
use Rattle.tipc_journal.specs.declared.entries.Entry.{Entry}
use Rattle.tipc_journal.specs.declared.entries.Entry.TheVariants.{Answered, Step}
use Rattle.tipc_journal.specs.Steps.{IsInside, IsWhole, NodeStep, PlacedStep, is_inner, step_entries, steps}
use Rattle.tipc_journal.proofs.StepLaws.{IsWhole_nil, steps_nil}
use Rattle.tipc_node_lock.specs.declared.passes.MadeCall.{MadeCall}
use Rattle.tipc_live.specs.declared.keeping.KeptStep.{KeptStep}
use Rattle.tipc_live.specs.Calls.{DifferAt, IsToldAt, IsToldSo, given_answer, begun_call, call_of, call_told, steps_by}
use Rattle.tipc_live.specs.Keeping.{kept_in, kept_step}
use Rattle.tipc_live.proofs.Finding.{at_front}
use Rattle.tipc_live.proofs.Fronts.{AreClean, IsAmong, among_placed, behind_front, placed, steps_joined}

-- ---- where a step stands

-- a step stands in its journal behind what is before it
pub record Stands (entries : List Entry) (p : PlacedStep) : Type 0 where
  pub rest : List Entry
  pub clean : IsInside p.step.inside
  pub joined : entries ≡ p.before ++ (step_entries p.step ++ rest)

-- one of several clean steps
clean_at : (front : List NodeStep) (s : NodeStep) (back : List NodeStep) → AreClean (front ++ s ∷ back) → IsInside s.inside
clean_at [] s back clean = (and_parts (list_all is_inner s.inside) _ clean).0
clean_at (u ∷ us) s back clean = clean_at us s back (and_parts (list_all is_inner u.inside) _ clean).1

-- the steps of a whole journal are those that it is made of
pub steps_made : (entries : List Entry) (whole : IsWhole entries) → steps entries ≡ placed [] whole.made
steps_made entries whole = ap steps whole.joined ∙ steps_joined [] whole.made IsWhole_nil whole.clean ∙ ap (λ w. w ++ placed [] whole.made) steps_nil

pub stands_there : (entries : List Entry) (whole : IsWhole entries) (i : ℕ) (p : PlacedStep) → slice_get (steps entries) i ≡ Some p → Stands entries p
stands_there entries whole i p there = by (among_placed [] whole.made i p (subst (λ w. slice_get w i ≡ Some p) (steps_made entries whole) there))
  where
    by : IsAmong [] whole.made p → Stands entries p
    by a = record {
      rest = flat_map step_entries a.back;
      clean = clean_at a.front p.step a.back (subst AreClean a.all whole.clean);
      joined =
          whole.joined
          ∙ ap (flat_map step_entries) a.all
          ∙ flat_map-append step_entries a.front (p.step ∷ a.back)
          ∙ ap (λ w. w ++ (step_entries p.step ++ flat_map step_entries a.back)) (sym a.before_is);
    }

-- its first entry
pub first_entry : (entries : List Entry) (p : PlacedStep) → Stands entries p → slice_get entries (length p.before) ≡ Some (Step p.step.by p.step.event)
first_entry entries p s = ap (λ es. slice_get es (length p.before)) s.joined ∙ at_front p.before (step_entries p.step ++ s.rest)

-- its last entry
pub last_entry : (entries : List Entry) (p : PlacedStep) → Stands entries p
    → slice_get entries (length p.before + 1 + length p.step.inside) ≡ Some (Answered p.step.caller p.step.call p.step.answer)
last_entry entries p s =
    let end : List Entry = Answered p.step.caller p.step.call p.step.answer ∷ [] in
    let e : length p.before + 1 + length p.step.inside ≡ length p.before + suc (length p.step.inside) = omega arith in
    ap (λ es. slice_get es (length p.before + 1 + length p.step.inside)) s.joined
    ∙ ap (slice_get (p.before ++ (step_entries p.step ++ s.rest))) e
    ∙ behind_front p.before (step_entries p.step ++ s.rest) (suc (length p.step.inside))
    ∙ ap (λ es. slice_get es (length p.step.inside)) (append_assoc p.step.inside end s.rest)
    ∙ at_front p.step.inside (end ++ s.rest)

-- ---- a step as it is told

-- the parts of a call
call_is : (m : MadeCall) (stamp : ℕ) (call : EventNote) (answered : Answer) → stamp ≡ m.stamp → call ≡ m.call → answered ≡ m.answer
    → m ≡ record { stamp = stamp; call = call; answer = answered }
call_is m stamp call answered s c a =
    sym (ap (λ x. record { stamp = x; call = call; answer = answered }) s
    ∙ ap (λ x. record { stamp = m.stamp; call = x; answer = answered }) c
    ∙ ap (λ x. record { stamp = m.stamp; call = m.call; answer = x }) a)

-- a caller tells a step so just where it tells that step
pub told_so : (entries : List Entry) (node : ℕ) (p : PlacedStep) (m : MadeCall) → Stands entries p → IsToldSo entries (kept_step node p) m → m ≡ call_told p.step
told_so entries node p m s t =
    let call : Some p.step.event ≡ Some m.call = sym (ap begun_call (first_entry entries p s)) ∙ t.call in
    let call_same : p.step.event ≡ m.call = cc in
    let answered : Some p.step.answer ≡ Some m.answer = sym (ap given_answer (last_entry entries p s)) ∙ t.answered in
    let answer_same : p.step.answer ≡ m.answer = cc in
    call_is m p.step.by.stamp p.step.event p.step.answer t.stamp call_same answer_same

pub so_told : (entries : List Entry) (node : ℕ) (p : PlacedStep) (m : MadeCall) → Stands entries p → m ≡ call_told p.step → IsToldSo entries (kept_step node p) m
so_told entries node p m s is = record {
  stamp = sym (ap (λ (x : MadeCall). x.stamp) is);
  call = ap begun_call (first_entry entries p s) ∙ ap (λ (x : MadeCall). Some x.call) (sym is);
  answered = ap given_answer (last_entry entries p s) ∙ ap (λ (x : MadeCall). Some x.answer) (sym is);
}

-- so it is of what a caller tells at a place, or doesn't tell
pub told_at : (entries : List Entry) (node : ℕ) (p : PlacedStep) (m : Option MadeCall) → Stands entries p → IsToldAt entries (kept_step node p) m → m ≡ Some (call_told p.step)
told_at entries node p None s t = absurd t
told_at entries node p (Some m) s t = ap Some (told_so entries node p m s t)

pub at_told : (entries : List Entry) (node : ℕ) (p : PlacedStep) (m : Option MadeCall) → Stands entries p → m ≡ Some (call_told p.step) → IsToldAt entries (kept_step node p) m
at_told entries node p None s is = absurd cc
at_told entries node p (Some m) s is = let same : m ≡ call_told p.step = cc in so_told entries node p m s same

-- the step behind a kept one
pub record IsKeptAt (node : ℕ) (ps : List PlacedStep) (i : ℕ) (k : KeptStep) : Type 0 where
  pub placed : PlacedStep
  pub there : slice_get ps i ≡ Some placed
  pub is : k ≡ kept_step node placed

pub kept_at : (node : ℕ) (ps : List PlacedStep) (i : ℕ) (k : KeptStep) → slice_get (map (kept_step node) ps) i ≡ Some k → IsKeptAt node ps i k
kept_at node [] i k there = let none : None ≡ Some k = there in absurd cc
kept_at node (p ∷ ps) zero k there =
    let one : Some (kept_step node p) ≡ Some k = there in
    let same : kept_step node p ≡ k = cc in
    record { placed = p; there = refl; is = sym same }
kept_at node (p ∷ ps) (suc i) k there = let later = kept_at node ps i k there in record { placed = later.placed; there = later.there; is = later.is }

-- ---- one call after the other

-- up to a step of the journal, as many calls as the caller made are told as they are
pub record AreTold (caller : ℕ) (ps : List PlacedStep) (told : List MadeCall) (i number : ℕ) : Type 0 where
  pub count : number ≡ length (filter_map (λ p. call_of caller p.step) (take i ps))
  pub same : take number told ≡ filter_map (λ p. call_of caller p.step) (take i ps)

-- the calls up to one step more
calls_more : (caller : ℕ) (ps : List PlacedStep) (i : ℕ) (p : PlacedStep) → slice_get ps i ≡ Some p
    → filter_map (λ q. call_of caller q.step) (take (i + 1) ps) ≡ filter_map (λ q. call_of caller q.step) (take i ps) ++ filter_map (λ q. call_of caller q.step) (p ∷ [])
calls_more caller ps i p there =
    let within = slice_get_within ps i p there in
    let here = get_or_from_slice_get ps i p p there in
    ap (filter_map (λ q. call_of caller q.step)) (take_more ps i p within ∙ ap (λ x. take i ps ++ x ∷ []) here)
    ∙ filter_map-append (λ q. call_of caller q.step) (take i ps) (p ∷ [])

-- another caller's step
pub told_skip : (caller : ℕ) (ps : List PlacedStep) (told : List MadeCall) (i number : ℕ) (p : PlacedStep) → AreTold caller ps told i number
    → slice_get ps i ≡ Some p → (p.step.by.caller == caller) ≡ false → AreTold caller ps told (i + 1) number
told_skip caller ps told i number p t there other =
    let none : filter_map (λ q. call_of caller q.step) (p ∷ []) ≡ [] = ap (λ b. filter_map (λ (o : Option MadeCall). o) (cond b (Some (call_told p.step)) None ∷ [])) other in
    let all = calls_more caller ps i p there ∙ ap (λ w. filter_map (λ q. call_of caller q.step) (take i ps) ++ w) none ∙ append-nil _ in
    record { count = t.count ∙ ap length (sym all); same = t.same ∙ sym all }

-- the caller's next step
own_call : (caller : ℕ) (p : PlacedStep) → (p.step.by.caller == caller) ≡ true → filter_map (λ q. call_of caller q.step) (p ∷ []) ≡ call_told p.step ∷ []
own_call caller p own = ap (λ b. filter_map (λ (o : Option MadeCall). o) (cond b (Some (call_told p.step)) None ∷ [])) own

pub told_next : (caller : ℕ) (ps : List PlacedStep) (told : List MadeCall) (i number : ℕ) (p : PlacedStep) → AreTold caller ps told i number
    → slice_get ps i ≡ Some p → (p.step.by.caller == caller) ≡ true → slice_get told number ≡ Some (call_told p.step) → AreTold caller ps told (i + 1) (number + 1)
told_next caller ps told i number p t there own is =
    let all = calls_more caller ps i p there ∙ ap (λ w. filter_map (λ q. call_of caller q.step) (take i ps) ++ w) (own_call caller p own) in
    let size = ap length all ∙ length-append (filter_map (λ q. call_of caller q.step) (take i ps)) (call_told p.step ∷ []) in
    let count = t.count in
    let one : length (call_told p.step ∷ []) ≡ 1 = refl in
    let within = slice_get_within told number (call_told p.step) is in
    let here = get_or_from_slice_get told number (call_told p.step) (call_told p.step) is in
    record {
      count = omega (arith, size, count, one);
      same =
          take_more told number (call_told p.step) within
          ∙ ap (λ x. take number told ++ x ∷ []) here
          ∙ ap (λ w. w ++ call_told p.step ∷ []) t.same
          ∙ sym all;
    }

-- the caller tells otherwise of its next step
pub told_differs : (caller : ℕ) (entries : List Entry) (told : List MadeCall) (i number : ℕ) (p : PlacedStep) → AreTold caller (steps entries) told i number
    → slice_get (steps entries) i ≡ Some p → (p.step.by.caller == caller) ≡ true → (slice_get told number ≡ Some (call_told p.step) → ⊥)
    → DifferAt told (steps_by caller entries) number
unfolding steps_by
told_differs caller entries told i number p t there own other =
    let ps = steps entries in
    let front : List MadeCall = filter_map (λ q. call_of caller q.step) (take i ps) in
    let back : List MadeCall = filter_map (λ q. call_of caller q.step) (drop (i + 1) ps) in
    let all : filter_map (λ q. call_of caller q.step) ps ≡ front ++ (call_told p.step ∷ back) =
    ap (filter_map (λ q. call_of caller q.step)) (sym (take-append-drop (i + 1) ps))
    ∙ filter_map-append (λ q. call_of caller q.step) (take (i + 1) ps) (drop (i + 1) ps)
    ∙ ap (λ w. w ++ back) (calls_more caller ps i p there ∙ ap (λ w. front ++ w) (own_call caller p own))
    ∙ append_assoc front (call_told p.step ∷ []) back in
    let here : slice_get (filter_map (λ q. call_of caller q.step) ps) number ≡ Some (call_told p.step) =
    ap (λ w. slice_get w number) all ∙ ap (slice_get (front ++ (call_told p.step ∷ back))) t.count ∙ calls_front front (call_told p.step) back in
    record {
      before = t.same ∙ sym (ap (take number) all ∙ take_at front (call_told p.step ∷ back) number (sym t.count));
      there = λ same. other (same ∙ here);
    }
  where
    calls_front : (xs : List MadeCall) (x : MadeCall) (ys : List MadeCall) → slice_get (xs ++ x ∷ ys) (length xs) ≡ Some x
    calls_front [] x ys = refl
    calls_front (y ∷ xs) x ys = calls_front xs x ys

-- all steps are gone through
pub told_all : (caller : ℕ) (entries : List Entry) (told : List MadeCall) (i number : ℕ) → AreTold caller (steps entries) told i number
    → length (steps entries) ≤ i → length told ≤ number → told ≡ steps_by caller entries
unfolding steps_by
told_all caller entries told i number t end few =
    sym (take_all number told few) ∙ t.same ∙ ap (filter_map (λ q. call_of caller q.step)) (take_all i (steps entries) end)

pub told_beyond : (caller : ℕ) (entries : List Entry) (told : List MadeCall) (i number : ℕ) → AreTold caller (steps entries) told i number
    → length (steps entries) ≤ i → number < length told → DifferAt told (steps_by caller entries) number
unfolding steps_by
told_beyond caller entries told i number t end more =
    let all : filter_map (λ q. call_of caller q.step) (take i (steps entries)) ≡ filter_map (λ q. call_of caller q.step) (steps entries) =
    ap (filter_map (λ q. call_of caller q.step)) (take_all i (steps entries) end) in
    let size : number ≡ length (filter_map (λ q. call_of caller q.step) (steps entries)) = t.count ∙ ap length all in
    record {
      before = t.same ∙ all ∙ sym (take_all number _ (omega (arith, size)));
      there = λ same. something (sym (slice_get_past _ number (omega (arith, size))) ∙ sym same);
    }
  where
    something : None ≡ slice_get told number → ⊥
    something none = elim (slice_get_cases told number).1 [
      | inl h ↦ let both : None ≡ Some h.0 = none ∙ h.2 in absurd cc
      | inr h ↦ let past = h.0 in absurd (omega (arith, more, past))
    ]

-- ---- by the kept steps

pub kept_there : (node : ℕ) (entries : List Entry) (ks : List KeptStep) (i : ℕ) (k : KeptStep) → ks ≡ kept_in node entries → slice_get ks i ≡ Some k
    → IsKeptAt node (steps entries) i k
unfolding kept_in
kept_there node entries ks i k all there = kept_at node (steps entries) i k (subst (λ w. slice_get w i ≡ Some k) all there)

kept_size : (node : ℕ) (entries : List Entry) (ks : List KeptStep) → ks ≡ kept_in node entries → length ks ≡ length (steps entries)
unfolding kept_in
kept_size node entries ks all = ap length all ∙ length-map (steps entries) (kept_step node)

-- the caller's next step is told as it is
pub next_told : (caller node : ℕ) (entries : List Entry) (ks : List KeptStep) (told : List MadeCall) (i number : ℕ) (k : KeptStep) → IsWhole entries
    → ks ≡ kept_in node entries → AreTold caller (steps entries) told i number → slice_get ks i ≡ Some k → k.by.caller ≡ caller
    → IsToldAt entries k (slice_get told number) → AreTold caller (steps entries) told (i + 1) (number + 1)
next_told caller node entries ks told i number k whole all t there own is =
    let at = kept_there node entries ks i k all there in
    let whose : at.placed.step.by.caller ≡ caller = sym (ap (λ (x : KeptStep). x.by.caller) at.is) ∙ own in
    told_next caller (steps entries) told i number at.placed t at.there (eq-eqb at.placed.step.by.caller caller whose)
    (told_at entries node at.placed (slice_get told number) (stands_there entries whole i at.placed at.there) (subst (λ x. IsToldAt entries x (slice_get told number)) at.is is))

-- another caller's step
pub skip_told : (caller node : ℕ) (entries : List Entry) (ks : List KeptStep) (told : List MadeCall) (i number : ℕ) (k : KeptStep)
    → ks ≡ kept_in node entries → AreTold caller (steps entries) told i number → slice_get ks i ≡ Some k → (k.by.caller ≡ caller → ⊥)
    → AreTold caller (steps entries) told (i + 1) number
skip_told caller node entries ks told i number k all t there other =
    let at = kept_there node entries ks i k all there in
    told_skip caller (steps entries) told i number at.placed t at.there (apart at.placed.step.by.caller (λ same. other (ap (λ (x : KeptStep). x.by.caller) at.is ∙ same)))
  where
    apart : (x : ℕ) → (x ≡ caller → ⊥) → (x == caller) ≡ false
    apart x not = grind (arith, nat_tests)

-- it is told otherwise
pub differs_told : (caller node : ℕ) (entries : List Entry) (ks : List KeptStep) (told : List MadeCall) (i number : ℕ) (k : KeptStep) → IsWhole entries
    → ks ≡ kept_in node entries → AreTold caller (steps entries) told i number → slice_get ks i ≡ Some k → k.by.caller ≡ caller
    → (IsToldAt entries k (slice_get told number) → ⊥) → DifferAt told (steps_by caller entries) number
differs_told caller node entries ks told i number k whole all t there own not =
    let at = kept_there node entries ks i k all there in
    let whose : at.placed.step.by.caller ≡ caller = sym (ap (λ (x : KeptStep). x.by.caller) at.is) ∙ own in
    told_differs caller entries told i number at.placed t at.there (eq-eqb at.placed.step.by.caller caller whose)
    (λ same. not (subst (λ x. IsToldAt entries x (slice_get told number)) (sym at.is)
    (at_told entries node at.placed (slice_get told number) (stands_there entries whole i at.placed at.there) same)))

-- no step is left
pub beyond_told : (caller node : ℕ) (entries : List Entry) (ks : List KeptStep) (told : List MadeCall) (i number : ℕ)
    → ks ≡ kept_in node entries → AreTold caller (steps entries) told i number → length ks ≤ i → number < length told
    → DifferAt told (steps_by caller entries) number
beyond_told caller node entries ks told i number all t end more =
    let size = kept_size node entries ks all in told_beyond caller entries told i number t (omega (arith, end, size)) more

pub all_told : (caller node : ℕ) (entries : List Entry) (ks : List KeptStep) (told : List MadeCall) (i number : ℕ)
    → ks ≡ kept_in node entries → AreTold caller (steps entries) told i number → length ks ≤ i → length told ≤ number → told ≡ steps_by caller entries
all_told caller node entries ks told i number all t end few =
    let size = kept_size node entries ks all in told_all caller entries told i number t (omega (arith, end, size)) few
