-- What one more whole step of a journal makes of what is counted of its callers, and of its arrivals.
use Rattle.std.specs.List.{All, filter_map, range_with_len}
use Rattle.std.specs.Prelude.{◌==◌, count_by, slice_index_or}
use Rattle.std.proofs.Common.{◌≡◌, ◌≢◌, ℕ, zero, suc, ◌+◌, ◌≤◌, Bool, true, false, arith, List, [], ◌∷◌, ◌++◌, Option, Some, None, cond, length, length-append, refl, sym, subst, ◌∙◌, ap, eqb-true, eq-eqb}
use Rattle.std.proofs.lemmas.Bool.{and_parts}
use Rattle.std.proofs.lemmas.List.Elements.{All-push, filter_map-append}
use Rattle.tipc_types.specs.declared.node_calls.EventNote.{EventNote}
use Rattle.tipc_types.specs.declared.node_calls.EventNote.TheVariants.{Arrive}
use Rattle.tipc_journal.specs.declared.entries.Entry.{Entry}
use Rattle.tipc_journal.specs.declared.entries.Entry.TheVariants.{Answered, Step}
use Rattle.tipc_journal.specs.Counting.{calls_of, is_sent_by_name, names_sent}
use Rattle.tipc_journal.specs.Prefixes.{list_with}
use Rattle.tipc_journal.specs.Steps.{IsInside, IsWhole, NodeStep, PlacedStep, is_inner, step_entries, steps}
use Rattle.tipc_journal.proofs.CountLaws.{calls_of_nil, calls_of_step}
use Rattle.tipc_journal.proofs.StepLaws.{steps_more, steps_nil}
use Rattle.tipc_journal.proofs.StreamLaws.{filter_map_more}
use Rattle.tipc_node.specs.Calls.{CanPerform}
use Rattle.tipc_node_lock.specs.Journals.{AreCalls, CanBeMade, answer_to, answers_to, arrival_number, arrival_numbers}
use Rattle.tipc_node_lock.specs.Locked.{AreCounts}

-- ---- answers

-- an entry inside a step answers nobody
inner_answers : (who : ℕ) (e : Entry) → is_inner e ≡ true → answer_to who e ≡ None
inner_answers who (Step by event) inner = cc
inner_answers who (Answered caller call answered) inner = cc
inner_answers who _ inner = refl

-- nor do all of them
inside_answers : (who : ℕ) (es : List Entry) → IsInside es → filter_map (answer_to who) es ≡ []
inside_answers who [] clean = refl
inside_answers who (e ∷ es) clean =
    let parts = and_parts (is_inner e) _ clean in
    rw (inner_answers who e parts.0) (inside_answers who es parts.1)

-- one more step answers its caller
pub answers_to_step : (who : ℕ) (J : List Entry) (s : NodeStep) → IsInside s.inside
    → answers_to who (J ++ step_entries s) ≡ list_with (answers_to who J) (cond (s.caller == who) (Some s.answer) None)
unfolding answers_to
answers_to_step who J s clean =
    let h = answer_to who in
    let last : Entry = Answered s.caller s.call s.answer in
    filter_map-append h J (step_entries s)
    ∙ ap (λ w. filter_map h J ++ w) (filter_map-append h s.inside (last ∷ []) ∙ ap (λ w. w ++ filter_map h (last ∷ [])) (inside_answers who s.inside clean))
    ∙ sym (filter_map-append h J (last ∷ []))
    ∙ filter_map_more h J last

-- the caller of the step has that answer more
pub answers_own : (J : List Entry) (s : NodeStep) → IsInside s.inside
    → answers_to s.caller (J ++ step_entries s) ≡ answers_to s.caller J ++ s.answer ∷ []
answers_own J s clean =
    answers_to_step s.caller J s clean
    ∙ ap (λ b. list_with (answers_to s.caller J) (cond b (Some s.answer) None)) (eq-eqb s.caller s.caller refl)

-- and no other caller has
pub answers_others : (who : ℕ) (J : List Entry) (s : NodeStep) → IsInside s.inside → who ≢ s.caller
    → answers_to who (J ++ step_entries s) ≡ answers_to who J
answers_others who J s clean other =
    answers_to_step who J s clean ∙ by (s.caller == who) refl
  where
    by : (b : Bool) → (s.caller == who) ≡ b → list_with (answers_to who J) (cond b (Some s.answer) None) ≡ answers_to who J
    by true same = absurd (other (sym (eqb-true s.caller who same)))
    by false apart = refl

-- ---- arrivals

-- in an empty journal nothing arrived
pub arrival_numbers_nil : arrival_numbers [] ≡ []
unfolding arrival_numbers
arrival_numbers_nil = ap (filter_map (λ p. arrival_number p.step.event)) steps_nil

-- one more whole step adds the number of its arrival
pub arrival_numbers_step : (J : List Entry) (s : NodeStep) → IsWhole J → IsInside s.inside
    → arrival_numbers (J ++ step_entries s) ≡ list_with (arrival_numbers J) (arrival_number s.event)
unfolding arrival_numbers
arrival_numbers_step J s whole clean =
    let h : PlacedStep → Option ℕ = λ p. arrival_number p.step.event in
    ap (filter_map h) (steps_more J s whole clean) ∙ filter_map_more h (steps J) (record { before = J; step = s })

-- a call that is performed is no arrival
pub performed_numbers : (call : EventNote) → CanPerform call → arrival_number call ≡ None
performed_numbers (Arrive bearer number) can = absurd can
performed_numbers other can = refl

-- the numbers below one more
pub range_more : (a n : ℕ) → range_with_len a (n + 1) ≡ range_with_len a n ++ (a + n) ∷ []
range_more a zero = ap (λ w. w ∷ []) (omega arith)
range_more a (suc n) =
    ap (range_with_len a) (next (suc n))
    ∙ ap (λ w. a ∷ range_with_len (a + 1) w) (sym (next n))
    ∙ ap (λ w. a ∷ w) (range_more (a + 1) n)
    ∙ ap (λ w. a ∷ (range_with_len (a + 1) n ++ w ∷ [])) (omega arith)
  where
    next : (m : ℕ) → m + 1 ≡ suc m
    next m = omega arith

-- ---- calls

-- a call that is performed is one that a journal may have
pub performed_is : (call : EventNote) → CanPerform call → CanBeMade call
performed_is (Arrive bearer number) can = absurd can
performed_is other can = can

-- an empty journal has no call
pub AreCalls_nil : AreCalls []
AreCalls_nil = subst (λ (w : List PlacedStep). All (λ p. CanBeMade p.step.event) w) (sym steps_nil) (λ i d within. absurd (omega (arith, within)))

-- one more whole step of a call
pub AreCalls_step : (J : List Entry) (s : NodeStep) → IsWhole J → IsInside s.inside → AreCalls J → CanBeMade s.event
    → AreCalls (J ++ step_entries s)
AreCalls_step J s whole clean all one =
    subst (λ (w : List PlacedStep). All (λ p. CanBeMade p.step.event) w) (sym (steps_more J s whole clean))
    (All-push (λ p. CanBeMade p.step.event) (steps J) (record { before = J; step = s }) all one)

-- an empty journal sent nothing by name
pub names_sent_nil : names_sent [] ≡ 0
unfolding names_sent
names_sent_nil = ap (count_by (λ p. is_sent_by_name p.step.event p.step.answer)) steps_nil

-- ---- counts

-- a step is two entries at least
step_length : (J : List Entry) (s : NodeStep) → length J + 2 ≤ length (J ++ step_entries s)
step_length J s =
    let all = length-append J (step_entries s) in
    let inner = length-append s.inside (Answered s.caller s.call s.answer ∷ []) in
    omega (arith, all, inner)

-- counts of an empty journal: a place for caller 0
pub AreCounts_nil : AreCounts [] (0 ∷ [])
AreCounts_nil = record {
  each = λ who. none who ∙ ap length (sym (calls_of_nil who));
  few = λ who. let none = ap length (calls_of_nil who) in omega (arith, none);
}
  where
    none : (who : ℕ) → slice_index_or {A = ℕ} (0 ∷ []) who 0 ≡ zero
    none zero = refl
    none (suc who) = refl

-- two numbers that differ by a test are not the same
apart_not : (n m : ℕ) → (n == m) ≡ false → n ≢ m
apart_not n m apart e = let is = eq-eqb n m e in cc

-- the counts beside a journal with one more whole step, of which the caller's is one higher
pub AreCounts_step : (J : List Entry) (s : NodeStep) (counts counts' : List ℕ) → IsWhole J → IsInside s.inside → AreCounts J counts
    → slice_index_or counts' s.caller 0 ≡ slice_index_or counts s.caller 0 + 1
    → ((who : ℕ) → who ≢ s.caller → slice_index_or counts' who 0 ≡ slice_index_or counts who 0)
    → AreCounts (J ++ step_entries s) counts'
AreCounts_step J s counts counts' whole clean are one others =
    record { each = λ who. (by who (s.caller == who) refl).0; few = λ who. (by who (s.caller == who) refl).1 }
  where
    by : (who : ℕ) (b : Bool) → (s.caller == who) ≡ b
        → (slice_index_or counts' who 0 ≡ length (calls_of (J ++ step_entries s) who)) × (length (calls_of (J ++ step_entries s) who) ≤ length (J ++ step_entries s))
    by who true same =
        let is : who ≡ s.caller = sym (eqb-true s.caller who same) in
        let calls : calls_of (J ++ step_entries s) who ≡ calls_of J who ++ s.call ∷ [] =
        calls_of_step J s who whole clean ∙ ap (λ b. list_with (calls_of J who) (cond b (Some s.call) None)) same in
        let longer = ap length calls ∙ length-append (calls_of J who) (s.call ∷ []) in
        let here : slice_index_or counts' who 0 ≡ slice_index_or counts who 0 + 1 =
        subst (λ (w : ℕ). slice_index_or counts' w 0 ≡ slice_index_or counts w 0 + 1) (sym is) one in
        let was = are.each who in
        let few = are.few who in
        let more = step_length J s in
        (omega (arith, longer, here, was), omega (arith, longer, few, more))
    by who false apart =
        let calls : calls_of (J ++ step_entries s) who ≡ calls_of J who =
        calls_of_step J s who whole clean ∙ ap (λ b. list_with (calls_of J who) (cond b (Some s.call) None)) apart in
        let same = ap length calls in
        let here = others who (λ e. apart_not s.caller who apart (sym e)) in
        let was = are.each who in
        let few = are.few who in
        let more = step_length J s in
        (omega (arith, same, here, was), omega (arith, same, few, more))

-- the counts beside an empty journal
pub counts_new : (journal : List Entry) (counts : List ℕ) → journal ≡ [] → counts ≡ 0 ∷ [] → AreCounts journal counts
counts_new journal counts empty none =
    subst (λ (J : List Entry). AreCounts J counts) (sym empty) (subst (λ (w : List ℕ). AreCounts [] w) (sym none) AreCounts_nil)
