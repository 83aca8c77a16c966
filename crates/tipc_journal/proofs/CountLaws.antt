-- What one more whole step adds to what a journal counts.
use Rattle.std.specs.List.{All, filter_map, range_with_len, AllByRecursion}
use Rattle.std.specs.List.Sorted.{IsStrictlySortedBy}
use Rattle.std.specs.Cmp.{nat_cmp_is}
use Rattle.std.specs.Ordering.{nat_cmp}
use Rattle.std.specs.Prelude.{count_by, nat_lt, ◌==◌, ◌&&◌}
use Rattle.std.proofs.lemmas.Bool.Decides.{nat_tests}
use Rattle.std.specs.declared.cmp.Ordering.TheVariants.{Less}
use Rattle.std.proofs.Common.{◌≡◌, ℕ, zero, suc, ◌+◌, ◌<◌, Bool, true, false, arith, List, [], ◌∷◌, ◌++◌, Option, Some, None, cond, length, length-append, map, sum_by, refl, sym, subst, ◌∙◌, ap, zero-add, eqb-true}
use Rattle.std.proofs.lemmas.List.Elements.{All-push, recursion_from_All}
use Rattle.std.proofs.lemmas.List.Sums.{sum_by-append, sum_by-cons}
use Rattle.std.proofs.lemmas.List.{map-append}
use Rattle.tipc_journal.specs.declared.entries.Entry.{Entry}
use Rattle.tipc_journal.specs.declared.entries.Entry.TheVariants.{Step, Answered}
use Rattle.tipc_journal.specs.Counting.{call_by, calls_of, is_sent_by_name, names_sent, names_sent_before, stamps, AllAnsweredToCallers, CallsCount, IsAnsweredToCaller, StampsRise}
use Rattle.tipc_journal.specs.Licensed.{event_given, events_given}
use Rattle.tipc_journal.specs.Prefixes.{list_with}
use Rattle.tipc_journal.specs.Refusals.{is_subscribed, made_by, sockets_made, subscriptions_made}
use Rattle.tipc_journal.specs.Steps.{IsInside, IsWhole, NodeStep, PlacedStep, step_entries, steps}
use Rattle.tipc_journal.proofs.StepLaws.{steps_more, steps_nil}
use Rattle.tipc_journal.proofs.StreamLaws.{filter_map_more}

-- how many steps pass a test, with one more whole step
count_step : (test : PlacedStep → Bool) (J : List Entry) (s : NodeStep) → IsWhole J → IsInside s.inside
    → count_by test (steps (J ++ step_entries s)) ≡ count_by test (steps J) + cond (test (record { before = J; step = s })) 1 0
count_step test J s whole clean =
    let n : PlacedStep → ℕ = λ p. cond (test p) 1 0 in
    ap (sum_by n) (steps_more J s whole clean)
    ∙ sum_by-append n (steps J) (record { before = J; step = s } ∷ [])
    ∙ ap (λ w. sum_by n (steps J) + w) (zero-add (n (record { before = J; step = s })))

-- what is read of some steps, with one more whole step
read_step : {Y : Type 0} (h : PlacedStep → Option Y) (J : List Entry) (s : NodeStep) → IsWhole J → IsInside s.inside
    → filter_map h (steps (J ++ step_entries s)) ≡ list_with (filter_map h (steps J)) (h (record { before = J; step = s }))
read_step h J s whole clean = ap (filter_map h) (steps_more J s whole clean) ∙ filter_map_more h (steps J) (record { before = J; step = s })

-- one more whole step counts where it sent a message by name
pub names_sent_step : (J : List Entry) (s : NodeStep) → IsWhole J → IsInside s.inside
    → names_sent (J ++ step_entries s) ≡ names_sent J + cond (is_sent_by_name s.event s.answer) 1 0
unfolding names_sent
names_sent_step J s whole clean = count_step (λ p. is_sent_by_name p.step.event p.step.answer) J s whole clean

-- an empty journal has none before a stamp
pub names_sent_before_nil : (stamp : ℕ) → names_sent_before [] stamp ≡ 0
unfolding names_sent_before
names_sent_before_nil stamp = ap (count_by (λ p. nat_lt p.step.by.stamp stamp && is_sent_by_name p.step.event p.step.answer)) steps_nil

-- one more whole step counts before the stamps above its own where it sent a message by name
pub names_sent_before_step : (J : List Entry) (s : NodeStep) (stamp : ℕ) → IsWhole J → IsInside s.inside
    → names_sent_before (J ++ step_entries s) stamp ≡ names_sent_before J stamp + cond (nat_lt s.by.stamp stamp && is_sent_by_name s.event s.answer) 1 0
unfolding names_sent_before
names_sent_before_step J s stamp whole clean =
    count_step (λ p. nat_lt p.step.by.stamp stamp && is_sent_by_name p.step.event p.step.answer) J s whole clean

-- counts of two tests that agree where a third holds of all
count_agrees : (f g : PlacedStep → Bool) (P : PlacedStep → Type 0) (ps : List PlacedStep) → AllByRecursion P ps
    → ((p : PlacedStep) → P p → f p ≡ g p) → count_by f ps ≡ count_by g ps
count_agrees f g P [] h same = refl
count_agrees f g P (p ∷ ps) h same =
    let first = sum_by-cons (λ x. cond (f x) 1 0) p ps in
    let second = sum_by-cons (λ x. cond (g x) 1 0) p ps in
    let here : ◌≡◌ {A = ℕ} (cond (f p) 1 0) (cond (g p) 1 0) = ap (λ b. cond b 1 0) (same p h.0) in
    let later = count_agrees f g P ps h.1 same in
    omega (arith, first, second, here, later)

-- before a stamp above all of the journal are all that were sent by name
pub names_sent_before_all : (J : List Entry) (stamp : ℕ) → All (λ x. x < stamp) (stamps J) → names_sent_before J stamp ≡ names_sent J
unfolding names_sent_before names_sent stamps
names_sent_before_all J stamp below =
    count_agrees (λ p. nat_lt p.step.by.stamp stamp && is_sent_by_name p.step.event p.step.answer) (λ p. is_sent_by_name p.step.event p.step.answer)
    (λ p. p.step.by.stamp < stamp) (steps J)
    (mapped (steps J) (recursion_from_All (λ x. x < stamp) (map (λ p. p.step.by.stamp) (steps J)) below))
    (λ p h. ap (λ b. b && is_sent_by_name p.step.event p.step.answer) (below_tests p.step.by.stamp stamp h))
  where
    mapped : (ps : List PlacedStep) → AllByRecursion (λ x. x < stamp) (map (λ p. p.step.by.stamp) ps) → AllByRecursion (λ p. p.step.by.stamp < stamp) ps
    mapped [] h = tt
    mapped (p ∷ ps) h = (h.0, mapped ps h.1)

    below_tests : (a b : ℕ) → a < b → nat_lt a b ≡ true
    below_tests a b h = grind (arith, nat_tests)

-- in an empty journal no event was given
pub events_given_nil : (n : ℕ) → events_given [] n ≡ []
unfolding events_given
events_given_nil n = ap (filter_map (λ p. event_given n p.step.event p.step.answer)) steps_nil

-- one more whole step adds the event of the subscription that it gave
pub events_given_step : (J : List Entry) (s : NodeStep) (n : ℕ) → IsWhole J → IsInside s.inside
    → events_given (J ++ step_entries s) n ≡ list_with (events_given J n) (event_given n s.event s.answer)
unfolding events_given
events_given_step J s n whole clean = read_step (λ p. event_given n p.step.event p.step.answer) J s whole clean

-- in an empty journal no socket was made
pub sockets_made_nil : sockets_made [] ≡ []
unfolding sockets_made
sockets_made_nil = ap (filter_map (λ p. made_by p.step.event p.step.answer)) steps_nil

-- one more whole step adds the socket that it made
pub sockets_made_step : (J : List Entry) (s : NodeStep) → IsWhole J → IsInside s.inside
    → sockets_made (J ++ step_entries s) ≡ list_with (sockets_made J) (made_by s.event s.answer)
unfolding sockets_made
sockets_made_step J s whole clean = read_step (λ p. made_by p.step.event p.step.answer) J s whole clean

-- in an empty journal no subscription was made
pub subscriptions_made_nil : subscriptions_made [] ≡ 0
unfolding subscriptions_made
subscriptions_made_nil = refl

-- one more entry counts where it is a Subscribed
pub subscriptions_made_more : (J : List Entry) (e : Entry) → subscriptions_made (J ++ e ∷ []) ≡ subscriptions_made J + cond (is_subscribed e) 1 0
unfolding subscriptions_made
subscriptions_made_more J e =
    let n : Entry → ℕ = λ x. cond (is_subscribed x) 1 0 in
    sum_by-append n J (e ∷ []) ∙ ap (λ w. sum_by n J + w) (zero-add (n e))

-- one more step counts the subscriptions that it made
pub subscriptions_made_step : (J : List Entry) (s : NodeStep) → subscriptions_made (J ++ step_entries s) ≡ subscriptions_made (J ++ s.inside)
unfolding subscriptions_made
subscriptions_made_step J s =
    let n : Entry → ℕ = λ x. cond (is_subscribed x) 1 0 in
    let whole = sum_by-append n J (step_entries s) in
    let begins = sum_by-append n (Step s.by s.event ∷ []) (s.inside ++ Answered s.caller s.call s.answer ∷ []) in
    let ends = sum_by-append n s.inside (Answered s.caller s.call s.answer ∷ []) in
    let inside = sum_by-append n J s.inside in
    omega (arith, whole, begins, ends, inside)

-- ---- stamps

-- an empty journal has no stamps
pub stamps_nil : stamps [] ≡ []
unfolding stamps
stamps_nil = ap (map (λ p. p.step.by.stamp)) steps_nil

-- one more whole step has the last stamp
pub stamps_step : (J : List Entry) (s : NodeStep) → IsWhole J → IsInside s.inside → stamps (J ++ step_entries s) ≡ stamps J ++ s.by.stamp ∷ []
unfolding stamps
stamps_step J s whole clean = ap (map (λ p. p.step.by.stamp)) (steps_more J s whole clean) ∙ map-append (λ p. p.step.by.stamp) (steps J) (record { before = J; step = s } ∷ [])

-- a number above all of a rising list
rising_more : (xs : List ℕ) (n : ℕ) → IsStrictlySortedBy nat_cmp xs → AllByRecursion (λ x. x < n) xs → IsStrictlySortedBy nat_cmp (xs ++ n ∷ [])
unfolding IsStrictlySortedBy
rising_more [] n rising below = (tt, tt)
rising_more (x ∷ xs) n rising below = (all_more xs rising.0, rising_more xs n rising.1 below.1)
  where
    all_more : (ys : List ℕ) → AllByRecursion (λ y. nat_cmp x y ≡ Less) ys → AllByRecursion (λ y. nat_cmp x y ≡ Less) (ys ++ n ∷ [])
    all_more [] h = (sym (nat_cmp_is x n Less below.0), tt)
    all_more (y ∷ ys) h = (h.0, all_more ys h.1)

-- an empty journal's stamps rise
pub StampsRise_nil : StampsRise []
unfolding IsStrictlySortedBy
StampsRise_nil = subst (IsStrictlySortedBy nat_cmp) (sym stamps_nil) tt

-- stamps rise with one more whole step whose stamp is above all before
pub StampsRise_step : (J : List Entry) (s : NodeStep) → IsWhole J → IsInside s.inside → StampsRise J
    → All (λ stamp. stamp < s.by.stamp) (stamps J) → StampsRise (J ++ step_entries s)
StampsRise_step J s whole clean rise below =
    subst (IsStrictlySortedBy nat_cmp) (sym (stamps_step J s whole clean))
    (rising_more (stamps J) s.by.stamp rise (recursion_from_All (λ stamp. stamp < s.by.stamp) (stamps J) below))

-- ---- calls

-- each step of an empty journal is answered to its caller
pub AllAnsweredToCallers_nil : AllAnsweredToCallers []
AllAnsweredToCallers_nil = subst (λ (w : List PlacedStep). All (λ p. IsAnsweredToCaller p.step) w) (sym steps_nil) (λ i d within. absurd (omega (arith, within)))

-- one more whole step that is answered to its caller
pub AllAnsweredToCallers_step : (J : List Entry) (s : NodeStep) → IsWhole J → IsInside s.inside
    → AllAnsweredToCallers J → IsAnsweredToCaller s → AllAnsweredToCallers (J ++ step_entries s)
AllAnsweredToCallers_step J s whole clean all one =
    subst (λ (w : List PlacedStep). All (λ p. IsAnsweredToCaller p.step) w) (sym (steps_more J s whole clean))
    (All-push (λ p. IsAnsweredToCaller p.step) (steps J) (record { before = J; step = s }) all one)

-- an empty journal has no calls
pub calls_of_nil : (caller : ℕ) → calls_of [] caller ≡ []
unfolding calls_of
calls_of_nil caller = ap (filter_map (λ p. call_by caller p.step)) steps_nil

-- one more whole step is the last call of its caller
pub calls_of_step : (J : List Entry) (s : NodeStep) (caller : ℕ) → IsWhole J → IsInside s.inside
    → calls_of (J ++ step_entries s) caller ≡ list_with (calls_of J caller) (call_by caller s)
unfolding calls_of
calls_of_step J s caller whole clean = read_step (λ p. call_by caller p.step) J s whole clean

-- one more number of a range
range_more : (a n : ℕ) → range_with_len a (n + 1) ≡ range_with_len a n ++ (a + n) ∷ []
range_more a zero = ap (λ w. w ∷ []) (omega arith)
range_more a (suc n) =
    ap (range_with_len a) (next (suc n))
    ∙ ap (λ w. a ∷ range_with_len (a + 1) w) (sym (next n))
    ∙ ap (λ w. a ∷ w) (range_more (a + 1) n)
    ∙ ap (λ w. a ∷ (range_with_len (a + 1) n ++ w ∷ [])) (omega arith)
  where
    next : (m : ℕ) → m + 1 ≡ suc m
    next m = omega arith

-- one more number, counted on
counted_more : (xs : List ℕ) (x : ℕ) → xs ≡ range_with_len 0 (length xs) → x ≡ length xs → xs ++ x ∷ [] ≡ range_with_len 0 (length (xs ++ x ∷ []))
counted_more xs x counted is =
    ap (λ w. w ++ x ∷ []) counted
    ∙ ap (λ w. range_with_len 0 (length xs) ++ w ∷ []) (is ∙ sym (zero-add (length xs)))
    ∙ sym (range_more 0 (length xs))
    ∙ ap (range_with_len 0) (sym (length-append xs (x ∷ [])))

-- in an empty journal calls are counted
pub CallsCount_nil : CallsCount []
CallsCount_nil caller = calls_of_nil caller ∙ ap (λ w. range_with_len 0 (length w)) (sym (calls_of_nil caller))

-- calls are counted with one more whole step that is counted on
pub CallsCount_step : (J : List Entry) (s : NodeStep) → IsWhole J → IsInside s.inside → CallsCount J
    → s.call ≡ length (calls_of J s.caller) → CallsCount (J ++ step_entries s)
CallsCount_step J s whole clean count next caller =
    subst (λ (w : List ℕ). w ≡ range_with_len 0 (length w)) (sym (calls_of_step J s caller whole clean)) (by (s.caller == caller) refl)
  where
    by : (b : Bool) → (s.caller == caller) ≡ b → list_with (calls_of J caller) (cond b (Some s.call) None) ≡ range_with_len 0 (length (list_with (calls_of J caller) (cond b (Some s.call) None)))
    by true e = counted_more (calls_of J caller) s.call (count caller) (next ∙ ap (λ w. length (calls_of J w)) (eqb-true s.caller caller e))
    by false e = count caller
