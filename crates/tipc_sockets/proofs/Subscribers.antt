-- What subscribers were told behind one more whole step, and what a journal says of a call on subscriptions.
use Rattle.std.specs.Prelude.{◌==◌, find, is_some, max, nat_le, slice_get}
use Rattle.std.proofs.Common.{◌≡◌, ◌+◌, ◌-◌, ◌<◌, ◌≤◌, ◌++◌, ◌∷◌, [], ℕ, Bool, true, false, not, ◌&&◌, ◌||◌, List, Option, Some, None, cond, if◌then◌else◌, map, filter, fold, length, drop, refl, sym, ap, subst, ◌∙◌, arith, true≢false, eqb-true}
use Rattle.std.specs.List.{list_any, AllByRecursion}
use Rattle.std.proofs.lemmas.Bool.Decides.{nat_tests}
use Rattle.std.proofs.lemmas.List.Elements.{recursion_from_All}
use Rattle.std.proofs.lemmas.List.Sums.{fold-append}
use Rattle.tipc_types.specs.declared.node_calls.By.{By}
use Rattle.tipc_types.specs.declared.node_calls.Event.{Event}
use Rattle.tipc_types.specs.declared.node_calls.EventNote.{EventNote}
use Rattle.tipc_types.specs.declared.node_calls.EventNote.TheVariants.{Tick}
use Rattle.tipc_types.specs.declared.node_calls.Subscription.{Subscription}
use Rattle.tipc_types.specs.declared.services.Publication.{Publication}
use Rattle.tipc_journal.specs.declared.entries.Entry.{Entry}
use Rattle.tipc_journal.specs.declared.entries.Entry.TheVariants.{Step, Subscribed, Cancelled, TimedOut, Answered}
use Rattle.tipc_journal.specs.Licensed.{event_given, events_given}
use Rattle.tipc_journal.specs.Names.{table}
use Rattle.tipc_journal.specs.Prefixes.{list_with}
use Rattle.tipc_journal.specs.Refusals.{is_among, is_subscribed, subscriptions_made}
use Rattle.tipc_journal.specs.Steps.{NodeStep, step_entries, IsInside, IsWhole}
use Rattle.tipc_journal.specs.Subscriptions.{is_due_at, subscriptions, subscriptions_after, ticks_after, ticks_since, timeouts, transitions, watching, watching_after}
use Rattle.tipc_journal.proofs.CountLaws.{events_given_step, subscriptions_made_step}
use Rattle.tipc_journal.proofs.SubscriptionLaws.{subscriptions_step, transitions_step, watching_step}
use Rattle.tipc_journal.proofs.WholeSteps.{table_step}
use Rattle.tipc_topology.specs.Changing.{due, events_left, has_number, of_number, passed, with_event_taken, with_kept, Watchers}
use Rattle.tipc_topology.specs.Transitions.{Knows}
use Rattle.tipc_topology.specs.Watchers.{is_due, one_less, without_first, Watcher}
use Rattle.tipc_topology.proofs.Keeping.{passed_kept, rising_from, taken_kept, AreRising}
use Rattle.tipc_topology.proofs.Taken.{next_taken}
use Rattle.tipc_sockets.specs.Telling.{is_of_subscriptions, is_tick}
use Rattle.tipc_sockets.specs.Watched.{asked_of, AreWatchersTold, IsLeft, IsWatcherTold}
use Rattle.tipc_sockets.proofs.Closing.{eq_turned}
use Rattle.tipc_sockets.proofs.Watched.{all_both, all_each, all_map, map_numbers}

-- ---- entries that are read alike

-- two journals tell the same of subscriptions
pub record ReadAlike (J K : List Entry) : Type 0 where
  pub asked : (n : ℕ) → watching K n ≡ watching J n
  pub events : (n : ℕ) → transitions K n ≡ transitions J n
  pub numbers : subscriptions K ≡ subscriptions J
  pub made : subscriptions_made K ≡ subscriptions_made J
  pub table : table K ≡ table J
  pub ticks : (n : ℕ) → ticks_since K n ≡ ticks_since J n

watcher_alike : (J K : List Entry) (n : ℕ) (given : List Event) (w : Watcher) → ReadAlike J K → IsWatcherTold J n given w → IsWatcherTold K n given w
watcher_alike J K n given w a h = record {
  asked = a.asked n ∙ h.asked;
  events = a.events n ∙ h.events;
  knows = λ lasts. subst (λ (ps : List Publication). Knows w.asked w ps) (sym a.table) (h.knows lasts);
  left = λ lasts. subst (λ (m : ℕ). IsLeft w.asked m w.left) (sym (a.ticks n)) (h.left lasts);
}

pub told_alike : (J K : List Entry) (given gave : ℕ → List Event) (t : Watchers) → ReadAlike J K → ((n : ℕ) → gave n ≡ given n)
    → AreWatchersTold J given t → AreWatchersTold K gave t
told_alike J K given gave t a same h = record {
  kept = h.kept;
  made = h.made ∙ sym a.made;
  numbers = h.numbers ∙ sym a.numbers;
  each = all_each _ _ t.kept
      (λ w told. subst (λ (es : List Event). IsWatcherTold K w.number es w) (sym (same w.number)) (watcher_alike J K w.number (given w.number) w a told)) h.each;
  later = λ n above. let old = h.later n above in record { asked = a.asked n ∙ old.asked; events = a.events n ∙ old.events; given = same n ∙ old.given };
}

-- ---- ticks of a step

quiet_event : (n before : ℕ) (by : By) (event : EventNote) → is_tick event ≡ false → ticks_after n before (Step by event) ≡ before
quiet_event n before by Tick tick = absurd (true≢false tick)
quiet_event n before by event tick = refl

-- the ticks after a step that is none
ticks_step : (J : List Entry) (st : NodeStep) (n : ℕ) → is_tick st.event ≡ false → ticks_since (J ++ step_entries st) n ≡ ticks_since (J ++ st.inside) n
unfolding ticks_since
ticks_step J st n quiet =
    fold-append (ticks_after n) 0 J (step_entries st)
    ∙ ap (λ (m : ℕ). fold (ticks_after n) m (st.inside ++ Answered st.caller st.call st.answer ∷ [])) (quiet_event n (fold (ticks_after n) 0 J) st.by st.event quiet)
    ∙ fold-append (ticks_after n) (fold (ticks_after n) 0 J) st.inside (Answered st.caller st.call st.answer ∷ [])
    ∙ sym (fold-append (ticks_after n) 0 J st.inside)

or_left : (a b : Bool) → a || b ≡ false → a ≡ false
or_left true b e = e
or_left false b e = refl

or_right : (a b : Bool) → a || b ≡ false → b ≡ false
or_right true b e = absurd (true≢false e)
or_right false b e = e

tick_or_not : (n before : ℕ) (by : By) (event : EventNote) → ticks_after n (before + 1) (Step by event) ≡ ticks_after n before (Step by event) + 1
tick_or_not n before by Tick = refl
tick_or_not n before by event = refl

one_later : (n before : ℕ) (e : Entry) → is_subscribed e ≡ false → ticks_after n (before + 1) e ≡ ticks_after n before e + 1
one_later n before (Subscribed number s) none = absurd (true≢false none)
one_later n before (Step by event) none = tick_or_not n before by event
one_later n before e none = refl

all_later : (n before : ℕ) (es : List Entry) → list_any is_subscribed es ≡ false → fold (ticks_after n) (before + 1) es ≡ fold (ticks_after n) before es + 1
all_later n before [] none = refl
all_later n before (e ∷ es) none =
    ap (λ (m : ℕ). fold (ticks_after n) m es) (one_later n before e (or_left (is_subscribed e) (list_any is_subscribed es) none))
    ∙ all_later n (ticks_after n before e) es (or_right (is_subscribed e) (list_any is_subscribed es) none)

-- the ticks after a tick in which no subscription is made
ticks_tick : (J : List Entry) (st : NodeStep) (n : ℕ) → st.event ≡ Tick → list_any is_subscribed st.inside ≡ false
    → ticks_since (J ++ step_entries st) n ≡ ticks_since (J ++ st.inside) n + 1
unfolding ticks_since
ticks_tick J st n tick none =
    fold-append (ticks_after n) 0 J (step_entries st)
    ∙ ap (λ (event : EventNote). fold (ticks_after n) (ticks_after n (fold (ticks_after n) 0 J) (Step st.by event)) (st.inside ++ Answered st.caller st.call st.answer ∷ [])) tick
    ∙ fold-append (ticks_after n) (fold (ticks_after n) 0 J + 1) st.inside (Answered st.caller st.call st.answer ∷ [])
    ∙ all_later n (fold (ticks_after n) 0 J) st.inside none
    ∙ ap (λ (m : ℕ). m + 1) (sym (fold-append (ticks_after n) 0 J st.inside))

-- ---- a step that is no tick

step_alike : (J : List Entry) (st : NodeStep) → is_tick st.event ≡ false → ReadAlike (J ++ st.inside) (J ++ step_entries st)
step_alike J st quiet = record {
  asked = watching_step J st;
  events = transitions_step J st;
  numbers = subscriptions_step J st;
  made = subscriptions_made_step J st;
  table = table_step J st;
  ticks = λ n. ticks_step J st n quiet;
}

-- no event is given
pub told_quiet : (J : List Entry) (st : NodeStep) (t : Watchers) → IsWhole J → IsInside st.inside → is_tick st.event ≡ false
    → ((n : ℕ) → event_given n st.event st.answer ≡ None) → AreWatchersTold (J ++ st.inside) (events_given J) t
    → AreWatchersTold (J ++ step_entries st) (events_given (J ++ step_entries st)) t
told_quiet J st t whole inner quiet none h =
    told_alike (J ++ st.inside) (J ++ step_entries st) (events_given J) (events_given (J ++ step_entries st)) t (step_alike J st quiet)
    (λ n. events_given_step J st n whole inner ∙ ap (λ (o : Option Event). list_with (events_given J n) o) (none n)) h

-- ---- an event is given

-- the first event of one is given where a call takes it
abbrev pub gave_first : ℕ → Event → ℕ → Option Event
gave_first number e n = if number == n then Some e else None

taken_numbers : (number : ℕ) (ws : List Watcher) → map (λ (w : Watcher). w.number) (with_event_taken number ws) ≡ map (λ (w : Watcher). w.number) ws
taken_numbers number [] = refl
taken_numbers number (w ∷ ws) = by (has_number number w) (taken_numbers number ws)
  where
    by : (b : Bool) → map (λ (v : Watcher). v.number) (with_event_taken number ws) ≡ map (λ (v : Watcher). v.number) ws
        → map (λ (v : Watcher). v.number) (if b then without_first w ∷ ws else w ∷ with_event_taken number ws) ≡ w.number ∷ map (λ (v : Watcher). v.number) ws
    by true later = refl
    by false later = ap (λ (ns : List ℕ). w.number ∷ ns) later

above_other : (number n : ℕ) → number < n → (number == n) ≡ false
above_other number n above = grind (arith, nat_tests)

module _ (entries : List Entry) (given gave : ℕ → List Event) (number : ℕ) (e : Event)
    (gives : (n : ℕ) → gave n ≡ list_with (given n) (gave_first number e n)) where
  -- of another nothing was given
  other_given : (n : ℕ) → (number == n) ≡ false → gave n ≡ given n
  other_given n other = gives n ∙ ap (λ b. list_with (given n) (if b then Some e else None)) other

  here_given : (n : ℕ) → (number == n) ≡ true → gave n ≡ given n ++ e ∷ []
  here_given n here = gives n ∙ ap (λ b. list_with (given n) (if b then Some e else None)) here

  abbrev Told : Watcher → Type 0
  Told w = IsWatcherTold entries w.number (given w.number) w

  abbrev Gave : Watcher → Type 0
  Gave w = IsWatcherTold entries w.number (gave w.number) w

  other_told : (w : Watcher) → (number == w.number) ≡ false → Told w → Gave w
  other_told w other h = subst (λ (es : List Event). IsWatcherTold entries w.number es w) (sym (other_given w.number other)) h

  first_told : (w : Watcher) → (number == w.number) ≡ true → slice_get w.events 0 ≡ Some e → Told w → Gave (without_first w)
  first_told w here first h =
      subst (λ (es : List Event). IsWatcherTold entries w.number es (without_first w)) (sym (here_given w.number here)) (record {
        asked = h.asked;
        events = next_taken (transitions entries w.number) (given w.number) w.events e h.events first;
        knows = λ lasts. let old = h.knows lasts in record { known = old.known; counts = old.counts };
        left = h.left;
      })

  each_told : (ws : List Watcher) → AreRising ws → slice_get (events_left (find (has_number number) ws)) 0 ≡ Some e → AllByRecursion Told ws → AllByRecursion Gave (with_event_taken number ws)
  each_told [] rising first h = tt
  each_told (w ∷ ws) rising first h = by (has_number number w) refl first (each_told ws rising.1)
    where
      by : (b : Bool) → has_number number w ≡ b → slice_get (events_left (cond b (Some w) (find (has_number number) ws))) 0 ≡ Some e
          → (slice_get (events_left (find (has_number number) ws)) 0 ≡ Some e → AllByRecursion Told ws → AllByRecursion Gave (with_event_taken number ws))
          → AllByRecursion Gave (if b then without_first w ∷ ws else w ∷ with_event_taken number ws)
      by true is first later = (
        first_told w (eq_turned number w.number ∙ is) first h.0,
        all_both (λ (v : Watcher). w.number < v.number) Told Gave ws
            (λ v above told. other_told v (above_other number v.number (subst (λ (n : ℕ). n < v.number) (eqb-true w.number number is) above)) told) rising.0 h.1,
      )
      by false is first later = (other_told w (eq_turned number w.number ∙ is) h.0, later first h.1)

  -- one that is found was made
  found_made : (made : ℕ) (ws : List Watcher) → AllByRecursion (λ (w : Watcher). w.number ≤ made) ws → slice_get (events_left (find (has_number number) ws)) 0 ≡ Some e → number ≤ made
  found_made made [] below first = absurd cc
  found_made made (w ∷ ws) below first = by (has_number number w) refl first (found_made made ws below.1)
    where
      by : (b : Bool) → has_number number w ≡ b → slice_get (events_left (cond b (Some w) (find (has_number number) ws))) 0 ≡ Some e
          → (slice_get (events_left (find (has_number number) ws)) 0 ≡ Some e → number ≤ made) → number ≤ made
      by true is first later = subst (λ (n : ℕ). n ≤ made) (eqb-true w.number number is) below.0
      by false is first later = later first

  pub told_given : (t : Watchers) → slice_get (events_left (of_number t number)) 0 ≡ Some e → AreWatchersTold entries given t
      → AreWatchersTold entries gave (with_kept t (with_event_taken number t.kept))
  told_given t first h = record {
    kept = taken_kept number t h.kept;
    made = h.made;
    numbers = taken_numbers number t.kept ∙ h.numbers;
    each = each_told t.kept (rising_from t.kept h.kept.rising) first h.each;
    later = λ n above.
        let old = h.later n above in
        let most = found_made t.made t.kept (recursion_from_All (λ (w : Watcher). w.number ≤ t.made) t.kept h.kept.made) first in
        record { asked = old.asked; events = old.events; given = other_given n (above_other number n (omega (arith, above, most))) ∙ old.given };
  }

-- the event of a subscription is given
pub told_next : (J : List Entry) (st : NodeStep) (t : Watchers) (number : ℕ) (e : Event) → IsWhole J → IsInside st.inside → is_tick st.event ≡ false
    → ((n : ℕ) → event_given n st.event st.answer ≡ gave_first number e n) → slice_get (events_left (of_number t number)) 0 ≡ Some e
    → AreWatchersTold (J ++ st.inside) (events_given J) t
    → AreWatchersTold (J ++ step_entries st) (events_given (J ++ step_entries st)) (with_kept t (with_event_taken number t.kept))
told_next J st t number e whole inner quiet gives first h =
    told_given (J ++ step_entries st) (events_given J) (events_given (J ++ step_entries st)) number e
    (λ n. events_given_step J st n whole inner ∙ ap (λ (o : Option Event). list_with (events_given J n) o) (gives n)) t first
    (told_alike (J ++ st.inside) (J ++ step_entries st) (events_given J) (events_given J) t (step_alike J st quiet) (λ n. refl) h)

-- where none is left, nothing is taken
pub none_taken : (number : ℕ) (ws : List Watcher) → slice_get (events_left (find (has_number number) ws)) 0 ≡ None → with_event_taken number ws ≡ ws
none_taken number [] none = refl
none_taken number (w ∷ ws) none = by (has_number number w) none (none_taken number ws)
  where
    empty : (es : List Event) → slice_get es 0 ≡ None → es ≡ drop 1 es
    empty [] e = refl
    empty (x ∷ es) e = absurd cc

    by : (b : Bool) → slice_get (events_left (cond b (Some w) (find (has_number number) ws))) 0 ≡ None
        → (slice_get (events_left (find (has_number number) ws)) 0 ≡ None → with_event_taken number ws ≡ ws) → (if b then without_first w ∷ ws else w ∷ with_event_taken number ws) ≡ w ∷ ws
    by true none later = ap (λ (es : List Event). record { number = w.number; asked = w.asked; left = w.left; ended = w.ended; counts = w.counts; known = w.known; events = es; room = w.room } ∷ ws) (sym (empty w.events none))
    by false none later = ap (λ (vs : List Watcher). w ∷ vs) (later none)

-- ---- a tick

not_due : (ws : List Watcher) → due ws ≡ [] → AllByRecursion (λ (w : Watcher). is_due w ≡ false) ws
not_due [] none = tt
not_due (w ∷ ws) none = by (is_due w) refl none (not_due ws)
  where
    by : (b : Bool) → is_due w ≡ b → map (λ (v : Watcher). v.number) (cond b (w ∷ filter is_due ws) (filter is_due ws)) ≡ []
        → (due ws ≡ [] → AllByRecursion (λ (v : Watcher). is_due v ≡ false) ws) → AllByRecursion (λ (v : Watcher). is_due v ≡ false) (w ∷ ws)
    by true is none later = absurd cc
    by false is none later = (is, later none)

-- one that isn't due has more than one tick left
more_left : (w : Watcher) → is_due w ≡ false → w.ended ≡ false → (w.asked.timeout == 4294967295) ≡ false → 2 ≤ w.left
more_left w quiet lasts limited =
    let last : nat_le w.left 1 ≡ false = (λ i. not (sym lasts i) && (not (sym limited i) && nat_le w.left 1)) ∙ quiet in
    grind (arith, nat_tests)

watcher_passed : (J K : List Entry) (n : ℕ) (given : List Event) (w : Watcher) → watching K n ≡ watching J n → transitions K n ≡ transitions J n → table K ≡ table J
    → ticks_since K n ≡ ticks_since J n + 1 → is_due w ≡ false → IsWatcherTold J n given w → IsWatcherTold K n given (one_less w)
watcher_passed J K n given w asked events same ticks quiet h = record {
  asked = asked ∙ h.asked;
  events = events ∙ h.events;
  knows = λ lasts.
      let old = h.knows lasts in
      subst (λ (ps : List Publication). Knows w.asked (one_less w) ps) (sym same) (record { known = old.known; counts = old.counts });
  left = λ lasts limited. less lasts limited;
}
  where
    less : w.ended ≡ false → (w.asked.timeout == 4294967295) ≡ false → (1 ≤ (one_less w).left) × ((one_less w).left + ticks_since K n ≡ max w.asked.timeout 1)
    less lasts limited =
        let old = h.left lasts limited in
        let some = more_left w quiet lasts limited in
        let fewer : (one_less w).left ≡ w.left - 1 = ap (λ b. w.left - (if b then 0 else 1)) limited in
        let sum = old.1 in
        let first : 1 ≤ (one_less w).left = subst (λ (m : ℕ). 1 ≤ m) (sym fewer) (omega (arith, some)) in
        let shift : (w.left - 1) + (ticks_since J n + 1) ≡ w.left + ticks_since J n = omega (arith, some) in
        (first, (λ i. fewer i + ticks i) ∙ shift ∙ sum)

-- a tick passes in which those that were due ended
pub told_tick : (J : List Entry) (st : NodeStep) (t : Watchers) → IsWhole J → IsInside st.inside → st.event ≡ Tick
    → ((n : ℕ) → event_given n st.event st.answer ≡ None) → list_any is_subscribed st.inside ≡ false → due t.kept ≡ []
    → AreWatchersTold (J ++ st.inside) (events_given J) t → AreWatchersTold (J ++ step_entries st) (events_given (J ++ step_entries st)) (passed t)
told_tick J st t whole inner tick quiet none over h = record {
  kept = passed_kept t h.kept;
  made = h.made ∙ sym (subscriptions_made_step J st);
  numbers = map_numbers one_less t.kept (λ w. refl) ∙ h.numbers ∙ sym (subscriptions_step J st);
  each = all_map _ _ one_less t.kept (λ w told. told)
      (all_both (λ (w : Watcher). is_due w ≡ false) (λ (w : Watcher). IsWatcherTold (J ++ st.inside) w.number (events_given J w.number) w) _ t.kept
      (λ w still told.
      subst (λ (es : List Event). IsWatcherTold (J ++ step_entries st) w.number es (one_less w)) (sym (given w.number))
      (watcher_passed (J ++ st.inside) (J ++ step_entries st) w.number (events_given J w.number) w (watching_step J st w.number) (transitions_step J st w.number) (table_step J st) (ticks_tick J st w.number tick none) still told))
      (not_due t.kept over) h.each);
  later = λ n above. let old = h.later n above in record { asked = watching_step J st n ∙ old.asked; events = transitions_step J st n ∙ old.events; given = given n ∙ old.given };
}
  where
    given : (n : ℕ) → events_given (J ++ step_entries st) n ≡ events_given J n
    given n = events_given_step J st n whole inner ∙ ap (λ (o : Option Event). list_with (events_given J n) o) (quiet n)

-- ---- what the journal says

-- a subscription of a number is there exactly where the journal says so
pub there_told : (entries : List Entry) (given : ℕ → List Event) (t : Watchers) (number : ℕ) → AreWatchersTold entries given t
    → is_among (subscriptions entries) number ≡ is_some (of_number t number)
there_told entries given t number h = ap (λ (ns : List ℕ). is_among ns number) (sym h.numbers) ∙ found t.kept
  where
    found : (ws : List Watcher) → list_any (λ m. m == number) (map (λ (w : Watcher). w.number) ws) ≡ is_some (find (has_number number) ws)
    found [] = refl
    found (w ∷ ws) = by (has_number number w) (found ws)
      where
        by : (b : Bool) → list_any (λ m. m == number) (map (λ (v : Watcher). v.number) ws) ≡ is_some (find (has_number number) ws)
            → b || list_any (λ m. m == number) (map (λ (v : Watcher). v.number) ws) ≡ is_some (cond b (Some w) (find (has_number number) ws))
        by true later = refl
        by false later = later

-- as many are there as the journal says
pub count_told : (entries : List Entry) (given : ℕ → List Event) (t : Watchers) → AreWatchersTold entries given t → length (subscriptions entries) ≡ length t.kept
count_told entries given t h = ap (λ (ns : List ℕ). length ns) (sym h.numbers) ∙ counted t.kept
  where
    counted : (ws : List Watcher) → length (map (λ (w : Watcher). w.number) ws) ≡ length ws
    counted [] = refl
    counted (w ∷ ws) = let later = counted ws in omega (arith, later)

-- the item behind a front is the first of the rest
first_behind : {A : Type 0} (front rest : List A) → slice_get (front ++ rest) (length front) ≡ slice_get rest 0
first_behind [] rest = refl
first_behind (x ∷ front) rest = first_behind front rest

-- the next event of a subscription that is there is the first that wasn't taken
pub next_told : (entries : List Entry) (given : ℕ → List Event) (t : Watchers) (number : ℕ) → AreWatchersTold entries given t → is_some (of_number t number) ≡ true
    → slice_get (transitions entries number) (length (given number)) ≡ slice_get (events_left (of_number t number)) 0
next_told entries given t number h there = found t.kept h.each there
  where
    found : (ws : List Watcher) → AllByRecursion (λ (w : Watcher). IsWatcherTold entries w.number (given w.number) w) ws → is_some (find (has_number number) ws) ≡ true
        → slice_get (transitions entries number) (length (given number)) ≡ slice_get (events_left (find (has_number number) ws)) 0
    found [] told there = absurd (true≢false (sym there))
    found (w ∷ ws) told there = by (has_number number w) refl there (found ws told.1)
      where
        by : (b : Bool) → has_number number w ≡ b → is_some (cond b (Some w) (find (has_number number) ws)) ≡ true
            → (is_some (find (has_number number) ws) ≡ true → slice_get (transitions entries number) (length (given number)) ≡ slice_get (events_left (find (has_number number) ws)) 0)
            → slice_get (transitions entries number) (length (given number)) ≡ slice_get (events_left (cond b (Some w) (find (has_number number) ws))) 0
        by true is there later =
            subst (λ (n : ℕ). slice_get (transitions entries n) (length (given n)) ≡ slice_get w.events 0) (eqb-true w.number number is)
            (ap (λ (es : List Event). slice_get es (length (given w.number))) told.0.events ∙ first_behind (given w.number) w.events)
        by false is there later = later there

-- ---- which time out

same_asked : (n : ℕ) (before : Option Subscription) (e : Entry) → is_of_subscriptions e ≡ false → watching_after n before e ≡ before
same_asked n before (Subscribed number s) none = absurd (true≢false none)
same_asked n before (Cancelled number) none = absurd (true≢false none)
same_asked n before (TimedOut number) none = absurd (true≢false none)
same_asked n before e none = refl

same_numbers : (before : List ℕ) (e : Entry) → is_of_subscriptions e ≡ false → subscriptions_after before e ≡ before
same_numbers before (Subscribed number s) none = absurd (true≢false none)
same_numbers before (Cancelled number) none = absurd (true≢false none)
same_numbers before e none = refl

same_ticks : (n before : ℕ) (e : Entry) → is_of_subscriptions e ≡ false → ticks_after n before e ≡ before
same_ticks n before (Subscribed number s) none = absurd (true≢false none)
same_ticks n before (Step by event) none = absurd (true≢false none)
same_ticks n before e none = refl

all_same : {R : Type 0} (after : R → Entry → R) (before : R) (es : List Entry) → ((r : R) (e : Entry) → is_of_subscriptions e ≡ false → after r e ≡ r)
    → list_any is_of_subscriptions es ≡ false → fold after before es ≡ before
all_same after before [] stays none = refl
all_same after before (e ∷ es) stays none =
    ap (λ r. fold after r es) (stays before e (or_left (is_of_subscriptions e) _ none)) ∙ all_same after before es stays (or_right (is_of_subscriptions e) _ none)

watching_stays : (J es : List Entry) (n : ℕ) → list_any is_of_subscriptions es ≡ false → watching (J ++ es) n ≡ watching J n
unfolding watching
watching_stays J es n none = fold-append (watching_after n) None J es ∙ all_same (watching_after n) (watching J n) es (same_asked n) none

subscriptions_stay : (J es : List Entry) → list_any is_of_subscriptions es ≡ false → subscriptions (J ++ es) ≡ subscriptions J
unfolding subscriptions
subscriptions_stay J es none = fold-append subscriptions_after [] J es ∙ all_same subscriptions_after (subscriptions J) es same_numbers none

ticks_stay : (J es : List Entry) (n : ℕ) → list_any is_of_subscriptions es ≡ false → ticks_since (J ++ es) n ≡ ticks_since J n
unfolding ticks_since
ticks_stay J es n none = fold-append (ticks_after n) 0 J es ∙ all_same (ticks_after n) (ticks_since J n) es (same_ticks n) none

-- one is due where the journal says so
due_told : (asked : Option Subscription) (ticks : ℕ) (w : Watcher) → asked ≡ asked_of w → (w.ended ≡ false → IsLeft w.asked ticks w.left) → is_due w ≡ is_due_at asked (ticks + 1)
due_told asked ticks w is left = by w.ended refl ∙ ap (λ (o : Option Subscription). is_due_at o (ticks + 1)) (sym is)
  where
    timed : (limit : Bool) → (w.asked.timeout == 4294967295) ≡ limit → w.ended ≡ false → not limit && nat_le w.left 1 ≡ not limit && ((ticks + 1) == max w.asked.timeout 1)
    timed true is lasts = refl
    timed false is lasts =
        let old = left lasts is in
        let some = old.0 in
        let sum = old.1 in
        last w.left ticks (max w.asked.timeout 1) some sum
      where
        last : (a b c : ℕ) → 1 ≤ a → a + b ≡ c → nat_le a 1 ≡ ((b + 1) == c)
        last a b c some sum = grind (arith, nat_tests)

    by : (b : Bool) → w.ended ≡ b → is_due w ≡ is_due_at (asked_of w) (ticks + 1)
    by true over = ap (λ c. not c && (not (w.asked.timeout == 4294967295) && nat_le w.left 1)) over ∙ sym (ap (λ c. is_due_at (if c then None else Some w.asked) (ticks + 1)) over)
    by false lasts =
        ap (λ c. not c && (not (w.asked.timeout == 4294967295) && nat_le w.left 1)) lasts
        ∙ timed (w.asked.timeout == 4294967295) refl lasts
        ∙ sym (ap (λ c. is_due_at (if c then None else Some w.asked) (ticks + 1)) lasts)

-- Those that are due in a tick are those that the journal says time out in it.
pub timeouts_told : (J front : List Entry) (given : ℕ → List Event) (t : Watchers) → list_any is_of_subscriptions front ≡ false
    → AreWatchersTold (J ++ front) given t → due t.kept ≡ timeouts J
timeouts_told J front given t none h = all t.kept h.each ∙ ap (λ (ns : List ℕ). filter out ns) (h.numbers ∙ subscriptions_stay J front none)
  where
    out : ℕ → Bool
    out n = is_due_at (watching J n) (ticks_since J n + 1)

    each : (w : Watcher) → IsWatcherTold (J ++ front) w.number (given w.number) w → is_due w ≡ out w.number
    each w told =
        due_told (watching (J ++ front) w.number) (ticks_since (J ++ front) w.number) w told.asked told.left
        ∙ (λ i. is_due_at (watching_stays J front w.number none i) (ticks_stay J front w.number none i + 1))

    all : (ws : List Watcher) → AllByRecursion (λ (w : Watcher). IsWatcherTold (J ++ front) w.number (given w.number) w) ws
        → due ws ≡ filter out (map (λ (w : Watcher). w.number) ws)
    all [] told = refl
    all (w ∷ ws) told = one (is_due w) (out w.number) (each w told.0) (all ws told.1)
      where
        numbers : List Watcher → List ℕ
        numbers vs = map (λ (v : Watcher). v.number) vs

        one : (b c : Bool) → b ≡ c → due ws ≡ filter out (numbers ws)
            → numbers (cond b (w ∷ filter is_due ws) (filter is_due ws)) ≡ cond c (w.number ∷ filter out (numbers ws)) (filter out (numbers ws))
        one true true is later = ap (λ (ns : List ℕ). w.number ∷ ns) later
        one true false is later = absurd (true≢false is)
        one false true is later = absurd (true≢false (sym is))
        one false false is later = later
