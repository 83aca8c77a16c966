-- Subscriptions and what they are told, behind one more entry and behind one more step.
use Rattle.std.specs.Prelude.{◌==◌}
use Rattle.std.proofs.Common.{◌≡◌, ℕ, List, [], ◌∷◌, ◌++◌, Option, Some, None, cond, filter, refl, sym, ◌∙◌, ap, append_assoc}
use Rattle.std.proofs.lemmas.List.{append-nil}
use Rattle.std.proofs.lemmas.List.Sums.{fold-append}
use Rattle.tipc_types.specs.Watching.{additions, in_order, is_watched}
use Rattle.tipc_types.specs.declared.node_calls.Answer.{Answer}
use Rattle.tipc_types.specs.declared.node_calls.By.{By}
use Rattle.tipc_types.specs.declared.node_calls.EventNote.{EventNote}
use Rattle.tipc_types.specs.declared.node_calls.Subscription.{Subscription}
use Rattle.tipc_types.specs.declared.services.Publication.{Publication}
use Rattle.tipc_journal.specs.declared.entries.Entry.{Entry}
use Rattle.tipc_journal.specs.declared.entries.Entry.TheVariants.{Step, Subscribed, TimedOut, Answered}
use Rattle.tipc_journal.specs.Names.{live, live_after, learned, learned_after, table}
use Rattle.tipc_journal.specs.Steps.{NodeStep, step_entries}
use Rattle.tipc_journal.proofs.NameLaws.{live_more, learned_more}
use Rattle.tipc_journal.proofs.WholeSteps.{fold_step}
use Rattle.tipc_journal.specs.Prefixes.{each_behind}
use Rattle.tipc_journal.specs.Subscriptions.{events_at, timeout_events, watching_after, watching, subscriptions_after, subscriptions, told_by_entry, transitions, ticks_after, ticks_since}

-- one more entry begins, ends or keeps a subscription, by its kind
pub watching_more : (xs : List Entry) (e : Entry) (n : ℕ) → watching (xs ++ e ∷ []) n ≡ watching_after n (watching xs n) e
unfolding watching
watching_more xs e n = fold-append (watching_after n) None xs (e ∷ [])

-- one more entry adds a subscription, cancels one or changes nothing, by its kind
pub subscriptions_more : (xs : List Entry) (e : Entry) → subscriptions (xs ++ e ∷ []) ≡ subscriptions_after (subscriptions xs) e
unfolding subscriptions
subscriptions_more xs e = fold-append subscriptions_after [] xs (e ∷ [])

-- one more entry begins the count, raises it or changes nothing, by its kind
pub ticks_since_more : (xs : List Entry) (e : Entry) (n : ℕ) → ticks_since (xs ++ e ∷ []) n ≡ ticks_after n (ticks_since xs n) e
unfolding ticks_since
ticks_since_more xs e n = fold-append (ticks_after n) 0 xs (e ∷ [])

-- one more element gives what it gives behind all before it
pub each_behind_more : {A B : Type 0} (f : List A → A → List B) (before xs : List A) (x : A)
    → each_behind f before (xs ++ x ∷ []) ≡ each_behind f before xs ++ f (before ++ xs) x
each_behind_more f before [] x = append-nil (f before x) ∙ ap (λ w. f w x) (sym (append-nil before))
each_behind_more f before (y ∷ ys) x =
    ap (λ w. f before y ++ w) (each_behind_more f (before ++ y ∷ []) ys x)
    ∙ sym (append_assoc (f before y) (each_behind f (before ++ y ∷ []) ys) (f (before ++ y ∷ [] ++ ys) x))
    ∙ ap (λ w. (f before y ++ each_behind f (before ++ y ∷ []) ys) ++ f w x) (append_assoc before (y ∷ []) ys)

-- an empty journal has no transitions
pub transitions_nil : (n : ℕ) → transitions [] n ≡ []
unfolding transitions
transitions_nil n = refl

-- one more entry adds what it tells the subscription
pub transitions_more : (xs : List Entry) (e : Entry) (n : ℕ) → transitions (xs ++ e ∷ []) n ≡ transitions xs n ++ told_by_entry n xs e
unfolding transitions
transitions_more xs e n = each_behind_more (told_by_entry n) [] xs e

-- ---- whole steps

-- the subscriptions after a step
pub subscriptions_step : (J : List Entry) (s : NodeStep) → subscriptions (J ++ step_entries s) ≡ subscriptions (J ++ s.inside)
unfolding subscriptions
subscriptions_step J s =
    fold-append subscriptions_after [] J (step_entries s)
    ∙ fold_step subscriptions_after (subscriptions J) s (λ x by event. refl) (λ x caller call answer. refl)
    ∙ sym (fold-append subscriptions_after [] J s.inside)

-- what the subscription of a number asks for after a step
pub watching_step : (J : List Entry) (s : NodeStep) (n : ℕ) → watching (J ++ step_entries s) n ≡ watching (J ++ s.inside) n
unfolding watching
watching_step J s n =
    fold-append (watching_after n) None J (step_entries s)
    ∙ fold_step (watching_after n) (watching J n) s (λ x by event. refl) (λ x caller call answer. refl)
    ∙ sym (fold-append (watching_after n) None J s.inside)

-- two journals tell a subscription the same
record TellAlike (n : ℕ) (J K : List Entry) : Type 0 where
  watched : watching J n ≡ watching K n
  own : live J ≡ live K
  theirs : learned J ≡ learned K

-- they have the same table
same_table : (n : ℕ) (J K : List Entry) → TellAlike n J K → table J ≡ table K
same_table n J K alike = ap (λ w. w ++ learned J) alike.own ∙ ap (λ w. live K ++ w) alike.theirs

-- they tell the same at an entry
same_told : (n : ℕ) (J K : List Entry) (e : Entry) → TellAlike n J K → told_by_entry n J e ≡ told_by_entry n K e
same_told n J K (Subscribed number s) alike =
    ap (λ w. cond (number == n) (additions s [] (in_order (filter (is_watched s) w))) []) (same_table n J K alike)
same_told n J K (TimedOut number) alike = ap (λ w. cond (number == n) (timeout_events w) []) alike.watched
same_told n J K e alike = ap (λ w. events_at w (table J) e) alike.watched ∙ ap (λ w. events_at (watching K n) w e) (same_table n J K alike)

-- they tell alike with one more entry
alike_more : (n : ℕ) (J K : List Entry) (e : Entry) → TellAlike n J K → TellAlike n (J ++ e ∷ []) (K ++ e ∷ [])
alike_more n J K e alike =
    record {
      watched = watching_more J e n ∙ ap (λ w. watching_after n w e) alike.watched ∙ sym (watching_more K e n);
      own = live_more J e ∙ ap (λ w. live_after w e) alike.own ∙ sym (live_more K e);
      theirs = learned_more J e ∙ ap (λ w. learned_after w e) alike.theirs ∙ sym (learned_more K e);
    }

-- they tell the same at later entries
same_told_all : (n : ℕ) (J K es : List Entry) → TellAlike n J K → each_behind (told_by_entry n) J es ≡ each_behind (told_by_entry n) K es
same_told_all n J K [] alike = refl
same_told_all n J K (e ∷ es) alike =
    ap (λ w. w ++ each_behind (told_by_entry n) (J ++ e ∷ []) es) (same_told n J K e alike)
    ∙ ap (λ w. told_by_entry n K e ++ w) (same_told_all n (J ++ e ∷ []) (K ++ e ∷ []) es (alike_more n J K e alike))

-- what is told at later entries stands behind what was told before
each_behind_append : {A B : Type 0} (f : List A → A → List B) (before xs ys : List A)
    → each_behind f before (xs ++ ys) ≡ each_behind f before xs ++ each_behind f (before ++ xs) ys
each_behind_append f before [] ys = ap (λ w. each_behind f w ys) (sym (append-nil before))
each_behind_append f before (x ∷ xs) ys =
    ap (λ w. f before x ++ w) (each_behind_append f (before ++ x ∷ []) xs ys)
    ∙ sym (append_assoc (f before x) (each_behind f (before ++ x ∷ []) xs) (each_behind f (before ++ x ∷ [] ++ xs) ys))
    ∙ ap (λ w. (f before x ++ each_behind f (before ++ x ∷ []) xs) ++ each_behind f w ys) (append_assoc before (x ∷ []) xs)

-- later entries put what they tell behind the transitions
pub transitions_append : (J es : List Entry) (n : ℕ) → transitions (J ++ es) n ≡ transitions J n ++ each_behind (told_by_entry n) J es
unfolding transitions
transitions_append J es n = each_behind_append (told_by_entry n) [] J es

-- neither a Step nor an Answered tells a subscription anything
quiet_events : (o : Option Subscription) (there : List Publication) (by : By) (event : EventNote) → events_at o there (Step by event) ≡ []
quiet_events None there by event = refl
quiet_events (Some s) there by event = refl

quiet_end : (o : Option Subscription) (there : List Publication) (caller call : ℕ) (answer : Answer) → events_at o there (Answered caller call answer) ≡ []
quiet_end None there caller call answer = refl
quiet_end (Some s) there caller call answer = refl

-- the transitions after a step are those of the entries that it made
pub transitions_step : (J : List Entry) (s : NodeStep) (n : ℕ) → transitions (J ++ step_entries s) n ≡ transitions (J ++ s.inside) n
unfolding transitions
transitions_step J s n =
    let f = told_by_entry n in
    let begin : List Entry = Step s.by s.event ∷ [] in
    let end : List Entry = Answered s.caller s.call s.answer ∷ [] in
    let alike : TellAlike n (J ++ begin) J = record { watched = watching_more J (Step s.by s.event) n; own = live_more J (Step s.by s.event); theirs = learned_more J (Step s.by s.event) } in
    each_behind_append f [] J (step_entries s)
    ∙ ap (λ w. each_behind f [] J ++ (w ++ each_behind f (J ++ begin) (s.inside ++ end))) (quiet_events (watching J n) (table J) s.by s.event)
    ∙ ap (λ w. each_behind f [] J ++ w) (each_behind_append f (J ++ begin) s.inside end)
    ∙ ap (λ w. each_behind f [] J ++ (each_behind f (J ++ begin) s.inside ++ (w ++ []))) (quiet_end (watching (J ++ begin ++ s.inside) n) (table (J ++ begin ++ s.inside)) s.caller s.call s.answer)
    ∙ ap (λ w. each_behind f [] J ++ w) (append-nil (each_behind f (J ++ begin) s.inside) ∙ same_told_all n (J ++ begin) J s.inside alike)
    ∙ sym (each_behind_append f [] J s.inside)
