-- The events that licensed steps give are a front of the transitions.
use Rattle.std.specs.Prelude.{◌==◌, not, slice_get}
use Rattle.std.proofs.Common.{◌≡◌, inl, inr, ℕ, Bool, true, false, List, [], ◌∷◌, ◌++◌, Option, Some, None, cond, length, refl, sym, subst, ◌∙◌, ap, append_assoc, true≢false, eqb-true}
use Rattle.tipc_types.specs.Prefixes.{IsPrefixOf}
use Rattle.tipc_types.specs.declared.identity.Addr.{Addr}
use Rattle.tipc_types.specs.declared.node_calls.Answer.{Answer}
use Rattle.tipc_types.specs.declared.node_calls.Answer.TheVariants.{Next, Unknown}
use Rattle.tipc_types.specs.declared.node_calls.By.{By}
use Rattle.tipc_types.specs.declared.node_calls.Event.{Event}
use Rattle.tipc_types.specs.declared.node_calls.EventNote.{EventNote}
use Rattle.tipc_types.specs.declared.node_calls.EventNote.TheVariants.{NextEvent}
use Rattle.tipc_journal.specs.declared.entries.Entry.{Entry}
use Rattle.tipc_journal.specs.Licensed.{event_given, events_given, next_answer, IsAnswered, IsLicensed}
use Rattle.tipc_journal.specs.Prefixes.{each_behind, list_with}
use Rattle.tipc_journal.specs.Refusals.{is_among, refusal}
use Rattle.tipc_journal.specs.Steps.{IsInside, IsWhole, NodeStep, step_entries}
use Rattle.tipc_journal.specs.Subscriptions.{subscriptions, told_by_entry, transitions}
use Rattle.tipc_journal.proofs.CountLaws.{events_given_step}
use Rattle.tipc_journal.proofs.PrefixLaws.{IsPrefixOf_grows}
use Rattle.tipc_journal.proofs.SubscriptionLaws.{transitions_append}

-- the value of an option, or this one
value_or : {A : Type 0} → A → Option A → A
value_or d None = d
value_or d (Some x) = x

-- the item behind a front of a list is the first of the rest
next_of : {A : Type 0} (front rest : List A) (x : A) → slice_get (front ++ rest) (length front) ≡ Some x → (more : List A) × (rest ≡ x ∷ more)
unfolding value_or
next_of [] [] x e = absurd cc
next_of {A} [] (y ∷ ys) x e = (ys, ap (λ (o : Option A). value_or x o ∷ ys) e)
next_of (y ∷ ys) rest x e = next_of ys rest x e

-- an answer that gives an event is that of this event where it is next
event_next : (o : Option Event) (e : Event) → Next e ≡ next_answer o → o ≡ Some e
event_next None e h = absurd cc
event_next (Some x) e h = cc

-- where a licensed step gives an event, it is the next one of the transitions
gives_next : (own : Addr) (J : List Entry) (n : ℕ) (by : By) (event : EventNote) (inside : List Entry) (caller call : ℕ) (given : Answer) (e : Event)
    → IsAnswered own J (record { by = by; event = event; inside = inside; caller = caller; call = call; answer = given }) (refusal own J event)
    → event_given n event given ≡ Some e → slice_get (transitions J n) (length (events_given J n)) ≡ Some e
gives_next own J n by (NextEvent number) inside caller call (Next x) e answered gives = this (number == n) refl gives
  where
    go : (b : Bool)
        → IsAnswered own J (record { by = by; event = NextEvent number; inside = inside; caller = caller; call = call; answer = Next x }) (cond b (Some Unknown) None)
        → slice_get (transitions J number) (length (events_given J number)) ≡ Some x
    go true a = let other : Next x ≡ Unknown = a.0 in absurd cc
    go false (inl c) = absurd (true≢false (sym c.0))
    go false (inr d) = event_next (slice_get (transitions J number) (length (events_given J number))) x d

    this : (b : Bool) → (number == n) ≡ b → cond b (Some x) None ≡ Some e → slice_get (transitions J n) (length (events_given J n)) ≡ Some e
    this true same is =
        subst (λ m. slice_get (transitions J m) (length (events_given J m)) ≡ Some x) (eqb-true number n same) (go (not (is_among (subscriptions J) number)) answered) ∙ is
    this false same is = absurd cc
gives_next own J n by event inside caller call given e answered gives = absurd cc

-- what was given of a subscription's events is a front of its transitions, also behind one more licensed step
pub given_front : (own : Addr) (J : List Entry) (s : NodeStep) (n : ℕ) → IsWhole J → IsInside s.inside
    → IsLicensed own (record { before = J; step = s }) → IsPrefixOf (events_given J n) (transitions J n)
    → IsPrefixOf (events_given (J ++ step_entries s) n) (transitions (J ++ step_entries s) n)
given_front own J s n whole clean licensed front =
    let more : List Event = each_behind (told_by_entry n) J (step_entries s) in
    subst (λ (w : List Event). IsPrefixOf w (transitions (J ++ step_entries s) n)) (sym (events_given_step J s n whole clean))
    (subst (λ (w : List Event). IsPrefixOf (list_with (events_given J n) (event_given n s.event s.answer)) w) (sym (transitions_append J (step_entries s) n))
    (by (event_given n s.event s.answer) more refl))
  where
    by : (o : Option Event) (more : List Event) → event_given n s.event s.answer ≡ o → IsPrefixOf (list_with (events_given J n) o) (transitions J n ++ more)
    by None more is = IsPrefixOf_grows (events_given J n) (transitions J n) more front
    by (Some e) more is =
        let at = gives_next own J n s.by s.event s.inside s.caller s.call s.answer e licensed.answered is in
        let next = next_of (events_given J n) front.0 e (ap (λ w. slice_get w (length (events_given J n))) (sym front.1) ∙ at) in
        IsPrefixOf_grows (events_given J n ++ e ∷ []) (transitions J n) more
        (next.0, front.1 ∙ ap (λ w. events_given J n ++ w) next.1 ∙ sym (append_assoc (events_given J n) (e ∷ []) next.0))
