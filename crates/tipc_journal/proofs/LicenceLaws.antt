-- Licensed answers behind one more entry and one more whole step.
use Rattle.std.specs.List.{All, AllByRecursion}
use Rattle.std.specs.Prelude.{not}
use Rattle.std.proofs.Common.{◌≡◌, inl, inr, ℕ, ◌<◌, Bool, true, false, arith, List, [], ◌∷◌, ◌++◌, Some, None, cond, length, length-append, map, refl, sym, subst, ◌∙◌, ap, append_assoc, true≢false, eqb-true}
use Rattle.std.proofs.lemmas.List.{append-nil}
use Rattle.std.proofs.lemmas.List.Elements.{All-from_recursion, All-push, recursion_from_All}
use Rattle.tipc_types.specs.declared.identity.Addr.{Addr}
use Rattle.tipc_types.specs.declared.message_forms.Message.{Message}
use Rattle.tipc_types.specs.declared.node_calls.Answer.{Answer}
use Rattle.tipc_types.specs.declared.node_calls.Answer.TheVariants.{Got, NoSocket}
use Rattle.tipc_types.specs.declared.node_calls.By.{By}
use Rattle.tipc_types.specs.declared.node_calls.EventNote.{EventNote}
use Rattle.tipc_types.specs.declared.node_calls.EventNote.TheVariants.{Receive}
use Rattle.tipc_journal.specs.declared.entries.Entry.{Entry}
use Rattle.tipc_journal.specs.Counting.{stamps}
use Rattle.tipc_journal.specs.Dues.{Due, due_after, due_behind, first_due}
use Rattle.tipc_journal.specs.Licensed.{is_send, received, sends_in, AllLicensed, AllPicked, IsAnswered, IsLicensed, IsPicked}
use Rattle.tipc_journal.specs.Queues.{queue, queued_in, sockets, is_taking, IsFed}
use Rattle.tipc_journal.specs.Refusals.{is_among, refusal}
use Rattle.tipc_journal.specs.Steps.{IsInside, IsWhole, NodeStep, PlacedStep, step_entries, steps}
use Rattle.tipc_journal.proofs.DueLaws.{due_behind_cons, due_behind_nil}
use Rattle.tipc_journal.proofs.QueueLaws.{IsFed_step}
use Rattle.tipc_journal.proofs.StepLaws.{steps_more, steps_nil}

-- no entry sends nothing
pub sends_in_nil : (own : Addr) (d : Due) → sends_in own d [] ≡ []
unfolding sends_in
sends_in_nil own d = refl

-- one more entry is a send or not, by its kind and what is due
pub sends_in_more : (own : Addr) (d : Due) (es : List Entry) (e : Entry)
    → sends_in own d (es ++ e ∷ []) ≡ sends_in own d es ++ cond (is_send (due_behind own d es) e) (e ∷ []) []
unfolding sends_in
sends_in_more own d [] e = append-nil (cond (is_send d e) (e ∷ []) []) ∙ ap (λ w. cond (is_send w e) (e ∷ []) []) (sym (due_behind_nil own d))
sends_in_more own d (x ∷ xs) e =
    let next : Due = due_after own d x in
    let first : List Entry = cond (is_send d x) (x ∷ []) [] in
    ap (λ w. first ++ w) (sends_in_more own next xs e)
    ∙ sym (append_assoc first (sends_in own next xs) (cond (is_send (due_behind own next xs) e) (e ∷ []) []))
    ∙ ap (λ w. (first ++ sends_in own next xs) ++ cond (is_send w e) (e ∷ []) []) (sym (due_behind_cons own d x xs))

-- each step of an empty journal is licensed
pub AllLicensed_nil : (own : Addr) → AllLicensed own []
AllLicensed_nil own = subst (λ (w : List PlacedStep). All (IsLicensed own) w) (sym steps_nil) (λ i d within. absurd (omega (arith, within)))

-- one more licensed step
pub AllLicensed_step : (own : Addr) (J : List Entry) (s : NodeStep) → IsWhole J → IsInside s.inside
    → AllLicensed own J → IsLicensed own (record { before = J; step = s }) → AllLicensed own (J ++ step_entries s)
AllLicensed_step own J s whole clean all one =
    subst (λ (w : List PlacedStep). All (IsLicensed own) w) (sym (steps_more J s whole clean)) (All-push (IsLicensed own) (steps J) (record { before = J; step = s }) all one)

-- a receive that gives a message has one that is queued
gives_one : (ms : List Message) → Got ≡ received ms → 0 < length ms
gives_one [] e = absurd cc
gives_one (m ∷ ms) e = omega arith

-- a licensed receive that was answered with a message took one that was queued before its step
takes_one : (own : Addr) (J : List Entry) (port : ℕ) (by : By) (event : EventNote) (inside : List Entry) (caller call : ℕ) (given : Answer)
    → IsAnswered own J (record { by = by; event = event; inside = inside; caller = caller; call = call; answer = given }) (refusal own J event)
    → is_taking port event given ≡ true → 0 < length (queue own J port)
takes_one own J port by (Receive from) inside caller call Got answered taking = go (not (is_among (sockets J) from)) answered
  where
    go : (b : Bool)
        → IsAnswered own J (record { by = by; event = Receive from; inside = inside; caller = caller; call = call; answer = Got }) (cond b (Some NoSocket) None)
        → 0 < length (queue own J port)
    go true a = let other : Got ≡ NoSocket = a.0 in absurd cc
    go false (inl c) = absurd (true≢false (sym c.0))
    go false (inr d) = gives_one (queue own J port) (d ∙ ap (λ w. received (queue own J w)) (eqb-true from port taking))
takes_one own J port by event inside caller call given answered taking = absurd (true≢false (sym taking))

-- behind one more licensed step no more was received than queued
pub IsFed_licensed : (own : Addr) (J : List Entry) (s : NodeStep) (port : ℕ) → IsWhole J → IsInside s.inside → IsFed own J port
    → IsLicensed own (record { before = J; step = s }) → IsFed own (J ++ step_entries s) port
IsFed_licensed own J s port whole clean fed licensed =
    IsFed_step own J s port whole clean fed
    (λ taking.
    let there = takes_one own J port s.by s.event s.inside s.caller s.call s.answer licensed.answered taking in
    omega (arith, there, length-append (queue own J port) (queued_in own port (first_due own s.event s.answer) s.inside)))

-- ---- picks

-- in an empty journal each message by name went to the match that is picked
pub AllPicked_nil : (gives : ℕ → ℕ → ℕ → Type 0) (turn : ℕ → ℕ) (own : Addr) → AllPicked gives turn own []
AllPicked_nil gives turn own =
    subst (λ (w : List PlacedStep). All (λ p. IsPicked gives (turn p.step.by.stamp) own p.before p.step.event p.step.answer) w) (sym steps_nil)
    (λ i d within. absurd (omega (arith, within)))

-- one more step whose message by name, if it is one, went to the match that is picked
pub AllPicked_step : (gives : ℕ → ℕ → ℕ → Type 0) (turn : ℕ → ℕ) (own : Addr) (J : List Entry) (s : NodeStep) → IsWhole J → IsInside s.inside
    → AllPicked gives turn own J → IsPicked gives (turn s.by.stamp) own J s.event s.answer → AllPicked gives turn own (J ++ step_entries s)
AllPicked_step gives turn own J s whole clean all one =
    let P : PlacedStep → Type 0 = λ p. IsPicked gives (turn p.step.by.stamp) own p.before p.step.event p.step.answer in
    subst (λ (w : List PlacedStep). All P w) (sym (steps_more J s whole clean)) (All-push P (steps J) (record { before = J; step = s }) all one)

-- turns that agree at all stamps below one that is above all of the journal
pub AllPicked_same : (gives : ℕ → ℕ → ℕ → Type 0) (turn other : ℕ → ℕ) (own : Addr) (J : List Entry) (stamp : ℕ)
    → All (λ x. x < stamp) (stamps J) → ((x : ℕ) → x < stamp → turn x ≡ other x) → AllPicked gives turn own J → AllPicked gives other own J
unfolding stamps
AllPicked_same gives turn other own J stamp below same all =
    let P : (ℕ → ℕ) → PlacedStep → Type 0 = λ t p. IsPicked gives (t p.step.by.stamp) own p.before p.step.event p.step.answer in
    All-from_recursion (P other) (steps J) (both (steps J)
    (recursion_from_All (λ x. x < stamp) (map (λ p. p.step.by.stamp) (steps J)) below)
    (recursion_from_All (P turn) (steps J) all))
  where
    both : (ps : List PlacedStep) → AllByRecursion (λ x. x < stamp) (map (λ p. p.step.by.stamp) ps)
        → AllByRecursion (λ p. IsPicked gives (turn p.step.by.stamp) own p.before p.step.event p.step.answer) ps
        → AllByRecursion (λ p. IsPicked gives (other p.step.by.stamp) own p.before p.step.event p.step.answer) ps
    both [] h k = tt
    both (p ∷ ps) h k =
        (subst (λ t. IsPicked gives t own p.before p.step.event p.step.answer) (same p.step.by.stamp h.0) k.0, both ps h.1 k.1)
