-- Queues and sockets behind one more whole step.
use Rattle.std.specs.List.{flat_map, sum_by}
use Rattle.std.proofs.Common.{◌≡◌, ℕ, zero, suc, ◌+◌, ◌<◌, ◌≤◌, Bool, true, false, arith, List, [], ◌∷◌, ◌++◌, length, length-append, drop, cond, fold, refl, ◌∙◌, ap, zero-add}
use Rattle.std.proofs.lemmas.List.{append-nil, length-drop}
use Rattle.std.proofs.lemmas.List.Concat.{flat_map-append}
use Rattle.std.proofs.lemmas.List.Sums.{fold-append, sum_by-append}
use Rattle.tipc_types.specs.declared.identity.Addr.{Addr}
use Rattle.tipc_types.specs.declared.message_forms.Message.{Message}
use Rattle.tipc_journal.specs.declared.entries.Entry.{Entry}
use Rattle.tipc_journal.specs.Dues.{first_due}
use Rattle.tipc_journal.specs.Queues.{step_queued, is_taking, ever_queued, taken_count, queue, queue_inside, IsFed, sockets_after, sockets}
use Rattle.tipc_journal.specs.Steps.{NodeStep, PlacedStep, step_entries, IsInside, steps, IsWhole}
use Rattle.tipc_journal.proofs.StepLaws.{steps_more, steps_nil}

-- one more whole step adds what it queues to the port
pub ever_queued_step : (own : Addr) (J : List Entry) (s : NodeStep) (port : ℕ) → IsWhole J → IsInside s.inside
    → ever_queued own (J ++ step_entries s) port ≡ ever_queued own J port ++ step_queued own port s
unfolding ever_queued
ever_queued_step own J s port whole clean =
    let f : PlacedStep → List Message = λ p. step_queued own port p.step in
    ap (flat_map f) (steps_more J s whole clean)
    ∙ flat_map-append f (steps J) (record { before = J; step = s } ∷ [])
    ∙ ap (λ w. flat_map f (steps J) ++ w) (append-nil (step_queued own port s))

-- one more whole step counts where it is a receive from the port that was answered with a message
pub taken_count_step : (J : List Entry) (s : NodeStep) (port : ℕ) → IsWhole J → IsInside s.inside
    → taken_count (J ++ step_entries s) port ≡ taken_count J port + cond (is_taking port s.event s.answer) 1 0
unfolding taken_count
taken_count_step J s port whole clean =
    let n : PlacedStep → ℕ = λ p. cond (is_taking port p.step.event p.step.answer) 1 0 in
    ap (sum_by n) (steps_more J s whole clean)
    ∙ sum_by-append n (steps J) (record { before = J; step = s } ∷ [])
    ∙ ap (λ w. sum_by n (steps J) + w) (zero-add (cond (is_taking port s.event s.answer) 1 0))

-- one more whole step makes a socket, closes one or changes nothing
pub sockets_step : (J : List Entry) (s : NodeStep) → IsWhole J → IsInside s.inside
    → sockets (J ++ step_entries s) ≡ sockets_after (sockets J) s.event s.answer
unfolding sockets
sockets_step J s whole clean =
    let f : List ℕ → PlacedStep → List ℕ = λ ports p. sockets_after ports p.step.event p.step.answer in
    ap (fold f []) (steps_more J s whole clean) ∙ fold-append f [] (steps J) (record { before = J; step = s } ∷ [])

-- dropping some, and then some more of what is left and what comes behind it
drop_more : {A : Type 0} (n k : ℕ) (xs ys : List A) → n ≤ length xs → drop (n + k) (xs ++ ys) ≡ drop k (drop n xs ++ ys)
drop_more zero k xs ys h = ap (λ m. drop m (xs ++ ys)) (zero-add k)
drop_more (suc n) k [] ys h = absurd (omega (arith, h))
drop_more (suc n) k (x ∷ xs) ys h =
    ap (λ m. drop m (x ∷ (xs ++ ys))) (same n k) ∙ drop_more n k xs ys (omega (arith, h))
  where
    same : (n k : ℕ) → suc n + k ≡ suc (n + k)
    same n k = omega arith

-- One more whole step puts what it queues to a port behind the queue, and takes the first message where it is a receive that was
-- answered with one.
pub queue_step : (own : Addr) (J : List Entry) (s : NodeStep) (port : ℕ) → IsWhole J → IsInside s.inside → IsFed own J port
    → queue own (J ++ step_entries s) port
    ≡ drop (cond (is_taking port s.event s.answer) 1 0) (queue_inside own J (first_due own s.event s.answer) s.inside port)
unfolding queue
queue_step own J s port whole clean fed =
    ap (λ n. drop n (ever_queued own (J ++ step_entries s) port)) (taken_count_step J s port whole clean)
    ∙ ap (drop (taken_count J port + cond (is_taking port s.event s.answer) 1 0)) (ever_queued_step own J s port whole clean)
    ∙ drop_more (taken_count J port) (cond (is_taking port s.event s.answer) 1 0) (ever_queued own J port) (step_queued own port s) fed

-- a receive that was answered with a message took one that was there
pub IsFed_step : (own : Addr) (J : List Entry) (s : NodeStep) (port : ℕ) → IsWhole J → IsInside s.inside → IsFed own J port
    → (is_taking port s.event s.answer ≡ true → 0 < length (queue_inside own J (first_due own s.event s.answer) s.inside port))
    → IsFed own (J ++ step_entries s) port
unfolding queue
IsFed_step own J s port whole clean fed there = by (is_taking port s.event s.answer) there (taken_count_step J s port whole clean)
  where
    by : (b : Bool) → (b ≡ true → 0 < length (drop (taken_count J port) (ever_queued own J port) ++ step_queued own port s))
        → taken_count (J ++ step_entries s) port ≡ taken_count J port + cond b 1 0
        → taken_count (J ++ step_entries s) port ≤ length (ever_queued own (J ++ step_entries s) port)
    by true one count =
        let some = one refl in
        omega (
          arith,
          fed,
          count,
          some,
          ap length (ever_queued_step own J s port whole clean),
          length-append (ever_queued own J port) (step_queued own port s),
          length-append (drop (taken_count J port) (ever_queued own J port)) (step_queued own port s),
          length-drop (taken_count J port) (ever_queued own J port),
        )
    by false one count =
        omega (
          arith,
          fed,
          count,
          ap length (ever_queued_step own J s port whole clean),
          length-append (ever_queued own J port) (step_queued own port s),
        )

-- in an empty journal nothing was queued
pub ever_queued_nil : (own : Addr) (port : ℕ) → ever_queued own [] port ≡ []
unfolding ever_queued
ever_queued_nil own port = ap (flat_map (λ p. step_queued own port p.step)) steps_nil

-- in an empty journal nothing was received
pub taken_count_nil : (port : ℕ) → taken_count [] port ≡ 0
unfolding taken_count
taken_count_nil port = ap (λ w. sum_by (λ p. cond (is_taking port p.step.event p.step.answer) 1 0) w) steps_nil

-- in an empty journal each queue is empty
pub queue_nil : (own : Addr) (port : ℕ) → queue own [] port ≡ []
unfolding queue
queue_nil own port = ap (λ n. drop n (ever_queued own [] port)) (taken_count_nil port) ∙ ever_queued_nil own port

-- in an empty journal no more was received than queued
pub IsFed_nil : (own : Addr) (port : ℕ) → IsFed own [] port
IsFed_nil own port = omega (arith, taken_count_nil port)

-- in an empty journal there are no sockets
pub sockets_nil : sockets [] ≡ []
unfolding sockets
sockets_nil = ap (fold (λ ports p. sockets_after ports p.step.event p.step.answer) []) steps_nil
