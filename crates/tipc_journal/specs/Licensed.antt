-- What makes the answer of a call licensed: it is the first refusal whose condition holds, or the call is done,
-- with just the entries that it asks for.
use Rattle.std.specs.Prelude.{◌≡◌, ◌⊎◌, ◌==◌, ◌||◌, ◌+◌, ◌%◌, ◌^◌, if◌then◌else◌, not, is_some, ℕ, Bool, true, false, List, [], ◌∷◌, ◌++◌, Option, Some, None, Contains, filter, find, length, map, option_map, option_to_list, slice_get}
use Rattle.std.specs.List.{All, filter_map, flat_map, list_any, range_with_len}
use Rattle.tipc_types.specs.Address.{node_word}
use Rattle.tipc_types.specs.declared.identity.Addr.{Addr}
use Rattle.tipc_types.specs.declared.message_forms.Flow.{Flow}
use Rattle.tipc_types.specs.declared.message_forms.Flow.TheVariants.{Zero, Broadcast}
use Rattle.tipc_types.specs.declared.message_forms.Form.TheVariants.{Multicast as Many}
use Rattle.tipc_types.specs.declared.message_forms.Message.{Message}
use Rattle.tipc_types.specs.declared.message_forms.Message.TheVariants.{Payload, Items}
use Rattle.tipc_types.specs.declared.node_calls.Answer.{Answer}
use Rattle.tipc_types.specs.declared.node_calls.Answer.TheVariants as answer
use Rattle.tipc_types.specs.declared.node_calls.Arrival.{Arrival}
use Rattle.tipc_types.specs.declared.node_calls.Event.{Event}
use Rattle.tipc_types.specs.declared.node_calls.EventNote.{EventNote}
use Rattle.tipc_types.specs.declared.node_calls.EventNote.TheVariants as event
use Rattle.tipc_types.specs.declared.services.Publication.{Publication}
use Rattle.tipc_types.specs.Tables.{is_of}
use Rattle.tipc_journal.specs.declared.entries.Entry.{Entry}
use Rattle.tipc_journal.specs.declared.entries.Entry.TheVariants as entry
use Rattle.tipc_journal.specs.Contacts.{contact}
use Rattle.tipc_journal.specs.Dues.{Due, ReturnDue, due_after, first_due, sent_message}
use Rattle.tipc_journal.specs.Matches.{matches, overlap}
use Rattle.tipc_journal.specs.Names.{live, table}
use Rattle.tipc_journal.specs.Queues.{queue}
use Rattle.tipc_journal.specs.Refusals.{is_among, is_congested, is_offer, refusal, sockets_made, subscriptions_made}
use Rattle.tipc_journal.specs.Steps.{steps, NodeStep, PlacedStep}
use Rattle.tipc_journal.specs.Subscriptions.{timeouts, transitions}

-- ---- the answers of calls that are done

-- what a receive answers, by the queue of its port
abbrev pub received : List Message → Answer
received [] = answer.Empty
received (m ∷ ms) = answer.Got

-- the event of the subscription of a number that a call gave
abbrev pub event_given : ℕ → EventNote → Answer → Option Event
event_given n (event.NextEvent number) (answer.Next e) = if number == n then Some e else None
event_given n event answer = None

-- the events of the subscription of a number that were given, in order
unfoldable pub events_given : List Entry → ℕ → List Event
events_given entries n = filter_map (λ p. event_given n p.step.event p.step.answer) (steps entries)

-- what next_event answers, by the event that is next
abbrev pub next_answer : Option Event → Answer
next_answer None = answer.NoEvent
next_answer (Some e) = answer.Next e

-- whether a node is this one or in contact with it
abbrev pub is_reached : Addr → List Entry → Addr → Bool
is_reached own J node = (node.word == own.word) || is_some (contact J node)

-- A call that isn't refused answers this behind a journal. A socket has a port that none had before. A message by name
-- goes to a match, at the own node or in contact. A receive gives a message exactly where one is queued. Subscriptions
-- are counted from 1. The events of a subscription are given in the order of its transitions, and there is none exactly
-- where each was given.
abbrev pub IsDone : Addr → List Entry → EventNote → Answer → Type 0
IsDone own J event.Socket given = (port : ℕ) × (given ≡ answer.Socket port) × (is_among (sockets_made J) port ≡ false)
IsDone own J (event.SendName port kind instance importance body) given =
    (p : Publication)
    × (given ≡ answer.SentTo p.at)
    × Contains (matches own (table J) kind instance) p
    × (is_reached own J p.at.node ≡ true)
IsDone own J (event.SendPort port to importance body) given = given ≡ answer.Sent
IsDone own J (event.Multicast port kind lower upper importance body) given = given ≡ answer.Sent
IsDone own J (event.Receive port) given = given ≡ received (queue own J port)
IsDone own J (event.Subscribe s) given = given ≡ answer.Subscribed (subscriptions_made J + 1)
IsDone own J (event.NextEvent number) given =
    given ≡ next_answer (slice_get (transitions J number) (length (events_given J number)))
IsDone own J (event.Arrive bearer number) given = (arrival : Arrival) × (given ≡ answer.Arrived arrival)
IsDone own J event given = given ≡ answer.Done

-- The step is refused, for the first reason that a journal tells or because it is congested, and made nothing; or
-- it is done.
abbrev pub IsAnswered : Addr → List Entry → NodeStep → Option Answer → Type 0
IsAnswered own J s (Some refused) = (s.answer ≡ refused) × (s.inside ≡ [])
IsAnswered own J s None = ((is_congested s.event s.answer ≡ true) × (s.inside ≡ [])) ⊎ IsDone own J s.event s.answer

-- ---- the entries that a call asks for

-- whether an entry is one that stands only where a call asks for it
abbrev pub is_asked_for : Entry → Bool
is_asked_for (entry.Published p) = true
is_asked_for (entry.Withdrawn p) = true
is_asked_for (entry.Subscribed number s) = true
is_asked_for (entry.Cancelled number) = true
is_asked_for (entry.TimedOut number) = true
is_asked_for _ = false

-- the entries that a call asks for: a publication, its withdrawal, that of each publication of a port that is
-- closed, in the order of publishing; a subscription, its end; a tick the end of those that time out in it
abbrev pub asked : Addr → List Entry → EventNote → Answer → List Entry
asked own J (event.Publish port range scope key) answer.Done =
    entry.Published (record { range = range; scope = scope; at = record { node = own; port = port }; key = key }) ∷ []
asked own J (event.Withdraw port key) answer.Done =
    map entry.Withdrawn (option_to_list (find (is_offer port key) (live J)))
asked own J (event.Close port) answer.Done = map entry.Withdrawn (filter (λ p. p.at.port == port) (live J))
asked own J (event.Subscribe s) (answer.Subscribed number) = entry.Subscribed number s ∷ []
asked own J (event.Cancel number) answer.Done = entry.Cancelled number ∷ []
asked own J event.Tick answer.Done = map entry.TimedOut (timeouts J)
asked own J event given = []

-- whether an entry accepts a user's message, where d is due: not a return that is due, and not items
abbrev pub is_send : Due → Entry → Bool
is_send (ReturnDue m) e = false
is_send d (entry.Accepted peer numbers flow (Payload importance form from to kind lower upper code droppable body)) = true
is_send d e = false

-- the entries of a step that accept a user's message, where d is due before them
unfoldable pub sends_in : Addr → Due → List Entry → List Entry
sends_in own d [] = []
sends_in own d (e ∷ es) = (if is_send d e then e ∷ [] else []) ++ sends_in own (due_after own d e) es

-- the entry that accepts a message for a peer in the present contact, where there is one
abbrev pub accepted_for : List Entry → Flow → Message → Addr → List Entry
accepted_for J flow m peer =
    option_to_list (option_map (λ numbers. entry.Accepted peer numbers flow m) (contact J peer))

-- the nodes of the cluster, in order of address
unfoldable pub cluster : List Addr
cluster = map (λ n. record { word = node_word n }) (range_with_len 1 32)

-- the entries that accept a multicast: one for each peer in contact, in order of address
abbrev pub accepted_for_all : List Entry → Message → List Entry
accepted_for_all J m = flat_map (accepted_for J Broadcast m) cluster

-- whether one of these publications is a peer's
abbrev pub has_peers : Addr → List Publication → Bool
has_peers own ps = list_any (λ p. not (is_of own.word p)) ps

-- the entries that accept a message that was sent: a multicast for each peer in contact, in order of address, where
-- a peer has an overlapping publication; any other message for the node that it is for, where that is another one
abbrev pub accepted_of : Addr → List Entry → Option Message → List Entry
accepted_of own J None = []
accepted_of own J (Some (Payload importance Many from to kind lower upper code droppable body)) =
    if has_peers own (overlap (table J) (record { kind = kind; lower = lower; upper = upper }))
    then accepted_for_all J (Payload importance Many from to kind lower upper code droppable body)
    else []
accepted_of own J (Some (Payload importance form from to kind lower upper code droppable body)) =
    if to.node.word == own.word then []
    else accepted_for J Zero (Payload importance form from to kind lower upper code droppable body) to.node
accepted_of own J (Some (Items withdrawal items)) = []

-- ---- licensed steps

-- a step is licensed: its answer is, and it made just the publications, withdrawals, subscriptions, cancellations,
-- timeouts and sends that it asks for
pub record IsLicensed (own : Addr) (p : PlacedStep) : Type 0 where
  pub answered : IsAnswered own p.before p.step (refusal own p.before p.step.event)
  pub asked : filter is_asked_for p.step.inside ≡ asked own p.before p.step.event p.step.answer
  pub sends :
      sends_in own (first_due own p.step.event p.step.answer) p.step.inside
      ≡ accepted_of own p.before (sent_message own p.step.event p.step.answer)

-- each step of a journal is licensed
abbrev pub AllLicensed : Addr → List Entry → Type 0
AllLicensed own entries = All (IsLicensed own) (steps entries)

-- ---- which match a message by name goes to

-- The message went to the match at place k + 1, for the k that the pick gives for the turn and the number of matches.
abbrev pub IsPickedOf : (ℕ → ℕ → ℕ → Type 0) → ℕ → List Publication → Answer → Type 0
IsPickedOf gives turn found (answer.SentTo to) =
    (k : ℕ) × gives (turn % 2 ^ 64) (length found) k × ((p : Publication) × (slice_get found k ≡ Some p) × (to ≡ p.at))
IsPickedOf gives turn found given = Unit {0}

-- A send by name at this turn went to the match that the pick gives.
abbrev pub IsPicked : (ℕ → ℕ → ℕ → Type 0) → ℕ → Addr → List Entry → EventNote → Answer → Type 0
IsPicked gives turn own J (event.SendName port kind instance importance body) given =
    IsPickedOf gives turn (matches own (table J) kind instance) given
IsPicked gives turn own J event given = Unit {0}

-- Each message by name of a journal went to the match that the pick gives for its turn. Turns are told by stamps:
-- how many were sent by name before.
abbrev pub AllPicked : (ℕ → ℕ → ℕ → Type 0) → (ℕ → ℕ) → Addr → List Entry → Type 0
AllPicked gives turn own entries =
    All (λ p. IsPicked gives (turn p.step.by.stamp) own p.before p.step.event p.step.answer) (steps entries)
