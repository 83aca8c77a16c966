-- The refusals of a node's calls: for each call those that its journal tells, in order, each with its condition.
use Rattle.std.specs.Prelude.{◌==◌, ◌&&◌, ◌||◌, if◌then◌else◌, nat_lt, nat_le, not, is_none, ℕ, Bool, true, false, List, [], ◌∷◌, Option, Some, None, length, filter_map, count_by}
use Rattle.std.specs.List.{list_any, filter_map}
use Rattle.tipc_types.specs.declared.identity.Addr.{Addr}
use Rattle.tipc_types.specs.declared.node_calls.Answer.{Answer}
use Rattle.tipc_types.specs.declared.node_calls.Answer.TheVariants as answer
use Rattle.tipc_types.specs.declared.node_calls.EventNote.{EventNote}
use Rattle.tipc_types.specs.declared.node_calls.EventNote.TheVariants as event
use Rattle.tipc_types.specs.declared.services.Publication.{Publication}
use Rattle.tipc_journal.specs.declared.entries.Entry.{Entry}
use Rattle.tipc_journal.specs.declared.entries.Entry.TheVariants as entry
use Rattle.tipc_journal.specs.Contacts.{contact}
use Rattle.tipc_journal.specs.Matches.{matches, overlap}
use Rattle.tipc_journal.specs.Names.{live, table}
use Rattle.tipc_journal.specs.Queues.{sockets}
use Rattle.tipc_journal.specs.Steps.{steps}
use Rattle.tipc_journal.specs.Subscriptions.{subscriptions}

-- the limits of a node: sockets at a time and in a boot, own publications, subscriptions at a time and in a boot
abbrev pub most_sockets : ℕ
most_sockets = 256

-- how many sockets a node makes in one boot at most: 2^20 - 1
abbrev pub most_sockets_made : ℕ
most_sockets_made = 1048575

-- how many publications of its own a node has at a time at most
abbrev pub most_publications : ℕ
most_publications = 1024

-- how many subscriptions a node has at a time at most
abbrev pub most_subscriptions : ℕ
most_subscriptions = 256

-- how many subscriptions a node makes in one boot at most: 2^32 - 1
abbrev pub most_subscriptions_made : ℕ
most_subscriptions_made = 4294967295

-- service types below this one are reserved
abbrev pub first_free_type : ℕ
first_free_type = 64

-- how many bytes a user may send
abbrev pub longest_body : ℕ
longest_body = 66000

-- the port of a socket that a call made
abbrev pub made_by : EventNote → Answer → Option ℕ
made_by event.Socket (answer.Socket port) = Some port
made_by event answer = None

-- the ports of all sockets that were made
unfoldable pub sockets_made : List Entry → List ℕ
sockets_made entries = filter_map (λ p. made_by p.step.event p.step.answer) (steps entries)

-- whether an entry begins a subscription
abbrev pub is_subscribed : Entry → Bool
is_subscribed (entry.Subscribed number s) = true
is_subscribed _ = false

-- how many subscriptions were made
unfoldable pub subscriptions_made : List Entry → ℕ
subscriptions_made entries = count_by is_subscribed entries

-- whether a number is one of these
abbrev pub is_among : List ℕ → ℕ → Bool
is_among numbers n = list_any (λ m. m == n) numbers

-- whether a publication is that of a port and key
abbrev pub is_offer : ℕ → ℕ → Publication → Bool
is_offer port key p = (p.at.port == port) && (p.key == key)

-- refusals that several calls have: the port isn't there, the body is too long
abbrev pub no_socket : List Entry → ℕ → Bool × Answer
no_socket entries port = (not (is_among (sockets entries) port), answer.NoSocket)

-- the body is longer than a user's may be; the answer tells its length
abbrev pub too_long : List ℕ → Bool × Answer
too_long body = (nat_lt longest_body (length body), answer.TooLong (length body))

-- refusals at the limits: as many sockets, or subscriptions, are there as may be, or were made in this boot
abbrev pub no_more_sockets : List Entry → Bool × Answer
no_more_sockets entries =
    let made = length (sockets_made entries) in
    (nat_le most_sockets (length (sockets entries)) || nat_le most_sockets_made made, answer.Full most_sockets)

-- as many subscriptions are there as may be, or were made in this boot
abbrev pub no_more_subscriptions : List Entry → Bool × Answer
no_more_subscriptions entries =
    let made = subscriptions_made entries in
    (nat_le most_subscriptions (length (subscriptions entries)) || nat_le most_subscriptions_made made, answer.Full most_subscriptions)

-- whether nothing was found
abbrev pub is_nothing : List Publication → Bool
is_nothing [] = true
is_nothing (p ∷ ps) = false

-- the refusals of a call in their order, each with its condition, behind a journal
abbrev pub refusals : Addr → List Entry → EventNote → List (Bool × Answer)
refusals own J event.Socket = no_more_sockets J ∷ []
refusals own J (event.Close port) = no_socket J port ∷ []
refusals own J (event.Publish port range scope key) =
    no_socket J port
    ∷ (nat_lt range.kind first_free_type, answer.Reserved)
    ∷ (list_any (λ p. p.key == key) (live J), answer.Duplicate key)
    ∷ (nat_le most_publications (length (live J)), answer.Full most_publications)
    ∷ []
refusals own J (event.Withdraw port key) =
    no_socket J port ∷ (not (list_any (is_offer port key) (live J)), answer.Unknown) ∷ []
refusals own J (event.SendName port kind instance importance body) =
    no_socket J port ∷ too_long body ∷ (is_nothing (matches own (table J) kind instance), answer.NoName) ∷ []
refusals own J (event.SendPort port to importance body) =
    no_socket J port
    ∷ too_long body
    ∷ (not (to.node.word == own.word) && is_none (contact J to.node), answer.NoNode)
    ∷ []
refusals own J (event.Multicast port kind lower upper importance body) =
    no_socket J port
    ∷ too_long body
    ∷ (nat_lt upper lower, answer.BadRange)
    ∷ (is_nothing (overlap (table J) (record { kind = kind; lower = lower; upper = upper })), answer.NoName)
    ∷ []
refusals own J (event.Receive port) = no_socket J port ∷ []
refusals own J (event.Subscribe s) =
    (nat_lt s.upper s.lower, answer.BadRange)
    ∷ (not ((s.filter == 1) || (s.filter == 2)), answer.BadFilter)
    ∷ no_more_subscriptions J
    ∷ []
refusals own J (event.Cancel number) = (not (is_among (subscriptions J) number), answer.Unknown) ∷ []
refusals own J (event.NextEvent number) = (not (is_among (subscriptions J) number), answer.Unknown) ∷ []
refusals own J event = []

-- the first whose condition holds
abbrev pub first_holding : List (Bool × Answer) → Option Answer
first_holding [] = None
first_holding (r ∷ rs) = if r.0 then Some r.1 else first_holding rs

-- the refusal of a call behind a journal, as far as the journal tells it
abbrev pub refusal : Addr → List Entry → EventNote → Option Answer
refusal own J event = first_holding (refusals own J event)

-- whether a call was refused because too many packets wait on a link. Of that a journal tells nothing.
abbrev pub is_congested : EventNote → Answer → Bool
is_congested (event.SendName port kind instance importance body) (answer.Congested in_flight waiting) = true
is_congested (event.SendPort port to importance body) (answer.Congested in_flight waiting) = true
is_congested (event.Multicast port kind lower upper importance body) (answer.Congested in_flight waiting) = true
is_congested (event.Publish port range scope key) (answer.NamesCongested peer waiting) = true
is_congested (event.Withdraw port key) (answer.NamesCongested peer waiting) = true
is_congested (event.Close port) (answer.NamesCongested peer waiting) = true
is_congested event answer = false
