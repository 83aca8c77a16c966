-- The answers of calls: the journal keeps all of each, but for a message that was received, and none tells of an arrival. A call that is refused
-- is a turn of the node.
use Rattle.std.proofs.Common.{◌≡◌, ◌∙◌, ℕ, List, [], ◌∷◌, Option, Some, None, is_some, length, nat_le, not, refl, ap}
use Rattle.std.specs.Prelude.{◌==◌, ◌||◌, if◌then◌else◌, nat_lt, option_map}
use Rattle.tipc_types.specs.declared.identity.Addr.{Addr}
use Rattle.tipc_types.specs.declared.message_forms.Message.{Message}
use Rattle.tipc_types.specs.declared.node_calls.Answer.{Answer}
use Rattle.tipc_types.specs.declared.node_calls.Answer.TheVariants as answer
use Rattle.tipc_types.specs.declared.node_calls.By.{By}
use Rattle.tipc_types.specs.declared.node_calls.Event.{Event}
use Rattle.tipc_types.specs.declared.node_calls.EventNote.{EventNote}
use Rattle.tipc_types.specs.declared.node_calls.Subscription.{Subscription}
use Rattle.tipc_types.specs.declared.services.Publication.{Publication}
use Rattle.tipc_outside.specs.declared.outgoing.Outgoing.{Outgoing}
use Rattle.tipc_journal.specs.Licensed.{next_answer}
use Rattle.tipc_journal.specs.Refusals.{longest_body, most_sockets, most_sockets_made, most_subscriptions, most_subscriptions_made}
use Rattle.tipc_topology.specs.Changing.{is_filter, of_number}
use Rattle.tipc_sockets.specs.declared.publishing.PublishFault.{PublishFault}
use Rattle.tipc_sockets.specs.declared.publishing.PublishFault.TheVariants as fault
use Rattle.tipc_sockets.specs.Publishing.{publish_refusal, published_at}
use Rattle.tipc_sockets.specs.SocketTables.{SocketTable, has_port}
use Rattle.tipc_node.specs.declared.neighbours.Neighbour.{Neighbour}
use Rattle.tipc_node.specs.Calls.{sender_refusal}
use Rattle.tipc_node.specs.Nodes.{NodeState, load_with, recorded}
use Rattle.tipc_node.specs.Plans.{link_refusal, or_else, way_refusal}
use Rattle.tipc_node.specs.Sockets.{crowd_refusal, crowded_answer, first_answer, first_crowded, kept_answer, key_refusal, number_refusal, port_refusal, publication_refusal, refused_publication, socket_refusal, subscription_refusal, withdrawal_refusal}
use Rattle.tipc_node.specs.Turns.{AreNamed}
use Rattle.tipc_node.specs.Works.{begun, neighbour_at}
use Rattle.tipc_pair.proofs.turns.Addressing.{either}
use Rattle.tipc_node.proofs.turns.MessageRuns.{idle_run}
use Rattle.tipc_node.proofs.turns.Turning.{IsTurn, IsUntaken, named_stand, run_turn, turn_as}

-- an answer of which the journal keeps all, and which isn't an arrival's
pub record IsPlain (a : Answer) : Type 0 where
  pub kept : kept_answer a ≡ a
  pub untaken : IsUntaken a

-- so is a reason, where there is one
abbrev pub IsPlainIn : Option Answer → Type 0
IsPlainIn None = Unit {0}
IsPlainIn (Some a) = IsPlain a

pub plain_either : (first other : Option Answer) → IsPlainIn first → IsPlainIn other → IsPlainIn (or_else first other)
plain_either None other plain later = later
plain_either (Some reason) other plain later = plain

pub socket_plain : (s : SocketTable) → IsPlainIn (socket_refusal s)
socket_plain s = either IsPlainIn (nat_le most_sockets (length s.ports.present) || nat_le most_sockets_made s.ports.made) (Some (answer.Full most_sockets)) None (record { kept = refl; untaken = tt }) tt

no_socket : IsPlainIn (Some answer.NoSocket)
no_socket = record { kept = refl; untaken = tt }

pub port_plain : (s : SocketTable) (port : ℕ) → IsPlainIn (port_refusal s port)
port_plain s port = either IsPlainIn (has_port s port) None (Some answer.NoSocket) tt no_socket

pub subscription_plain : (s : SocketTable) (asked : Subscription) → IsPlainIn (subscription_refusal s asked)
subscription_plain s asked =
    let full : Option Answer =
    if nat_le most_subscriptions (length s.watchers.kept) || nat_le most_subscriptions_made s.watchers.made then Some (answer.Full most_subscriptions) else None in
    either IsPlainIn (nat_lt asked.upper asked.lower) (Some answer.BadRange) (if not (is_filter asked) then Some answer.BadFilter else full) (record { kept = refl; untaken = tt })
    (either IsPlainIn (not (is_filter asked)) (Some answer.BadFilter) full (record { kept = refl; untaken = tt })
    (either IsPlainIn (nat_le most_subscriptions (length s.watchers.kept) || nat_le most_subscriptions_made s.watchers.made) (Some (answer.Full most_subscriptions)) None (record { kept = refl; untaken = tt }) tt))

pub number_plain : (s : SocketTable) (number : ℕ) → IsPlainIn (number_refusal s number)
number_plain s number = either IsPlainIn (is_some (of_number s.watchers number)) None (Some answer.Unknown) tt (record { kept = refl; untaken = tt })

-- what a call for the next event answers
pub next_untaken : (o : Option Event) → IsUntaken (kept_answer (next_answer o))
next_untaken None = tt
next_untaken (Some e) = tt

pub next_kept : (o : Option Event) → kept_answer (next_answer o) ≡ next_answer o
next_kept None = refl
next_kept (Some e) = refl

publish_plain : (o : Option PublishFault) → IsPlainIn (refused_publication o)
publish_plain None = tt
publish_plain (Some fault.NoSocket) = record { kept = refl; untaken = tt }
publish_plain (Some fault.Reserved) = record { kept = refl; untaken = tt }
publish_plain (Some (fault.Duplicate key)) = record { kept = refl; untaken = tt }
publish_plain (Some fault.Full) = record { kept = refl; untaken = tt }
publish_plain (Some fault.NoMemory) = tt

pub publication_plain : (s : SocketTable) (port kind key : ℕ) → IsPlainIn (publication_refusal s port kind key)
publication_plain s port kind key = publish_plain (publish_refusal s port kind key)

key_plain : (o : Option Publication) → IsPlainIn (key_refusal o)
key_plain None = record { kept = refl; untaken = tt }
key_plain (Some p) = tt

pub withdrawal_plain : (s : SocketTable) (port key : ℕ) → IsPlainIn (withdrawal_refusal s port key)
withdrawal_plain s port key = either IsPlainIn (has_port s port) (key_refusal (published_at s port key)) (Some answer.NoSocket) (key_plain (published_at s port key)) no_socket

crowded_plain : (xs : List (Option Neighbour)) (o : Option ℕ) → IsPlainIn (option_map (crowded_answer xs) o)
crowded_plain xs None = tt
crowded_plain xs (Some peer) = record { kept = refl; untaken = tt }

pub crowd_plain : (xs : List (Option Neighbour)) (ms : List Message) → IsPlainIn (crowd_refusal xs ms)
crowd_plain xs [] = tt
crowd_plain xs (m ∷ ms) = crowded_plain xs (first_crowded xs)

pub sender_plain : (n : NodeState) (port : ℕ) (body : List ℕ) → IsPlainIn (sender_refusal n port body)
sender_plain n port body =
    let long : IsPlainIn (Some (answer.TooLong (length body))) = record { kept = refl; untaken = tt } in
    either IsPlainIn (has_port n.sockets port) (if nat_le (length body) longest_body then None else Some (answer.TooLong (length body))) (Some answer.NoSocket)
    (either IsPlainIn (nat_le (length body) longest_body) None (Some (answer.TooLong (length body))) tt long) no_socket

link_plain : (o : Option (ℕ × ℕ)) (limit : ℕ) → IsPlainIn (link_refusal o limit)
link_plain None limit = record { kept = refl; untaken = tt }
link_plain (Some load) limit = either IsPlainIn (nat_le limit load.1) (Some (answer.Congested load.0 load.1)) None (record { kept = refl; untaken = tt }) tt

pub way_plain : (n : NodeState) (node : Addr) (limit : ℕ) → IsPlainIn (way_refusal n node limit)
way_plain n node limit =
    either IsPlainIn (node.word == n.own) None (link_refusal (load_with (neighbour_at n.neighbours node)) limit) tt (link_plain (load_with (neighbour_at n.neighbours node)) limit)

pub received_untaken : (queue : List Message) → IsUntaken (kept_answer (first_answer queue))
received_untaken [] = tt
received_untaken (m ∷ queue) = tt

-- ---- a call that is refused

-- a call was a turn
abbrev pub IsCall : NodeState → NodeState → By → EventNote → List Outgoing → Answer → Type 0
IsCall n n' by call frames answered = IsTurn n n' by call [] frames (kept_answer answered)

pub refused_turn : (n n' : NodeState) (by : By) (call : EventNote) (reason : Answer) (frames : List Outgoing) (answered : Answer) → AreNamed n → IsPlain reason
    → n' ≡ recorded n by call [] reason → frames ≡ [] → answered ≡ reason → IsCall n n' by call frames answered
refused_turn n n' by call reason frames answered named plain after none is =
    turn_as n n' (recorded n by call [] reason) by call [] frames [] (kept_answer answered) reason after none (ap kept_answer is ∙ plain.kept)
    (run_turn n by call [] reason (begun n) [] plain.untaken (idle_run n (begun n) (begun n) (named_stand n named) refl refl))
