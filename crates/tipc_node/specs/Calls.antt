-- What each call makes of a node, exactly: the node after it, the frames that leave, and the answer.
use Rattle.std.specs.Prelude.{◌≡◌, ◌≤◌, ℕ, false, nat_le, if◌then◌else◌, List, [], Option, None, Some, length, slice_get}
use Rattle.tipc_types.specs.declared.message_forms.Importance.{Importance}
use Rattle.tipc_types.specs.declared.node_calls.Answer.{Answer}
use Rattle.tipc_types.specs.declared.node_calls.Answer.TheVariants as answer
use Rattle.tipc_types.specs.declared.node_calls.By.{By}
use Rattle.tipc_types.specs.declared.node_calls.EventNote.{EventNote}
use Rattle.tipc_types.specs.declared.node_calls.EventNote.TheVariants.{Socket, Close, Publish, Withdraw, SendName, SendPort, Multicast, Arrive, Receive, Subscribe, Cancel, NextEvent, Tick, Cut, Mend}
use Rattle.tipc_types.specs.declared.services.Publication.{Publication}
use Rattle.tipc_outside.specs.declared.outgoing.Outgoing.{Outgoing}
use Rattle.tipc_outside.specs.Frames.{Adds, Out}
use Rattle.tipc_send_window.specs.Sending.{IsSending}
use Rattle.tipc_broadcast.specs.Deeds.{after_deeds}
use Rattle.tipc_journal.specs.declared.entries.Entry.{Entry}
use Rattle.tipc_journal.specs.Licensed.{IsPickedOf, next_answer}
use Rattle.tipc_journal.specs.Refusals.{longest_body}
use Rattle.tipc_name_dist.specs.Items.{telling}
use Rattle.tipc_sockets.specs.Publishing.{own_publication}
use Rattle.tipc_sockets.specs.SocketTables.{SocketTable, has_port, with_socket}
use Rattle.tipc_node.specs.declared.neighbours.Upkeep.{Upkeep}
use Rattle.tipc_node.specs.declared.neighbours.Upkeep.TheVariants as upkeep
use Rattle.tipc_node.specs.Discovery.{AreFound, next_tick, upkeep_frames}
use Rattle.tipc_node.specs.Messages.{direct, limit_of, named}
use Rattle.tipc_node.specs.Multicasts.{multicast_plan}
use Rattle.tipc_node.specs.Nodes.{NodeState, after_all, entries_all, mended_by, parts_of, step_of, upkeep_deeds}
use Rattle.tipc_node.specs.Plans.{CarriesOut, Plan, frames_alone, message_plan, names_plan, or_else, tables_plan}
use Rattle.tipc_node.specs.Sockets.{cancelled_work, closed_work, first_answer, first_event, found_at, kept_answer, next_number, next_port, next_work, number_refusal, passed_work, port_refusal, publication_refusal, published_work, received_work, socket_refusal, subscribed_work, subscription_refusal, timeouts_of, told_closing, told_withdrawal, waiting_at, with_sockets_of, withdrawal_refusal, withdrawn_work}
use Rattle.tipc_node.specs.Sharing.{SharesNames}
use Rattle.tipc_node.specs.Telling.{IsTold}
use Rattle.tipc_node.specs.Turns.{HaveJoined, NodeTurn}
use Rattle.tipc_node.specs.Works.{Work, begun, noted}

-- ---- messages

-- the sending port isn't there, or the body is too long
abbrev pub sender_refusal : NodeState → ℕ → List ℕ → Option Answer
sender_refusal n port body =
    if has_port n.sockets port then (if nat_le (length body) longest_body then None else Some (answer.TooLong (length body))) else Some answer.NoSocket

-- one of the publications that a name found is chosen, and none only where it found none
abbrev pub IsChoice : List Publication → Option Publication → Type 0
IsChoice found None = found ≡ []
IsChoice found (Some p) = (place : ℕ) × (slice_get found place ≡ Some p)

-- a message by name goes to the port of the publication that was chosen; where none was there is no such name
abbrev pub name_plan : NodeState → (port kind instance : ℕ) → Importance → List ℕ → Option Publication → Plan
name_plan n port kind instance importance body None = tables_plan n (or_else (sender_refusal n port body) (Some answer.NoName)) (begun n) answer.NoName
name_plan n port kind instance importance body (Some p) =
    message_plan n (sender_refusal n port body) (named n.own port p.at kind instance importance body) (limit_of importance) (answer.SentTo p.at)

-- where a call was answered as sent by name, the message went to the place that the pick gives for the turn, of those that the name found
abbrev pub IsPickedFrom : (ℕ → ℕ → ℕ → Type 0) → ℕ → NodeState → EventNote → Answer → Type 0
IsPickedFrom gives turn n (SendName port kind instance importance body) answered = IsPickedOf gives turn (found_at n kind instance) answered
IsPickedFrom gives turn n other answered = Unit {0}

-- ---- what happens to all neighbours alike

-- the work on it
abbrev pub upkeep_work : Upkeep → NodeState → Work
upkeep_work d n = noted (record (begun n) { neighbours = after_all (parts_of d n) }) (entries_all 0 (parts_of d n))

-- a bearer is mended, on which a request leaves, or cut
abbrev pub upkeep_plan : NodeState → Upkeep → Plan
upkeep_plan n d = record (tables_plan n None (upkeep_work d n) answer.Done) {
  mended = mended_by d n.mended;
  casting = after_deeds (upkeep_deeds d n) n.casting;
  dispatch = frames_alone (upkeep_frames d n);
}

-- the work on a tick: it happens to all neighbours; then subscriptions time out, and it passes for the others
abbrev pub tick_work : NodeState → Work
tick_work n = passed_work (noted (upkeep_work upkeep.Tick n) (timeouts_of n.sockets))

-- a tick passes and is counted, and the node asks who is there where it is time for that
abbrev pub tick_plan : NodeState → Plan
tick_plan n = record (tables_plan n None (tick_work n) answer.Done) {
  ticks = next_tick n.ticks;
  casting = after_deeds (upkeep_deeds upkeep.Tick n) n.casting;
  dispatch = frames_alone (upkeep_frames upkeep.Tick n);
}

-- ---- a call of a user, of the clock, or of a bearer

-- The plan of each call, where a message by name goes to this publication. An arrival is no call: what stands here for it is never carried out.
abbrev pub plan_of : NodeState → EventNote → Option Publication → Plan
plan_of n Socket chosen = tables_plan n (socket_refusal n.sockets) (with_sockets_of (begun n) (with_socket n.sockets (next_port n.sockets))) (answer.Socket (next_port n.sockets))
plan_of n (Close port) chosen = names_plan n (port_refusal n.sockets port) (closed_work n port) (told_closing n.sockets port)
plan_of n (Publish port range scope key) chosen =
    names_plan n (publication_refusal n.sockets port range.kind key) (published_work n port range scope key) (telling false (own_publication n.own port range scope key))
plan_of n (Withdraw port key) chosen = names_plan n (withdrawal_refusal n.sockets port key) (withdrawn_work n port key) (told_withdrawal n.sockets port key)
plan_of n (SendName port kind instance importance body) chosen = name_plan n port kind instance importance body chosen
plan_of n (SendPort port to importance body) chosen = message_plan n (sender_refusal n port body) (direct n.own port to importance body) (limit_of importance) answer.Sent
plan_of n (Multicast port kind lower upper importance body) chosen =
    multicast_plan n (sender_refusal n port body) port (record { kind = kind; lower = lower; upper = upper }) importance body
plan_of n (Receive port) chosen = tables_plan n (port_refusal n.sockets port) (received_work n port) (first_answer (waiting_at n.sockets port))
plan_of n (Subscribe asked) chosen = tables_plan n (subscription_refusal n.sockets asked) (subscribed_work n asked) (answer.Subscribed (next_number n.sockets))
plan_of n (Cancel number) chosen = tables_plan n (number_refusal n.sockets number) (cancelled_work n number) answer.Done
plan_of n (NextEvent number) chosen = tables_plan n (number_refusal n.sockets number) (next_work n number) (next_answer (first_event n.sockets number))
plan_of n Tick chosen = tick_plan n
plan_of n (Cut bearer) chosen = upkeep_plan n (upkeep.Cut bearer)
plan_of n (Mend bearer) chosen = upkeep_plan n (upkeep.Mend bearer)
plan_of n other chosen = tables_plan n None (begun n) answer.Done

-- only a message by name has a choice; an arrival isn't performed
abbrev pub IsChosen : NodeState → EventNote → Option Publication → Type 0
IsChosen n (SendName port kind instance importance body) chosen = IsChoice (found_at n kind instance) chosen
IsChosen n (Arrive bearer number) chosen = ⊥
IsChosen n other chosen = chosen ≡ None

-- What a call makes of a node: its plan was carried out.
pub record Performs (n : NodeState) (by : By) (call : EventNote) (n' : NodeState) (frames : List Outgoing) (answered : Answer) : Type 0 where
  pub chosen : Option Publication
  pub choice : IsChosen n call chosen
  pub carried : CarriesOut n by call (plan_of n call chosen) n' frames answered

-- What a call needs of its arguments: what is mended or cut is one of the two bearers. An arrival isn't performed.
abbrev pub CanPerform : EventNote → Type 0
CanPerform (Cut bearer) = bearer ≤ 1
CanPerform (Mend bearer) = bearer ≤ 1
CanPerform (Arrive bearer number) = ⊥
CanPerform other = Unit {0}

-- a call that takes no memory where it was promised: it takes out what waits, or a subscription, or a publication of which no peer is told
abbrev pub TakesNoMemory : SocketTable → EventNote → Type 0
TakesNoMemory s (Receive port) = Unit {0}
TakesNoMemory s (Cancel number) = Unit {0}
TakesNoMemory s (NextEvent number) = Unit {0}
TakesNoMemory s (Withdraw port key) = told_withdrawal s port key ≡ []
TakesNoMemory s other = ⊥

-- the range of a publication has instances, as each service range
abbrev pub HasInstances : EventNote → Type 0
HasInstances (Publish port range scope key) = range.lower ≤ range.upper
HasInstances other = Unit {0}

-- A call in the form that all have: a step with this answer was recorded, and it tells of the node's turns. The journal tells of the
-- node before and after, the node shares its names with its peers, it has a link end to each peer that it found, just the peers in contact have
-- joined its broadcast link, and the send window of that link is one.
pub record CallTurn (n n' : NodeState) (by : By) (note : EventNote) (bytes : List ℕ) (kept : Answer) (frames : List Outgoing) : Type 0 where
  pub inside : List Entry
  pub turn : NodeTurn n n' bytes (step_of by note inside kept) frames
  pub told_before : IsTold n
  pub joined_before : HaveJoined n
  pub told : IsTold n'
  pub shared : SharesNames n'
  pub found : AreFound n'
  pub sending : IsSending n'.casting.sending

-- it was performed, and what left is in the box
pub record Performed (n : NodeState) (by : By) (call : EventNote) (n' : NodeState) (box box' : Out) (answered : Answer) : Type 0 where
  pub frames : List Outgoing
  pub performs : Performs n by call n' frames answered
  pub turn : CallTurn n n' by call [] (kept_answer answered) frames
  pub adds : Adds box box' frames
