-- What an event needs, what it counts for, and when it can't be recorded.
use Rattle.std.specs.Prelude.{◌≡◌, ◌≤◌, ◌<◌, ℕ, Bool, true, false, ◌&&◌, List, Option, Some, None, is_none, is_some, not, option_map, slice_index_or, unwrap_or}
use Rattle.tipc_types.specs.declared.node_calls.EventNote.{EventNote}
use Rattle.tipc_types.specs.declared.node_calls.EventNote.TheVariants as note
use Rattle.tipc_journal.specs.Room.{has_journal_room}
use Rattle.tipc_node.specs.Calls.{CanPerform}
use Rattle.tipc_node.specs.Nodes.{NodeState}
use Rattle.tipc_node.specs.declared.steps.NodeFault.{NodeFault}
use Rattle.tipc_node.specs.declared.steps.NodeFault.TheVariants.{JournalFull, NoMemory}
use Rattle.tipc_replay.specs.declared.events.WorldEvent.{WorldEvent}
use Rattle.tipc_replay.specs.declared.events.WorldEvent.TheVariants.{Restart, Call, Arrive}
use Rattle.tipc_replay.specs.Due.{unarrived}
use Rattle.tipc_replay.specs.Skies.{AirState}
use Rattle.tipc_replay.specs.States.{MemberState}

-- the node at which an event happens
abbrev pub node_of : WorldEvent → ℕ
node_of (Restart node) = node
node_of (Call node call) = node
node_of (Arrive node bearer frame) = node

-- the node is there; a call is one that nodes perform, and what arrives comes on one of the two bearers
abbrev pub CanHappenAt : List (Option MemberState) → WorldEvent → Type 0
CanHappenAt members (Restart node) = is_some (slice_index_or members node None) ≡ true
CanHappenAt members (Call node call) =
    (is_some (slice_index_or members node None) ≡ true) × CanPerform call
CanHappenAt members (Arrive node bearer frame) = (is_some (slice_index_or members node None) ≡ true) × (bearer ≤ 1)

-- where an event is a restart, the boot of its node has a next one
abbrev pub HasNextBoot : List (Option MemberState) → WorldEvent → Type 0
HasNextBoot members (Restart node) = (m : MemberState) → slice_index_or members node None ≡ Some m → m.node.boot < 4294967295
HasNextBoot members other = Unit {0}

-- what an event needs of its node alone; an arrival is none of these
abbrev pub CanDo : NodeState → WorldEvent → Type 0
CanDo n (Restart node) = n.boot < 4294967295
CanDo n (Call node call) = CanPerform call
CanDo n (Arrive node bearer frame) = ⊥

-- an event has what it needs of its node, where that is there
abbrev pub CanDoAt : List (Option MemberState) → WorldEvent → Type 0
CanDoAt members event =
    (m : MemberState) → slice_index_or members (node_of event) None ≡ Some m → CanDo m.node event

-- whether a journal records the event as a call: a restart alone isn't one
abbrev pub is_recorded : WorldEvent → Bool
is_recorded (Restart node) = false
is_recorded event = true

-- whether a call is one of a user: it is no tick, cuts or mends no bearer, and nothing arrives in it
abbrev pub is_of_user : EventNote → Bool
is_of_user note.Tick = false
is_of_user (note.Cut bearer) = false
is_of_user (note.Mend bearer) = false
is_of_user (note.Arrive bearer number) = false
is_of_user other = true

-- whether a contact of the node may end in an event: in no call of a user
abbrev pub may_end_contact : WorldEvent → Bool
may_end_contact (Call node call) = not (is_of_user call)
may_end_contact other = true

-- whether it counts as an event: an arrival of no frame, or of one that is too old, is none
abbrev pub counts_at : List (Option MemberState) → AirState → WorldEvent → Bool
counts_at members air (Arrive node bearer frame) = is_none (unarrived members air node bearer frame)
counts_at members air event = true

-- whether it is a call that is recorded
abbrev pub is_call_at : List (Option MemberState) → AirState → WorldEvent → Bool
is_call_at members air event = is_recorded event && counts_at members air event

-- whether the journal of a node has room for a call
abbrev pub has_room_at : List (Option MemberState) → ℕ → Bool
has_room_at members n = unwrap_or (option_map (λ m. has_journal_room m.node.journal) (slice_index_or members n None)) true

-- a recorded call wasn't made: the journal has no room for it, or has room and memory ran out
abbrev pub RecordStops : Bool → NodeFault → Type 0
RecordStops room JournalFull = room ≡ false
RecordStops room NoMemory = room ≡ true

-- an event didn't happen, which is one that is recorded or not: likewise
abbrev pub CallStops : Bool → Bool → NodeFault → Type 0
CallStops recorded room JournalFull = (recorded ≡ true) × (room ≡ false)
CallStops recorded room NoMemory = recorded ≡ true → room ≡ true
