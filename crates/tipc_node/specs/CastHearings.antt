-- What a broadcast packet that arrives makes of a node's parts, one after the other, and the frames that leave with it.
use Rattle.std.specs.Prelude.{◌≡◌, ◌≤◌, ◌<◌, ◌-◌, ◌^◌, ℕ, Bool, true, false, List, [], ◌∷◌, Option, None, Some, is_some, length, slice_set}
use Rattle.tipc_types.specs.Address.{node_word}
use Rattle.tipc_types.specs.declared.message_forms.Flow.TheVariants.{Broadcast}
use Rattle.tipc_types.specs.declared.message_forms.Message.{Message}
use Rattle.tipc_types.specs.declared.node_calls.Arrival.{Arrival}
use Rattle.tipc_types.specs.declared.node_calls.By.{By}
use Rattle.tipc_outside.specs.declared.outgoing.Outgoing.{Outgoing}
use Rattle.tipc_outside.specs.Frames.{Adds, Out}
use Rattle.tipc_header.specs.Grammar.{Fits}
use Rattle.tipc_header.specs.Spelling.{view}
use Rattle.tipc_broadcast.specs.Casting.{CastComing, Casting, arriving, coming_at}
use Rattle.tipc_fragments.specs.Joining.{Joining}
use Rattle.tipc_journal.specs.declared.entries.Entry.{Entry}
use Rattle.tipc_journal.specs.declared.entries.Entry.TheVariants.{Queued}
use Rattle.tipc_journal.specs.Room.{free_entries}
use Rattle.tipc_pair.specs.declared.changes.PairOutcome.{PairOutcome}
use Rattle.tipc_pair.specs.Courses.{Course}
use Rattle.tipc_pair.specs.Messages.{OpensTo}
use Rattle.tipc_recv_window.specs.declared.outcomes.LinkOutcome.{LinkOutcome}
use Rattle.tipc_recv_window.specs.declared.outcomes.LinkOutcome.TheVariants as outcome
use Rattle.tipc_sockets.specs.declared.fates.Fate.{Fate}
use Rattle.tipc_sockets.specs.Fates.{Spread, after_fate, hearers_of, spread_of}
use Rattle.tipc_sockets.specs.SocketTables.{SocketTable}
use Rattle.tipc_node.specs.declared.casts.CastCount.{CastCount}
use Rattle.tipc_node.specs.declared.casts.CastHearing.{CastHearing}
use Rattle.tipc_node.specs.declared.frames.Delivery.{Delivery}
use Rattle.tipc_node.specs.declared.frames.Due.{Due}
use Rattle.tipc_node.specs.declared.neighbours.Neighbour.{Neighbour}
use Rattle.tipc_node.specs.CastArrivals.{BringsCast, HearsCast, cast_answered, cast_answering, members_in}
use Rattle.tipc_node.specs.Multicasts.{is_multicast}
use Rattle.tipc_node.specs.Neighbours.{with_casts}
use Rattle.tipc_node.specs.Nodes.{NodeState, arrival_answer, arrival_deliveries}
use Rattle.tipc_node.specs.Works.{Work}

-- ---- before anything is changed

-- a broadcast packet is due at the neighbour at a place
abbrev pub IsCastDue : Option Neighbour → Due → Type 0
IsCastDue place d = (1 ≤ d.peer) × (d.peer ≤ 32) × (d.bearer ≤ 1) × Fits (view d.packet) × (d.packet.previous ≡ node_word d.peer) × (d.first < 2 ^ 32) × (is_some place ≡ true)

-- what it will make of a broadcast link, by the arrival of that number
abbrev pub coming_for : Casting → Due → ℕ → CastComing
coming_for v d by = coming_at v d.first (members_in d.second) (view d.packet) by

-- so it was told
abbrev pub IsComing : Casting → Due → CastComing → Type 0
IsComing v d a = (by : ℕ) × (a ≡ coming_for v d by)

-- What it will make of a broadcast link and of what is begun of the neighbour's broadcast, what that delivers, and the answer.
pub record IsCastPrepared (v : Casting) (x : Neighbour) (d : Due) (h : CastHearing) : Type 0 where
  pub arriving : h.arriving ≡ coming_for v d h.number
  pub given : PairOutcome
  pub opens : OpensTo x.casts h.arriving.outcome given h.casts
  pub deliveries : h.deliveries.items ≡ arrival_deliveries Broadcast d.peer x.pair given
  pub answer : h.answer ≡ arrival_answer given h.deliveries.items
  pub few : length h.deliveries.items ≤ free_entries - 4

-- so it is prepared for the neighbour at a place
abbrev pub IsPreparedAt : Casting → Option Neighbour → Due → CastHearing → Type 0
IsPreparedAt v place d h = (x : Neighbour) × (place ≡ Some x) × IsCastPrepared v x d h

-- ---- the STATE that is due

-- what a STATE may be due for by what became of an arrival
abbrev pub cast_count : LinkOutcome → CastCount
cast_count (outcome.Took taken) = record { is_heard = true; taken = length taken; is_deferred = false }
cast_count outcome.Deferred = record { is_heard = true; taken = 0; is_deferred = true }
cast_count (outcome.Ignored reason) = record { is_heard = false; taken = 0; is_deferred = false }

-- ---- one multicast at most

-- whether that is all that is delivered
abbrev pub is_alone : List Delivery → Bool
is_alone [] = true
is_alone (d ∷ []) = is_multicast d.message
is_alone (d ∷ e ∷ ds) = false

-- what is told of the message of such a delivery
abbrev pub spread_entries : SocketTable → Option Message → List Entry
spread_entries s None = []
spread_entries s (Some m) = Queued (hearers_of s true m) ∷ []

-- what is told of such a delivery
abbrev pub alone_entries : SocketTable → List Delivery → List Entry
alone_entries s [] = []
alone_entries s (d ∷ ds) = d.entry ∷ spread_entries s d.message

-- what the message of such a delivery makes of the sockets
abbrev pub spread_by : SocketTable → Option Message → Option Spread
spread_by s None = None
spread_by s (Some m) = Some (spread_of s true m)

-- what such a delivery makes of the sockets
abbrev pub spread_in : SocketTable → List Delivery → Option Spread
spread_in s [] = None
spread_in s (d ∷ ds) = spread_by s d.message

-- the sockets where such a message has its fate
abbrev pub spread_after : SocketTable → Option Message → SocketTable
spread_after s None = s
spread_after s (Some m) = after_fate s m (Fate.Queued (hearers_of s true m))

-- so they are after such a delivery
abbrev pub alone_after : SocketTable → List Delivery → SocketTable
alone_after s [] = s
alone_after s (d ∷ ds) = spread_after s d.message

-- ---- the node

-- the work where this is begun of the broadcast of a peer
abbrev pub with_joining : Work → ℕ → Neighbour → Joining → Work
with_joining w peer x joining = record w { neighbours = slice_set w.neighbours peer (Some (with_casts x joining)) }

-- the broadcast link after the packet
abbrev pub cast_link : Casting → Due → ℕ → Casting
cast_link v d by = arriving v d.first (members_in d.second) (view d.packet) by

-- what becomes of the pair to the peer when the STATE that is due leaves
abbrev pub cast_course : Casting → Due → ℕ → Neighbour → Course
cast_course v d by y = cast_answering (coming_for v d by).outcome d.bearer (node_word d.peer) (cast_link v d by) y

-- the work when it has left, where y is kept of the peer before
abbrev pub answered_for : Casting → Due → ℕ → Work → Neighbour → Work
answered_for v d by w y = cast_answered (coming_for v d by).outcome d.bearer d.peer (cast_link v d by) w y

-- the frames that leave
abbrev pub cast_frames : Casting → Due → ℕ → Neighbour → List Outgoing
cast_frames v d by y = (cast_course v d by y).states

-- the packet of an arrival was heard, and what left is in the box
abbrev pub CastsDue : NodeState → NodeState → By → ℕ → Due → Out → Out → Arrival → Type 0
CastsDue n n' by number d box box' answered =
    (bytes : List ℕ) → BringsCast n bytes d.bearer d.peer d.first d.second (view d.packet)
    → (frames : List Outgoing) × HearsCast n n' by d.bearer number bytes frames answered × Adds box box' frames
