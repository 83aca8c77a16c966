-- A node, and what each call makes of it.
use Rattle.std.specs.Prelude.{ℕ, ◌+◌, ◌-◌, ◌==◌, Bool, true, false, List, [], ◌∷◌, ◌++◌, Option, Some, None, drop, length, map, max, nat_le, nat_lt, not, is_some, option_and_then, slice_index_or, sum_by, ◌&&◌, if◌then◌else◌}
use Rattle.std.specs.List.{flat_map}
use Rattle.tipc_types.specs.Address.{node_word}
use Rattle.tipc_types.specs.declared.link_words.Why.{Why}
use Rattle.tipc_types.specs.declared.link_words.Why.TheVariants as why
use Rattle.tipc_types.specs.declared.message_forms.Flow.{Flow}
use Rattle.tipc_types.specs.declared.message_forms.Message.{Message}
use Rattle.tipc_types.specs.declared.node_calls.Answer.{Answer}
use Rattle.tipc_types.specs.declared.node_calls.Answer.TheVariants as answer
use Rattle.tipc_types.specs.declared.node_calls.Arrival.{Arrival}
use Rattle.tipc_types.specs.declared.node_calls.Arrival.TheVariants as arrival
use Rattle.tipc_types.specs.declared.node_calls.By.{By}
use Rattle.tipc_types.specs.declared.node_calls.EventNote.{EventNote}
use Rattle.tipc_types.specs.declared.node_calls.EventNote.TheVariants as event
use Rattle.tipc_outside.specs.Frames.{Made}
use Rattle.tipc_outside.specs.declared.outgoing.Outgoing.{Outgoing}
use Rattle.tipc_journal.specs.declared.entries.Entry.{Entry}
use Rattle.tipc_journal.specs.declared.entries.Entry.TheVariants as entry
use Rattle.tipc_journal.specs.Steps.{NodeStep, step_entries}
use Rattle.tipc_header.specs.declared.fault.HeaderFault.{HeaderFault}
use Rattle.tipc_header.specs.declared.packet.Header.{Header}
use Rattle.tipc_header.specs.declared.frames.FrameKind.{FrameKind}
use Rattle.tipc_header.specs.declared.frames.FrameKind.TheVariants.{Casts, Finds, Links}
use Rattle.tipc_header.specs.Faults.{fault_of, number_of}
use Rattle.tipc_header.specs.Frames.{kind_in}
use Rattle.tipc_header.specs.Reading.{fields_at, word_at}
use Rattle.tipc_discovery.specs.Hearing.{Neighbourhood, is_of_network}
use Rattle.tipc_link.specs.Links.{LinkEnd}
use Rattle.tipc_pair.specs.declared.transitions.Transition.{Transition}
use Rattle.tipc_pair.specs.declared.transitions.Transition.TheVariants.{ContactDown, ContactUp, LinkDown, LinkUp}
use Rattle.tipc_pair.specs.declared.changes.PairOutcome.{PairOutcome}
use Rattle.tipc_pair.specs.Facing.{PairEnds, contact_between, facing, in_contact}
use Rattle.tipc_pair.specs.PairCalls.{load_of as link_load}
use Rattle.tipc_pair.specs.Messages.{opened_in}
use Rattle.tipc_reassembly.specs.declared.opening.Opened.{Opened}
use Rattle.tipc_sockets.specs.SocketTables.{SocketTable}
use Rattle.tipc_reassembly.specs.declared.opening.Opened.TheVariants.{Whole, Passed}
use Rattle.tipc_node.specs.declared.frames.Delivery.{Delivery}
use Rattle.tipc_node.specs.declared.neighbours.Neighbour.{Neighbour}
use Rattle.tipc_node.specs.declared.neighbours.Upkeep.{Upkeep}
use Rattle.tipc_node.specs.declared.neighbours.Upkeep.TheVariants as upkeep
use Rattle.tipc_types.specs.Limits.{most_frame_bytes}
use Rattle.tipc_node.specs.Messages.{message_in_flow}
use Rattle.tipc_broadcast.specs.Casting.{Casting, shown}
use Rattle.tipc_broadcast.specs.Deeds.{CastDeed, after_deeds}
use Rattle.tipc_node.specs.Casting.{bearer_deeds, contact_deeds}
use Rattle.tipc_node.specs.Neighbours.{Done, done, stranger}
use Rattle.tipc_pair.specs.LinkReadings.{active_load}

-- a node: its address word, its boot number, whether bearer 0 is mended and whether bearer 1 is, who was heard on which of them, the ticks
-- of this boot modulo 8, its neighbours by number, its sockets, its journal, its broadcast link, and how many calls were promised their memory
pub record NodeState : Type 0 where
  pub own : ℕ
  pub boot : ℕ
  pub mended : Bool × Bool
  pub found : Neighbourhood
  pub ticks : ℕ
  pub neighbours : List (Option Neighbour)
  pub sockets : SocketTable
  pub journal : List Entry
  pub casting : Casting
  pub promised : ℕ

-- what node n keeps of a peer
abbrev pub neighbour_of : NodeState → ℕ → Option Neighbour
neighbour_of n peer = slice_index_or n.neighbours peer None

-- the contact in which node n is with a peer: n's own contact number, then the peer's
abbrev pub contact_with : NodeState → ℕ → Option (ℕ × ℕ)
contact_with n peer = option_and_then (λ x. contact_between x.pair) (neighbour_of n peer)

-- the link end that is kept of a peer on a bearer
abbrev pub end_with : ℕ → Option Neighbour → Option LinkEnd
end_with bearer None = None
end_with bearer (Some x) = (facing bearer x.pair).near

-- the node with these neighbours in place of its own
abbrev pub with_neighbours : NodeState → List (Option Neighbour) → NodeState
with_neighbours n xs = record n { neighbours = xs }

-- ---- the journal

-- a call is recorded: who made it, the call itself, what happened in it, and its answer
abbrev pub step_of : By → EventNote → List Entry → Answer → NodeStep
step_of by event inside answered = record { by = by; event = event; inside = inside; caller = by.caller; call = by.call; answer = answered }

-- the node that promises at least so many calls their memory
abbrev pub promising : NodeState → ℕ → NodeState
promising n calls = record n { promised = max n.promised calls }

-- a call that changes nothing else; one of the promised calls is used up, as by each that is recorded
abbrev pub recorded : NodeState → By → EventNote → List Entry → Answer → NodeState
recorded n by event inside answered =
    record n { journal = n.journal ++ step_entries (step_of by event inside answered); promised = n.promised - 1 }

-- what is recorded of a change of the links to a peer, or of the contact with it
abbrev pub change_entry : ℕ → Transition → Entry
change_entry peer (LinkUp bearer own_epoch peer_epoch) = entry.LinkUp (record { word = node_word peer }) bearer own_epoch peer_epoch
change_entry peer (LinkDown bearer cause shown_epoch) = entry.LinkDown (record { word = node_word peer }) bearer cause shown_epoch
change_entry peer (ContactUp contact) = entry.ContactUp (record { word = node_word peer }) contact
change_entry peer (ContactDown contact states shown) = entry.ContactDown (record { word = node_word peer }) contact states shown

-- what is recorded of several changes, in order
abbrev pub change_entries : ℕ → List Transition → List Entry
change_entries peer changes = map (change_entry peer) changes

-- whether an entry tells of a link, or of a contact
abbrev pub is_change : Entry → Bool
is_change (entry.LinkUp peer bearer own theirs) = true
is_change (entry.LinkDown peer bearer cause shown) = true
is_change (entry.ContactUp peer numbers) = true
is_change (entry.ContactDown peer numbers states shown) = true
is_change other = false

-- ---- what happens to all neighbours alike, in order of their numbers

-- what becomes of the neighbour of that number, where there is one: a STATE shows what the broadcast link has for it then
abbrev pub part_at : Upkeep → ℕ → Casting → Option Neighbour → Option Done
part_at d number v None = None
part_at d number v (Some x) = Some (done d (shown v (node_word number)) x)

-- what is told of the neighbour at a place
abbrev pub changes_at : Option Done → List Transition
changes_at None = []
changes_at (Some x) = x.changes

-- what becomes of all neighbours, of which the first has that number: of each with all its consequences before the next one, since a peer with
-- which the contact ends leaves the broadcast link
unfoldable pub part_all : Upkeep → ℕ → Casting → List (Option Neighbour) → List (Option Done)
part_all d number v [] = []
part_all d number v (x ∷ xs) =
    part_at d number v x ∷ part_all d (number + 1) (after_deeds (contact_deeds number (changes_at (part_at d number v x))) v) xs

-- the neighbour at a place after that, where there is one
abbrev pub after_one : Option Done → Option Neighbour
after_one None = None
after_one (Some x) = Some x.after

-- the frames of link states and of repeated packets that leave for the neighbour at a place
abbrev pub states_one : Option Done → List Outgoing
states_one None = []
states_one (Some x) = x.states

-- the frames of packets that are numbered then for the neighbour at a place
abbrev pub numbered_one : Option Done → List Outgoing
numbered_one None = []
numbered_one (Some x) = x.numbered

-- what is recorded of the links to the neighbour of that number, and of the contact with it
abbrev pub entries_one : ℕ → Option Done → List Entry
entries_one number x = change_entries number (changes_at x)

-- what the neighbour of that number makes of the broadcast link
abbrev pub deeds_one : ℕ → Option Done → List CastDeed
deeds_one number x = contact_deeds number (changes_at x)

-- all neighbours after that
unfoldable pub after_all : List (Option Done) → List (Option Neighbour)
after_all xs = map after_one xs

-- the frames of link states and of repeated packets for all neighbours
unfoldable pub states_all : List (Option Done) → List Outgoing
states_all xs = flat_map states_one xs

-- the frames of packets that are numbered then, for all neighbours
unfoldable pub numbered_all : List (Option Done) → List Outgoing
numbered_all xs = flat_map numbered_one xs

-- the frames for one neighbour, and for all, in the groups in which they leave: by peer in each
abbrev pub made_one : Option Done → Made
made_one x = record { first = states_one x; behind = numbered_one x }

abbrev pub made_all : List (Option Done) → Made
made_all xs = record { first = states_all xs; behind = numbered_all xs }

-- what is recorded of the links to all neighbours, of which the first has that number
unfoldable pub entries_all : ℕ → List (Option Done) → List Entry
entries_all number [] = []
entries_all number (x ∷ xs) = entries_one number x ++ entries_all (number + 1) xs

-- what all neighbours make of the broadcast link
unfoldable pub deeds_all : ℕ → List (Option Done) → List CastDeed
deeds_all number [] = []
deeds_all number (x ∷ xs) = deeds_one number x ++ deeds_all (number + 1) xs

-- what becomes of all neighbours of a node where a bearer is mended or cut, or a tick passes: the broadcast link is told of the bearer first
unfoldable pub parts_of : Upkeep → NodeState → List (Option Done)
parts_of d n = part_all d 0 (after_deeds (bearer_deeds d) n.casting) n.neighbours

-- what that makes of the broadcast link
abbrev pub upkeep_deeds : Upkeep → NodeState → List CastDeed
upkeep_deeds d n = bearer_deeds d ++ deeds_all 0 (parts_of d n)

-- the same of the peer at a place, where there is one
abbrev pub load_with : Option Neighbour → Option (ℕ × ℕ)
load_with None = None
load_with (Some x) = active_load x.pair

-- whether there is contact with a peer
abbrev pub is_met : Option Neighbour → Bool
is_met None = false
is_met (Some x) = in_contact x.pair

-- how many are unacknowledged by such a pair of numbers: none without contact
abbrev pub unacked_in : Option (ℕ × ℕ) → ℕ
unacked_in None = 0
unacked_in (Some load) = load.0

-- how many wait by such a pair of numbers: none without contact
abbrev pub waiting_in : Option (ℕ × ℕ) → ℕ
waiting_in None = 0
waiting_in (Some load) = load.1

-- how many are unacknowledged and how many wait on the link of a bearer, where it is up
abbrev pub load_on : ℕ → Option Neighbour → ℕ × ℕ
load_on bearer x = link_load (end_with bearer x)

-- the sums of both over the two links to each neighbour
unfoldable pub load_all : List (Option Neighbour) → ℕ × ℕ
load_all xs = (sum_by (λ x. (load_on 0 x).0 + (load_on 1 x).0) xs, sum_by (λ x. (load_on 0 x).1 + (load_on 1 x).1) xs)

-- how many packets are unacknowledged and how many wait on all links of a node together that are up, and on its broadcast link
abbrev pub node_load : NodeState → ℕ × ℕ
node_load n = ((load_all n.neighbours).0 + length n.casting.sending.unacked, (load_all n.neighbours).1 + length n.casting.sending.waiting)

-- the entry of a message that is accepted in a flow for a peer, to which this is the pair
abbrev pub accepted_entry : Flow → ℕ → PairEnds → Message → Entry
accepted_entry flow peer x m = entry.Accepted (record { word = node_word peer }) (x.contact, x.seen) flow m

-- ---- all neighbours at once

-- what the journal keeps of a call that mends or cuts a bearer, or of a tick
abbrev pub upkeep_note : Upkeep → EventNote
upkeep_note (upkeep.Mend bearer) = event.Mend bearer
upkeep_note (upkeep.Cut bearer) = event.Cut bearer
upkeep_note upkeep.Tick = event.Tick

-- whether a bearer is mended; there are two: 0 and 1
abbrev pub is_mended_on : Bool × Bool → ℕ → Bool
is_mended_on mended bearer = if bearer == 0 then mended.0 else ((bearer == 1) && mended.1)

-- the bearers where this one is mended now, or cut
abbrev pub with_mended_on : Bool × Bool → ℕ → Bool → Bool × Bool
with_mended_on mended bearer now = if bearer == 0 then (now, mended.1) else (mended.0, now)

-- the bearers after a call that mends or cuts one; a tick changes none
abbrev pub mended_by : Upkeep → Bool × Bool → Bool × Bool
mended_by (upkeep.Mend bearer) mended = with_mended_on mended bearer true
mended_by (upkeep.Cut bearer) mended = with_mended_on mended bearer false
mended_by upkeep.Tick mended = mended

-- ---- strangers

-- what is kept of a peer, which may be a stranger still
abbrev pub acquaintance : NodeState → ℕ → Option Neighbour → Neighbour
acquaintance n peer None = stranger n.own peer n.boot
acquaintance n peer (Some x) = x

-- what is kept of the node of a number
abbrev pub kept : NodeState → ℕ → Neighbour
kept n b = acquaintance n b (neighbour_of n b)

-- the pair to the node of a number: a stranger's where no link end to it is made
abbrev pub pair_with : NodeState → ℕ → PairEnds
pair_with n b = (kept n b).pair

-- ---- arrivals

-- what a whole packet that was given in a flow of a contact adds to the journal: its message with the arrivals that brought it, or that it
-- carries none
abbrev pub delivered_by : Flow → ℕ → ℕ × ℕ → Option Message → List ℕ → Entry
delivered_by flow peer contact (Some m) number = entry.Delivered (record { word = node_word peer }) contact flow m number
delivered_by flow peer contact None number = entry.Dropped 0

-- what a member of what was given comes to: its entry, and its message where it has one
abbrev pub delivery_of : Flow → ℕ → ℕ × ℕ → Opened → Delivery
delivery_of flow peer contact (Whole packet number) = record { entry = delivered_by flow peer contact (message_in_flow flow packet) number; message = message_in_flow flow packet }
delivery_of flow peer contact (Passed place) = record { entry = entry.Dropped place; message = None }

-- what all that was given in a flow of a contact comes to, in order
abbrev pub deliveries_of : Flow → ℕ → ℕ × ℕ → List Opened → List Delivery
deliveries_of flow peer contact opened = map (delivery_of flow peer contact) opened

-- the entries of deliveries, in order
abbrev pub entries_in : List Delivery → List Entry
entries_in deliveries = map (λ (d : Delivery). d.entry) deliveries

-- how many messages a delivery has, one or none
abbrev pub taken_count : Option Message → ℕ
taken_count (Some m) = 1
taken_count None = 0

-- how many messages there are
abbrev pub message_count : List Delivery → ℕ
message_count deliveries = sum_by (λ (d : Delivery). taken_count d.message) deliveries

-- what an arrival is answered: how many messages it gave, that its packet waits for those before it, or why it was
-- ignored
abbrev pub arrival_answer : PairOutcome → List Delivery → Arrival
arrival_answer (PairOutcome.Took opened) deliveries = arrival.Took (message_count deliveries)
arrival_answer PairOutcome.Deferred deliveries = arrival.Deferred
arrival_answer (PairOutcome.Ignored reason) deliveries = arrival.Ignored reason

-- the contact that a pair shows
abbrev pub shown_contact : PairEnds → ℕ × ℕ
shown_contact x = (x.contact, x.seen)

-- what an arrival from a peer delivers in a flow, which found the pair like this: something is given only in a contact that lasts, or begins under
-- these numbers
abbrev pub arrival_deliveries : Flow → ℕ → PairEnds → PairOutcome → List Delivery
arrival_deliveries flow peer x out = deliveries_of flow peer (shown_contact x) (opened_in out)

-- ---- an arrival that is stopped

-- whether a frame can have so many bytes: at least the 16 of its envelope
abbrev pub is_frame_size : ℕ → Bool
is_frame_size bytes = nat_le 16 bytes && nat_le bytes most_frame_bytes

-- whether an address word is of another of the 32 nodes
unfoldable pub is_other : ℕ → ℕ → Bool
is_other own word = nat_lt (node_word 0) word && (nat_le word (node_word 32) && not (word == own))

-- What stops a packet of another node, by its kind: a discovery packet has to be of the network, whether its sender is known or not; for a
-- link packet there has to be a link end to the sender on the bearer, and for a broadcast packet on some bearer.
abbrev pub stop_by_kind : FrameKind → Header → ℕ → Option Neighbour → Option Why
stop_by_kind Finds header bearer place = if is_of_network header then None else Some why.Network
stop_by_kind Links header bearer place = if is_some (end_with bearer place) then None else Some why.Unknown
stop_by_kind Casts header bearer place = if is_some place then None else Some why.Unknown

-- the sender that a frame names has to be another of the 32 nodes; then it goes by the kind of the packet
abbrev pub stop_by_sender : ℕ → List (Option Neighbour) → ℕ → ℕ → FrameKind → Header → Option Why
stop_by_sender own neighbours bearer word kind header =
    if is_other own word then stop_by_kind kind header bearer (slice_index_or neighbours (word - node_word 0) None) else Some why.Own

-- a packet that breaks a rule of the header is stopped, and the rule is told by its number; one that breaks none may still be stopped by
-- its sender and its kind
abbrev pub stop_by_fault : ℕ → List (Option Neighbour) → ℕ → List ℕ → Option HeaderFault → Option Why
stop_by_fault own neighbours bearer bytes (Some fault) = Some (why.Header (number_of fault))
stop_by_fault own neighbours bearer bytes None =
    stop_by_sender own neighbours bearer (word_at 3 (drop 16 bytes)) (kind_in bytes) (fields_at (drop 16 bytes)).header

-- Why a frame that arrives on a bearer is stopped, the first reason that holds: the bearer is cut; it has no frame's size; its packet has a
-- fault; it names no other node as its sender; it is a discovery packet of another network; there is no link end to its sender on the
-- bearer, or for a broadcast packet on neither one.
unfoldable pub stop_among : ℕ → Bool × Bool → List (Option Neighbour) → ℕ → List ℕ → Option Why
stop_among own mended neighbours bearer bytes =
    if is_mended_on mended bearer
    then (if is_frame_size (length bytes) then stop_by_fault own neighbours bearer bytes (fault_of (drop 16 bytes)) else Some why.Envelope)
    else Some why.Cut

-- why a frame that arrives at a node on a bearer is stopped
abbrev pub stop_of : NodeState → ℕ → List ℕ → Option Why
stop_of n bearer bytes = stop_among n.own n.mended n.neighbours bearer bytes

-- the node then: the arrival is recorded as ignored, and nothing else changes
abbrev pub stopped_node : NodeState → By → ℕ → ℕ → Why → NodeState
stopped_node n by bearer number reason = recorded n by (event.Arrive bearer number) [] (answer.Arrived (arrival.Ignored reason))
