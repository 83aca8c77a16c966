-- What nodes and the air between them are, as contracts see them, and what may be looked up in them.
use Rattle.std.specs.Prelude.{ℕ, ◌==◌, Bool, false, ◌&&◌, List, [], ◌∷◌, ◌++◌, Option, None, Some, option_map, option_and_then, slice_get, slice_index_or, is_some, length, min, nat_eq, unwrap_or, if◌then◌else◌}
use Rattle.std.specs.List.{flat_map}
use Rattle.std.specs.Map.{lookup}
use Rattle.tipc_types.specs.Address.{node_word}
use Rattle.tipc_types.specs.declared.message_forms.Flow.{Flow}
use Rattle.tipc_types.specs.declared.message_forms.Flow.TheVariants.{Zero}
use Rattle.tipc_types.specs.declared.message_forms.Message.{Message}
use Rattle.tipc_journal.specs.declared.entries.Entry.{Entry}
use Rattle.tipc_journal.specs.Room.{JournalState}
use Rattle.tipc_journal.specs.Streams.{Stream, accepted, delivered}
use Rattle.tipc_link.specs.Links.{LinkEnd, numbered_in}
use Rattle.tipc_pair.specs.Facing.{PairEnds, contact_between, is_up_at as is_up_in}
use Rattle.tipc_node.specs.Nodes.{NodeState, is_mended_on}
use Rattle.tipc_node.specs.Turns.{pair_in}
use Rattle.tipc_replay.specs.declared.air.Arrived.{Arrived}
use Rattle.tipc_replay.specs.declared.readers.FlowCounts.{FlowCounts}
use Rattle.tipc_replay.specs.Numbers.{end_on, own_in, seen_in}
use Rattle.tipc_replay.specs.Skies.{AirState, empty_air}

-- A node over all its boots: the present one, the journals of those before it, how many calls the present boot has
-- recorded, every frame that ever arrived, how many packets were numbered in sessions that are over, by peer, bearer and
-- own epoch, and how many numbers its broadcast link used in each boot that is over.
pub record MemberState : Type 0 where
  pub node : NodeState
  pub past : List (List Entry)
  pub calls : ℕ
  pub arrivals : List Arrived
  pub counts : List ((ℕ × ℕ × ℕ) × ℕ)
  pub casts : List (ℕ × ℕ)

-- nodes and the air between them: the nodes by number, every frame that was ever sent, and whether a frame was lost for want of memory
pub record ReplayState : Type 0 where
  pub members : List (Option MemberState)
  pub air : AirState
  pub lost : Bool

-- no nodes, among which nothing has happened
abbrev pub empty_replay : ReplayState
empty_replay = record { members = []; air = empty_air; lost = false }

-- whether node n is there
abbrev pub has_member : List (Option MemberState) → ℕ → Bool
has_member members n = is_some (slice_index_or members n None)

-- ---- of one node

-- the journal of its present boot
abbrev pub present_journal : MemberState → List Entry
present_journal m = m.node.journal

-- its journals, one for each boot, in order
abbrev pub journals_of : MemberState → List (List Entry)
journals_of m = m.past ++ present_journal m ∷ []

-- everything that happened at the node, in all its boots
unfoldable pub history : MemberState → List Entry
history m = flat_map (λ entries. entries) m.past ++ present_journal m

-- the entries of journals, one behind the other
abbrev pub joined : List JournalState → List Entry
joined journals = flat_map (λ j. j.entries) journals

-- one flow of one contact with node n
abbrev pub stream_of : ℕ → ℕ → ℕ → Flow → Stream
stream_of n own theirs flow = record { peer = record { word = node_word n }; contact = (own, theirs); flow = flow }

-- the link end to a peer on a bearer
abbrev pub link_in : NodeState → ℕ → ℕ → Option LinkEnd
link_in n peer bearer = end_on bearer (pair_in n peer)

-- a session is named by the number of the peer, the bearer, and the node's own epoch
abbrev pub same_session : ℕ × ℕ × ℕ → ℕ × ℕ × ℕ → Bool
same_session s t = (s.0 == t.0) && ((s.1 == t.1) && (s.2 == t.2))

-- how many packets are noted for a peer on a bearer under an epoch
unfoldable pub count_in : List ((ℕ × ℕ × ℕ) × ℕ) → ℕ → ℕ → ℕ → ℕ
count_in counts peer bearer epoch = unwrap_or (lookup (same_session (peer, bearer, epoch)) counts) 0

-- how many packets were numbered for a peer on a bearer under an epoch: in the session of the link end to it there, where that is
-- its epoch, or as it is noted
abbrev pub count_with : List ((ℕ × ℕ × ℕ) × ℕ) → Option LinkEnd → ℕ → ℕ → ℕ → ℕ
count_with counts link peer bearer epoch =
    unwrap_or (option_and_then (λ e. numbered_in e.session epoch) link) (count_in counts peer bearer epoch)

-- how many packets a node has numbered for a peer on a bearer under an epoch
unfoldable pub count_of : MemberState → ℕ → ℕ → ℕ → ℕ
count_of m peer bearer epoch = count_with m.counts (link_in m.node peer bearer) peer bearer epoch

-- how many numbers are noted that the broadcast link used in a boot
unfoldable pub casts_noted : List (ℕ × ℕ) → ℕ → ℕ
casts_noted casts boot = unwrap_or (lookup (nat_eq boot) casts) 0

-- how many numbers the broadcast link of a node used in a boot: in the present one, or as it is noted
unfoldable pub cast_count_of : MemberState → ℕ → ℕ
cast_count_of m boot = if boot == m.node.boot then m.node.casting.sending.numbered else casts_noted m.casts boot

-- ---- of all nodes

-- what is kept of node n, where it is there
unfoldable pub member_at : List (Option MemberState) → ℕ → Option MemberState
member_at members n = slice_index_or members n None

-- a node as it is
abbrev pub node_at : List (Option MemberState) → ℕ → Option NodeState
node_at members n = option_map (λ m. m.node) (slice_index_or members n None)

-- the journals of its boots before the present one, in order; none where it isn't there
abbrev pub past_at : List (Option MemberState) → ℕ → List (List Entry)
past_at members n = unwrap_or (option_map (λ m. m.past) (slice_index_or members n None)) []

-- the frames that ever arrived at a node, in order; none where it isn't there
abbrev pub arrivals_at : List (Option MemberState) → ℕ → List Arrived
arrivals_at members n = unwrap_or (option_map (λ m. m.arrivals) (slice_index_or members n None)) []

-- how many calls the present boot of a node has recorded; none where it isn't there
abbrev pub calls_recorded : List (Option MemberState) → ℕ → ℕ
calls_recorded members n = unwrap_or (option_map (λ m. m.calls) (slice_index_or members n None)) 0

-- a node that isn't there counts as one that has just begun its first boot
unfoldable pub boot_at : List (Option MemberState) → ℕ → ℕ
boot_at members n = unwrap_or (option_map (λ m. m.node.boot) (member_at members n)) 1

-- the pair of node a with node b, where it has one
unfoldable pub pair_at : List (Option MemberState) → ℕ → ℕ → Option PairEnds
pair_at members a b = option_and_then (λ m. pair_in m.node b) (member_at members a)

-- the link end at node a to node b on a bearer
abbrev pub link_at : List (Option MemberState) → ℕ → ℕ → ℕ → Option LinkEnd
link_at members a b bearer = end_on bearer (pair_at members a b)

-- the contact numbers that node a has for node b: its own, and the highest that b has shown
abbrev pub numbers_at : List (Option MemberState) → ℕ → ℕ → ℕ × ℕ
numbers_at members a b = (own_in (boot_at members a) (pair_at members a b), seen_in (pair_at members a b))

-- the journal of the present boot of node n; nothing where the node isn't there
unfoldable pub journal_now : List (Option MemberState) → ℕ → List Entry
journal_now members n = unwrap_or (option_map present_journal (member_at members n)) []

-- the journal of the boot of that place, where there is such a boot
abbrev pub journal_in : Option MemberState → ℕ → Option (List Entry)
journal_in None boot = None
journal_in (Some m) boot = slice_get (journals_of m) boot

-- the journal of node n in the boot of that place, from 0 on
unfoldable pub journal_at : List (Option MemberState) → ℕ → ℕ → Option (List Entry)
journal_at members n boot = journal_in (slice_index_or members n None) boot

-- everything that happened at node n, in all its boots; nothing where it isn't there
unfoldable pub history_at : List (Option MemberState) → ℕ → List Entry
history_at members n = unwrap_or (option_map history (member_at members n)) []

-- how many packets node a has numbered for node b on a bearer under an epoch
unfoldable pub count_at : List (Option MemberState) → ℕ → ℕ → ℕ → ℕ → ℕ
count_at members a b bearer epoch = unwrap_or (option_map (λ m. count_of m b bearer epoch) (member_at members a)) 0

-- how many numbers the broadcast link of node n used in a boot
unfoldable pub cast_count_at : List (Option MemberState) → ℕ → ℕ → ℕ
cast_count_at members n boot = unwrap_or (option_map (λ m. cast_count_of m boot) (member_at members n)) 0

-- what node a accepted for node b in a contact, its own number first, and a flow
unfoldable pub accepted_at : List (Option MemberState) → ℕ → ℕ → ℕ → ℕ → Flow → List Message
accepted_at members a b own theirs flow = accepted (history_at members a) (stream_of b own theirs flow)

-- what was delivered at node b from node a in a contact, its own number first, and a flow
unfoldable pub delivered_at : List (Option MemberState) → ℕ → ℕ → ℕ → ℕ → Flow → List Message
delivered_at members b a own theirs flow = delivered (history_at members b) (stream_of a own theirs flow)

-- ---- what is told of them

-- the contact in which node a is with node b
unfoldable pub contact_at : List (Option MemberState) → ℕ → ℕ → Option (ℕ × ℕ)
contact_at members a b = option_and_then contact_between (pair_at members a b)

-- a count as it is told: it stops at the last number of 64 bits
abbrev pub counted : ℕ → ℕ
counted count = min count 18446744073709551615

-- how many messages node a accepted for node b in this contact, and how many of them were delivered
abbrev pub flow_in : List (Option MemberState) → ℕ → ℕ → ℕ × ℕ → FlowCounts
flow_in members a b contact =
    record {
      accepted = counted (length (accepted_at members a b contact.0 contact.1 Zero));
      delivered = counted (length (delivered_at members b a contact.1 contact.0 Zero));
    }

-- the same for the contact in which node a is with node b, where it is in one
unfoldable pub flow_of : List (Option MemberState) → ℕ → ℕ → Option FlowCounts
flow_of members a b = option_map (flow_in members a b) (contact_at members a b)

-- whether there is a link end at node a to node b on a bearer, and it is up
abbrev pub is_link_up_at : List (Option MemberState) → ℕ → ℕ → ℕ → Bool
is_link_up_at members a b bearer = is_up_in (link_at members a b bearer)

-- whether a bearer is mended at a node
abbrev pub is_mended_at : List (Option MemberState) → ℕ → ℕ → Bool
is_mended_at members n bearer = unwrap_or (option_map (λ m. is_mended_on m.node.mended bearer) (member_at members n)) false
