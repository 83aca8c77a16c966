-- What is under way at a node: packets that aren't acknowledged, and messages that were accepted and not delivered yet. While no link goes up or down
-- it never grows by itself, whatever arrives and however time passes.
use Rattle.std.specs.Prelude.{◌≡◌, ◌≤◌, ◌+◌, ◌==◌, ℕ, List, Option, Some, None, count_by, length, sum_by, if◌then◌else◌}
use Rattle.tipc_types.specs.declared.message_forms.Message.{Message}
use Rattle.tipc_types.specs.declared.message_forms.Message.TheVariants.{Payload, Items}
use Rattle.tipc_journal.specs.declared.entries.Entry.{Entry}
use Rattle.tipc_journal.specs.declared.entries.Entry.TheVariants as entry
use Rattle.tipc_send_window.specs.Sending.{Sending, acked_of}
use Rattle.tipc_link.specs.Links.{LinkEnd}
use Rattle.tipc_link.specs.Sessions.{SessionEnd}
use Rattle.tipc_pair.specs.Facing.{PairEnds}
use Rattle.tipc_types.specs.LinkStates.{is_up}
use Rattle.tipc_node.specs.declared.neighbours.Neighbour.{Neighbour}
use Rattle.tipc_node.specs.Nodes.{NodeState, is_change, node_load}

-- ---- packets

-- how many packets of a send window are under way: they aren't acknowledged yet, or wait
abbrev pub under_way : Sending → ℕ
under_way s = length s.unacked + length s.waiting

-- how many were ever put into it
abbrev pub put_into : Sending → ℕ
put_into s = acked_of s + under_way s

-- what a count of send windows is in a session, where there is one
abbrev pub session_sum : (Sending → ℕ) → Option SessionEnd → ℕ
session_sum f None = 0
session_sum f (Some s) = f s.sending

-- at a link end, where its link is up
abbrev pub end_sum : (Sending → ℕ) → Option LinkEnd → ℕ
end_sum f None = 0
end_sum f (Some e) = if is_up e.fsm.state then session_sum f e.session else 0

-- at both ends of a pair
abbrev pub pair_sum : (Sending → ℕ) → PairEnds → ℕ
pair_sum f x = end_sum f x.near + end_sum f x.far

-- in what is kept of a peer
abbrev pub peer_sum : (Sending → ℕ) → Option Neighbour → ℕ
peer_sum f None = 0
peer_sum f (Some x) = pair_sum f x.pair

-- on all links of a node
unfoldable pub link_sum : (Sending → ℕ) → List (Option Neighbour) → ℕ
link_sum f neighbours = sum_by (peer_sum f) neighbours

-- on its links, and by another count on its broadcast link
abbrev pub node_sum : (Sending → ℕ) → (Sending → ℕ) → NodeState → ℕ
node_sum f g n = link_sum f n.neighbours + g n.casting.sending

-- the packets of a node that are under way, as its load tells them
abbrev pub node_packets : NodeState → ℕ
node_packets n = (node_load n).0 + (node_load n).1

-- ---- messages

-- A message that may still come back weighs 3, and one that came back 1: it was put in one packet, and comes back no more.
abbrev pub weight_of : Message → ℕ
weight_of (Payload importance form from to kind lower upper code droppable body) = if code == 0 then 3 else 1
weight_of (Items withdrawal items) = 3

-- the weight of what an entry accepts for a peer, and of what it delivers from one
abbrev pub accepts_weight : Entry → ℕ
accepts_weight (entry.Accepted peer contact flow m) = weight_of m
accepts_weight other = 0

abbrev pub delivers_weight : Entry → ℕ
delivers_weight (entry.Delivered peer contact flow m arrivals) = weight_of m
delivers_weight other = 0

-- those of all entries
abbrev pub accepted_weight : List Entry → ℕ
accepted_weight entries = sum_by accepts_weight entries

abbrev pub delivered_weight : List Entry → ℕ
delivered_weight entries = sum_by delivers_weight entries

-- ---- what is under way

-- nothing more was told of links and contacts
abbrev pub IsCalm : NodeState → NodeState → Type 0
IsCalm n n' = count_by is_change n'.journal ≡ count_by is_change n.journal

-- The packets of a node and the weight of what it accepted grew by no more than the weight of what it delivered.
abbrev pub AddsNothing : NodeState → NodeState → Type 0
AddsNothing n n' =
    node_packets n' + accepted_weight n'.journal + delivered_weight n.journal ≤ node_packets n + accepted_weight n.journal + delivered_weight n'.journal

-- So it is with any counts of the send windows of links and of the broadcast link in place of the packets under way.
abbrev pub AddsNoneTo : (Sending → ℕ) → (Sending → ℕ) → NodeState → NodeState → Type 0
AddsNoneTo f g n n' =
    node_sum f g n' + accepted_weight n'.journal + delivered_weight n.journal ≤ node_sum f g n + accepted_weight n.journal + delivered_weight n'.journal

-- The packets that were ever put on links that are up, those that are under way on the broadcast link, and the weight of what was accepted grew by no
-- more than the weight of what was delivered.
abbrev pub PutsNothing : NodeState → NodeState → Type 0
PutsNothing = AddsNoneTo put_into under_way
