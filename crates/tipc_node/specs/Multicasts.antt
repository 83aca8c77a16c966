-- A multicast: why it is refused, what it makes of the node, and the frames that leave with it. It has its fate at the own node; where a peer
-- offers in its range, it is accepted for every peer in contact, and its packets are cast to all of them at once.
use Rattle.std.specs.Prelude.{ℕ, Bool, true, false, List, [], ◌∷◌, ◌++◌, Option, Some, None, filter, length, nat_le, option_and_then, option_map, option_to_list, slice_index_or, if◌then◌else◌}
use Rattle.std.specs.List.{flat_map, range_with_len}
use Rattle.tipc_types.specs.Address.{node_word}
use Rattle.tipc_types.specs.Matching.{overlaps}
use Rattle.tipc_types.specs.Span.{Span}
use Rattle.tipc_types.specs.declared.message_forms.Flow.TheVariants.{Broadcast}
use Rattle.tipc_types.specs.declared.message_forms.Form.TheVariants.{Multicast as Many}
use Rattle.tipc_types.specs.declared.message_forms.Importance.{Importance}
use Rattle.tipc_types.specs.declared.message_forms.Message.{Message}
use Rattle.tipc_types.specs.declared.message_forms.Message.TheVariants.{Payload}
use Rattle.tipc_types.specs.declared.node_calls.Answer.{Answer}
use Rattle.tipc_types.specs.declared.node_calls.Answer.TheVariants as answer
use Rattle.tipc_types.specs.declared.services.Publication.{Publication}
use Rattle.tipc_broadcast.specs.Deeds.{CastDeed, after_deeds, deeds_frames, sends}
use Rattle.tipc_journal.specs.declared.entries.Entry.{Entry}
use Rattle.tipc_journal.specs.declared.entries.Entry.TheVariants as entry
use Rattle.tipc_journal.specs.Licensed.{has_peers}
use Rattle.tipc_pair.specs.Facing.{contact_between}
use Rattle.tipc_pair.specs.Messages.{pieces_for}
use Rattle.tipc_send_window.specs.Sending.{Sending}
use Rattle.tipc_sockets.specs.SocketTables.{SocketTable}
use Rattle.tipc_node.specs.declared.neighbours.Neighbour.{Neighbour}
use Rattle.tipc_node.specs.Messages.{bytes_of, limit_of, multicast}
use Rattle.tipc_node.specs.Nodes.{NodeState}
use Rattle.tipc_node.specs.Plans.{Dispatch, Plan, frames_alone, or_else, tables_plan, to_all}
use Rattle.tipc_node.specs.Works.{Work, addr_of_word, begun, fate_of, fated}

-- whether a message is a multicast, or there is none
abbrev pub is_multicast : Option Message → Bool
is_multicast None = true
is_multicast (Some (Payload importance Many from to kind lower upper code droppable body)) = true
is_multicast (Some other) = false

-- ---- why it is refused

-- the publications in a range, those that share an instance with it
abbrev pub in_range : SocketTable → Span → List Publication
in_range s range = filter (overlaps range) s.names

-- whether a multicast of a range goes out: a peer offers in it
abbrev pub goes_out : NodeState → Span → Bool
goes_out n range = has_peers (addr_of_word n.own) (in_range n.sockets range)

-- the lower bound is above the upper
abbrev pub range_refusal : Span → Option Answer
range_refusal range = if nat_le range.lower range.upper then None else Some answer.BadRange

-- nobody offers in the range
abbrev pub found_refusal : List Publication → Option Answer
found_refusal [] = Some answer.NoName
found_refusal (p ∷ ps) = None

-- as many packets wait on the broadcast link as may before a message of this importance
abbrev pub crowd_on : Sending → ℕ → Option Answer
crowd_on s limit = if nat_le limit (length s.waiting) then Some (answer.Congested (length s.unacked) (length s.waiting)) else None

-- only one that goes out is congested
abbrev pub cast_refusal : Bool → Sending → ℕ → Option Answer
cast_refusal true s limit = crowd_on s limit
cast_refusal false s limit = None

-- why it is refused where its sender isn't, the first that holds: the range is none, nobody offers in it, or it goes out and the broadcast link
-- is congested
abbrev pub spread_refusal : NodeState → Span → Importance → Option Answer
spread_refusal n range importance =
    or_else (range_refusal range) (or_else (found_refusal (in_range n.sockets range)) (cast_refusal (goes_out n range) n.casting.sending (limit_of importance)))

-- ---- what it makes of the node

-- the contact with the peer of that number, where there is one
abbrev pub contact_kept : List (Option Neighbour) → ℕ → Option (ℕ × ℕ)
contact_kept xs b = option_and_then (λ x. contact_between x.pair) (slice_index_or xs b None)

-- the entry of a multicast that is accepted for the peer of that number, where there is contact with it
abbrev pub cast_entry : List (Option Neighbour) → Message → ℕ → List Entry
cast_entry xs m b = option_to_list (option_map (λ numbers. entry.Accepted (addr_of_word (node_word b)) numbers Broadcast m) (contact_kept xs b))

-- those for each peer in contact, in order of their numbers
abbrev pub cast_entries : List (Option Neighbour) → Message → List Entry
cast_entries xs m = flat_map (cast_entry xs m) (range_with_len 1 32)

-- those of a multicast that goes out; for one that doesn't there are none
abbrev pub entries_where : Bool → List (Option Neighbour) → Message → List Entry
entries_where true xs m = cast_entries xs m
entries_where false xs m = []

-- the work with these entries behind it
abbrev pub with_entries : Work → List Entry → Work
with_entries w entries = record w { inside = w.inside ++ entries }

-- it has its fate, and behind that it is accepted for the peers
abbrev pub multicast_work : NodeState → Bool → Message → Work
multicast_work n out m = with_entries (fated (begun n) m (fate_of (begun n) false m)) (entries_where out n.neighbours m)

-- what is done at the broadcast link: the packets of a multicast that goes out are sent
abbrev pub multicast_deeds : Bool → ℕ → Message → List CastDeed
multicast_deeds true own m = sends (pieces_for (bytes_of own m)) ∷ []
multicast_deeds false own m = []

-- what leaves
abbrev pub multicast_dispatch : Bool → NodeState → Message → Dispatch
multicast_dispatch true n m = to_all m (deeds_frames (multicast_deeds true n.own m) n.casting)
multicast_dispatch false n m = frames_alone []

-- a multicast that has these refusals, and goes out or doesn't
abbrev pub spread_plan : NodeState → Option Answer → Bool → Message → Plan
spread_plan n refusal out m =
    record (tables_plan n refusal (multicast_work n out m) answer.Sent) {
      dispatch = multicast_dispatch out n m;
      casting = after_deeds (multicast_deeds out n.own m) n.casting;
    }

-- the plan of a multicast of a range, which may be refused for its sender
abbrev pub multicast_plan : NodeState → Option Answer → ℕ → Span → Importance → List ℕ → Plan
multicast_plan n sender port range importance body =
    spread_plan n (or_else sender (spread_refusal n range importance)) (goes_out n range) (multicast n.own port range importance body)
