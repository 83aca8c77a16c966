-- Discovery: the packets by which nodes find one another, who was heard on which bearer, and the link end that is made to a peer that is found.
use Rattle.std.specs.Prelude.{◌≡◌, ◌≤◌, ℕ, ◌+◌, ◌%◌, ◌==◌, ◌&&◌, ◌||◌, Bool, true, false, List, [], ◌∷◌, ◌++◌, Option, None, Some, is_some, not, slice_index_or, slice_set, unwrap_or, if◌then◌else◌}
use Rattle.std.specs.List.{list_any}
use Rattle.tipc_types.specs.Address.{node_word}
use Rattle.tipc_types.specs.declared.identity.To.TheVariants as to
use Rattle.tipc_outside.specs.declared.outgoing.Outgoing.{Outgoing}
use Rattle.tipc_header.specs.declared.packet.DiscoveryType.{DiscoveryType}
use Rattle.tipc_header.specs.declared.packet.DiscoveryType.TheVariants.{Request, Response}
use Rattle.tipc_header.specs.declared.packet.Header.{Header}
use Rattle.tipc_header.specs.declared.packet.Header.TheVariants as header
use Rattle.tipc_header.specs.Frames.{frame_of}
use Rattle.tipc_header.specs.Spelling.{spelling}
use Rattle.tipc_discovery.specs.declared.neighbours.Found.{Found}
use Rattle.tipc_discovery.specs.declared.neighbours.Found.TheVariants.{New}
use Rattle.tipc_discovery.specs.Hearing.{Neighbourhood, discovery_packet, heard_on}
use Rattle.tipc_broadcast.specs.Deeds.{deeds_frames}
use Rattle.tipc_pair.specs.Courses.{Course}
use Rattle.tipc_pair.specs.Facing.{is_up_at}
use Rattle.tipc_node.specs.declared.neighbours.Neighbour.{Neighbour}
use Rattle.tipc_node.specs.declared.neighbours.Upkeep.{Upkeep}
use Rattle.tipc_node.specs.declared.neighbours.Upkeep.TheVariants as upkeep
use Rattle.tipc_node.specs.Neighbours.{making, stranger, with_pair}
use Rattle.tipc_node.specs.Nodes.{NodeState, after_all, end_with, is_mended_on, kept, neighbour_of, numbered_all, parts_of, states_all, upkeep_deeds, with_neighbours}

-- ---- frames of discovery

-- a frame that brings a discovery packet of a node, under its boot number
unfoldable pub discovery_frame : ℕ → ℕ → DiscoveryType → List ℕ
discovery_frame own boot form = frame_of boot 0 (spelling (discovery_packet own form))

-- the request of a node, to all on a bearer
abbrev pub request_on : NodeState → ℕ → Outgoing
request_on n bearer = record { bearer = bearer; to = to.All; frame = discovery_frame n.own n.boot Request }

-- its response to the node of that number
abbrev pub response_to : NodeState → ℕ → ℕ → Outgoing
response_to n peer bearer = record { bearer = bearer; to = to.Node (record { word = node_word peer }); frame = discovery_frame n.own n.boot Response }

-- whether a packet asks who is there
abbrev pub asks_back : DiscoveryType → Bool
asks_back Request = true
asks_back Response = false

abbrev pub is_request : Header → Bool
is_request (header.Discovery said) = asks_back said.discovery_type
is_request other = false

-- a request is answered by a response to its sender, on the bearer on which it came
abbrev pub responses : NodeState → ℕ → ℕ → Header → List Outgoing
responses n peer bearer said = if is_request said then response_to n peer bearer ∷ [] else []

-- ---- who was heard

-- a node with this address word heard nobody yet
abbrev pub nobody_heard : ℕ → Neighbourhood
nobody_heard own = record { own = own; on_bearer_0 = []; on_bearer_1 = [] }

-- whether a node found a peer on a bearer: it was heard there
abbrev pub has_found : NodeState → ℕ → ℕ → Bool
has_found n bearer peer = list_any (λ word. node_word peer == word) (heard_on bearer n.found)

-- a peer was found on a bearer exactly where there is a link end to it
abbrev pub AreFound : NodeState → Type 0
AreFound n = (b bearer : ℕ) → bearer ≤ 1 → is_some (end_with bearer (neighbour_of n b)) ≡ has_found n bearer b

-- the neighbourhood where the node of that address word was heard on a bearer for the first time
abbrev pub with_found : Neighbourhood → ℕ → ℕ → Neighbourhood
with_found found bearer word = record {
  own = found.own;
  on_bearer_0 = if bearer == 0 then found.on_bearer_0 ++ word ∷ [] else found.on_bearer_0;
  on_bearer_1 = if bearer == 0 then found.on_bearer_1 else found.on_bearer_1 ++ word ∷ [];
}

-- ---- a peer is found

-- the link end to a peer is made on a bearer, which is mended
abbrev pub found_course : NodeState → ℕ → ℕ → Course
found_course n peer bearer = making bearer (kept n peer)

-- what is kept of the peer then
abbrev pub found_neighbour : NodeState → ℕ → ℕ → Neighbour
found_neighbour n peer bearer = with_pair (kept n peer) (found_course n peer bearer).pair

-- the frames that leave then: the RESET of the new end
abbrev pub found_frames : NodeState → ℕ → ℕ → List Outgoing
found_frames n peer bearer = (found_course n peer bearer).states

-- the node with that link end
abbrev pub with_new_end : NodeState → ℕ → ℕ → NodeState
with_new_end n peer bearer = with_neighbours n (slice_set n.neighbours peer (Some (found_neighbour n peer bearer)))

-- the node that found the peer on that bearer
abbrev pub found_node : NodeState → ℕ → ℕ → NodeState
found_node n peer bearer = record (with_new_end n peer bearer) { found = with_found n.found bearer (node_word peer) }

-- the node after a discovery packet of the peer on a bearer: it has found the peer there, now or before
abbrev pub discovered_node : NodeState → ℕ → ℕ → NodeState
discovered_node n peer bearer = if has_found n bearer peer then n else found_node n peer bearer

-- the frames that leave with the end that is made, where the peer is new
abbrev pub discovered_frames : NodeState → ℕ → ℕ → List Outgoing
discovered_frames n peer bearer = if has_found n bearer peer then [] else found_frames n peer bearer

-- ---- by parts

-- what is kept of a peer, which may be a stranger still, when the link end to it is made on a bearer
abbrev pub made_end : ℕ → ℕ → ℕ → ℕ → Option Neighbour → Neighbour
made_end own boot peer bearer place =
    with_pair (unwrap_or place (stranger own peer boot)) (making bearer (unwrap_or place (stranger own peer boot))).pair

-- the neighbours of a node where a peer on a bearer was heard: one that is new has its link end
abbrev pub welcomed : ℕ → ℕ → Found → ℕ → ℕ → List (Option Neighbour) → List (Option Neighbour)
welcomed own boot New peer bearer xs = slice_set xs peer (Some (made_end own boot peer bearer (slice_index_or xs peer None)))
welcomed own boot other peer bearer xs = xs

-- the frames that leave then
abbrev pub welcome_frames : ℕ → ℕ → Found → ℕ → ℕ → List (Option Neighbour) → List Outgoing
welcome_frames own boot New peer bearer xs = (making bearer (unwrap_or (slice_index_or xs peer None) (stranger own peer boot))).states
welcome_frames own boot other peer bearer xs = []

-- ---- requests

-- ticks are counted up to the eighth, and then again from the first
abbrev pub next_tick : ℕ → ℕ
next_tick ticks = (ticks + 1) % 8

-- whether a link to one of these neighbours is up on a bearer
abbrev pub has_link_up : ℕ → List (Option Neighbour) → Bool
has_link_up bearer xs = list_any (λ x. is_up_at (end_with bearer x)) xs

-- Whether a node asks at a tick who is there on a bearer: the bearer is mended, and no link is up on it when the tick has passed at all
-- neighbours, or the tick is an eighth.
abbrev pub asks_on : NodeState → ℕ → Bool
asks_on n bearer = is_mended_on n.mended bearer && (not (has_link_up bearer (after_all (parts_of upkeep.Tick n))) || (next_tick n.ticks == 0))

-- the request on a bearer, where the node asks there at a tick
abbrev pub tick_requests : NodeState → ℕ → List Outgoing
tick_requests n bearer = if asks_on n bearer then request_on n bearer ∷ [] else []

-- the requests that leave where something happens to all neighbours alike: one on a bearer that is mended, and at a tick on each that asks
unfoldable pub requests_by : Upkeep → NodeState → List Outgoing
requests_by (upkeep.Mend bearer) n = request_on n bearer ∷ []
requests_by (upkeep.Cut bearer) n = []
requests_by upkeep.Tick n = tick_requests n 0 ++ tick_requests n 1

-- all frames that leave then: those of link states and of repeated packets by peer, then the requests, then those of packets that are
-- numbered, by peer again, and then those of broadcast packets
abbrev pub upkeep_frames : Upkeep → NodeState → List Outgoing
upkeep_frames d n =
    (states_all (parts_of d n) ++ requests_by d n) ++ (numbered_all (parts_of d n) ++ deeds_frames (upkeep_deeds d n) n.casting)
