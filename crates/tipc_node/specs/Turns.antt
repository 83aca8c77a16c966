-- What a node does in one event, in one form for all of them: it records a step, and at the pair to each peer it takes a turn, of which the
-- step tells. What else changes (sockets, say) is beside it.
use Rattle.std.specs.Prelude.{◌≡◌, ◌⊎◌, ◌<◌, ◌≤◌, ◌+◌, ◌^◌, ◌%◌, ℕ, ◌==◌, ◌&&◌, Bool, true, false, List, [], ◌∷◌, ◌++◌, Option, Some, None, IfSome, filter, is_some, map, option_map, option_to_list}
use Rattle.std.specs.List.{All, flat_map, list_all}
use Rattle.tipc_types.specs.Address.{IsNodeWord, node_word}
use Rattle.tipc_types.specs.Position.{number_of}
use Rattle.tipc_types.specs.declared.identity.Addr.{Addr}
use Rattle.tipc_types.specs.declared.identity.To.{To}
use Rattle.tipc_types.specs.declared.identity.To.TheVariants as to
use Rattle.tipc_types.specs.declared.message_forms.Flow.{Flow}
use Rattle.tipc_types.specs.declared.message_forms.Flow.TheVariants.{Broadcast, One, Zero}
use Rattle.tipc_types.specs.declared.message_forms.Message.{Message}
use Rattle.tipc_types.specs.declared.node_calls.Answer.TheVariants as answer
use Rattle.tipc_types.specs.declared.node_calls.Arrival.{Arrival}
use Rattle.tipc_types.specs.declared.node_calls.Arrival.TheVariants as arrival
use Rattle.tipc_types.specs.declared.node_calls.EventNote.TheVariants as event
use Rattle.tipc_outside.specs.declared.outgoing.Outgoing.{Outgoing}
use Rattle.tipc_header.specs.declared.frames.FrameKind.{FrameKind}
use Rattle.tipc_header.specs.declared.frames.FrameKind.TheVariants.{Casts, Finds, Links}
use Rattle.tipc_header.specs.declared.packet.DiscoveryType.{DiscoveryType}
use Rattle.tipc_header.specs.Frames.{frame_of, is_of_link, kind_in}
use Rattle.tipc_header.specs.Grammar.{Fits}
use Rattle.tipc_header.specs.Spelling.{Fields, spelling}
use Rattle.tipc_broadcast.specs.Casting.{Casting, arriving_outcome, shown}
use Rattle.tipc_broadcast.specs.Deeds.{AreLawful, AreSmall, CastDeed, after_deeds, boot_with, deeds_frames, is_deed_with, is_hearing_of, sends_nothing}
use Rattle.tipc_broadcast.specs.Deeds.CastDeed.{sends}
use Rattle.tipc_broadcast.specs.Pieces.{AreFramed, IsOfBroadcast}
use Rattle.tipc_journal.specs.declared.entries.Entry.{Entry}
use Rattle.tipc_journal.specs.declared.entries.Entry.TheVariants as entry
use Rattle.tipc_journal.specs.Steps.{IsInside, NodeStep, step_entries}
use Rattle.tipc_journal.specs.Streams.{flow_eq}
use Rattle.tipc_reassembly.specs.declared.opening.Opened.{Opened}
use Rattle.tipc_reassembly.specs.declared.opening.Opened.TheVariants.{Passed, Whole}
use Rattle.tipc_pair.specs.declared.changes.PairOutcome.{PairOutcome}
use Rattle.tipc_pair.specs.declared.transitions.Transition.{Transition}
use Rattle.tipc_pair.specs.Facing.{PairEnds, contact_between}
use Rattle.tipc_pair.specs.Messages.{OpensTo, opened_in, pieces_for}
use Rattle.tipc_pair.specs.PairTurns.{MakesNew, Opening, Outset, PairTurn, Reply, ShowsAtLast, ShowsIn, Suits, IsOnOne, IsTakenBy}
use Rattle.tipc_pair.specs.PairTurns.Opening.{hears, makes, ticks}
use Rattle.tipc_node.specs.Casting.{arrival_deeds, is_parting, met_boot, stated_by}
use Rattle.tipc_node.specs.Discovery.{discovery_frame}
use Rattle.tipc_node.specs.Messages.{IsSendable, bytes_of, message_in_flow}
use Rattle.tipc_node.specs.Neighbours.{casts_after}
use Rattle.tipc_node.specs.Nodes.{NodeState, accepted_entry, change_entries, is_other, kept, neighbour_of, pair_with, shown_contact}
use Rattle.tipc_pair.specs.Addressed.{Names}

-- the address of the node of that number
abbrev pub addr_of : ℕ → Addr
addr_of n = record { word = node_word n }

-- the pair to a peer
abbrev pub pair_in : NodeState → ℕ → Option PairEnds
pair_in n peer = option_map (λ x. x.pair) (neighbour_of n peer)

-- ---- what a step tells of a peer

-- an entry tells of a link to node b, or of the contact with it
abbrev pub is_change_of : ℕ → Entry → Bool
is_change_of b (entry.LinkUp peer bearer own theirs) = peer.word == node_word b
is_change_of b (entry.LinkDown peer bearer cause shown) = peer.word == node_word b
is_change_of b (entry.ContactUp peer numbers) = peer.word == node_word b
is_change_of b (entry.ContactDown peer numbers states shown) = peer.word == node_word b
is_change_of b other = false

-- a message was accepted for node b in a flow
abbrev pub is_accepted_in : Flow → ℕ → Entry → Bool
is_accepted_in flow b (entry.Accepted peer numbers its message) = (peer.word == node_word b) && flow_eq its flow
is_accepted_in flow b other = false

-- for it alone, and for it as for every other one in contact
abbrev pub is_accepted_for : ℕ → Entry → Bool
is_accepted_for b e = is_accepted_in Zero b e

abbrev pub is_cast_for : ℕ → Entry → Bool
is_cast_for b e = is_accepted_in Broadcast b e

-- a message was delivered from node b in a flow
abbrev pub is_delivered_in : Flow → ℕ → Entry → Bool
is_delivered_in flow b (entry.Delivered peer numbers its message number) = (peer.word == node_word b) && flow_eq its flow
is_delivered_in flow b other = false

-- it sent it to this node alone, and to all in contact
abbrev pub is_delivered_from : ℕ → Entry → Bool
is_delivered_from b e = is_delivered_in Zero b e

abbrev pub is_cast_from : ℕ → Entry → Bool
is_cast_from b e = is_delivered_in Broadcast b e

-- the entry of a message that came from node b in a flow of a contact: none where the packet carries none
abbrev pub delivered_entries : Flow → ℕ → ℕ × ℕ → Option Message → List ℕ → List Entry
delivered_entries flow b contact (Some m) number = entry.Delivered (addr_of b) contact flow m number ∷ []
delivered_entries flow b contact None number = []

-- the same of a member of what was given: a place that was passed has none
abbrev pub delivered_of : Flow → ℕ → ℕ × ℕ → Opened → List Entry
delivered_of flow b contact (Whole packet number) = delivered_entries flow b contact (message_in_flow flow packet) number
delivered_of flow b contact (Passed place) = []

-- the entries of all that was given by node b in a flow, in order: those of its messages
abbrev pub given_entries : Flow → ℕ → PairEnds → PairOutcome → List Entry
given_entries flow b x given = flat_map (delivered_of flow b (shown_contact x)) (opened_in given)

-- ---- frames

-- whether node b alone is meant
abbrev pub is_to : ℕ → To → Bool
is_to b (to.Node address) = address.word == node_word b
is_to b to.All = false

-- whether a frame that leaves is of the links to node b
abbrev pub is_out_to : ℕ → Outgoing → Bool
is_out_to b o = is_to b o.to && is_of_link o.frame

-- those of these frames that are of the links to node b
abbrev pub frames_to : ℕ → List Outgoing → List Outgoing
frames_to b frames = filter (is_out_to b) frames

-- whether a frame is of a broadcast
abbrev pub is_casts : FrameKind → Bool
is_casts Casts = true
is_casts other = false

-- those of these frames that are
abbrev pub is_cast_out : Outgoing → Bool
is_cast_out o = is_casts (kind_in o.frame)

abbrev pub casts_in : List Outgoing → List Outgoing
casts_in frames = filter is_cast_out frames

-- the pair to each node, a stranger's too, is for the peer under whose number it stands
abbrev pub AreNamed : NodeState → Type 0
AreNamed n = (b : ℕ) → Names (node_word b) (pair_with n b)

-- a peer is in contact at the broadcast link exactly where there is contact with it, and in the boot that it has in the contact
abbrev pub HaveJoined : NodeState → Type 0
HaveJoined n = (b : ℕ) → boot_with (node_word b) n.casting ≡ met_boot (pair_with n b)

-- The broadcast link of a node of the cluster: it is of the node in its boot, who is in contact there, no more is held of a peer than the window has, and
-- what stands in its lists are frames of packets that the node can cast.
pub record AreCast (n : NodeState) : Type 0 where
  pub node : IsNodeWord n.own
  pub own : n.casting.own ≡ n.own
  pub boot : n.casting.boot ≡ n.boot
  pub joined : HaveJoined n
  pub small : AreSmall n.casting
  pub framed : AreFramed n.casting

-- ---- the turn at one peer

-- a frame brings this packet, which names node b as its sender, under an envelope of these two epochs
pub record IsFrom (b : ℕ) (bytes : List ℕ) (es er : ℕ) (p : Fields) : Type 0 where
  pub es_fits : es < 2 ^ 64
  pub er_fits : er < 2 ^ 64
  pub fits : Fits p
  pub frame_is : bytes ≡ frame_of es er (spelling p)
  pub previous : p.previous ≡ node_word b

-- what is heard came in the frame that arrived, from node b, and is a link packet; and an end is made where a discovery packet arrived from
-- node b
abbrev pub IsBrought : ℕ → List ℕ → Opening → Type 0
IsBrought b bytes (makes bearer is_mended) = (es : ℕ) × (er : ℕ) × (p : Fields) × IsFrom b bytes es er p × (kind_in bytes ≡ Finds)
IsBrought b bytes (hears bearer es er p number shown) = IsFrom b bytes es er p × (kind_in bytes ≡ Links)
IsBrought b bytes other = Unit {0}

-- what an arrival answers that is of a link's session: its packet was taken, or waits until those before it were taken
abbrev pub IsTakenIn : Arrival → Type 0
IsTakenIn (arrival.Took messages) = Unit {0}
IsTakenIn arrival.Deferred = Unit {0}
IsTakenIn (arrival.Ignored reason) = ⊥

-- The node's turn at the pair to node b in this step, in which these bytes arrived, where a frame did; all frames that left are these.
pub record PeerTurn (own : ℕ) (bytes : List ℕ) (s : NodeStep) (frames : List Outgoing) (b : ℕ) (x x' : PairEnds) : Type 0 where
  pub opening : Opening
  pub suits : Suits s.event opening
  pub on_one : IsOnOne opening
  pub anew : MakesNew x opening
  pub brought : IsBrought b bytes opening
  pub shows : ShowsIn opening
  pub messages : List Message
  pub sendable : All (IsSendable own) messages
  pub reply : Option Reply
  pub shows_last : ShowsAtLast reply
  pub own_frames : List Outgoing
  pub turn : PairTurn x opening (map (bytes_of own) messages) reply x' own_frames
  pub frames_are : frames_to b frames ≡ own_frames
  -- the step tells of it
  pub changes : filter (is_change_of b) s.inside ≡ change_entries b turn.first.course.changes
  pub accepted : filter (is_accepted_for b) s.inside ≡ map (accepted_entry Zero b turn.put) messages
  pub delivered : filter (is_delivered_from b) s.inside ≡ given_entries Zero b x turn.first.given
  pub taken : (answered : Arrival) (es er : ℕ) (p : Fields) → s.answer ≡ answer.Arrived answered → IsTakenIn answered
      → IsFrom b bytes es er p → kind_in bytes ≡ Links → IsTakenBy opening turn.first.given

-- ---- what leaves and what is told

-- a frame is of the links to a neighbour of the node
pub record IsOnLink (n : NodeState) (o : Outgoing) : Type 0 where
  pub peer : ℕ
  pub there : is_some (neighbour_of n peer) ≡ true
  pub to_is : o.to ≡ to.Node (addr_of peer)
  pub link : is_of_link o.frame ≡ true

-- another one of the 32 nodes is meant
pub record IsToAnother (n : NodeState) (t : To) : Type 0 where
  pub peer : ℕ
  pub other : is_other n.own (node_word peer) ≡ true
  pub to_is : t ≡ to.Node (addr_of peer)

-- a frame brings a discovery packet of the node, to all or to another one of the 32 nodes, on one of the two bearers
pub record IsOfDiscovery (n : NodeState) (o : Outgoing) : Type 0 where
  pub on_one : o.bearer ≤ 1
  pub form : DiscoveryType
  pub frame_is : o.frame ≡ discovery_frame n.own n.boot form
  pub low : is_of_link o.frame ≡ false
  pub receivers : (o.to ≡ to.All) ⊎ IsToAnother n o.to

-- what a frame that leaves is; one to all may be of the node's broadcast, in its boot
pub data IsRouted (n : NodeState) (o : Outgoing) : Type 0 where
  on_link : IsOnLink n o → IsRouted n o
  of_discovery : IsOfDiscovery n o → IsRouted n o
  of_broadcast : IsOfBroadcast n.boot o → IsRouted n o

-- the address is that of a neighbour
abbrev pub IsOfNeighbour : NodeState → Addr → Type 0
IsOfNeighbour n peer = (b : ℕ) × (is_some (neighbour_of n b) ≡ true) × (peer ≡ addr_of b)

-- messages are sent to one node alone, or to all
abbrev pub IsOfMessages : Flow → Type 0
IsOfMessages One = ⊥
IsOfMessages other = Unit {0}

-- what an entry tells of a link, of a contact or of a message of a peer, it tells of a neighbour
abbrev pub IsPlaced : NodeState → Entry → Type 0
IsPlaced n (entry.LinkUp peer bearer own theirs) = IsOfNeighbour n peer
IsPlaced n (entry.LinkDown peer bearer cause shown) = IsOfNeighbour n peer
IsPlaced n (entry.ContactUp peer numbers) = IsOfNeighbour n peer
IsPlaced n (entry.ContactDown peer numbers states shown) = IsOfNeighbour n peer
IsPlaced n (entry.Accepted peer numbers flow message) = IsOfNeighbour n peer × IsOfMessages flow
IsPlaced n (entry.Delivered peer numbers flow message number) = IsOfNeighbour n peer × IsOfMessages flow
IsPlaced n other = Unit {0}

-- an end is made
abbrev pub IsMaking : Opening → Type 0
IsMaking (makes bearer is_mended) = Unit {0}
IsMaking other = ⊥

-- ---- the turn at the broadcast link

-- A STATE to node b shows what the broadcast link has for it. On a tick the next number may have moved, since peers before it left: it is that behind as
-- many as had a number then, no fewer than before the turn and no more than after it.
abbrev pub Shows : Casting → Casting → ℕ → Opening → Type 0
Shows v w b (ticks seen) =
    (numbered : ℕ) × (v.sending.numbered ≤ numbered) × (numbered ≤ w.sending.numbered) × (seen ≡ record (shown v (node_word b)) { next = number_of (numbered + 1) })
Shows v w b (hears bearer es er p by seen) = seen ≡ shown v (node_word b)
Shows v w b other = Unit {0}

-- no message was cast, or one, and nothing else was done then
abbrev pub IsSent : ℕ → List CastDeed → Option Message → Type 0
IsSent own deeds None = list_all sends_nothing deeds ≡ true
IsSent own deeds (Some m) = IsSendable own m × (deeds ≡ sends (pieces_for (bytes_of own m)) ∷ [])

-- what is told of it for the peer to which this is the pair: it was accepted, where there is contact
abbrev pub cast_told : ℕ → PairEnds → Option Message → List Entry
cast_told b x None = []
cast_told b x (Some m) = option_to_list (option_map (λ numbers. entry.Accepted (addr_of b) numbers Broadcast m) (contact_between x))

-- Nothing was heard of the broadcast of node b: nothing was delivered of it, and what is begun of it stays, unless the contact begins or ends.
pub record HearsNone (n n' : NodeState) (s : NodeStep) (deeds : List CastDeed) (b : ℕ) (changes : List Transition) : Type 0 where
  pub unheard : filter (is_hearing_of (node_word b)) deeds ≡ []
  pub delivered : filter (is_cast_from b) s.inside ≡ []
  pub begun : (kept n' b).casts ≡ casts_after (kept n b).casts changes

-- A broadcast packet of node b was heard, under its boot and the set of its members, of which those above 32 are looked at by nobody. What came of
-- it was opened behind what was begun of the broadcast, and delivered.
pub record HearsOne (n n' : NodeState) (bytes : List ℕ) (s : NodeStep) (deeds : List CastDeed) (b : ℕ) : Type 0 where
  pub bearer : ℕ
  pub on_one : bearer ≤ 1
  pub first : ℕ
  pub boot : first < 2 ^ 32
  pub second : ℕ
  pub packet : Fields
  pub from : IsFrom b bytes first second packet
  pub kind : kind_in bytes ≡ Casts
  pub there : is_some (neighbour_of n b) ≡ true
  pub by : ℕ
  pub event : s.event ≡ event.Arrive bearer by
  pub heard : deeds ≡ CastDeed.hears first (second % 2 ^ 32) by packet ∷ []
  pub given : PairOutcome
  pub opens : OpensTo (kept n b).casts (arriving_outcome n.casting first (second % 2 ^ 32) packet by) given (kept n' b).casts
  pub delivered : filter (is_cast_from b) s.inside ≡ given_entries Broadcast b (pair_with n b) given

-- nothing was heard of the broadcast of node b, or one packet of it
pub data HearsCasts (n n' : NodeState) (bytes : List ℕ) (s : NodeStep) (deeds : List CastDeed) (b : ℕ) (changes : List Transition) : Type 0 where
  hears_none : HearsNone n n' s deeds b changes → HearsCasts n n' bytes s deeds b changes
  hears_one : HearsOne n n' bytes s deeds b → HearsCasts n n' bytes s deeds b changes

-- What the node did at its broadcast link with node b, at whose pair this happened first, and gave this reply at last: the node joins and leaves as
-- the contact with it begins and ends, and a STATE that was given is taken. What a STATE to it shows, what was accepted for it, and what was
-- heard of its broadcast.
pub record CastTurn (n n' : NodeState) (bytes : List ℕ) (s : NodeStep) (deeds : List CastDeed) (cast : Option Message) (b : ℕ)
    (opening : Opening) (first : Outset) (reply : Option Reply) : Type 0 where
  pub told : filter (is_deed_with (node_word b)) deeds ≡ arrival_deeds b first.course.changes (stated_by opening first.given)
  pub shows : Shows n.casting n'.casting b opening
  pub shows_last : IfSome reply (λ (r : Reply). r.shown ≡ shown n'.casting (node_word b))
  pub accepted : filter (is_cast_for b) s.inside ≡ cast_told b (pair_with n b) cast
  pub heard : HearsCasts n n' bytes s deeds b first.course.changes

-- What the node did at its broadcast link: nothing but bearers that were mended or cut, and peers that left; what a link packet of one peer makes of
-- it; a broadcast packet of one was heard; or a message was cast.
pub data CastDoing (n n' : NodeState) (bytes : List ℕ) (s : NodeStep) (deeds : List CastDeed) (cast : Option Message) : Type 0 where
  parts : list_all is_parting deeds ≡ true → CastDoing n n' bytes s deeds cast
  meets : (b : ℕ) → filter (is_deed_with (node_word b)) deeds ≡ deeds → CastDoing n n' bytes s deeds cast
  hears_cast : (b : ℕ) → HearsOne n n' bytes s deeds b → CastDoing n n' bytes s deeds cast
  sends_cast : (m : Message) → cast ≡ Some m → CastDoing n n' bytes s deeds cast

-- ---- the turn of the node

-- The node recorded this step, and took a turn at the pair to the node of each number, be it a neighbour or a stranger; these bytes arrived,
-- where a frame did, and these frames left, each as the node after the step routes it.
pub record NodeTurn (n n' : NodeState) (bytes : List ℕ) (s : NodeStep) (frames : List Outgoing) : Type 0 where
  pub own : n'.own ≡ n.own
  pub boot : n'.boot ≡ n.boot
  pub journal : n'.journal ≡ n.journal ++ step_entries s
  pub inside : IsInside s.inside
  pub turns : (b : ℕ) → PeerTurn n.own bytes s frames b (pair_with n b) (pair_with n' b)
  -- what the node did at its broadcast link, one lawful deed behind the other; the broadcast frames are those that left by it
  pub deeds : List CastDeed
  pub casting : n'.casting ≡ after_deeds deeds n.casting
  pub lawful : AreLawful deeds n.casting
  pub cast_frames : casts_in frames ≡ deeds_frames deeds n.casting
  -- the message that was cast; and what was done with each peer
  pub cast : Option Message
  pub sent : IsSent n.own deeds cast
  pub doing : CastDoing n n' bytes s deeds cast
  pub casts : (b : ℕ) → CastTurn n n' bytes s deeds cast b (turns b).opening (turns b).turn.first (turns b).reply
  -- a neighbour stays one, and a stranger does, unless an end to it is made; that is another one of the 32 nodes then
  pub lasts : (b : ℕ) → is_some (neighbour_of n b) ≡ true → is_some (neighbour_of n' b) ≡ true
  pub stays : (b : ℕ) → neighbour_of n b ≡ None
      → (neighbour_of n' b ≡ None) ⊎ (IsMaking (turns b).opening × (is_other n.own (node_word b) ≡ true))
  pub routed : All (IsRouted n') frames
  pub placed : All (IsPlaced n) s.inside
