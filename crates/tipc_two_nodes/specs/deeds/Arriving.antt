-- A packet arrives at a pair: which frame it came in, what is asked of a tunnel packet, and what was
-- numbered and taken, by bearer and by the epoch of the sender.
use Rattle.std.specs.Prelude.{◌≡◌, ◌<◌, ◌≤◌, ◌==◌, ℕ, ◌+◌, ◌^◌, true, false, List, [], ◌∷◌, Option, Some, None, drop, length, slice_get, take, if◌then◌else◌}
use Rattle.tipc_types.specs.declared.link_words.BroadcastState.{BroadcastState}
use Rattle.tipc_types.specs.declared.packet_lists.Taken.{Taken}
use Rattle.tipc_types.specs.Limits.{most_age, window_size}
use Rattle.tipc_header.specs.declared.packet.ChangeoverType.{ChangeoverType}
use Rattle.tipc_header.specs.declared.packet.ChangeoverType.TheVariants as kind
use Rattle.tipc_header.specs.declared.packet.Header.{Header}
use Rattle.tipc_header.specs.declared.packet.Header.TheVariants as header
use Rattle.tipc_header.specs.Frames.{frame_of}
use Rattle.tipc_header.specs.Grammar.{Fits}
use Rattle.tipc_header.specs.Spelling.{Fields, spelling}
use Rattle.tipc_tunnel.specs.Tunnels.{Tunnelled}
use Rattle.tipc_recv_window.specs.declared.outcomes.LinkOutcome.{LinkOutcome}
use Rattle.tipc_link_fsm.specs.Runs.{ResetArrives}
use Rattle.tipc_link_fsm.specs.Table.{Outcome, on_peer_tunnel}
use Rattle.tipc_link.specs.Links.{LinkEnd, after, arrival_end, is_heard, is_traffic, outcome_of, record_of, tunnelled_down}
use Rattle.tipc_link.specs.Parts.{packets_in}
use Rattle.tipc_link.specs.Records.{Received, freed, is_next, named}
use Rattle.tipc_link.specs.Sessions.{Carries, Content, SessionEnd, brought, content_of, due_with, heard, moving, after_acknowledgement as acknowledged}
use Rattle.tipc_pair.specs.declared.changes.PairOutcome.{PairOutcome}
use Rattle.tipc_pair.specs.Courses.{Course}
use Rattle.tipc_pair.specs.Facing.{PairEnds, is_up_at, other, turned, with_near}
use Rattle.tipc_pair.specs.PairArrivals.{Arrives, Heard, OpensInto, SpeaksOfFar, Unwraps, as_it_is, deferred, hears, ignored, inside_of, none_taken, opens, taken_down, tunnel}
use Rattle.tipc_paired.specs.Views.{Begun, Frame, View}
use Rattle.tipc_two_nodes.specs.deeds.PairDeeds.{both_more, called_more, followed_more, more_at, none_more}

-- ---- the frame

-- A frame that y told reached x on the bearer: it is this packet under these epochs. Where it is a STATE or a numbered
-- packet, neither node has numbered more than 30,000 packets since the event that told it, which may have numbered 50
-- behind it.
pub record Reaches (x y : View) (bearer es er : ℕ) (p : Fields) : Type 0 where
  pub place : ℕ
  pub frame : Frame
  pub there : slice_get y.told place ≡ Some frame
  pub bearer_is : frame.bearer ≡ bearer
  pub es_fits : es < 2 ^ 64
  pub er_fits : er < 2 ^ 64
  pub fits : Fits p
  pub bytes : frame.bytes ≡ frame_of es er (spelling p)
  pub own_fresh : is_traffic p.header ≡ true → length ((x.wires bearer).line er) ≤ frame.peer_numbered + most_age
  pub peer_fresh : is_traffic p.header ≡ true → length ((y.wires bearer).line es) ≤ frame.numbered + (most_age + window_size)

-- ---- the near link

-- what a session takes of the packet that it hears
abbrev pub taken_of : SessionEnd → Fields → ℕ → Content → List (List ℕ)
taken_of s p by (Carries number packet) =
    packets_in (due_with (acknowledged s p.acknowledgement) (brought number packet by))
taken_of s p by other = []

-- what is numbered by a session that hears a packet, and what is taken
abbrev pub heard_more : ℕ → Option SessionEnd → Fields → ℕ → ℕ → ℕ → List (List ℕ)
heard_more bearer None p by = none_more
heard_more bearer (Some s) p by = more_at bearer s.epoch (moving (heard s by p.acknowledgement (content_of p)))

-- what a session takes that hears a packet, by the peer's epoch; nothing where there is none
abbrev pub heard_taken : ℕ → Option SessionEnd → Fields → ℕ → ℕ → ℕ → List (List ℕ)
heard_taken bearer None p by = none_more
heard_taken bearer (Some s) p by = more_at bearer s.peer_epoch (taken_of s p by (content_of p))

-- what the near link's session numbers as it hears a packet, where it hears it
abbrev pub linked_more : PairEnds → LinkEnd → Outcome → Fields → ℕ → ℕ → ℕ → List (List ℕ)
linked_more x e o p by =
    if is_heard p.header o.change then heard_more x.bearer (after e o).session p by else none_more

-- what the near link's session takes of a packet, where it hears it
abbrev pub linked_taken : PairEnds → LinkEnd → Outcome → Fields → ℕ → ℕ → ℕ → List (List ℕ)
linked_taken x e o p by =
    if is_heard p.header o.change then heard_taken x.bearer (after e o).session p by else none_more

-- and what is numbered by what follows
abbrev pub met_more : PairEnds → LinkEnd → Outcome → Fields → ℕ → ℕ → ℕ → List (List ℕ)
met_more x e o p by = both_more (linked_more x e o p by) (followed_more (with_near x (arrival_end e o p by)) o.change)

-- what is numbered when a packet meets the near end, where that was made
abbrev pub met_at_more : ℕ → ℕ → Fields → ℕ → PairEnds → Option LinkEnd → ℕ → ℕ → List (List ℕ)
met_at_more es er p by x None = none_more
met_at_more es er p by x (Some e) = met_more x e (outcome_of e.fsm p.header es er (is_up_at x.far)) p by

-- what is taken when a packet meets the near end, where that was made
abbrev pub met_at_taken : ℕ → ℕ → Fields → ℕ → PairEnds → Option LinkEnd → ℕ → ℕ → List (List ℕ)
met_at_taken es er p by x None = none_more
met_at_taken es er p by x (Some e) = linked_taken x e (outcome_of e.fsm p.header es er (is_up_at x.far)) p by

-- a packet of any kind: a RESET or an ACTIVATE that shows another contact number than the highest seen lets nothing be
-- numbered
abbrev pub hears_more : Header → ℕ → ℕ → Fields → ℕ → PairEnds → ℕ → ℕ → List (List ℕ)
hears_more (header.Reset said) es er p by x =
    if said.contact == x.seen then called_more x x.near (ResetArrives es (is_up_at x.far)) else none_more
hears_more (header.Activate said) es er p by x =
    if said.contact == x.seen then met_at_more es er p by x x.near else none_more
hears_more other es er p by x = met_at_more es er p by x x.near

-- what is taken of a packet of any kind: of a RESET or an ACTIVATE nothing
abbrev pub hears_taken : Header → ℕ → ℕ → Fields → ℕ → PairEnds → ℕ → ℕ → List (List ℕ)
hears_taken (header.Reset said) es er p by x = none_more
hears_taken (header.Activate said) es er p by x = none_more
hears_taken other es er p by x = met_at_taken es er p by x x.near

-- ---- a tunnel packet

-- the original of a packet takes the far link down, which hands over
abbrev pub tunnelled_more : ℕ → PairEnds → Option LinkEnd → ℕ → ℕ → List (List ℕ)
tunnelled_more epoch x None = none_more
tunnelled_more epoch x (Some e) =
    followed_more (with_near x (tunnelled_down e epoch)) (on_peer_tunnel e.fsm epoch).change

-- what is numbered where a tunnel packet takes the far link down; a duplicate takes none down
abbrev pub taken_down_more : ChangeoverType → ℕ → PairEnds → ℕ → ℕ → List (List ℕ)
taken_down_more kind.Duplicate epoch x = none_more
taken_down_more kind.Original epoch x = tunnelled_more epoch (turned x) x.far

-- Then the record of the far link counts it, and what is held behind it, where it is the wanted one: these places of
-- the peer's line. Where a placeholder came, a tunnel packet stands there.
abbrev pub counted_in : Received → ℕ → Taken → List (List ℕ) → List (List ℕ)
counted_in r epoch t line = if is_next r epoch t then take (length (freed r t)) (drop r.taken line) else []

-- what the far end's record counts of the peer's line by the packet inside; an empty run has none inside
abbrev pub inner_counted : Tunnelled → ℕ → LinkEnd → List (List ℕ) → List (List ℕ)
inner_counted t by e line =
    if t.count == 0 then [] else counted_in (named (record_of e) t.old.epoch) t.old.epoch (inside_of t by) line

-- what is taken through a tunnel packet, on the far link's bearer and by the old epoch that it names; nothing where the
-- far end isn't made
abbrev pub inner_taken_at : View → PairEnds → Tunnelled → ℕ → Option LinkEnd → ℕ → ℕ → List (List ℕ)
inner_taken_at y x t by None = none_more
inner_taken_at y x t by (Some e) =
    more_at (other x.bearer) t.old.epoch (inner_counted t by e ((y.wires (other x.bearer)).line t.old.epoch))

-- what is numbered and taken as packets are unwrapped, and opened
abbrev pub unwraps_more : (x : PairEnds) (taken : List Taken) (c : Course) (carried : List Taken)
    → Unwraps x taken c carried → ℕ → ℕ → List (List ℕ)
unwraps_more x _ _ _ none_taken = none_more
unwraps_more x _ _ _ (as_it_is first others plain) = none_more
unwraps_more x _ _ _ (tunnel first others t speaks) = taken_down_more t.kind t.old.epoch x

-- what is taken through a tunnel packet, as packets are unwrapped
abbrev pub unwraps_taken : View → (x : PairEnds) (taken : List Taken) (c : Course) (carried : List Taken)
    → Unwraps x taken c carried → ℕ → ℕ → List (List ℕ)
unwraps_taken y x _ _ _ none_taken = none_more
unwraps_taken y x _ _ _ (as_it_is first others plain) = none_more
unwraps_taken y x _ _ _ (tunnel first others t speaks) =
    inner_taken_at y (taken_down t.kind t.old.epoch x).pair t first.by (taken_down t.kind t.old.epoch x).pair.far

-- what is numbered as the packets that an arrival took are opened
abbrev pub opens_more : (x : PairEnds) (o : LinkOutcome) (c : Course) (given : PairOutcome) → OpensInto x o c given
    → ℕ → ℕ → List (List ℕ)
opens_more x _ _ _ (opens unwraps brings) = unwraps_more x _ _ _ unwraps
opens_more x _ _ _ deferred = none_more
opens_more x _ _ _ ignored = none_more

-- what is taken on the far link as the packets that an arrival took are opened
abbrev pub opens_taken : View → (x : PairEnds) (o : LinkOutcome) (c : Course) (given : PairOutcome)
    → OpensInto x o c given → ℕ → ℕ → List (List ℕ)
opens_taken y x _ _ _ (opens unwraps brings) = unwraps_taken y x _ _ _ unwraps
opens_taken y x _ _ _ deferred = none_more
opens_taken y x _ _ _ ignored = none_more

-- ---- a whole arrival

-- all that is numbered in an arrival, by bearer and the node's own epoch
abbrev pub arrival_more : (x : PairEnds) (es er : ℕ) (p : Fields) (by : ℕ) (shown : BroadcastState) (c : Course)
    (given : PairOutcome) → Arrives x es er p by shown c given → ℕ → ℕ → List (List ℕ)
arrival_more x es er p by shown c given a =
    let h = hears p.header es er p by shown x in
    both_more (hears_more p.header es er p by x) (opens_more h.course.pair h.outcome a.opened given a.opens)

-- all that is taken in an arrival, by bearer and the peer's epoch
abbrev pub arrival_taken : View → (x : PairEnds) (es er : ℕ) (p : Fields) (by : ℕ) (shown : BroadcastState)
    (c : Course) (given : PairOutcome) → Arrives x es er p by shown c given → ℕ → ℕ → List (List ℕ)
arrival_taken y x es er p by shown c given a =
    let h = hears p.header es er p by shown x in
    both_more (hears_taken p.header es er p by x) (opens_taken y h.course.pair h.outcome a.opened given a.opens)

-- ---- what is asked of a tunnel packet

-- It speaks of a session of the peer on the far link's bearer, which began in the pair's contact; and a packet inside
-- with the wanted number is the one at the wanted place.
pub record IsAtPlace (y : View) (x : PairEnds) (t : Tunnelled) (by : ℕ) : Type 0 where
  pub begun : Begun
  pub begun_is : (y.wires (other x.bearer)).begun t.old.epoch ≡ Some begun
  pub contact_is : begun.peer_contact ≡ x.contact
  pub seen_is : begun.contact ≡ x.seen
  pub place : (e : LinkEnd) → x.far ≡ Some e → (t.count == 0) ≡ false
      → is_next (named (record_of e) t.old.epoch) t.old.epoch (inside_of t by) ≡ true
      → (named (record_of e) t.old.epoch).taken < length ((y.wires (other x.bearer)).line t.old.epoch)

-- A packet may arrive at a pair: where the near link takes a tunnel packet with it that speaks of the far one, that one
-- is at its place.
pub record MayOpen (y : View) (x : PairEnds) (h : Heard) : Type 0 where
  pub tunnel : (first : Taken) (others : List Taken) (t : Tunnelled)
      → h.outcome ≡ LinkOutcome.Took (first ∷ others) → SpeaksOfFar h.course.pair first.packet t
      → IsAtPlace y x t first.by
