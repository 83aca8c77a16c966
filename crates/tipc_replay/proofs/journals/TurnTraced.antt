-- What a node has of its peers was brought by frames that they sent, also after a turn; and each message that a turn delivers is spelled.
use Rattle.std.specs.Prelude.{◌≢◌, All, is_some, option_and_then}
use Rattle.std.proofs.Common.{◌≡◌, ◌≤◌, ◌<◌, ◌+◌, ℕ, suc, List, [], ◌∷◌, Option, Some, None, length, slice_get, refl, sym, ap, ◌∙◌, subst, arith, true}
use Rattle.std.proofs.lemmas.List.Elements.{All-cons, All-head, All-nil, All-tail, All-weaker}
use Rattle.std.proofs.lemmas.Option.{slice_get_within}
use Rattle.tipc_types.specs.declared.identity.To.TheVariants as to
use Rattle.tipc_types.specs.declared.message_forms.Flow.{Flow}
use Rattle.tipc_types.specs.declared.message_forms.Flow.TheVariants.{Zero}
use Rattle.tipc_types.specs.Address.{node_word}
use Rattle.tipc_types.specs.declared.identity.Addr.{Addr}
use Rattle.tipc_types.specs.declared.message_forms.Message.{Message}
use Rattle.tipc_types.specs.declared.node_calls.EventNote.TheVariants as event
use Rattle.tipc_types.specs.declared.packet_lists.Taken.{Taken}
use Rattle.tipc_outside.specs.declared.outgoing.Outgoing.{Outgoing}
use Rattle.tipc_journal.specs.Steps.{NodeStep}
use Rattle.tipc_header.specs.Frames.{kind_in}
use Rattle.tipc_header.specs.declared.frames.FrameKind.TheVariants.{Casts, Links}
use Rattle.tipc_header.specs.Spelling.{Fields, spelling}
use Rattle.tipc_reassembly.specs.declared.opening.Opened.{Opened}
use Rattle.tipc_reassembly.specs.declared.opening.Opened.TheVariants.{Whole, Passed}
use Rattle.tipc_reassembly.specs.Slots.{packets_in}
use Rattle.tipc_reassembly.specs.Tracing.{IsOpenedBy, IsTraced}
use Rattle.tipc_reassembly.proofs.TraceLaws.{begun_none, begun_weaker, traced_weaker}
use Rattle.tipc_link.specs.Links.{LinkEnd}
use Rattle.tipc_link.specs.Sessions.{as_waiting}
use Rattle.tipc_link.proofs.LinkLaw.{Each}
use Rattle.tipc_pair.specs.declared.changes.PairOutcome.{PairOutcome}
use Rattle.tipc_pair.specs.Courses.{Course}
use Rattle.tipc_pair.specs.Facing.{PairEnds}
use Rattle.tipc_pair.specs.Held.{CameBy}
use Rattle.tipc_pair.specs.PairArrivals.{restored}
use Rattle.tipc_pair.specs.PairTurns.{Happened, Opening, Outset, Suits}
use Rattle.tipc_pair.specs.PairTurns.Opening.{rests, makes, mends, cuts, ticks, hears}
use Rattle.tipc_pair.specs.Messages.{opened_in}
use Rattle.tipc_node.specs.declared.neighbours.Neighbour.{Neighbour}
use Rattle.tipc_node.specs.Messages.{message_in}
use Rattle.tipc_node.specs.Nodes.{NodeState, neighbour_of, pair_with}
use Rattle.tipc_node.proofs.pairs.Strangers.{kept_by, pair_there}
use Rattle.tipc_replay.specs.Sound.{IsNumber}
use Rattle.tipc_node.specs.Turns.{IsBrought, IsFrom, NodeTurn, PeerTurn, addr_of}
use Rattle.tipc_replay.specs.declared.air.Arrived.{Arrived}
use Rattle.tipc_replay.specs.declared.air.Sent.{Sent}
use Rattle.tipc_replay.specs.Causes.{arrived_frame, frame_in, Seen}
use Rattle.tipc_replay.specs.Spelled.{Brings, HasBrought, IsBy, IsSpelled}
use Rattle.tipc_replay.specs.Spelled.Brings.{inside, itself}
use Rattle.tipc_replay.specs.Watched.{AreTraced}
use Rattle.tipc_pair.specs.Traces.{HoldsBy, KeepsBy}
use Rattle.tipc_replay.proofs.frames.Coming.{same_sender}
use Rattle.tipc_replay.proofs.journals.Stepping.{Widens, brought_wider}
use Rattle.tipc_replay.proofs.streams.TurnStreams.{AreBrought, Brings as AreBroughtAs, IsOfMessage, message_is_in}
use Rattle.tipc_pair.proofs.turns.EndTraces.{ComesWhole}
use Rattle.tipc_pair.proofs.turns.PairTraces.{OpensBrought, first_by, keeps_of, pair_of, turn_by}

-- ---- the frame that arrives

-- The arrival of that number, on a bearer, is of a frame in the air with these bytes: a packet of the node that sent it, under an envelope.
pub record IsCarried (seen : Seen) (bearer number : ℕ) (bytes : List ℕ) : Type 0 where
  pub frame : Sent
  pub arrived : arrived_frame seen bearer number ≡ Some frame
  pub bytes_are : frame.frame ≡ bytes
  pub sender : ℕ
  pub from : frame.from.word ≡ node_word sender
  -- a link packet came in a frame for one node
  pub one : kind_in bytes ≡ Links → (address : Addr) × (frame.to ≡ to.Node address)
  -- and a broadcast packet in one for all
  pub all : kind_in bytes ≡ Casts → frame.to ≡ to.All
  pub es : ℕ
  pub er : ℕ
  pub packet : Fields
  pub is_from : IsFrom sender bytes es er packet

-- so is that of a step, where it is an arrival, and it is the last one
abbrev pub AreCarried : Seen → NodeStep → List ℕ → Type 0
AreCarried seen s bytes = (bearer number : ℕ) → s.event ≡ event.Arrive bearer number → (bearer ≤ 1) × IsCarried seen bearer number bytes × (length seen.arrivals ≡ number + 1)

-- the node that a packet names as its sender sent it
pub sender_is : (seen : Seen) (bearer number : ℕ) (bytes : List ℕ) (b es er : ℕ) (p : Fields) → (c : IsCarried seen bearer number bytes) → IsFrom b bytes es er p → c.frame.from.word ≡ node_word b
sender_is seen bearer number bytes b es er p c h = c.from ∙ ap node_word (same_sender c.sender b bytes c.es c.er es er c.packet p c.is_from h)

-- and what its packet brings was brought
carried_brings : (seen : Seen) (bearer number : ℕ) (bytes : List ℕ) (b es er : ℕ) (p : Fields) (packet : List ℕ) → IsCarried seen bearer number bytes → IsFrom b bytes es er p → kind_in bytes ≡ Links → Brings p packet → HasBrought seen Zero (addr_of b) number packet
carried_brings seen bearer number bytes b es er p packet c h link brings = record {
  bearer = bearer;
  frame = c.frame;
  arrived = c.arrived;
  from = sender_is seen bearer number bytes b es er p c h;
  sent = c.one link;
  es = es;
  er = er;
  packet = p;
  fits = h.fits;
  frame_is = c.bytes_are ∙ h.frame_is;
  brings = brings;
}

pub carried_whole : (seen : Seen) (bearer number : ℕ) (bytes : List ℕ) (b es er : ℕ) (p : Fields) → IsCarried seen bearer number bytes → IsFrom b bytes es er p → kind_in bytes ≡ Links → ComesWhole (HasBrought seen Zero (addr_of b)) number (spelling (as_waiting p))
carried_whole seen bearer number bytes b es er p c h link = record {
  itself = carried_brings seen bearer number bytes b es er p (spelling (as_waiting p)) c h link itself;
  inside = λ t is. carried_brings seen bearer number bytes b es er p (restored t.inner) c h link (inside t is);
}

opening_brought : (seen : Seen) (s : NodeStep) (bytes : List ℕ) (b : ℕ) (opening : Opening) → Suits s.event opening → IsBrought b bytes opening → AreCarried seen s bytes → OpensBrought (HasBrought seen Zero (addr_of b)) opening
opening_brought seen s bytes b (hears bearer es er p by shown) suits brought carried = carried_whole seen bearer by bytes b es er p (carried bearer by suits).1 brought.0 brought.1
opening_brought seen s bytes b other suits brought carried = tt

-- ---- the air and the arrivals grow

pub came_weaker : (P Q : ℕ → List ℕ → Type 0) → ((by : ℕ) (bytes : List ℕ) → P by bytes → Q by bytes) → (o : Option Taken) → CameBy P o → CameBy Q o
came_weaker P Q more None h = tt
came_weaker P Q more (Some t) h = more t.by t.packet h

holds_weaker : (P Q : ℕ → List ℕ → Type 0) → ((by : ℕ) (bytes : List ℕ) → P by bytes → Q by bytes) → (o : Option LinkEnd) → HoldsBy P o → HoldsBy Q o
holds_weaker P Q more None h = h
holds_weaker P Q more (Some e) h = λ r is. All-weaker (CameBy P) (CameBy Q) (came_weaker P Q more) r.held (h r is)

pub keeps_weaker : (P Q : ℕ → List ℕ → Type 0) → ((by : ℕ) (bytes : List ℕ) → P by bytes → Q by bytes) → (x : PairEnds) → KeepsBy P x → KeepsBy Q x
keeps_weaker P Q more x k = record { near = holds_weaker P Q more x.near k.near; far = holds_weaker P Q more x.far k.far; begun = begun_weaker P Q more x.begun k.begun }

pub traced_wider : (old new : Seen) (xs : List (Option Neighbour)) → Widens old new → AreTraced old xs → AreTraced new xs
traced_wider old new xs w h p x is = keeps_weaker (HasBrought old Zero (addr_of p)) (HasBrought new Zero (addr_of p)) (λ by bytes b. brought_wider old new Zero (addr_of p) by bytes w b) x.pair (h p x is)

-- ---- the messages

-- an arrival that is there has a number
number_below : (seen : Seen) (bearer number : ℕ) (f : Sent) → arrived_frame seen bearer number ≡ Some f → number < length seen.arrivals
unfolding arrived_frame
number_below seen bearer number f is = case (slice_get seen.arrivals number) refl
  where
    case : (o : Option Arrived) → slice_get seen.arrivals number ≡ o → number < length seen.arrivals
    case None none = let wrong : None ≡ Some f = sym (ap (option_and_then (frame_in seen.air bearer)) none) ∙ is in absurd cc
    case (Some x) some = slice_get_within seen.arrivals number x some

-- what was brought until now was brought in this step, or before it
pub brought_by_now : (seen : Seen) (s : NodeStep) (flow : Flow) (peer : Addr) (bearer number : ℕ) → s.event ≡ event.Arrive bearer number → length seen.arrivals ≡ number + 1 → (by : ℕ) (bytes : List ℕ) → HasBrought seen flow peer by bytes
    → HasBrought seen flow peer by bytes × IsBy s by
brought_by_now seen s flow peer bearer number is size by bytes b =
    let below = number_below seen b.bearer by b.frame b.arrived in
    (b, record { bearer = bearer; number = number; event_is = is; until = omega (arith, below, size) })

-- the message of what was given is spelled
abbrev pub IsGivenSpelled : Seen → NodeStep → ℕ → Opened → Type 0
IsGivenSpelled seen s q (Whole packet by) = (m : Message) → message_in packet ≡ Some m → IsSpelled seen s Zero (addr_of q) m by
IsGivenSpelled seen s q (Passed place) = Unit {0}

-- an arrival that brings messages spells them
given_spelled : (seen : Seen) (s : NodeStep) (q bearer number : ℕ) (opened : List Opened) → s.event ≡ event.Arrive bearer number → length seen.arrivals ≡ number + 1
    → All (IsOpenedBy (HasBrought seen Zero (addr_of q))) opened → Each (IsOfMessage (node_word q)) (packets_in opened) → All (IsGivenSpelled seen s q) opened
given_spelled seen s q bearer number [] is size traced known = All-nil (IsGivenSpelled seen s q)
given_spelled seen s q bearer number (Whole packet by ∷ os) is size traced known =
    let P = HasBrought seen Zero (addr_of q) in
    let first = known 0 packet refl in
    let one : IsGivenSpelled seen s q (Whole packet by) = λ m has.
    let same : first.0 ≡ m = (let e : Some first.0 ≡ Some m = sym (message_is_in (node_word q) first.0 packet first.1 first.2) ∙ has in cc) in
    subst (λ k. IsSpelled seen s Zero (addr_of q) k by) same
    (subst (λ bs. IsTraced (λ n b. P n b × IsBy s n) bs by) (sym first.2) (traced_weaker P (λ n b. P n b × IsBy s n) (brought_by_now seen s Zero (addr_of q) bearer number is size) packet by (All-head (IsOpenedBy P) (Whole packet by) os traced))) in
    All-cons (IsGivenSpelled seen s q) (Whole packet by) os one
    (given_spelled seen s q bearer number os is size (All-tail (IsOpenedBy P) (Whole packet by) os traced) (λ k p there. known (suc k) p there))
given_spelled seen s q bearer number (Passed place ∷ os) is size traced known =
    All-cons (IsGivenSpelled seen s q) (Passed place) os tt
    (given_spelled seen s q bearer number os is size (All-tail (IsOpenedBy (HasBrought seen Zero (addr_of q))) (Passed place) os traced) known)

-- what happens first spells what it gives
nothing_spelled : (seen : Seen) (s : NodeStep) (b : ℕ) (c : Course) (o : Outset) → o ≡ record { course = c; given = PairOutcome.Took [] } → All (IsGivenSpelled seen s b) (opened_in o.given)
nothing_spelled seen s b c o is = subst (λ (p : Outset). All (IsGivenSpelled seen s b) (opened_in p.given)) (sym is) (All-nil (IsGivenSpelled seen s b))

first_spelled : (seen : Seen) (s : NodeStep) (bytes : List ℕ) (b : ℕ) (x : PairEnds) (opening : Opening) (o : Outset) → Suits s.event opening → AreCarried seen s bytes → All (IsOpenedBy (HasBrought seen Zero (addr_of b))) (opened_in o.given)
    → Each (IsOfMessage (node_word b)) (packets_in (opened_in o.given)) → Happened x opening o → All (IsGivenSpelled seen s b) (opened_in o.given)
first_spelled seen s bytes b x rests o suits carried k known is = nothing_spelled seen s b _ o is
first_spelled seen s bytes b x (makes bearer is_mended) o suits carried k known is = nothing_spelled seen s b _ o is
first_spelled seen s bytes b x (mends bearer) o suits carried k known is = nothing_spelled seen s b _ o is
first_spelled seen s bytes b x (cuts bearer) o suits carried k known is = nothing_spelled seen s b _ o is
first_spelled seen s bytes b x (ticks shown) o suits carried k known is = nothing_spelled seen s b _ o is
first_spelled seen s bytes b x (hears bearer es er p by shown) o suits carried k known is = given_spelled seen s b bearer by (opened_in o.given) suits (carried bearer by suits).2 k known

-- ---- the turn at a peer, and at all

-- what the pair keeps after its turn came by arrivals, and what it gave is spelled by them
record PeerTraced (seen : Seen) (s : NodeStep) (b : ℕ) (o : Outset) (x' : PairEnds) : Type 0 where
  keeps : KeepsBy (HasBrought seen Zero (addr_of b)) x'
  spelled : All (IsGivenSpelled seen s b) (opened_in o.given)

peer_traced : (seen : Seen) (own : ℕ) (bytes : List ℕ) (s : NodeStep) (frames : List Outgoing) (b : ℕ) (x x' : PairEnds) (t : PeerTurn own bytes s frames b x x') → KeepsBy (HasBrought seen Zero (addr_of b)) x → AreCarried seen s bytes
    → AreBroughtAs (node_word b) x t.turn.first → PeerTraced seen s b t.turn.first x'
peer_traced seen own bytes s frames b x x' t k carried brings =
    let P = HasBrought seen Zero (addr_of b) in
    let h = pair_of P x k in
    let came = opening_brought seen s bytes b t.opening t.suits t.brought carried in
    let first = first_by P x t.opening t.turn.first h came t.turn.happened in
    record {
      keeps = keeps_of P x' (turn_by P x t.opening _ t.reply x' t.own_frames h came t.turn);
      spelled = first_spelled seen s bytes b x t.opening t.turn.first t.suits carried first.opened brings.known t.turn.happened;
    }

-- what is kept of another node came by arrivals, also of a stranger, of which nothing is kept
traced_with : (seen : Seen) (n : NodeState) (b : ℕ) → AreTraced seen n.neighbours → KeepsBy (HasBrought seen Zero (addr_of b)) (pair_with n b)
traced_with seen n b h = kept_by (KeepsBy (HasBrought seen Zero (addr_of b))) n b (λ none. record { near = tt; far = tt; begun = begun_none (HasBrought seen Zero (addr_of b)) }) (h b)

-- all that was given in a turn by another node is spelled
abbrev pub AreGivenSpelled : (seen : Seen) (a : ℕ) (n n' : NodeState) (bytes : List ℕ) (s : NodeStep) (frames : List Outgoing) → NodeTurn n n' bytes s frames → Type 0
AreGivenSpelled seen a n n' bytes s frames t = (b : ℕ) → IsNumber b → b ≢ a → All (IsGivenSpelled seen s b) (opened_in (t.turns b).turn.first.given)

pub turn_spelled : (seen : Seen) (a : ℕ) (n n' : NodeState) (bytes : List ℕ) (s : NodeStep) (frames : List Outgoing) (t : NodeTurn n n' bytes s frames) → AreTraced seen n.neighbours → AreCarried seen s bytes → AreBrought a n n' bytes s frames t
    → AreGivenSpelled seen a n n' bytes s frames t
turn_spelled seen a n n' bytes s frames t h carried brings b number apart =
    (peer_traced seen n.own bytes s frames b (pair_with n b) (pair_with n' b) (t.turns b) (traced_with seen n b h) carried (brings b number apart)).spelled

pub turn_traced : (seen : Seen) (a : ℕ) (n n' : NodeState) (bytes : List ℕ) (s : NodeStep) (frames : List Outgoing) (t : NodeTurn n n' bytes s frames) → AreTraced seen n.neighbours → AreCarried seen s bytes → AreBrought a n n' bytes s frames t
    → ((b : ℕ) → is_some (neighbour_of n' b) ≡ true → IsNumber b × (b ≢ a)) → AreTraced seen n'.neighbours
turn_traced seen a n n' bytes s frames t h carried brings other b y is =
    let peer = other b (ap is_some is) in
    subst (KeepsBy (HasBrought seen Zero (addr_of b))) (pair_there n' b y is)
    (peer_traced seen n.own bytes s frames b (pair_with n b) (pair_with n' b) (t.turns b) (traced_with seen n b h) carried (brings b peer.0 peer.1)).keeps
