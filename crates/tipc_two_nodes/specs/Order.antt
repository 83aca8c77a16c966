-- The order of the contacts of two nodes, as a world tells of them: which contacts each of them was in, and that neither takes an older
-- one for a younger.
use Rattle.std.specs.Prelude.{◌≡◌, ◌<◌, ◌≤◌, ◌⊎◌, ℕ, ◌^◌, true, false, List, [], ◌∷◌, ◌++◌, Some, slice_get}
use Rattle.tipc_types.specs.LinkStates.{is_up}
use Rattle.tipc_types.specs.declared.link_words.BroadcastState.{BroadcastState}
use Rattle.tipc_types.specs.declared.link_words.Why.TheVariants as why
use Rattle.tipc_header.specs.Frames.{frame_of}
use Rattle.tipc_header.specs.Grammar.{Fits}
use Rattle.tipc_header.specs.Spelling.{Fields, spelling}
use Rattle.tipc_link.specs.Links.{LinkEnd, is_traffic}
use Rattle.tipc_link.specs.Parts.{IsShowable}
use Rattle.tipc_pair.specs.declared.changes.PairOutcome.{PairOutcome}
use Rattle.tipc_pair.specs.Facing.{PairEnds, in_contact}
use Rattle.tipc_pair.specs.PairTurns.{Happened, Opening, Outset}
use Rattle.tipc_paired.specs.Views.{Frame}
use Rattle.tipc_two_nodes.specs.Carriages.{BeganIn}
use Rattle.tipc_two_nodes.specs.Reaching.{Steps}
use Rattle.tipc_two_nodes.specs.Sights.{AreSeen, Comes, Sight, pair_seen}
use Rattle.tipc_two_nodes.specs.Talkers.{Talker}

-- ---- the contacts that a node was in

-- a contact, by the numbers that its two nodes have in it: the node's own, and the peer's
pub record Contact : Type 0 where
  pub own : ℕ
  pub theirs : ℕ

-- the contact in which a node is now, where it is in one
abbrev pub present_contact : Sight → Contact
present_contact v = record { own = v.node.contact; theirs = v.node.seen }

-- a session of the node began in this contact
abbrev pub WasIn : Talker → Contact → Type 0
WasIn x c = (bearer : ℕ) × (epoch : ℕ) × BeganIn x.view bearer epoch c.own c.theirs

-- and in each of these
abbrev pub WasInEach : Talker → List Contact → Type 0
WasInEach x contacts = (k : ℕ) (c : Contact) → slice_get contacts k ≡ Some c → WasIn x c

-- Two nodes are talking, and so far were in these contacts, each by its own number first.
pub record HaveMet (v w : Sight) (here there : List Contact) : Type 0 where
  pub seen : AreSeen v w
  pub were_here : WasInEach seen.here here
  pub were_there : WasInEach seen.there there

-- ---- frames and links

-- a frame in the air that w sent on this bearer: it is this packet under these epochs
pub record IsInAir (w : Sight) (bearer es er : ℕ) (p : Fields) (f : Frame) : Type 0 where
  pub place : ℕ
  pub there : slice_get w.sent place ≡ Some f
  pub bearer_is : f.bearer ≡ bearer
  pub es_fits : es < 2 ^ 64
  pub er_fits : er < 2 ^ 64
  pub fits : Fits p
  pub bytes : f.bytes ≡ frame_of es er (spelling p)

-- the link of v on this bearer is up under these epochs, its own and the peer's
pub record IsUpUnder (v : Sight) (bearer own peer : ℕ) : Type 0 where
  pub end : LinkEnd
  pub end_is : v.ends bearer ≡ Some end
  pub up : is_up end.fsm.state ≡ true
  pub own_is : end.fsm.own ≡ own
  pub peer_is : end.fsm.peer ≡ Some peer

-- the pair didn't ignore a packet for want of a link end, or as one of another session
pub record WasHeard (given : PairOutcome) : Type 0 where
  pub unknown : given ≡ PairOutcome.Ignored why.Unknown → ⊥
  pub epoch : given ≡ PairOutcome.Ignored why.Epoch → ⊥

-- the pair is in the contact in which the frame was told
pub record IsOfPresent (f : Frame) (x : PairEnds) : Type 0 where
  pub there : in_contact x ≡ true
  pub theirs : f.contact ≡ x.seen
  pub own : f.peer_contact ≡ x.contact

-- ---- what holds, whatever either does

-- two nodes that are talking may be told of with no contact
abbrev pub NoneMet : Type 0
NoneMet = (v w : Sight) → AreSeen v w → HaveMet v w [] []

-- what holds of the one and the other holds of the other and the one
abbrev pub TurnedMet : Type 0
TurnedMet = (v w : Sight) (here there : List Contact) → HaveMet v w here there → HaveMet w v there here

-- a node that is in contact was in that contact
abbrev pub EntersMet : Type 0
EntersMet = (v w : Sight) (here there : List Contact) → HaveMet v w here there → in_contact (pair_seen v) ≡ true
    → HaveMet v w (here ++ present_contact v ∷ []) there

-- whatever a node does then, it was in these contacts
abbrev pub StepsMet : Type 0
StepsMet = (v v' w : Sight) (here there : List Contact) → HaveMet v w here there → Steps v w v' → HaveMet v' w here there

-- ---- the order

-- no node has seen a higher number of the other than the other has
abbrev pub SeenNoHigher : Type 0
SeenNoHigher = (v w : Sight) → AreSeen v w → v.node.seen ≤ w.node.contact

-- two nodes that are both in contact are in the same one
abbrev pub BothInOne : Type 0
BothInOne = (v w : Sight) → AreSeen v w → in_contact (pair_seen v) ≡ true → in_contact (pair_seen w) ≡ true
    → (v.node.contact ≡ w.node.seen) × (v.node.seen ≡ w.node.contact)

-- Each contact that a node was in before the present one had a lower own number, and no higher number of the peer.
abbrev pub EnteredRise : Type 0
EnteredRise = (v w : Sight) (here there : List Contact) (k : ℕ) (c : Contact) → HaveMet v w here there
    → slice_get here k ≡ Some c → in_contact (pair_seen v) ≡ true
    → (c ≡ present_contact v) ⊎ ((c.own < v.node.contact) × (c.theirs ≤ v.node.seen))

-- Out of contact each contact that the node was in had a lower own number than the next one will have.
abbrev pub EnteredPast : Type 0
EnteredPast = (v w : Sight) (here there : List Contact) (k : ℕ) (c : Contact) → HaveMet v w here there
    → slice_get here k ≡ Some c → in_contact (pair_seen v) ≡ false → c.own < v.node.contact

-- No contact that a node was in is younger than the one in which the other is, by either number.
abbrev pub EnteredNotYounger : Type 0
EnteredNotYounger = (v w : Sight) (here there : List Contact) (k : ℕ) (c : Contact) → HaveMet v w here there
    → slice_get here k ≡ Some c → in_contact (pair_seen w) ≡ true → (c.own ≤ w.node.seen) × (c.theirs ≤ w.node.contact)

-- A STATE or a numbered packet of the session in which a link is up was told in the contact in which the node is.
abbrev pub SessionInContact : Type 0
SessionInContact = (v w : Sight) (bearer es er : ℕ) (p : Fields) (f : Frame) → AreSeen v w → IsInAir w bearer es er p f
    → is_traffic p.header ≡ true → IsUpUnder v bearer er es
    → (f.contact ≡ v.node.seen) × (f.peer_contact ≡ v.node.contact)

-- So was one that arrives and that the pair hears: then the pair is in the contact in which it was told.
abbrev pub HeardInContact : Type 0
HeardInContact = (v w : Sight) (bearer es er : ℕ) (p : Fields) (by : ℕ) (shown : BroadcastState) (o : Outset) → AreSeen v w
    → bearer ≤ 1 → (c : Comes v w bearer es er p) → IsShowable shown → is_traffic p.header ≡ true
    → Happened (pair_seen v) (Opening.hears bearer es er p by shown) o → WasHeard o.given → IsOfPresent c.frame o.course.pair
