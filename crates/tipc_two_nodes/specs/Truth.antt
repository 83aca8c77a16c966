-- What the frames of two nodes tell of their contacts: what was put into the packets that they carry, and what was
-- taken.
use Rattle.std.specs.Prelude.{◌≡◌, ◌≤◌, ℕ, ◌+◌, true, not, All, List, [], ◌∷◌, Some, filter, length, map, slice_get, take}
use Rattle.std.specs.List.{flat_map}
use Rattle.tipc_types.specs.Position.{number_of}
use Rattle.tipc_types.specs.Limits.{most_frame_bytes, most_tunnel_bytes}
use Rattle.tipc_header.specs.Frames.{frame_of}
use Rattle.tipc_header.specs.Grammar.{Fits}
use Rattle.tipc_header.specs.Spelling.{Fields, spelling}
use Rattle.tipc_fragments.specs.Joining.{Joining}
use Rattle.tipc_fragments.specs.Streams.{items_of}
use Rattle.tipc_reassembly.specs.Slots.{HasOpened, IsSlot, Slot, slot_bytes, slot_items}
use Rattle.tipc_link.specs.Links.{is_traffic}
use Rattle.tipc_link.specs.Records.{is_tunnel}
use Rattle.tipc_link.specs.Sessions.{Carries, content_of}
use Rattle.tipc_paired.specs.Views.{Frame, er_of, es_of}
use Rattle.tipc_two_nodes.specs.Sights.{AreSeen, Sight}

-- ---- what was sent

-- What crosses in a contact: all that was put, in slots, one for each packet: whole messages, bundles and fragments. Of
-- these slots the peer took the first so many, which gave it these messages.
pub record Crossing (put given : List (List ℕ)) : Type 0 where
  pub slots : List Slot
  pub sound : All IsSlot slots
  pub whole : flat_map slot_items slots ≡ flat_map items_of put
  pub taken : ℕ
  pub within : taken ≤ length slots
  pub begun : Joining
  pub gave : HasOpened (flat_map slot_items (take taken slots)) given begun

-- the slots that were taken
abbrev pub slots_taken : {put given : List (List ℕ)} → Crossing put given → List Slot
slots_taken c = take c.taken c.slots

-- What v sent w: the packets that it numbered, by bearer and epoch; and one list of slots for each contact, by v's
-- number and w's.
pub record HasSent (v w : Sight) : Type 0 where
  pub line : ℕ → ℕ → List (List ℕ)
  pub counts : (b epoch : ℕ) → length (line b epoch) ≡ v.numbered b epoch
  pub crossing : (own theirs : ℕ) → Crossing (v.put own theirs) (w.given theirs own)

-- ---- what packets hold

-- the first list is some of the second, in order
pub data AreSomeOf {A : Type 0} : List A → List A → Type 0 where
  none : (ys : List A) → AreSomeOf [] ys
  less : (xs : List A) (y : A) (ys : List A) → AreSomeOf xs ys → AreSomeOf xs (y ∷ ys)
  more : (x : A) (xs ys : List A) → AreSomeOf xs ys → AreSomeOf (x ∷ xs) (x ∷ ys)

-- those that are no tunnel packets
abbrev pub plain_packets : List (List ℕ) → List (List ℕ)
plain_packets packets = filter (λ packet. not (is_tunnel packet)) packets

-- Packets hold slots in order: those that are no tunnel packets are what some of the slots hold, in order; and each has
-- at most 1,500 bytes.
pub record HoldInOrder (packets : List (List ℕ)) (slots : List Slot) : Type 0 where
  pub plain : AreSomeOf (plain_packets packets) (map slot_bytes slots)
  pub sizes : All (λ packet. length packet ≤ most_tunnel_bytes) packets

-- a packet stands in a line at the position of its number
pub record IsNumbered (line : List (List ℕ)) (number : ℕ) (bytes : List ℕ) : Type 0 where
  pub position : ℕ
  pub number_is : number ≡ number_of (position + 1)
  pub there : slice_get line position ≡ Some bytes

-- ---- what a frame tells

-- A STATE or a numbered packet speaks the truth of a contact in which its node sends these slots and took those. What
-- it carries stands in the line of its session, at the position of its number, and that line holds the slots in order.
-- What it acknowledges is the first so many packets of the line that the peer numbered in that session, and they hold
-- slots that were taken, in order.
pub record SpeaksTruth (slots taken : List Slot) (line peer_line : List (List ℕ)) (p : Fields) : Type 0 where
  pub carried : (number : ℕ) (bytes : List ℕ) → content_of p ≡ Carries number bytes → IsNumbered line number bytes
  pub holds : HoldInOrder line slots
  pub told : ℕ
  pub told_is : p.acknowledgement ≡ number_of told
  pub within : told ≤ length peer_line
  pub acknowledged : HoldInOrder (take told peer_line) taken

-- The frames in the air that v sent w are true, where v sent this and w that.
abbrev pub SpeakTruly : (v w : Sight) → HasSent v w → HasSent w v → Type 0
SpeakTruly v w sent back = (k : ℕ) (f : Frame) (es er : ℕ) (p : Fields) → slice_get v.sent k ≡ Some f → Fits p
    → f.bytes ≡ frame_of es er (spelling p) → is_traffic p.header ≡ true
    → SpeaksTruth (sent.crossing f.contact f.peer_contact).slots (slots_taken (back.crossing f.peer_contact f.contact))
    (sent.line f.bearer (es_of f.bytes)) (back.line f.bearer (er_of f.bytes)) p

-- What each of the two sent the other can be told so that all that is said in the air, by either of them, is true.
pub record AreTrue (v w : Sight) : Type 0 where
  pub sent : HasSent v w
  pub back : HasSent w v
  pub told : SpeakTruly v w sent back
  pub told_there : SpeakTruly w v back sent

-- so a STATE or a numbered packet in the air says of the contact whose numbers stand beside it what is so
abbrev pub TruthsSeen : Type 0
TruthsSeen = (v w : Sight) → AreSeen v w → AreTrue v w

-- Each frame in the air has at most 1,516 bytes, of which 16 are the envelope.
abbrev pub FramesFit : Type 0
FramesFit = (v w : Sight) (k : ℕ) (f : Frame) → AreSeen v w → slice_get v.sent k ≡ Some f → length f.bytes ≤ most_frame_bytes
