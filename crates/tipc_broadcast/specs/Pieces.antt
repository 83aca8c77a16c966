-- The packets that a node casts, the frames in which they wait and leave, and what every broadcast frame is.
use Rattle.std.specs.Prelude.{◌≡◌, ◌<◌, ◌≤◌, ◌^◌, All, ℕ, List, false, length}
use Rattle.tipc_types.specs.declared.identity.To.TheVariants as to
use Rattle.tipc_outside.specs.declared.outgoing.Outgoing.{Outgoing}
use Rattle.tipc_header.specs.declared.frames.FrameKind.TheVariants.{Casts}
use Rattle.tipc_header.specs.Frames.{first_of, is_of_link, kind_in, kind_of, sent_as}
use Rattle.tipc_header.specs.Grammar.{Fits}
use Rattle.tipc_header.specs.Spelling.{Fields, spelling}
use Rattle.tipc_broadcast.specs.Casting.{Casting}
use Rattle.tipc_broadcast.specs.Contacts.{previous_before}
use Rattle.tipc_broadcast.specs.Frames.{accepted_frame}

-- A packet that a node can put on its broadcast link: it acknowledges nothing, has no number and names the node where it isn't a fragment;
-- it can be sent under each number; and under a boot number it is a broadcast packet.
pub record IsCastPiece (own : ℕ) (packet : List ℕ) : Type 0 where
  pub fields : Fields
  pub spelled : packet ≡ spelling fields
  pub as_it_waits : fields ≡ sent_as 0 0 (previous_before fields.header own) fields
  pub fits : (number : ℕ) → number < 2 ^ 16 → Fits (sent_as 0 number own fields)
  pub kind : kind_of 0 fields.header ≡ Casts

-- the frame in which such a packet waits, for a set of members
pub record IsFramed (own boot : ℕ) (frame : List ℕ) : Type 0 where
  pub set : ℕ
  pub packet : List ℕ
  pub long : 16 ≤ length packet
  pub piece : IsCastPiece own packet
  pub is : frame ≡ accepted_frame own boot set packet

-- so it is with all that is unacknowledged, and all that waits
pub record AreFramed (v : Casting) : Type 0 where
  pub unacked : All (IsFramed v.own v.boot) v.sending.unacked
  pub waiting : All (IsFramed v.own v.boot) v.sending.waiting

-- a frame to all on one of the two bearers that brings a broadcast packet of this boot
pub record IsOfBroadcast (boot : ℕ) (o : Outgoing) : Type 0 where
  pub on_one : o.bearer ≤ 1
  pub to_is : o.to ≡ to.All
  pub first_is : first_of o.frame ≡ boot
  pub low : is_of_link o.frame ≡ false
  pub kind : kind_in o.frame ≡ Casts
