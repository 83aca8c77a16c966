-- What is read of a broadcast frame: its envelope holds the boot and the set of members, and the packet in it comes as it was accepted.
use Rattle.std.specs.Prelude.{◌≡◌, ◌<◌, ◌≤◌, ◌^◌, ℕ, All, length}
use Rattle.tipc_types.specs.Limits.{most_frame_bytes}
use Rattle.tipc_types.specs.declared.identity.To.TheVariants as to
use Rattle.tipc_outside.specs.declared.outgoing.Outgoing.{Outgoing}
use Rattle.tipc_header.specs.declared.frames.FrameKind.TheVariants.{Casts}
use Rattle.tipc_header.specs.Frames.{frame_of, kind_of}
use Rattle.tipc_header.specs.Grammar.{Fits}
use Rattle.tipc_header.specs.Spelling.{Fields, spelling}
use Rattle.tipc_broadcast.specs.Contacts.{carried}
use Rattle.tipc_casters.specs.Sights.{Aired, CasterSight, IsCast, MemberSight, ReadsAs}

-- What is decoded of the bytes of a frame of the caster is how it stands in the law: these are its boot and members, and what the arrival
-- brings is the packet with its number.
abbrev pub FramesAreRead : Type 0
FramesAreRead = (a : CasterSight) (ms : ℕ → MemberSight) (h : IsCast a ms) (f : Aired) (boot members by : ℕ) (p : Fields) → boot < 2 ^ 64 → members < 2 ^ 64
    → Fits p → f.frame.frame ≡ frame_of boot members (spelling p) → ReadsAs h.group a.casting.own f boot members (carried p by)

-- A frame as the caster writes it: to all, under a boot and a set of members, a packet that names the caster, in at most 1,516 bytes.
pub record IsWritten (own : ℕ) (o : Outgoing) : Type 0 where
  pub to_all : o.to ≡ to.All
  pub boot : ℕ
  pub boot_fits : boot < 2 ^ 32
  pub set : ℕ
  pub set_fits : set < 2 ^ 32
  pub packet : Fields
  pub fits : Fits packet
  pub previous : packet.previous ≡ own
  pub kind : kind_of 0 packet.header ≡ Casts
  pub bytes : o.frame ≡ frame_of boot set (spelling packet)
  pub whole : 16 ≤ length o.frame
  pub short : length o.frame ≤ most_frame_bytes

-- every broadcast frame that the caster ever sent is so
abbrev pub FramesAreWritten : Type 0
FramesAreWritten = (a : CasterSight) (ms : ℕ → MemberSight) → IsCast a ms → All (λ (f : Aired). IsWritten a.casting.own f.frame) a.sent
