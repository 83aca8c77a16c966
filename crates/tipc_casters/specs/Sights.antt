-- One caster and all its members, as they are seen from outside: what each keeps and did, and what of it is in the air.
use Rattle.std.specs.Prelude.{◌≡◌, true, ◌+◌, ◌*◌, ◌/◌, ◌<◌, ◌≤◌, ◌^◌, ℕ, All, List, [], length, IfSome, Option, Some}
use Rattle.tipc_types.specs.Limits.{most_packet_bytes}
use Rattle.tipc_types.specs.Position.{number_of}
use Rattle.tipc_types.specs.declared.link_words.BroadcastState.{BroadcastState}
use Rattle.tipc_types.specs.declared.packet_lists.Taken.{Taken}
use Rattle.tipc_outside.specs.declared.outgoing.Outgoing.{Outgoing}
use Rattle.tipc_send_window.specs.Sending.{IsSending}
use Rattle.tipc_broadcast.specs.declared.contacts.Contact.{Contact}
use Rattle.tipc_broadcast.specs.Contacts.{IsFree}
use Rattle.tipc_broadcast.specs.Casting.{Casting, IsCasting}
use Rattle.tipc_broadcast_law.specs.Groups.{Accepted, accepted_for, Group}
use Rattle.tipc_broadcast_law.specs.Law.{IsGroup}
use Rattle.tipc_broadcast_law.specs.Lines.{IsCastFrame, IsLined}
use Rattle.tipc_broadcast_law.specs.Listening.{IsListening, ToldNext}
use Rattle.tipc_broadcast_law.specs.Steps.{Casts, line_of, ToldPlace}
use Rattle.tipc_broadcast.specs.Pieces.{IsCastPiece}

-- ---- contacts

-- A contact is named by the numbers that its two nodes have in it, the caster's first: so the order is that of the caster's number.
abbrev pub contact_of : ℕ → ℕ → ℕ
contact_of caster member = caster * 2 ^ 64 + member

-- the caster's boot in a contact: the upper half of its number
abbrev pub boot_in : ℕ → ℕ
boot_in contact = contact / 2 ^ 96

-- ---- what is seen

-- a broadcast frame in the air; at most `stamp` were numbered in its boot after the event that sent it
pub record Aired : Type 0 where
  pub frame : Outgoing
  pub stamp : ℕ

-- the broadcast fields of a STATE in the air, the contact in which it was told, and how many the caster had numbered then
pub record Told : Type 0 where
  pub contact : ℕ
  pub stamp : ℕ
  pub seen : BroadcastState

-- The caster. Members are named by their address words, and contacts as above.
pub record CasterSight : Type 0 where
  -- its broadcast link, and how many numbers each boot used
  pub casting : Casting
  pub numbered : ℕ → ℕ
  -- the contact in which it is with each member, and the start of each contact that it began
  pub joined : ℕ → Option ℕ
  pub begun : ℕ → ℕ → Option ℕ
  -- by member and contact, the packets of the messages that were accepted for it
  pub put : ℕ → ℕ → List (List ℕ)
  -- every broadcast frame that it sent
  pub sent : List Aired

-- a member
pub record MemberSight : Type 0 where
  -- the contact in which it is with the caster, and the last one that it entered
  pub at : Option ℕ
  pub last : ℕ
  -- what its own broadcast link keeps of the caster
  pub heard : Option Contact
  -- by contact, the packets that it was given
  pub given : ℕ → List (List ℕ)
  -- the STATEs that it told the caster, and those that the caster told it
  pub told : List Told
  pub hears : List Told

-- ---- what is true of it

-- A packet that was accepted is one that the node can cast, of 16 to 1,452 bytes.
pub record IsSentPiece (own : ℕ) (packet : List ℕ) : Type 0 where
  pub piece : IsCastPiece own packet
  pub long : 16 ≤ length packet
  pub short : length packet ≤ most_packet_bytes

-- a frame in the air is one of a packet that has its number
abbrev pub IsAired : Group → ℕ → Aired → Type 0
IsAired g own f = IsCastFrame g.caster own f.stamp f.frame

-- a STATE of a member: where it says that it is in step, it tells a place that the member had in the contact in which it was told
abbrev pub IsToldBy : Group → ℕ → Told → Type 0
IsToldBy g m t = t.seen.in_step ≡ true → (place : ℕ) × (t.seen.acknowledged ≡ number_of place) × ToldPlace g m t.contact place t.stamp

-- a STATE of the caster to a member: it shows the start of the contact in which it was told, and the next number
abbrev pub IsToldTo : Group → ℕ → Told → Type 0
IsToldTo g m t = (s : ℕ) × ((g.members m).begun t.contact ≡ Some s) × (t.seen.start ≡ number_of (s + 1)) × ToldNext (g.members m) t.contact t.seen.next t.stamp

-- a member, as it stands in the law
pub record IsMember (g : Group) (m : ℕ) (s : MemberSight) : Type 0 where
  pub boots : (c : ℕ) → (g.members m).boots c ≡ boot_in c
  pub at : (g.members m).at ≡ s.at
  pub last : (g.members m).last ≡ s.last
  pub listens : IsListening g m s.heard
  pub free : IfSome s.heard (λ k. IsFree k.window)
  pub given : (c : ℕ) → (g.members m).out c ≡ s.given c
  pub told : All (IsToldBy g m) s.told
  pub hears : All (IsToldTo g m) s.hears

-- the caster, as it stands in the law
pub record IsCaster (g : Group) (a : CasterSight) : Type 0 where
  pub boot : g.caster.boot ≡ a.casting.boot
  pub numbered : (f : ℕ) → g.caster.numbered f ≡ a.numbered f
  pub window : IsSending a.casting.sending
  pub casting : IsCasting a.casting.own a.casting.sending a.casting.contacts
  pub stands : Casts g a.casting
  pub lined : IsLined (line_of g) a.casting
  pub joined : (m : ℕ) → (g.members m).joined ≡ a.joined m
  pub begun : (m c : ℕ) → (g.members m).begun c ≡ a.begun m c
  pub put : (m c : ℕ) → accepted_for m c (g.caster.line (boot_in c)) ≡ a.put m c
  pub sent : All (IsAired g a.casting.own) a.sent
  -- each packet that was accepted, in whatever boot, is one that the node can cast, and the boot has 32 bits
  pub spelled : (f : ℕ) → All (λ (e : Accepted). IsSentPiece a.casting.own e.packet) (g.caster.line f)
  pub boot_fits : a.casting.boot < 2 ^ 32
  -- in later boots nothing was done
  pub ahead : (f : ℕ) → g.caster.boot < f → (g.caster.line f ≡ []) × (g.caster.numbered f ≡ 0)

-- A caster and its members: they stand in the law of broadcast.
pub record IsCast (a : CasterSight) (ms : ℕ → MemberSight) : Type 0 where
  pub group : Group
  pub law : IsGroup group
  pub caster : IsCaster group a
  pub members : (m : ℕ) → IsMember group m (ms m)

-- ---- an arrival

-- what was read of a frame: however it stands in the law, these are its boot and members, and the packet with its number
abbrev pub ReadsAs : Group → ℕ → Aired → ℕ → ℕ → Taken → Type 0
ReadsAs g own f boot members t = (c : IsAired g own f) → (boot ≡ c.boot) × (members ≡ c.set) × (t.number ≡ number_of (c.place + 1)) × (t.packet ≡ c.packet)
