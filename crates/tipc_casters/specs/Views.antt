-- A caster and its members as a world tells of them, by what can be looked up there. That they are cast says what they did besides: the start of each
-- contact, the packets that messages took, and frames that were lost.
use Rattle.std.specs.Prelude.{◌≡◌, ◌⊎◌, ◌<◌, ◌≤◌, ◌+◌, ◌^◌, ℕ, All, List, map, is_some, slice_get, Option, Some}
use Rattle.std.specs.List.{Contains}
use Rattle.tipc_types.specs.Address.{IsNodeWord}
use Rattle.tipc_types.specs.Position.{number_of}
use Rattle.tipc_types.specs.Prefixes.{IsPrefixOf}
use Rattle.tipc_types.specs.declared.identity.To.TheVariants as to
use Rattle.tipc_types.specs.declared.packet_lists.Taken.{Taken}
use Rattle.tipc_outside.specs.declared.outgoing.Outgoing.{Outgoing}
use Rattle.tipc_header.specs.Frames.{frame_of, stamped}
use Rattle.tipc_fragments.specs.Joining.{fresh, Joining}
use Rattle.tipc_reassembly.specs.declared.opening.Opened.{Opened}
use Rattle.tipc_reassembly.specs.Opening.{BringsAll}
use Rattle.tipc_reassembly.specs.Slots.{packets_in}
use Rattle.tipc_broadcast.specs.declared.contacts.Contact.{Contact}
use Rattle.tipc_broadcast.specs.Casting.{Casting}
use Rattle.tipc_broadcast.specs.Contacts.{is_member}
use Rattle.tipc_broadcast_law.specs.Groups.{Accepted, accepted_for}
use Rattle.tipc_casters.specs.Messages.{ArePiecesOf}
use Rattle.tipc_casters.specs.Sights.{Aired, boot_in, CasterSight, contact_of, IsCast, MemberSight, Told}

-- ---- what is looked up

-- A caster. Members are named by their address words, and contacts by one number, as in its sight; messages are told by the contact's numbers, the
-- caster's first, each as its packet.
pub record CasterView : Type 0 where
  -- its broadcast link, and how many numbers it used in each boot
  pub casting : Casting
  pub numbered : ℕ → ℕ
  -- the contact in which it is with each member, and all that it entered
  pub joined : ℕ → Option ℕ
  pub entered : ℕ → List ℕ
  -- the messages that were accepted for a member in a contact
  pub put : ℕ → ℕ → ℕ → List (List ℕ)
  -- every broadcast frame of it in the air, with how many had a number after the event that sent it
  pub sent : List Aired

-- a member
pub record MemberView : Type 0 where
  -- the contact in which it is with the caster, and all that it entered
  pub at : Option ℕ
  pub entered : List ℕ
  -- what its broadcast link keeps of the caster
  pub heard : Option Contact
  -- the messages that were delivered from the caster in a contact, and the one that is begun
  pub given : ℕ → ℕ → List (List ℕ)
  pub begun : Joining
  -- the STATEs in the air from it to the caster, and from the caster to it
  pub told : List Told
  pub hears : List Told

-- ---- how they stand to what the two did

-- two numbers of a contact
abbrev pub AreContactNumbers : ℕ → ℕ → Type 0
AreContactNumbers caster member = (caster < 2 ^ 64) × (member < 2 ^ 64)

-- a frame is among those that the caster sent, for which at least as many had a number
abbrev pub IsAmongSent : List Aired → Aired → Type 0
IsAmongSent sent f = (stamp : ℕ) × Contains sent (record { frame = f.frame; stamp = stamp }) × (f.stamp ≤ stamp)

-- another node
abbrev pub IsOther : CasterView → ℕ → Type 0
IsOther v m = IsNodeWord m × (m ≡ v.casting.own → ⊥)

-- a caster did what is looked up of it: its broadcast link, numbers and contacts are the same; it entered each contact
-- that began; what it put for a member are the packets of the messages that were accepted; and it sent at least the frames
-- that are in the air
pub record IsCasterSeen (a : CasterSight) (v : CasterView) : Type 0 where
  pub casting : a.casting ≡ v.casting
  pub numbered : (f : ℕ) → a.numbered f ≡ v.numbered f
  pub joined : (m : ℕ) → IsOther v m → a.joined m ≡ v.joined m
  pub begun : (m c s : ℕ) → IsOther v m → a.begun m c ≡ Some s → Contains (v.entered m) c
  pub put : (m own theirs : ℕ) → IsOther v m → AreContactNumbers own theirs → ArePiecesOf (v.put m own theirs) (a.put m (contact_of own theirs))
  pub sent : All (IsAmongSent a.sent) v.sent

-- these packets were taken one after the other, and are joined to these messages; this one is begun
pub record IsJoinedOf (packets messages : List (List ℕ)) (begun : Joining) : Type 0 where
  pub taken : List Taken
  pub packets_are : map (λ (t : Taken). t.packet) taken ≡ packets
  pub opened : List Opened
  pub brings : BringsAll fresh taken opened begun
  pub messages_are : packets_in opened ≡ messages

-- what a member was given in a contact; what is begun is of the present one
pub record IsGivenIn (packets messages : List (List ℕ)) (at : Option ℕ) (contact : ℕ) (begun : Joining) : Type 0 where
  pub last : Joining
  pub joined : IsJoinedOf packets messages last
  pub present : at ≡ Some contact → last ≡ begun

-- a member did what is looked up of it: its contact and what it keeps of the caster are the same; the packets that it was
-- given are joined to the messages that were delivered; and at least the STATEs that are in the air were told
pub record IsMemberSeen (s : MemberSight) (w : MemberView) : Type 0 where
  pub at : s.at ≡ w.at
  pub last : (s.last ≡ 0) ⊎ Contains w.entered s.last
  pub heard : s.heard ≡ w.heard
  pub given : (own theirs : ℕ) → AreContactNumbers own theirs
      → IsGivenIn (s.given (contact_of own theirs)) (w.given own theirs) w.at (contact_of own theirs) w.begun
  pub told : All (Contains s.told) w.told
  pub hears : All (Contains s.hears) w.hears

-- A caster and its members are cast: by what they did they stand in the law of broadcast.
pub record AreCastSeen (v : CasterView) (ws : ℕ → MemberView) : Type 0 where
  pub caster_sight : CasterSight
  pub member_sights : ℕ → MemberSight
  pub cast : IsCast caster_sight member_sights
  pub caster : IsCasterSeen caster_sight v
  pub members : (m : ℕ) → IsOther v m → IsMemberSeen (member_sights m) (ws m)

-- ---- what follows

-- A broadcast frame to all brings the packet at a place of what its sender accepted in a boot, under the number of that place, for just the nodes of
-- its set.
pub record IsCastOf (lines : ℕ → List Accepted) (own : ℕ) (o : Outgoing) : Type 0 where
  pub to_all : o.to ≡ to.All
  pub boot : ℕ
  pub place : ℕ
  pub entry : Accepted
  pub there : slice_get (lines boot) place ≡ Some entry
  pub set : ℕ
  pub set_fits : set < 2 ^ 32
  pub members : (node : ℕ) → IsNodeWord node → is_member node set ≡ is_some (entry.members node)
  pub bytes : o.frame ≡ frame_of boot set (stamped 0 (number_of (place + 1)) own entry.packet)

-- What a caster accepted are packets, in each boot one list: those for a member in a contact are of the messages that were accepted for it. And each
-- broadcast frame in the air brings one of them.
pub record AreCastTrue (v : CasterView) : Type 0 where
  pub lines : ℕ → List Accepted
  pub put : (m own theirs : ℕ) → IsOther v m → AreContactNumbers own theirs
      → ArePiecesOf (v.put m own theirs) (accepted_for m (contact_of own theirs) (lines (boot_in (contact_of own theirs))))
  pub sent : All (λ (f : Aired). IsCastOf lines v.casting.own f.frame) v.sent

-- so it is
abbrev pub CastsAreTrue : Type 0
CastsAreTrue = (v : CasterView) (ws : ℕ → MemberView) → AreCastSeen v ws → AreCastTrue v

-- In each contact the messages that a member was given are a front of those that were accepted for it.
abbrev pub FrontsAreCast : Type 0
FrontsAreCast = (v : CasterView) (ws : ℕ → MemberView) → AreCastSeen v ws → (m own theirs : ℕ) → IsOther v m → AreContactNumbers own theirs
    → IsPrefixOf ((ws m).given own theirs) (v.put m own theirs)
