-- One node that broadcasts, the caster, and any number of members, over all boots of the caster. A packet's place is
-- its place in the list of all packets that were accepted in one boot, from 0 on.
use Rattle.std.specs.Prelude.{ℕ, ◌-◌, ◌==◌, Bool, false, List, length, take, drop, filter, map, slice_get, unwrap_or, Option, Some, None, if◌then◌else◌}

-- a packet that was accepted: its bytes, and for each member the contact in which it is for that member, if it is
pub record Accepted : Type 0 where
  pub packet : List ℕ
  pub members : ℕ → Option ℕ

-- the caster by itself: its present boot, and of each boot the packets that were accepted and how many of them were
-- numbered or passed over
pub record Caster : Type 0 where
  pub boot : ℕ
  pub line : ℕ → List Accepted
  pub numbered : ℕ → ℕ

-- One member. Its contacts with the caster have rising numbers.
pub record Member : Type 0 where
  -- the caster's boot in each contact
  pub boots : ℕ → ℕ
  -- at the caster: the contact in which it is with the member, and how many places the member acknowledged in it
  pub joined : Option ℕ
  pub acked : ℕ
  -- the start of each contact that the caster began: the first place that is for the member
  pub begun : ℕ → Option ℕ
  -- at the member: the contact in which it is with the caster, and the last one that it entered
  pub at : Option ℕ
  pub last : ℕ
  -- in each contact the place that it wants, once it was in step, and the packets that it took
  pub want : ℕ → Option ℕ
  pub out : ℕ → List (List ℕ)

-- the caster and its members, by number
pub record Group : Type 0 where
  pub caster : Caster
  pub members : ℕ → Member

-- a table in which one entry has become another
abbrev pub put : {A : Type 0} → ℕ → A → (ℕ → A) → ℕ → A
put k x f = λ j. if j == k then x else f j

-- how many packets may wait: fewer than 200 and one message of 47 packets
abbrev pub queue : ℕ
queue = 246

-- the contact in which the packet is for a member
abbrev pub mark_in : ℕ → Option Accepted → Option ℕ
mark_in m None = None
mark_in m (Some a) = a.members m

-- the contact in which the packet at a place is for a member
unfoldable pub mark : List Accepted → ℕ → ℕ → Option ℕ
mark line m x = mark_in m (slice_get line x)

-- the packets at the places from one up to another
unfoldable pub packets : ℕ → ℕ → List Accepted → List (List ℕ)
packets from to line = map (λ a. a.packet) (take (to - from) (drop from line))

-- the place up to which a member has everything in a contact: the place that it wants, or the start
unfoldable pub place : Member → ℕ → ℕ
place k c = unwrap_or (k.want c) (unwrap_or (k.begun c) 0)

-- whether there is a contact, and it is c
abbrev pub is_contact : ℕ → Option ℕ → Bool
is_contact c None = false
is_contact c (Some d) = d == c

-- the packets that were accepted for a member in a contact, in order
unfoldable pub accepted_for : ℕ → ℕ → List Accepted → List (List ℕ)
accepted_for m c line = map (λ a. a.packet) (filter (λ a. is_contact c (a.members m)) line)

-- how many packets the caster accepted in its present boot, and how many of them have numbers
abbrev pub length_now : Caster → ℕ
length_now a = length (a.line a.boot)

-- how many packets of its present boot have numbers, or were passed over
abbrev pub numbered_now : Caster → ℕ
numbered_now a = a.numbered a.boot
