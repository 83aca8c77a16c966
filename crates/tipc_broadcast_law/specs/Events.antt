-- What may happen to a caster and its members. A packet that was numbered once may arrive anywhere at any time, and
-- again; so may a STATE of a contact.
use Rattle.std.specs.Prelude.{◌≡◌, ℕ, ◌+◌, ◌<◌, ◌≤◌, List, [], ◌∷◌, ◌++◌, Some, None}
use Rattle.tipc_types.specs.Limits.{window_size}
use Rattle.tipc_broadcast_law.specs.Groups.{Accepted, Caster, Group, length_now, mark, Member, numbered_now, packets, put, queue}

-- ---- at the caster

-- a packet is accepted for the members in contact
abbrev pub accepting_entry : Group → List ℕ → Accepted
accepting_entry g packet = record { packet = packet; members = λ m. (g.members m).joined }

-- the caster with one more accepted packet in its present boot
abbrev pub line_with : Caster → Accepted → Caster
line_with a x = record a { line = put a.boot (a.line a.boot ++ x ∷ []) a.line }

-- so many packets of the present boot have numbers
abbrev pub numbered_to : Caster → ℕ → Caster
numbered_to a n = record a { numbered = put a.boot n a.numbered }

-- the caster in its next boot, in which nothing was accepted yet
abbrev pub booted_again : Caster → Caster
booted_again a = record { boot = a.boot + 1; line = put (a.boot + 1) [] a.line; numbered = put (a.boot + 1) 0 a.numbered }

-- the member after the caster has left the contact with it
abbrev pub without_contact : Member → Member
without_contact k = record k { joined = None }

-- ---- at one member, or of it

-- the member after the caster came into contact c with it: the first place that is for it is `start`, and nothing is
-- acknowledged
abbrev pub joined_in : Member → ℕ → ℕ → Member
joined_in k c start = record k { joined = Some c; acked = start; begun = put c (Some start) k.begun }

-- the member after it came into contact c with the caster
abbrev pub entered : Member → ℕ → Member
entered k c = record k { at = Some c; last = c }

-- the member after it left its contact with the caster
abbrev pub left : Member → Member
left k = record k { at = None }

-- the member after it came in step in contact c: it wants the place `start`
abbrev pub in_step_from : Member → ℕ → ℕ → Member
in_step_from k c start = record k { want = put c (Some start) k.want }

-- the member after it took the packet at the place w, in contact c
abbrev pub taking : Member → ℕ → ℕ → List (List ℕ) → Member
taking k c w packet = record k { want = put c (Some (w + 1)) k.want; out = put c (k.out c ++ packet) k.out }

-- the member after its acknowledgement up to the place v was taken
abbrev pub acknowledged : Member → ℕ → Member
acknowledged k v = record k { acked = v }

-- what happens to one member
pub data Changes (a : Caster) (m : ℕ) (k : Member) : Member → Type 0 where
  -- The caster comes into contact with the member: this contact is above every one that it began with it, and the
  -- member isn't in an older one.
  caster_begins : {c : ℕ} → k.joined ≡ None → ((d s : ℕ) → k.begun d ≡ Some s → d < c) → k.boots c ≡ a.boot → ((d : ℕ) → k.at ≡ Some d → c ≤ d)
      → Changes a m k (joined_in k c (length_now a))
  caster_ends : Changes a m k (without_contact k)
  -- The member comes into contact with the caster: this contact is above every one that it entered, and the caster
  -- hasn't begun a later one.
  member_begins : {c : ℕ} → k.at ≡ None → k.last < c → k.boots c ≤ a.boot → ((d s : ℕ) → k.begun d ≡ Some s → d ≤ c)
      → Changes a m k (entered k c)
  member_ends : Changes a m k (left k)
  -- the member takes a STATE of its contact, which shows the start
  steps_in : {c s : ℕ} → k.at ≡ Some c → k.want c ≡ None → k.begun c ≡ Some s → Changes a m k (in_step_from k c s)
  -- The member takes the packet at the place that it wants, which was numbered in the boot of its contact and is for
  -- it, in whatever contact.
  takes : {c w d : ℕ} → k.at ≡ Some c → k.want c ≡ Some w → w < a.numbered (k.boots c) → mark (a.line (k.boots c)) m w ≡ Some d
      → Changes a m k (taking k c w (packets w (w + 1) (a.line (k.boots c))))
  -- the caster takes a STATE of its contact, which shows how far the member has come, or had come
  acknowledges : {c w v : ℕ} → k.joined ≡ Some c → k.want c ≡ Some w → k.acked < v → v ≤ w → Changes a m k (acknowledged k v)

-- nobody is in contact at the caster
abbrev pub IsAlone : Group → Type 0
IsAlone g = (m : ℕ) → (g.members m).joined ≡ None

-- What happens to a caster and its members: a packet is accepted, one gets a number, what waits is passed over, the
-- caster is restarted, or something happens to one member.
pub data Happens (g : Group) : Group → Type 0 where
  accepts : (packet : List ℕ) → length_now g.caster < numbered_now g.caster + queue
      → Happens g (record { caster = line_with g.caster (accepting_entry g packet); members = g.members })
  numbers : numbered_now g.caster < length_now g.caster → ((m c : ℕ) → (g.members m).joined ≡ Some c → numbered_now g.caster < (g.members m).acked + window_size)
      → Happens g (record { caster = numbered_to g.caster (numbered_now g.caster + 1); members = g.members })
  -- with nobody in contact everything that waits is passed over
  empties : IsAlone g → Happens g (record { caster = numbered_to g.caster (length_now g.caster); members = g.members })
  restarts : Happens g (record { caster = booted_again g.caster; members = λ m. without_contact (g.members m) })
  changes : (m : ℕ) (k : Member) → Changes g.caster m (g.members m) k → Happens g (record { caster = g.caster; members = put m k g.members })

-- any number of these, one after the other
pub data Runs : Group → Group → Type 0 where
  none : {g : Group} → Runs g g
  go_on : {g between after : Group} → Happens g between → Runs between after → Runs g after

-- ---- the begin

-- a member that was in no contact yet
pub record IsNewMember (k : Member) : Type 0 where
  pub joined : k.joined ≡ None
  pub begun : (c : ℕ) → k.begun c ≡ None
  pub at : k.at ≡ None
  pub want : (c : ℕ) → k.want c ≡ None
  pub out : (c : ℕ) → k.out c ≡ []

-- a caster that accepted nothing yet, and new members
pub record IsBegin (g : Group) : Type 0 where
  pub line : (f : ℕ) → g.caster.line f ≡ []
  pub numbered : (f : ℕ) → g.caster.numbered f ≡ 0
  pub members : (m : ℕ) → IsNewMember (g.members m)
