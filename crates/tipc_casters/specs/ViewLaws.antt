-- What may happen to a caster and its members, as a world tells of it: each leaves them cast.
use Rattle.std.specs.Prelude.{◌≡◌, ◌⊎◌, ◌<◌, ◌≤◌, ◌+◌, ◌%◌, ◌^◌, ◌==◌, Bool, true, false, ℕ, All, List, [], ◌∷◌, ◌++◌, Option, Some, None, if◌then◌else◌}
use Rattle.std.specs.List.{Contains, list_all}
use Rattle.tipc_types.specs.Limits.{most_age}
use Rattle.tipc_types.specs.Position.{number_of}
use Rattle.tipc_types.specs.declared.link_words.BroadcastState.{BroadcastState}
use Rattle.tipc_types.specs.declared.link_words.Why.{Why}
use Rattle.tipc_types.specs.declared.packet_lists.Taken.{Taken}
use Rattle.tipc_header.specs.Frames.{frame_of}
use Rattle.tipc_header.specs.Grammar.{Fits}
use Rattle.tipc_header.specs.Spelling.{Fields, spelling}
use Rattle.tipc_fragments.specs.Joining.{fresh, Joining}
use Rattle.tipc_reassembly.specs.declared.opening.Opened.{Opened}
use Rattle.tipc_reassembly.specs.Opening.{BringsAll}
use Rattle.tipc_reassembly.specs.Slots.{packets_in}
use Rattle.tipc_recv_window.specs.declared.outcomes.LinkOutcome.{LinkOutcome}
use Rattle.tipc_recv_window.specs.declared.outcomes.LinkOutcome.TheVariants as outcome
use Rattle.tipc_broadcast.specs.declared.contacts.Contact.{Contact}
use Rattle.tipc_broadcast.specs.Casting.{accepted, booted, shown}
use Rattle.tipc_broadcast.specs.Contacts.{carried, heard, heard_outcome, refusal, shown_in, told}
use Rattle.tipc_broadcast.specs.Deeds.{AreLawful, CastDeed, after_deeds, deeds_frames}
use Rattle.tipc_broadcast_law.specs.Groups.{put, queue}
use Rattle.tipc_casters.specs.Messages.{ArePiecesOf}
use Rattle.tipc_casters.specs.Reading.{IsWritten}
use Rattle.tipc_casters.specs.Sights.{Aired, boot_in, contact_of, Told}
use Rattle.tipc_casters.specs.Turns.{IsRight}
use Rattle.tipc_casters.specs.Views.{AreCastSeen, AreContactNumbers, CasterView, IsAmongSent, IsOther, MemberView}

-- ---- the same

-- a caster seen the same, but that fewer of its frames came into the air, and that it entered more
pub record SameCaster (v v' : CasterView) : Type 0 where
  pub casting : v'.casting ≡ v.casting
  pub numbered : (f : ℕ) → v'.numbered f ≡ v.numbered f
  pub joined : (m : ℕ) → IsOther v m → v'.joined m ≡ v.joined m
  pub entered : (m : ℕ) → All (Contains (v'.entered m)) (v.entered m)
  pub put : (m own theirs : ℕ) → v'.put m own theirs ≡ v.put m own theirs
  pub sent : All (IsAmongSent v.sent) v'.sent

-- a member seen the same, likewise
pub record SameView (w w' : MemberView) : Type 0 where
  pub at : w'.at ≡ w.at
  pub entered : All (Contains w'.entered) w.entered
  pub heard : w'.heard ≡ w.heard
  pub given : (own theirs : ℕ) → AreContactNumbers own theirs → w'.given own theirs ≡ w.given own theirs
  pub begun : w'.begun ≡ w.begun
  pub told : All (Contains w.told) w'.told
  pub hears : All (Contains w.hears) w'.hears

-- a caster and members that are seen the same stay cast
abbrev pub SameStaysCast : Type 0
SameStaysCast = (v v' : CasterView) (ws ws' : ℕ → MemberView) → AreCastSeen v ws → SameCaster v v' → ((m : ℕ) → IsOther v m → SameView (ws m) (ws' m))
    → AreCastSeen v' ws'

-- ---- the begin

-- a caster that did nothing yet
abbrev pub new_caster_view : ℕ → ℕ → CasterView
new_caster_view own boot = record {
  casting = booted own boot;
  numbered = λ f. 0;
  joined = λ m. None;
  entered = λ m. [];
  put = λ m own theirs. [];
  sent = [];
}

-- a member that was in no contact with the caster yet
abbrev pub new_member_view : MemberView
new_member_view = record { at = None; entered = []; heard = None; given = λ own theirs. []; begun = fresh; told = []; hears = [] }

-- a caster that did nothing yet is cast, with members that were in no contact with it
abbrev pub BeginsCast : Type 0
BeginsCast = (own boot : ℕ) → IsRight (booted own boot) → AreCastSeen (new_caster_view own boot) (λ m. new_member_view)

-- ---- at a member

-- the members when one of them is seen so
abbrev pub with_view : (ℕ → MemberView) → ℕ → MemberView → ℕ → MemberView
with_view ws m w = put m w ws

-- a STATE of a member to the caster shows what its broadcast link has in the present contact; or it doesn't say that the member is in step
pub data SaysTo (v : CasterView) (w : MemberView) (t : Told) : Type 0 where
  says_there : (next start : ℕ) (k : Contact) → w.heard ≡ Some k → w.at ≡ Some t.contact → t.stamp ≡ v.numbered v.casting.boot
      → t.seen ≡ shown_in next start k.shown k.window → SaysTo v w t
  says_apart : t.seen.in_step ≡ false → SaysTo v w t

-- a member tells the caster STATEs
abbrev pub SaysStaysCast : Type 0
SaysStaysCast = (v : CasterView) (ws : ℕ → MemberView) (m : ℕ) (more : List Told) → AreCastSeen v ws → IsOther v m → All (SaysTo v (ws m)) more
    → AreCastSeen v (with_view ws m (record (ws m) { told = (ws m).told ++ more }))

-- A contact with the caster begins: it is above every one that the member entered, of no later boot, and the caster entered no later one.
pub record MayEnter (v : CasterView) (w : MemberView) (m c : ℕ) : Type 0 where
  pub away : w.at ≡ None
  pub some : 0 < c
  pub above : All (λ d. d < c) w.entered
  pub era : boot_in c ≤ v.casting.boot
  pub newest : All (λ d. d ≤ c) (v.entered m)

-- a contact with the caster begins at a member, which has taken nothing in it yet
abbrev pub EntersStaysCast : Type 0
EntersStaysCast = (v : CasterView) (ws : ℕ → MemberView) (m c : ℕ) (k : Contact) → AreCastSeen v ws → IsOther v m → MayEnter v (ws m) m c
    → k.boot ≡ boot_in c → k.window ≡ None
    → AreCastSeen v (with_view ws m (record (ws m) { at = Some c; entered = (ws m).entered ++ c ∷ []; heard = Some k; begun = fresh }))

-- the contact with the caster ends at a member
abbrev pub QuitsStaysCast : Type 0
QuitsStaysCast = (v : CasterView) (ws : ℕ → MemberView) (m : ℕ) (begun : Joining) → AreCastSeen v ws → IsOther v m
    → AreCastSeen v (with_view ws m (record (ws m) { at = None; heard = None; begun = begun }))

-- what is kept of the caster has this boot and this window, and what it showed
pub record IsKeptAs (k l : Contact) : Type 0 where
  pub boot : l.boot ≡ k.boot
  pub window : l.window ≡ k.window
  pub shown : l.shown ≡ k.shown

-- something else is kept of the caster
abbrev pub KeepsStaysCast : Type 0
KeepsStaysCast = (v : CasterView) (ws : ℕ → MemberView) (m : ℕ) (k l : Contact) → AreCastSeen v ws → IsOther v m → (ws m).heard ≡ Some k → IsKeptAs k l
    → AreCastSeen v (with_view ws m (record (ws m) { heard = Some l }))

-- a STATE of the caster is taken, which it told in the present contact, with at most 30,000 numbered since
abbrev pub LearnsStaysCast : Type 0
LearnsStaysCast = (v : CasterView) (ws : ℕ → MemberView) (m : ℕ) (t : Told) (k l : Contact) → AreCastSeen v ws → IsOther v m → (ws m).heard ≡ Some k
    → Contains (ws m).hears t → (ws m).at ≡ Some t.contact → t.stamp ≤ v.numbered (boot_in t.contact)
    → v.numbered (boot_in t.contact) ≤ t.stamp + most_age
    → IsKeptAs (told t.seen.start t.seen.next k) l
    → AreCastSeen v (with_view ws m (record (ws m) { heard = Some l }))

-- A broadcast frame of the caster arrives, any that is in the air, with at most 30,000 numbered in its boot since: the packet p, under an envelope of
-- its boot and of the set of its members.
pub record HearsFrame (v : CasterView) (boot set : ℕ) (p : Fields) : Type 0 where
  pub frame : Aired
  pub there : Contains v.sent frame
  pub boot_fits : boot < 2 ^ 64
  pub set_fits : set < 2 ^ 64
  pub fits : Fits p
  pub bytes : frame.frame.frame ≡ frame_of boot set (spelling p)
  pub recent : v.numbered boot ≤ frame.stamp + most_age

-- the packets that an arrival gives
abbrev pub packets_due : LinkOutcome → List Taken
packets_due (outcome.Took due) = due
packets_due outcome.Deferred = []
packets_due (outcome.Ignored why) = []

-- the reason for which an arrival is ignored, where there is one
abbrev pub refused : ℕ → ℕ → ℕ → Contact → Option Why
refused m boot set k = refusal m boot (set % 2 ^ 32) k

-- what an arrival in a contact gives, by contact
abbrev pub given_at : ℕ → List (List ℕ) → (ℕ → ℕ → List (List ℕ)) → ℕ → ℕ → List (List ℕ)
given_at c more given own theirs = given own theirs ++ (if contact_of own theirs == c then more else [])

-- A frame of the caster is heard at a member in contact. What the packets that it gives are opened to is delivered there,
-- and the rest is begun.
abbrev pub TakesStaysCast : Type 0
TakesStaysCast = (v : CasterView) (ws : ℕ → MemberView) (m c boot set by : ℕ) (p : Fields) (k l : Contact) (opened : List Opened) (begun : Joining)
    → AreCastSeen v ws → IsOther v m → (ws m).heard ≡ Some k → (ws m).at ≡ Some c → HearsFrame v boot set p
    → IsKeptAs (heard (carried p by) k (refused m boot set k)) l
    → BringsAll (ws m).begun (packets_due (heard_outcome (carried p by) k (refused m boot set k))) opened begun
    → AreCastSeen v (with_view ws m (record (ws m) { heard = Some l; given = given_at c (packets_in opened) (ws m).given; begun = begun }))

-- ---- at the caster

-- A STATE of the caster to a member shows the start that its broadcast link has for the member in the present contact, and the next number as it was in
-- the event in which the STATE left. After that event no more had a number than had one or waited
-- before.
pub record TellsTo (v : CasterView) (m : ℕ) (t : Told) : Type 0 where
  pub contact : v.joined m ≡ Some t.contact
  pub start : t.seen.start ≡ (shown v.casting m).start
  pub numbered : ℕ
  pub next : t.seen.next ≡ number_of (numbered + 1)
  pub by_then : numbered ≤ t.stamp
  pub stamped : t.stamp ≤ numbered + queue
  pub near : t.stamp ≤ v.casting.sending.numbered + queue

-- the caster tells members
abbrev pub TellsStaysCast : Type 0
TellsStaysCast = (v : CasterView) (ws : ℕ → MemberView) (more : ℕ → List Told) → AreCastSeen v ws → ((m : ℕ) → IsOther v m → All (TellsTo v m) (more m))
    → AreCastSeen v (λ m. record (ws m) { hears = (ws m).hears ++ more m })

-- After deeds at the broadcast link: nothing of another boot changes; each frame in the air was there, or left by these deeds, with how many have a
-- number then.
pub record DoesDeeds (v v' : CasterView) (ds : List CastDeed) : Type 0 where
  pub lawful : AreLawful ds v.casting
  pub casting : v'.casting ≡ after_deeds ds v.casting
  pub numbered : (f : ℕ) → (f ≡ v.casting.boot → ⊥) → v'.numbered f ≡ v.numbered f
  pub now : v'.numbered v'.casting.boot ≡ v'.casting.sending.numbered
  pub entered : (m : ℕ) → All (Contains (v'.entered m)) (v.entered m)
  pub sent : All (λ (f : Aired). Contains v.sent f ⊎ (Contains (deeds_frames ds v.casting) f.frame × (f.stamp ≤ v'.casting.sending.numbered))) v'.sent

-- The caster and its members stay cast, and each frame that left is one that the caster wrote.
pub record StaysCast (v v' : CasterView) (ws : ℕ → MemberView) (ds : List CastDeed) : Type 0 where
  pub cast : AreCastSeen v' ws
  pub written : All (IsWritten v.casting.own) (deeds_frames ds v.casting)

-- whether a bearer is mended or cut by a deed, or a peer leaves
abbrev pub is_part : CastDeed → Bool
is_part (CastDeed.leaves peer) = true
is_part (CastDeed.bears bearer is_mended) = true
is_part other = false

-- the contact with a member after such deeds
abbrev pub parted_from : ℕ → List CastDeed → Option ℕ → Option ℕ
parted_from m [] o = o
parted_from m (CastDeed.leaves peer ∷ ds) o = parted_from m ds (if peer == m then None else o)
parted_from m (d ∷ ds) o = parted_from m ds o

-- bearers are mended or cut, and contacts end
abbrev pub PartsStaysCast : Type 0
PartsStaysCast = (v v' : CasterView) (ws : ℕ → MemberView) (ds : List CastDeed) → AreCastSeen v ws → DoesDeeds v v' ds → list_all is_part ds ≡ true
    → ((m : ℕ) → IsOther v m → v'.joined m ≡ parted_from m ds (v.joined m)) → ((m own theirs : ℕ) → v'.put m own theirs ≡ v.put m own theirs)
    → StaysCast v v' ws ds

-- a broadcast packet of another node arrives
abbrev pub HearsOtherStaysCast : Type 0
HearsOtherStaysCast = (v v' : CasterView) (ws : ℕ → MemberView) (boot members by : ℕ) (packet : Fields) → AreCastSeen v ws
    → DoesDeeds v v' (CastDeed.hears boot members by packet ∷ [])
    → ((m : ℕ) → IsOther v m → v'.joined m ≡ v.joined m) → ((m own theirs : ℕ) → v'.put m own theirs ≡ v.put m own theirs)
    → StaysCast v v' ws (CastDeed.hears boot members by packet ∷ [])

-- the messages of a contact with one more, where the caster is in it
abbrev pub put_one_more : List ℕ → Option ℕ → ℕ → List (List ℕ)
put_one_more message None c = []
put_one_more message (Some d) c = if d == c then message ∷ [] else []

-- a message is sent, in these packets
abbrev pub SendsStaysCast : Type 0
SendsStaysCast = (v v' : CasterView) (ws : ℕ → MemberView) (message : List ℕ) (pieces : List (List ℕ)) → AreCastSeen v ws
    → DoesDeeds v v' (CastDeed.sends pieces ∷ []) → accepted v'.casting.sending ≤ 2 ^ 62 → ArePiecesOf (message ∷ []) pieces
    → ((m : ℕ) → IsOther v m → v'.joined m ≡ v.joined m)
    → ((m own theirs : ℕ) → AreContactNumbers own theirs
    → v'.put m own theirs ≡ v.put m own theirs ++ put_one_more message (v.joined m) (contact_of own theirs))
    → StaysCast v v' ws (CastDeed.sends pieces ∷ [])

-- The contact with a member begins: it is above every one that the caster entered, of the present boot, and the member is in no older one.
pub record MayBeJoined (v : CasterView) (w : MemberView) (m c : ℕ) : Type 0 where
  pub above : All (λ d. d < c) (v.entered m)
  pub era : boot_in c ≡ v.casting.boot
  pub free : (d : ℕ) → w.at ≡ Some d → c ≤ d

-- what becomes of the contact with a member in its arrival
pub data MeetsMember (v v' : CasterView) (w : MemberView) (m : ℕ) : List CastDeed → Type 0 where
  lasts : v'.joined m ≡ v.joined m → MeetsMember v v' w m []
  begins : (boot c : ℕ) → MayBeJoined v w m c → v'.joined m ≡ Some c → Contains (v'.entered m) c → MeetsMember v v' w m (CastDeed.joins m boot ∷ [])
  ends : v'.joined m ≡ None → MeetsMember v v' w m (CastDeed.leaves m ∷ [])

-- a STATE of the member that it told in the present contact, where it says that it is in step
pub data TellsState (v v' : CasterView) (w : MemberView) (m : ℕ) : List CastDeed → Type 0 where
  no_state : TellsState v v' w m []
  one_state : (seen : BroadcastState) → (seen.in_step ≡ true → (t : Told) × Contains w.told t × (t.seen ≡ seen) × (v'.joined m ≡ Some t.contact)
      × (v.numbered v.casting.boot ≤ t.stamp + most_age)) → TellsState v v' w m (CastDeed.states m seen ∷ [])

-- a link packet of a member arrives: the contact with it begins or ends, and a STATE is taken, where the contact didn't end
abbrev pub MeetsStaysCast : Type 0
MeetsStaysCast = (v v' : CasterView) (ws : ℕ → MemberView) (m : ℕ) (first rest : List CastDeed) → AreCastSeen v ws → DoesDeeds v v' (first ++ rest)
    → IsOther v m → MeetsMember v v' (ws m) m first → TellsState v v' (ws m) m rest
    → ((i : ℕ) → IsOther v i → (i ≡ m → ⊥) → v'.joined i ≡ v.joined i) → ((i own theirs : ℕ) → v'.put i own theirs ≡ v.put i own theirs)
    → StaysCast v v' ws (first ++ rest)

-- the caster is restarted
abbrev pub RestartsStaysCast : Type 0
RestartsStaysCast = (v : CasterView) (ws : ℕ → MemberView) → AreCastSeen v ws → IsRight (booted v.casting.own (v.casting.boot + 1))
    → AreCastSeen (record v { casting = booted v.casting.own (v.casting.boot + 1); numbered = put (v.casting.boot + 1) 0 v.numbered; joined = λ m. None }) ws
