-- What follows for callers.
use Rattle.std.specs.Prelude.{◌≡◌, ℕ, ◌+◌, ◌<◌, ◌≤◌, List, [], ◌++◌, map, Some, if◌then◌else◌}
use Rattle.tipc_types.specs.Prefixes.{IsPrefixOf}
use Rattle.tipc_types.specs.Limits.{most_age, window_size}
use Rattle.tipc_broadcast_law.specs.Groups.{Accepted, accepted_for, Group, is_contact, mark, numbered_now, place, queue}
use Rattle.tipc_broadcast_law.specs.Events.{accepting_entry, Happens, IsBegin, Runs}
use Rattle.tipc_broadcast_law.specs.Law.{IsGroup}

-- what is always true of a group is true at the beginning
abbrev pub BeginsSound : Type 0
BeginsSound = (g : Group) → IsBegin g → IsGroup g

-- each event keeps what is always true of a group
abbrev pub EventsKeep : Type 0
EventsKeep = (g after : Group) → Happens g after → IsGroup g → IsGroup after

-- any number of events, one after the other, keep it
abbrev pub RunsKeep : Type 0
RunsKeep = (g after : Group) → Runs g after → IsGroup g → IsGroup after

-- each member, in each of its contacts, past ones too
abbrev pub TakesAPrefix : Type 0
TakesAPrefix = (g after : Group) → IsBegin g → Runs g after → (m c : ℕ)
    → IsPrefixOf ((after.members m).out c) (accepted_for m c (after.caster.line ((after.members m).boots c)))

-- The packets of one message are accepted one behind the other. Each member gets all of them, side by side, where it is in
-- contact, and none where it isn't: no packet of another message stands between them.
abbrev pub MessagesStandTogether : Type 0
MessagesStandTogether = (g : Group) (line : List Accepted) (message : List (List ℕ)) (m c : ℕ)
    → accepted_for m c (line ++ map (accepting_entry g) message) ≡ accepted_for m c line ++ (if is_contact c (g.members m).joined then message else [])

-- a packet for the member in its present contact, which it acknowledged, was taken
abbrev pub AcknowledgedIsTaken : Type 0
AcknowledgedIsTaken = (g : Group) → IsGroup g → (m c x : ℕ) → (g.members m).joined ≡ Some c
    → mark (g.caster.line g.caster.boot) m x ≡ Some c → x < (g.members m).acked → (w : ℕ) × ((g.members m).want c ≡ Some w) × (x < w)

-- who has yet to acknowledge a packet: the members in contact that acknowledged less
abbrev pub IsPending : Group → ℕ → ℕ → Type 0
IsPending g m x = (c : ℕ) × ((g.members m).joined ≡ Some c) × ((g.members m).acked ≤ x)

-- who has yet to acknowledge a packet has yet to acknowledge each later one, and each is for those who have yet to
-- acknowledge it, in the contact in which they are: so packets are released in order
pub record ReleasesInOrder (g : Group) : Type 0 where
  pub nested : (m x y : ℕ) → x ≤ y → IsPending g m x → IsPending g m y
  pub own : (m c x : ℕ) → (g.members m).joined ≡ Some c → (g.members m).acked ≤ x → x < numbered_now g.caster → mark (g.caster.line g.caster.boot) m x ≡ Some c

-- in every group packets are released in order
abbrev pub AllReleaseInOrder : Type 0
AllReleaseInOrder = (g : Group) → IsGroup g → ReleasesInOrder g

-- at most 50 packets are numbered past what any member in contact acknowledged
abbrev pub WindowOf50 : Type 0
WindowOf50 = (g : Group) → IsGroup g → (m c : ℕ) → (g.members m).joined ≡ Some c → numbered_now g.caster ≤ (g.members m).acked + window_size

-- A packet for the member in its contact lies near the place that it wants, as long as at most 30,000 were numbered since
-- the event that sent it, after which `stamp` were numbered: so 16 bits tell places.
abbrev pub PacketsAreNear : Type 0
PacketsAreNear = (g : Group) → IsGroup g → (m c s x stamp : ℕ) → (g.members m).begun c ≡ Some s
    → mark (g.caster.line ((g.members m).boots c)) m x ≡ Some c
    → stamp < x + 1 + window_size + queue → g.caster.numbered ((g.members m).boots c) ≤ stamp + most_age
    → (x < place (g.members m) c + window_size + queue) × (place (g.members m) c ≤ x + 30542)

-- The same of a packet that is for the member in whatever contact, while the member is in a contact that the caster began.
-- Where it isn't before the wanted place, it is for the member in that contact.
pub record IsNear (g : Group) (m c d x : ℕ) : Type 0 where
  pub ahead : x < place (g.members m) c + window_size + queue
  pub behind : place (g.members m) c ≤ x + 30542
  pub own : place (g.members m) c ≤ x → d ≡ c

-- so it is of every packet that is for the member, in whatever contact
abbrev pub AllAreNear : Type 0
AllAreNear = (g : Group) → IsGroup g → (m c d s x stamp : ℕ) → (g.members m).at ≡ Some c → (g.members m).begun c ≡ Some s
    → mark (g.caster.line ((g.members m).boots c)) m x ≡ Some d
    → stamp < x + 1 + window_size + queue → g.caster.numbered ((g.members m).boots c) ≤ stamp + most_age
    → IsNear g m c d x
