-- What the lines of a script that stand for several events ask for.
use Rattle.std.specs.Prelude.{◌≡◌, ℕ, ◌*◌, Bool, true, false, ◌&&◌, if◌then◌else◌, List, Option, Ok, Err, length}
use Rattle.tipc_types.specs.declared.node_calls.EventNote.TheVariants as call
use Rattle.tipc_types.specs.declared.node_calls.Answer.{Answer}
use Rattle.tipc_report.specs.declared.told.Told.{Told}
use Rattle.tipc_report.specs.declared.told.Told.TheVariants.{Up, Down, Pumped, Quiet, Unsettled}
use Rattle.tipc_replay.specs.declared.events.WorldEvent.TheVariants as event
use Rattle.tipc_world.specs.declared.settling.Settled.{Settled}
use Rattle.tipc_world.specs.declared.settling.Settled.TheVariants as settled
use Rattle.tipc_replay.specs.Skies.{air_on}
use Rattle.tipc_replay.specs.States.{MemberState, is_mended_at, is_link_up_at}
use Rattle.tipc_world.specs.declared.settling.Receivers.TheVariants.{Any, Both}
use Rattle.tipc_world.specs.Courses.{Course, Once, Drains, Then, numbers}
use Rattle.tipc_world.specs.Settling.{arrival_asked, Settles as SettlesWorld}

-- ---- a link

-- a bearer of a node is mended, unless it is so already
abbrev pub MendsIf : Bool → ℕ → ℕ → Course (Unit {0})
MendsIf true node bearer start (Ok done) now = now ≡ start
MendsIf true node bearer start (Err stop) now = ⊥
MendsIf false node bearer start (Ok done) now = (answer : Answer) × Once (event.Call node (call.Mend bearer)) start (Ok answer) now
MendsIf false node bearer start (Err stop) now = Once (event.Call node (call.Mend bearer)) start (Err stop) now

-- a bearer of a node is mended where it is cut
abbrev pub MendsCut : ℕ → ℕ → Course (Unit {0})
MendsCut node bearer start came now = MendsIf (is_mended_at start.members node bearer) node bearer start came now

-- a bearer of two nodes is mended where it is cut, of the one and then of the other
abbrev pub MendsBoth : ℕ → ℕ → ℕ → Course (Unit {0})
MendsBoth first second bearer = Then (MendsCut first bearer) (MendsCut second bearer)

-- both link ends on a bearer are up, or one isn't
abbrev pub told_of_link : List (Option MemberState) → ℕ → ℕ → ℕ → Told
told_of_link members first second bearer =
    if is_link_up_at members first second bearer && is_link_up_at members second first bearer then Up else Down

-- a bearer of two nodes is mended where it is cut, and then the frames of its air from a place on arrive at the two,
-- each at the one that it is for
abbrev pub LinksFrom : ℕ → ℕ → ℕ → ℕ → Course ℕ
LinksFrom place first second bearer =
    Then (MendsBoth first second bearer) (Drains (arrival_asked (Both first second) bearer) bearer (numbers * place))

-- the same, with the frames that were sent there since the beginning; what is told is whether both link ends are up
-- then
abbrev pub Links : ℕ → ℕ → ℕ → Course Told
Links first second bearer start (Ok told) now =
    (count : ℕ) × LinksFrom (length (air_on bearer start.air)) first second bearer start (Ok count) now
    × (told ≡ told_of_link now.members first second bearer)
Links first second bearer start (Err stop) now = LinksFrom (length (air_on bearer start.air)) first second bearer start (Err stop) now

-- ---- frames

-- the frames of a bearer from a place on arrive, until none is left
abbrev pub Pumps : ℕ → ℕ → Course Told
Pumps bearer place start (Ok told) now = (count : ℕ) × Drains (arrival_asked Any bearer) bearer (numbers * place) start (Ok count) now
    × (told ≡ Pumped count)
Pumps bearer place start (Err stop) now = Drains (arrival_asked Any bearer) bearer (numbers * place) start (Err stop) now

-- ---- rounds

-- how it is told whether packets are under way
abbrev pub told_of_settled : Settled → Told
told_of_settled settled.Quiet = Quiet
told_of_settled (settled.Unsettled unacked waiting) = Unsettled unacked waiting

-- so many rounds are made, and it is told whether packets are under way then
abbrev pub SettlesLine : ℕ → Course Told
SettlesLine rounds start (Ok told) now = (settled : Settled) × SettlesWorld rounds start (Ok settled) now × (told ≡ told_of_settled settled)
SettlesLine rounds start (Err stop) now = SettlesWorld rounds start (Err stop) now
