-- A round in its parts, and what each number of it comes to where no frame is lost.
use Rattle.std.specs.Prelude.{◌≡◌, ◌≤◌, ℕ, ◌+◌, ◌*◌, Bool, false, List, [], Option, None, Some, Ok, length, slice_get, slice_index_or, slice_set, sum_by}
use Rattle.tipc_types.specs.Limits.{most_age}
use Rattle.tipc_types.specs.declared.node_calls.Answer.{Answer}
use Rattle.tipc_types.specs.declared.node_calls.EventNote.TheVariants as call
use Rattle.tipc_outside.specs.declared.outgoing.Outgoing.{Outgoing}
use Rattle.tipc_replay.specs.declared.air.Sent.{Sent}
use Rattle.tipc_replay.specs.declared.events.WorldEvent.{WorldEvent}
use Rattle.tipc_replay.specs.declared.events.WorldEvent.TheVariants.{Arrive, Call}
use Rattle.tipc_replay.specs.Air.{airborne, leaving_on, with_leaving}
use Rattle.tipc_replay.specs.Calls.{node_of}
use Rattle.tipc_replay.specs.Due.{age_of, frame_for}
use Rattle.tipc_replay.specs.Effects.{HasEffect}
use Rattle.tipc_replay.specs.Skies.{air_on}
use Rattle.tipc_replay.specs.States.{MemberState, boot_at, contact_at, is_mended_at}
use Rattle.tipc_replay.specs.Steady.{IsSteady as AreNodesSteady}
use Rattle.tipc_world.specs.declared.places.Places.{Places}
use Rattle.tipc_world.specs.declared.settling.Receivers.TheVariants.{Any}
use Rattle.tipc_world.specs.Courses.{Asks, Goes, Takes, numbers}
use Rattle.tipc_world.specs.Ends.{ends_of, place_on, AreBefore}
use Rattle.tipc_world.specs.Growth.{Grows}
use Rattle.tipc_world.specs.Limits.{IsAnswered}
use Rattle.tipc_world.specs.Settling.{Round, Rounds, arrival_asked, tick_asked}
use Rattle.tipc_world.specs.States.{WorldState, is_there}
use Rattle.tipc_world.specs.Steady.{IsSteady}
use Rattle.tipc_world.specs.Steps.{by_in}

-- ---- a course taken apart

-- A course taken apart at one of its numbers: the numbers before it, what it came to, and the numbers behind it.
pub record PartsAt (asks : Asks) (first number end : ℕ) (start now : WorldState) : Type 0 where
  pub earlier : ℕ
  pub before : WorldState
  pub front : Goes asks first start number earlier before
  pub made : Bool
  pub after : WorldState
  pub taken : Takes asks number before (Ok made) after
  pub later : ℕ
  pub rest : Goes asks (number + 1) after end later now

-- A round in its parts: every node ticks, in order of address; then the frames arrive that are in the air of bearer 0
-- from a place on, and then those of bearer 1.
pub record IsRound (places : Places) (start : WorldState) (ends : Places) (now : WorldState) : Type 0 where
  pub ticked : WorldState
  pub ticks : ℕ
  pub tick_part : Goes tick_asked 1 start numbers ticks ticked
  pub ends_are : ends ≡ ends_of ticked.air
  pub between : WorldState
  pub arrivals : ℕ
  pub first_part : Goes (arrival_asked Any 0) (numbers * places.first) ticked (numbers * length ticked.air.first) arrivals between
  pub others : ℕ
  pub second_part : Goes (arrival_asked Any 1) (numbers * places.second) between (numbers * length ticked.air.second) others now

-- So many rounds were made behind others, of which this many were made before.
pub data MoreRounds (made : ℕ) (first : Places) (start : WorldState) : ℕ → Places → WorldState → Type 0 where
  none_more : MoreRounds made first start made first start
  one_more : (done : ℕ) (places : Places) (before : WorldState) (ends : Places) (now : WorldState) → MoreRounds made first start done places before → Round places before (Ok ends) now
      → MoreRounds made first start (done + 1) ends now

-- rounds in two parts: so many, and those behind them
pub record PartsAtRound (start : WorldState) (made rounds : ℕ) (places : Places) (now : WorldState) : Type 0 where
  pub middle : Places
  pub between : WorldState
  pub front : Rounds start made middle between
  pub rest : MoreRounds made middle between rounds places now

-- ---- an event that loses no frame

-- An event happened at its node, every other node is as it was, and all frames that left stand in the air behind those
-- that stood there.
pub record HappensWhole (old new : WorldState) (event : WorldEvent) (bytes : List ℕ) (answered : Answer) : Type 0 where
  pub happened : IsAnswered old event new answered
  pub before : MemberState
  pub after : MemberState
  pub frames : List Outgoing
  pub was : slice_index_or old.members (node_of event) None ≡ Some before
  pub members : new.members ≡ slice_set old.members (node_of event) (Some after)
  pub does : HasEffect (by_in old.members old.stamps event) event bytes before after frames answered
  pub air : new.air ≡ with_leaving old.air (contact_at old.members (node_of event)) new.members (node_of event) frames

-- a frame in the air of a bearer stood there before the event, or it is one of those that left in it on that bearer
pub data ComesFrom (old new : WorldState) (a : ℕ) (frames : List Outgoing) (bearer place : ℕ) (f : Sent) : Type 0 where
  stood : slice_get (air_on bearer old.air) place ≡ Some f → ComesFrom old new a frames bearer place f
  left : (k : ℕ) (o : Outgoing) → slice_get frames k ≡ Some o → o.bearer ≡ bearer → f ≡ airborne (contact_at old.members a) new.members a o
      → ComesFrom old new a frames bearer place f

-- each frame in the air at or behind some places has a property, which may speak of its bearer
abbrev pub HoldsBehind : Places → (ℕ → Sent → Type 0) → WorldState → Type 0
HoldsBehind from P w = (bearer place : ℕ) (f : Sent) → bearer ≤ 1 → place_on bearer from ≤ place → slice_get (air_on bearer w.air) place ≡ Some f → P bearer f

-- A frame of the air, at or behind some places and not too old, arrived at a node that it is for.
pub record FrameArrives (from : Places) (old new : WorldState) : Type 0 where
  pub node : ℕ
  pub bearer : ℕ
  pub place : ℕ
  pub frame : Sent
  pub answered : Answer
  pub on_one : bearer ≤ 1
  pub behind : place_on bearer from ≤ place
  pub found : frame_for old.air node bearer place ≡ Some frame
  pub fresh : age_of old.members frame node bearer ≤ most_age
  pub arrives : HappensWhole old new (Arrive node bearer place) frame.frame answered

-- What a number of a round comes to, where frames arrive from some places on: nothing; a node ticks; or a frame
-- arrives.
pub data RoundStep (from : Places) (old new : WorldState) : Type 0 where
  idles : new ≡ old → RoundStep from old new
  one_ticks : (node : ℕ) (answered : Answer) → HappensWhole old new (Call node call.Tick) [] answered → RoundStep from old new
  one_arrives : FrameArrives from old new → RoundStep from old new

-- ---- what is kept

-- What every world keeps: what its nodes and its air do, and its counts.
pub record IsKept (w : WorldState) : Type 0 where
  pub nodes : AreNodesSteady w.members w.air
  pub counts : IsSteady w.members w.events w.stamps

-- From one moment of a call that settles up to a later one: the same nodes are there, each in its boot and with the
-- bearers mended that were; all that was sent and that happened stays; and the later world keeps what the one before
-- kept.
pub record SettlesOn (start now : WorldState) : Type 0 where
  pub nodes : (n : ℕ) → is_there now n ≡ is_there start n
  pub boots : (n : ℕ) → boot_at now.members n ≡ boot_at start.members n
  pub mended : (n bearer : ℕ) → is_mended_at now.members n bearer ≡ is_mended_at start.members n bearer
  pub grown : Grows start now
  pub whole : start.lost ≡ false
  pub kept : IsKept start → IsKept now

-- So many rounds on, a world goes on from the begin; and the places from which frames arrive next stand between the
-- ends of both airs.
pub record GoesByRounds (start : WorldState) (places : Places) (now : WorldState) : Type 0 where
  pub on : SettlesOn start now
  pub behind : AreBefore (ends_of start.air) places
  pub within : AreBefore places (ends_of now.air)

-- the total of a number of each node
abbrev pub number_of_member : (MemberState → ℕ) → Option MemberState → ℕ
number_of_member number None = 0
number_of_member number (Some m) = number m

abbrev pub total_of : (MemberState → ℕ) → WorldState → ℕ
total_of number w = sum_by (number_of_member number) w.members

-- Between two moments the total of one number grew by no more than that of another.
abbrev pub GrowsNoMore : (MemberState → ℕ) → (MemberState → ℕ) → WorldState → WorldState → Type 0
GrowsNoMore number other start now = total_of number now + total_of other start ≤ total_of number start + total_of other now

-- each node that is there is so
abbrev pub EachNode : (ℕ → MemberState → Type 0) → WorldState → Type 0
EachNode P w = (n : ℕ) (m : MemberState) → slice_index_or w.members n None ≡ Some m → P n m

-- from the begin of a call on: each node is so, and each frame that stands behind the places of the begin
pub record Guards (start : WorldState) (from : Places) (P : ℕ → MemberState → Type 0) (F : ℕ → Sent → Type 0) (w : WorldState) : Type 0 where
  pub on : SettlesOn start w
  pub nodes : EachNode P w
  pub frames : HoldsBehind from F w

-- ---- once for each node, and once for each frame

-- Node n ticked once in the tick part of a round. Up to its turn it stayed as it was at the beginning, and from then on
-- as it is at the end. Each frame that left it stands in the air, the k-th of a bearer at the k-th place behind those
-- that stood there at its turn.
pub record HasTickedOnce (start now : WorldState) (n : ℕ) : Type 0 where
  pub earlier : ℕ
  pub before : WorldState
  pub front : Goes tick_asked 1 start n earlier before
  pub after : WorldState
  pub later : ℕ
  pub rest : Goes tick_asked (n + 1) after numbers later now
  pub answered : Answer
  pub ticks : HappensWhole before after (Call n call.Tick) [] answered
  pub was : slice_index_or start.members n None ≡ Some ticks.before
  pub is : slice_index_or now.members n None ≡ Some ticks.after
  pub behind : (bearer : ℕ) → length (air_on bearer start.air) ≤ length (air_on bearer before.air)
  pub flies : (bearer k : ℕ) (f : Sent) → bearer ≤ 1
      → slice_get (leaving_on bearer (contact_at before.members n) after.members n ticks.frames) k ≡ Some f
      → slice_get (air_on bearer now.air) (length (air_on bearer before.air) + k) ≡ Some f

-- The frame at a place of a bearer's air arrived at node n once in the part of a round in which those of that bearer
-- arrive, from a first place on and before an end. It found the node as the course had left it, and if it wasn't too
-- old then, it had its effect.
pub record HasArrivedOnce (bearer first end : ℕ) (start now : WorldState) (place n : ℕ) (f : Sent) : Type 0 where
  pub earlier : ℕ
  pub before : WorldState
  pub front : Goes (arrival_asked Any bearer) (numbers * first) start (numbers * place + n) earlier before
  pub after : WorldState
  pub later : ℕ
  pub rest : Goes (arrival_asked Any bearer) (numbers * place + n + 1) after (numbers * end) later now
  pub clear : before.lost ≡ false
  pub here : frame_for before.air n bearer place ≡ Some f
  pub answered : Answer
  pub arrives : age_of before.members f n bearer ≤ most_age → HappensWhole before after (Arrive n bearer place) f.frame answered

-- A frame that left a node at its tick stands in the air after all ticks of the round, behind all that stood there when
-- the round began, and arrives once at node n in the part of the round in which the frames of its bearer arrive.
pub record TickBrings (bearer first end : ℕ) (start ticked from now : WorldState) (n : ℕ) (f : Sent) : Type 0 where
  pub place : ℕ
  pub behind : length (air_on bearer start.air) ≤ place
  pub stands : slice_get (air_on bearer ticked.air) place ≡ Some f
  pub arrives : HasArrivedOnce bearer first end from now place n f
