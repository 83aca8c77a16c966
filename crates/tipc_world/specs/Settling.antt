-- What it is to settle a world: rounds in which every node ticks and frames arrive.
use Rattle.std.specs.Prelude.{◌≡◌, ◌⊎◌, ℕ, ◌+◌, ◌*◌, ◌/◌, ◌%◌, ◌<◌, ◌==◌, Bool, true, false, ◌&&◌, ◌||◌, if◌then◌else◌, Option, Some, None, is_some, slice_get, Ok, Err}
use Rattle.tipc_types.specs.Address.{node_word}
use Rattle.tipc_types.specs.declared.identity.To.TheVariants as to
use Rattle.tipc_types.specs.declared.node_calls.EventNote.TheVariants as call
use Rattle.tipc_replay.specs.declared.events.WorldEvent.{WorldEvent}
use Rattle.tipc_replay.specs.declared.events.WorldEvent.TheVariants as event
use Rattle.tipc_world.specs.declared.faults.WorldFault.{WorldFault}
use Rattle.tipc_world.specs.declared.faults.WorldFault.TheVariants as fault
use Rattle.tipc_world.specs.declared.places.Places.{Places}
use Rattle.tipc_world.specs.declared.settling.Receivers.{Receivers}
use Rattle.tipc_world.specs.declared.settling.Receivers.TheVariants.{Any, Both}
use Rattle.tipc_world.specs.declared.settling.Settled.{Settled}
use Rattle.tipc_world.specs.declared.settling.Settled.TheVariants.{Quiet, Unsettled}
use Rattle.tipc_world.specs.Courses.{Course, Asks, TakesAll, Then, numbers}
use Rattle.tipc_world.specs.Ends.{ends_of}
use Rattle.tipc_replay.specs.declared.air.Sent.{Sent}
use Rattle.tipc_replay.specs.Due.{frame_for}
use Rattle.tipc_replay.specs.Readers.{world_load}
use Rattle.tipc_replay.specs.Skies.{AirState, air_on}
use Rattle.tipc_world.specs.States.{WorldState, is_there}

-- ---- what is asked for

-- a node that is there ticks
abbrev pub tick_asked : Asks
tick_asked w node = if is_there w node then Some (event.Call node call.Tick) else None

-- whether a node is among the receivers
abbrev pub is_among : Receivers → ℕ → Bool
is_among Any n = true
is_among (Both first second) n = (n == first) || (n == second)

-- the frame at a place of a bearer's air arrives at a node, where the frame is for it, and it is among the receivers
-- and is there
abbrev pub arrival_at : Receivers → ℕ → WorldState → ℕ → ℕ → Option WorldEvent
arrival_at among bearer w place node =
    if is_among among node && is_there w node && is_some (frame_for w.air node bearer place) then Some (event.Arrive node bearer place) else None

-- Each place of a bearer's air has a number for each node, one after the other. What a number asks for: the frame at
-- its place arrives at its node.
abbrev pub arrival_asked : Receivers → ℕ → Asks
arrival_asked among bearer w number = arrival_at among bearer w (number / numbers) (number % numbers)

-- the frame at a place of a bearer's air is for this node alone
pub record IsForOne (air : AirState) (bearer place node : ℕ) : Type 0 where
  pub frame : Sent
  pub stands : slice_get (air_on bearer air) place ≡ Some frame
  pub to_is : frame.to ≡ to.Node (record { word = node_word node })

-- ---- rounds

-- the frames from some places on and before others arrive, those of bearer 0 and then those of bearer 1
abbrev pub Arrivals : Places → Places → Course (Unit {0})
Arrivals places ends =
    Then (TakesAll (arrival_asked Any 0) (numbers * places.first) (numbers * ends.first))
    (TakesAll (arrival_asked Any 1) (numbers * places.second) (numbers * ends.second))

-- the frames from some places on arrive that are in the air at the beginning; the value is the places behind them
abbrev pub Delivers : Places → Course Places
Delivers places start (Ok ends) now = (ends ≡ ends_of start.air) × Arrivals places (ends_of start.air) start (Ok tt) now
Delivers places start (Err stop) now = Arrivals places (ends_of start.air) start (Err stop) now

-- every node ticks, in order of address, and then the frames from some places on arrive that are in the air
abbrev pub Round : Places → Course Places
Round places = Then (TakesAll tick_asked 1 numbers) (Delivers places)

-- so many rounds were made, the first from the end of the air on, and each other from where the one before ended
pub data Rounds (start : WorldState) : ℕ → Places → WorldState → Type 0 where
  begin : Rounds start 0 (ends_of start.air) start
  go_on : (done : ℕ) (places : Places) (before : WorldState) (ends : Places) (now : WorldState) → Rounds start done places before
      → Round places before (Ok ends) now → Rounds start (done + 1) ends now

-- likewise, and the next round was stopped
pub record RoundHalts (rounds : ℕ) (start : WorldState) (stop : WorldFault) (now : WorldState) : Type 0 where
  pub done : ℕ
  pub fewer : done < rounds
  pub places : Places
  pub before : WorldState
  pub made : Rounds start done places before
  pub stopped : Round places before (Err stop) now

-- no packet is under way, or so many are unacknowledged and so many wait
abbrev pub settled_by : ℕ × ℕ → Settled
settled_by load = if (load.0 == 0) && (load.1 == 0) then Quiet else Unsettled load.0 load.1

-- so many rounds are made
abbrev pub MakesRounds : ℕ → Course (Unit {0})
MakesRounds rounds start (Ok done) now = (places : Places) × Rounds start rounds places now
MakesRounds rounds start (Err stop) now = RoundHalts rounds start stop now

-- So many rounds are made, and it is told whether packets are under way then. Where all of them were made, and a frame
-- was lost in one of them or before, want of memory is told.
abbrev pub Settles : ℕ → Course Settled
Settles rounds start (Ok settled) now = MakesRounds rounds start (Ok tt) now × (now.lost ≡ false)
    × (settled ≡ settled_by (world_load now.members))
Settles rounds start (Err stop) now =
    MakesRounds rounds start (Err stop) now
    ⊎ (MakesRounds rounds start (Ok tt) now × (now.lost ≡ true) × (stop ≡ fault.NoMemory))
