-- Events that happen one after the other, and what they come to.
use Rattle.std.specs.Prelude.{◌≡◌, ◌⊎◌, ℕ, ◌+◌, ◌*◌, ◌<◌, ◌≤◌, ◌++◌, Bool, true, false, if◌then◌else◌, Option, Some, None, Result, Ok, Err, length}
use Rattle.tipc_types.specs.declared.node_calls.Answer.{Answer}
use Rattle.tipc_replay.specs.declared.events.WorldEvent.{WorldEvent}
use Rattle.tipc_world.specs.declared.faults.WorldFault.{WorldFault}
use Rattle.tipc_world.specs.declared.faults.WorldFault.TheVariants as fault
use Rattle.tipc_world.specs.Good.{IsGood}
use Rattle.tipc_world.specs.Growth.{Grows}
use Rattle.tipc_world.specs.Limits.{IsAnswered, Stops}
use Rattle.tipc_world.specs.Merged.{merged, recorded_by, AddsAtFault}
use Rattle.tipc_replay.specs.Skies.{air_on}
use Rattle.tipc_world.specs.States.{WorldState, WorldView, is_there}

-- What events come to that begin in one world and end in another: all of them happened, which gives a value; or a front
-- of them happened, and then a limit stopped the next one, or memory ran out.
abbrev pub Course : Type 0 → Type 1
Course A = WorldState → Result A WorldFault → WorldState → Type 0

-- memory ran out before anything happened
abbrev pub IsEarly : WorldState → WorldFault → WorldState → Type 0
IsEarly start fault.NoMemory now = now ≡ start
IsEarly start (fault.Limit limit) now = ⊥

-- whatever they come to, the nodes are the same ones, the world only grew, and it is good where it was
pub record Continues {P : Type 0} (gives : P → ℕ → ℕ → ℕ → Type 0) (old new : WorldView P) : Type 0 where
  pub nodes : (n : ℕ) → is_there new.state n ≡ is_there old.state n
  pub grown : Grows old.state new.state
  pub good : IsGood gives old → IsGood gives new

-- an event happened with this answer; where it is a call, its step stands behind those of all calls before, with the
-- answer
pub record HasHappened (start : WorldState) (event : WorldEvent) (now : WorldState) (answer : Answer) : Type 0 where
  pub answered : IsAnswered start event now answer
  pub recorded : merged now ≡ merged start ++ recorded_by start event answer

-- an event has no answer: a limit or want of memory stopped it, and no step was recorded; or it took the air past its
-- limit
pub record HasStopped (start : WorldState) (event : WorldEvent) (now : WorldState) (stop : WorldFault) : Type 0 where
  pub stops : Stops start event now stop
  pub recorded : AddsAtFault start event now stop

-- one event, and its answer
abbrev pub Once : WorldEvent → Course Answer
Once event start (Ok answer) now = HasHappened start event now answer
Once event start (Err stop) now = HasStopped start event now stop

-- an event where there is one; the value is whether there is
abbrev pub Maybe : Option WorldEvent → Course Bool
Maybe None start (Ok made) now = (made ≡ false) × (now ≡ start)
Maybe None start (Err stop) now = IsEarly start stop now
Maybe (Some event) start (Ok made) now = (made ≡ true) × ((answer : Answer) × HasHappened start event now answer)
Maybe (Some event) start (Err stop) now = HasStopped start event now stop

-- what a number asks for in a world: an event or nothing
abbrev pub Asks : Type 0
Asks = WorldState → ℕ → Option WorldEvent

-- how many numbers there are from 0 up to the highest of a node: one more than that
abbrev pub numbers : ℕ
numbers = 33

-- one number is taken: what it asks for happens
abbrev pub Takes : Asks → ℕ → Course Bool
Takes asks number start came now = Maybe (asks start number) start came now

-- The numbers from the first up to the next were taken in order, each in the world that the one before left, and so
-- many events happened.
pub data Goes (asks : Asks) (first : ℕ) (start : WorldState) : ℕ → ℕ → WorldState → Type 0 where
  begin : Goes asks first start first 0 start
  go_on : (next count : ℕ) (before : WorldState) (made : Bool) (now : WorldState)
      → Goes asks first start next count before → Takes asks next before (Ok made) now
      → Goes asks first start (next + 1) (if made then count + 1 else count) now

-- likewise, and the next number was stopped
pub record Halts (asks : Asks) (first : ℕ) (start : WorldState) (stop : WorldFault) (now : WorldState) : Type 0 where
  pub next : ℕ
  pub count : ℕ
  pub before : WorldState
  pub goes : Goes asks first start next count before
  pub stopped : Takes asks next before (Err stop) now

-- the numbers from the first up to the end are taken
abbrev pub TakesAll : Asks → ℕ → ℕ → Course (Unit {0})
TakesAll asks first end start (Ok done) now = (count : ℕ) × Goes asks first start end count now
TakesAll asks first end start (Err stop) now = (halts : Halts asks first start stop now) × (halts.next < end)

-- the same; the value is how many events happened
abbrev pub TakesCounted : Asks → ℕ → ℕ → Course ℕ
TakesCounted asks first end start (Ok count) now = Goes asks first start end count now
TakesCounted asks first end start (Err stop) now = (halts : Halts asks first start stop now) × (halts.next < end)

-- the numbers of the places of a bearer's air are taken from the first on, until none is left; the value is how many
-- events happened
abbrev pub Drains : Asks → ℕ → ℕ → Course ℕ
Drains asks bearer first start (Ok count) now = (end : ℕ) × (numbers * length (air_on bearer now.air) ≤ end) × Goes asks first start end count now
Drains asks bearer first start (Err stop) now = Halts asks first start stop now

-- one course and then another
abbrev pub Then : {A B : Type 0} → Course A → Course B → Course B
Then {A} {B} first second start (Ok value) now = (between : WorldState) × (a : A) × first start (Ok a) between
    × second between (Ok value) now
Then {A} {B} first second start (Err stop) now = first start (Err stop) now
    ⊎ ((between : WorldState) × (a : A) × first start (Ok a) between × second between (Err stop) now)
