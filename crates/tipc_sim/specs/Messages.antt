-- What the lines of a script ask for that send and receive messages again and again.
use Rattle.std.specs.Prelude.{◌≡◌, ◌⊎◌, ℕ, ◌+◌, ◌<◌, Bool, true, false, List, Ok, Err, length}
use Rattle.tipc_types.specs.declared.node_calls.EventNote.TheVariants as call
use Rattle.tipc_types.specs.declared.message_forms.Importance.TheVariants.{Low}
use Rattle.tipc_types.specs.declared.node_calls.Answer.{Answer}
use Rattle.tipc_types.specs.declared.node_calls.Answer.TheVariants.{NoSocket, Received, Sent, SentTo}
use Rattle.tipc_script.specs.Spelling.{port_at}
use Rattle.tipc_report.specs.declared.told.Told.{Told}
use Rattle.tipc_report.specs.declared.told.Told.TheVariants as told
use Rattle.tipc_replay.specs.declared.events.WorldEvent.{WorldEvent}
use Rattle.tipc_replay.specs.declared.events.WorldEvent.TheVariants as event
use Rattle.tipc_world.specs.declared.faults.WorldFault.{WorldFault}
use Rattle.tipc_world.specs.States.{WorldState}
use Rattle.tipc_world.specs.declared.places.Places.{Places}
use Rattle.tipc_world.specs.Courses.{Course, Once, Then}
use Rattle.tipc_sim.specs.Meanings.{Pumps}

-- the answer says that a message was sent
abbrev pub is_sent : Answer → Bool
is_sent Sent = true
is_sent (SentTo to) = true
is_sent other = false

-- the answer is a message
abbrev pub is_message : Answer → Bool
is_message (Received message) = true
is_message other = false

-- the event is a call, which can happen again where it could before
abbrev pub is_call : WorldEvent → Bool
is_call (event.Call node call) = true
is_call other = false

-- ---- one event again and again

-- an event happened so many times, one after the other, and each of its answers passed
pub data Repeats (event : WorldEvent) (passes : Answer → Bool) (start : WorldState) : ℕ → WorldState → Type 0 where
  begin : Repeats event passes start 0 start
  go_on : (count : ℕ) (before : WorldState) (answer : Answer) (now : WorldState)
      → Repeats event passes start count before → Once event before (Ok answer) now → passes answer ≡ true
      → Repeats event passes start (count + 1) now

-- likewise, and then it happened once more, and that last answer didn't pass
pub record RepeatsUntil (event : WorldEvent) (passes : Answer → Bool) (start : WorldState) (count : ℕ) (last : Answer) (now : WorldState) : Type 0 where
  pub before : WorldState
  pub passed : Repeats event passes start count before
  pub once : Once event before (Ok last) now
  pub fails : passes last ≡ false

-- an event happened so many times, and each of its answers passed, of which this is the last
pub record RepeatsTo (event : WorldEvent) (passes : Answer → Bool) (start : WorldState) (count : ℕ) (last : Answer) (now : WorldState) : Type 0 where
  pub earlier : ℕ
  pub before : WorldState
  pub passed : Repeats event passes start earlier before
  pub once : Once event before (Ok last) now
  pub passes_last : passes last ≡ true
  pub count_is : count ≡ earlier + 1

-- it happened so many times, and the next one was stopped
pub record RepeatHalts (event : WorldEvent) (passes : Answer → Bool) (start : WorldState) (stop : WorldFault) (now : WorldState) : Type 0 where
  pub count : ℕ
  pub before : WorldState
  pub passed : Repeats event passes start count before
  pub stopped : Once event before (Err stop) now

-- ---- messages that are sent

-- A message is sent so many times at most, which is 1 or more, until it isn't. The value is how many times it was, and
-- the last answer.
abbrev pub SendsAgain : ℕ → WorldEvent → Course (ℕ × Answer)
SendsAgain times send start (Ok value) now =
    (RepeatsTo send is_sent start value.0 value.1 now × (value.0 ≡ times))
    ⊎ (RepeatsUntil send is_sent start value.0 value.1 now × (value.0 < times))
SendsAgain times send start (Err stop) now = (halts : RepeatHalts send is_sent start stop now)
    × (halts.count < times)

-- ---- messages that are received

-- how many were received, or that there is no such socket
abbrev pub told_of_drained : ℕ → Answer → Told
told_of_drained count NoSocket = told.Answer NoSocket
told_of_drained count other = told.Drained count

-- messages are received at a port until there is none
abbrev pub ReceivesAll : ℕ → ℕ → Course Told
ReceivesAll node port start (Ok told) now =
    (count : ℕ) × (last : Answer) × RepeatsUntil (event.Call node (call.Receive port)) is_message start count last now
    × (told ≡ told_of_drained count last)
ReceivesAll node port start (Err stop) now = RepeatHalts (event.Call node (call.Receive port)) is_message start stop now

-- ---- messages that are sent, pumped and received

-- a message of low importance to a port
abbrev pub low_message : ℕ → ℕ → ℕ → ℕ → List ℕ → WorldEvent
low_message node port to_node to_port body = event.Call node (call.SendPort port (port_at to_node to_port) Low body)

-- The frames of bearer 0 and then those of bearer 1 are pumped, from these places on. The value is the places up to
-- which frames are pumped then: frames that are sent on bearer 0 while bearer 1 is pumped wait.
abbrev pub PumpsBoth : Places → Course Places
PumpsBoth places start (Ok ends) now =
    (between : WorldState) × (first : Told) × (second : Told) × Pumps 0 places.first start (Ok first) between
    × Pumps 1 places.second between (Ok second) now
    × (ends ≡ record { first = length between.air.first; second = length now.air.second })
PumpsBoth places start (Err stop) now = Then (Pumps 0 places.first) (Pumps 1 places.second) start (Err stop) now

-- The frames from these places on are pumped, and then a message is received. The value is whether there was one, and
-- up to which places frames are pumped then.
abbrev pub PumpsAndReceives : Places → WorldEvent → Course (Bool × Places)
PumpsAndReceives places receive start (Ok value) now =
    (between : WorldState) × (ends : Places) × (last : Answer) × PumpsBoth places start (Ok ends) between
    × Once receive between (Ok last) now × (value ≡ (is_message last, ends))
PumpsAndReceives places receive start (Err stop) now = Then (PumpsBoth places) (Once receive) start (Err stop) now

-- the same where the message was sent, and else nothing
abbrev pub FollowsSending : Bool → Places → WorldEvent → Course (Bool × Places)
FollowsSending true places receive start came now = PumpsAndReceives places receive start came now
FollowsSending false places receive start (Ok value) now = (now ≡ start) × (value ≡ (false, places))
FollowsSending false places receive start (Err stop) now = ⊥

-- A message is sent, and where it was, frames are pumped and a message is received. The value is whether one was, and
-- up to which places frames are pumped then.
abbrev pub Turn : WorldEvent → WorldEvent → Places → Course (Bool × Places)
Turn send receive places start (Ok value) now = (between : WorldState) × (answer : Answer)
    × Once send start (Ok answer) between × FollowsSending (is_sent answer) places receive between (Ok value) now
Turn send receive places start (Err stop) now =
    Once send start (Err stop) now ⊎ ((between : WorldState) × (answer : Answer) × Once send start (Ok answer) between × FollowsSending (is_sent answer) places receive between (Err stop) now)

-- So many turns were made, one after the other, and a message was received in each. The frames before those places are
-- pumped.
pub data MakesTurns (send receive : WorldEvent) (first : Places) (start : WorldState) : ℕ → Places → WorldState → Type 0 where
  begin : MakesTurns send receive first start 0 first start
  go_on : (count : ℕ) (places : Places) (before : WorldState) (next : Places) (now : WorldState)
      → MakesTurns send receive first start count places before → Turn send receive places before (Ok (true, next)) now
      → MakesTurns send receive first start (count + 1) next now

-- likewise, and then one in which none was
pub record TurnsUntil (send receive : WorldEvent) (first : Places) (start : WorldState) (count : ℕ) (ends : Places) (now : WorldState) : Type 0 where
  pub places : Places
  pub before : WorldState
  pub made : MakesTurns send receive first start count places before
  pub fails : Turn send receive places before (Ok (false, ends)) now

-- likewise, and the next one was stopped
pub record TurnHalts (send receive : WorldEvent) (times : ℕ) (first : Places) (start : WorldState) (stop : WorldFault) (now : WorldState) : Type 0 where
  pub count : ℕ
  pub fewer : count < times
  pub places : Places
  pub before : WorldState
  pub made : MakesTurns send receive first start count places before
  pub stopped : Turn send receive places before (Err stop) now

-- So many turns are made at most, until no message is received. The value is in how many one was, and up to which
-- places frames are pumped then.
abbrev pub Bursts : ℕ → WorldEvent → WorldEvent → Places → Course (ℕ × Places)
Bursts times send receive first start (Ok value) now =
    (MakesTurns send receive first start times value.1 now × (value.0 ≡ times))
    ⊎ (TurnsUntil send receive first start value.0 value.1 now × (value.0 < times))
Bursts times send receive first start (Err stop) now = TurnHalts send receive times first start stop now
