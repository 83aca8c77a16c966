-- What the lines of a script do to a world, and the report of that.
use Rattle.std.specs.Prelude.{◌≡◌, nat_le, if◌then◌else◌, ℕ, ◌+◌, ◌-◌, false, ◌||◌, List, [], ◌∷◌, ◌++◌, Option, Some, None, Result, Ok, Err, length, slice_get}
use Rattle.tipc_types.specs.declared.node_calls.EventNote.TheVariants as call
use Rattle.tipc_types.specs.declared.node_calls.Answer.{Answer}
use Rattle.tipc_types.specs.declared.node_calls.Answer.TheVariants as answer
use Rattle.tipc_script.specs.declared.lines.Line.{Line}
use Rattle.tipc_script.specs.declared.lines.Line.TheVariants.{Node, Call, Repeat, BadRange, Restart, Link, Mark, Arrive, Drain, Pump, Burst, Settle, Air, Show, Links, Table, Flow}
use Rattle.tipc_script.specs.Grammar.{asked}
use Rattle.tipc_report.specs.Text.{told_line}
use Rattle.tipc_report.specs.declared.told.Told.{Told}
use Rattle.tipc_report.specs.declared.told.Told.TheVariants as told
use Rattle.tipc_report.specs.declared.limits.Which.{Which}
use Rattle.tipc_report.specs.declared.limits.Which.TheVariants as which
use Rattle.tipc_replay.specs.declared.air.Sent.{Sent}
use Rattle.tipc_world.specs.declared.faults.Limit.{Limit}
use Rattle.tipc_world.specs.declared.faults.Limit.TheVariants as limit
use Rattle.tipc_replay.specs.declared.events.WorldEvent.{WorldEvent}
use Rattle.tipc_replay.specs.declared.events.WorldEvent.TheVariants as event
use Rattle.tipc_world.specs.declared.faults.WorldFault.{WorldFault}
use Rattle.tipc_world.specs.declared.faults.WorldFault.TheVariants as fault
use Rattle.tipc_replay.specs.declared.readers.FlowCounts.{FlowCounts}
use Rattle.tipc_world.specs.Growth.{Grows}
use Rattle.tipc_replay.specs.Readers.{links_of, table_of}
use Rattle.tipc_replay.specs.Skies.{air_on}
use Rattle.tipc_replay.specs.States.{counted, flow_of}
use Rattle.tipc_replay.specs.Told.{IsToldOf}
use Rattle.tipc_world.specs.States.{WorldState, is_there}
use Rattle.tipc_world.specs.Steps.{IsJoined}
use Rattle.tipc_world.specs.declared.places.Places.{Places}
use Rattle.tipc_world.specs.Courses.{Course, IsEarly, Once}
use Rattle.tipc_world.specs.Ends.{ends_of, place_on}
use Rattle.tipc_sim.specs.Meanings.{Links as LinksUp, Pumps, SettlesLine}
use Rattle.tipc_sim.specs.Messages.{low_message, Bursts, ReceivesAll, SendsAgain}
use Rattle.tipc_sim.specs.Nodes.{makes}
use Rattle.tipc_sim.specs.Noted.{NotesState, marked, pumped, pumped_to}

-- a world, and what the script keeps beside it
pub record Scene : Type 0 where
  pub world : WorldState
  pub notes : NotesState

-- the scene of a world and these notes
abbrev pub scene : WorldState → NotesState → Scene
scene world notes = record { world = world; notes = notes }

-- the event that a line is; None for a line that is no event or several
abbrev pub event_of : Line → NotesState → Option WorldEvent
event_of (Call node call) notes = Some (event.Call node call)
event_of (Restart node) notes = Some (event.Restart node)
event_of (Arrive node bearer frame) notes = Some (event.Arrive node bearer (counted (place_on bearer notes.bases + frame)))
event_of other notes = None

-- what is told of a line, and what is kept beside the world then
abbrev pub Outcome : Type 0
Outcome = Told × NotesState

-- what is told is the answer of a course
abbrev pub IsAnswerOf : Course Answer → Told → WorldState → WorldState → Type 0
IsAnswerOf comes (told.Answer answer) start now = comes start (Ok answer) now
IsAnswerOf comes other start now = ⊥

-- what a course tells is told, and this is noted
abbrev pub Retells : Course Told → NotesState → Course Outcome
Retells comes noted start (Ok given) now = comes start (Ok given.0) now × (given.1 ≡ noted)
Retells comes noted start (Err stop) now = comes start (Err stop) now

-- a course's answer is told, and this is noted
abbrev pub Answered : Course Answer → NotesState → Course Outcome
Answered comes noted start (Ok given) now = IsAnswerOf comes given.0 start now × (given.1 ≡ noted)
Answered comes noted start (Err stop) now = comes start (Err stop) now

-- what is told is how many messages were sent, and the last answer
abbrev pub IsToldTimes : Course (ℕ × Answer) → Told → WorldState → WorldState → Type 0
IsToldTimes comes (told.Times count last) start now = comes start (Ok (count, last)) now
IsToldTimes comes other start now = ⊥

-- how often a message was sent and the last answer are told, which a course gives, and this is noted
abbrev pub Repeated : Course (ℕ × Answer) → NotesState → Course Outcome
Repeated comes noted start (Ok given) now = IsToldTimes comes given.0 start now × (given.1 ≡ noted)
Repeated comes noted start (Err stop) now = comes start (Err stop) now

-- it is told how many messages were moved, and noted how far frames are pumped
abbrev pub Moves : Course (ℕ × Places) → NotesState → Course Outcome
Moves comes notes start (Ok given) now = (count : ℕ) × (places : Places) × comes start (Ok (count, places)) now
    × (given ≡ (told.Moved count, pumped_to notes places))
Moves comes notes start (Err stop) now = comes start (Err stop) now

-- what is told of a world that stays as it is, and what is noted
abbrev pub Stays : Told → NotesState → Course Outcome
Stays told noted start (Ok given) now = (now ≡ start) × (given ≡ (told, noted))
Stays told noted start (Err stop) now = IsEarly start stop now

-- a node comes in
abbrev pub ComesIn : ℕ → NotesState → Course Outcome
ComesIn node notes start (Ok given) now = IsJoined start now node × (given ≡ (told.Answer answer.Done, notes))
ComesIn node notes start (Err stop) now = IsEarly start stop now

-- a frame of the air, where there is one
abbrev pub shown : Option Sent → Told
shown None = told.Answer answer.NoFrame
shown (Some f) = told.Frame f.from f.to f.frame

-- how many messages of one contact were accepted and delivered, where there is one
abbrev pub told_of_flow : Option FlowCounts → Told
told_of_flow None = told.NoContact
told_of_flow (Some counts) = told.Flow counts.accepted counts.delivered

-- what is told of a line that leaves everything as it is: a line that asks for nothing is one, and one that would call
-- a node with a range without instances
abbrev pub told_of : Line → NotesState → WorldState → Told
told_of (Air bearer) notes w = told.Air (length (air_on bearer w.air) - place_on bearer notes.bases)
told_of (Show bearer frame) notes w = shown (slice_get (air_on bearer w.air) (counted (place_on bearer notes.bases + frame)))
told_of (Links node) notes w = told.Links (links_of w.members node)
told_of (Table node) notes w = told.Table (table_of w.members node)
told_of (Flow from to) notes w = told_of_flow (flow_of w.members from to)
told_of (BadRange node) notes w = told.Answer answer.BadRange
told_of other notes w = told.Nothing

-- what becomes of a world by a line that sends and receives messages again and again, or leaves everything as it is
abbrev pub Conversed : Line → NotesState → Course Outcome
Conversed (Repeat times node call) notes start came now = Repeated (SendsAgain times (event.Call node call)) notes start came now
Conversed (Drain node port) notes start came now = Retells (ReceivesAll node port) notes start came now
Conversed (Burst node port to_node to_port times body) notes start came now =
    Moves (Bursts times (low_message node port to_node to_port body) (event.Call to_node (call.Receive to_port)) notes.places) notes start came now
Conversed other notes start came now = Stays (told_of other notes start) notes start came now

-- what becomes of a world by a line that isn't one event
abbrev pub Composed : Line → NotesState → Course Outcome
Composed (Node node) notes start came now = ComesIn node notes start came now
Composed (Link first second bearer) notes start came now = Retells (LinksUp first second bearer) notes start came now
Composed Mark notes start came now = Stays (told.Answer answer.Done) (marked (ends_of now.air)) start came now
Composed (Pump bearer) notes start came now = Retells (Pumps bearer (place_on bearer notes.places)) (pumped notes bearer (length (air_on bearer now.air))) start came now
Composed (Settle rounds) notes start came now = Retells (SettlesLine rounds) notes start came now
Composed other notes start came now = Conversed other notes start came now

-- what becomes of a world by a line that is this event, or by one that is no event or several
abbrev pub AnswersBy : Option WorldEvent → Line → NotesState → Course Outcome
AnswersBy (Some event) line notes start came now = Answered (Once event) notes start came now
AnswersBy None line notes start came now = Composed line notes start came now

-- What becomes of a world by a line where these are the notes, what is told, and what is noted then.
abbrev pub Answers : Line → NotesState → Course Outcome
Answers line notes start came now = AnswersBy (event_of line notes) line notes start came now

-- a value, and these notes beside it
abbrev pub beside : {A F : Type 0} → Result A F → NotesState → Result (A × NotesState) F
beside (Ok value) notes = Ok (value, notes)
beside (Err fault) notes = Err fault

-- a line was done: it makes the node that it names and no other, the world only grew, no frame was lost, contacts and
-- links are then as the journals tell, and this is told of it
pub record Happens (line : Line) (before after : Scene) (given : Told) : Type 0 where
  pub nodes : (n : ℕ) → is_there after.world n ≡ (makes line n || is_there before.world n)
  pub grown : Grows before.world after.world
  pub kept : after.world.lost ≡ false
  pub journals : (a b : ℕ) → IsToldOf after.world.members a b
  pub answered : Answers line before.notes before.world (Ok (given, after.notes)) after.world

-- a line was begun, and a limit stopped one of its events; the world only grew, and no frame was lost
pub record IsLimited (line : Line) (before : Scene) (stop : Limit) (now : WorldState) : Type 0 where
  pub grown : Grows before.world now
  pub kept : now.lost ≡ false
  pub limited : Answers line before.notes before.world (Err (fault.Limit stop)) now

-- a line was begun: all of its events happened, or a front of them up to one that was stopped; the world only grew
pub record IsBegun (line : Line) (before : Scene) (now : WorldState) : Type 0 where
  pub grown : Grows before.world now
  pub came : Result Outcome WorldFault
  pub comes : Answers line before.notes before.world came now

-- how a limit of a world is told
abbrev pub which_of : Limit → Which
which_of limit.Events = which.Events
which_of limit.Frames = which.Frames
which_of limit.Journal = which.Journal

-- the printed line of what is told of a line, where it is written: the lines of the report begin with a number
abbrev pub written_line : ℕ → ℕ → Told → List ℕ
written_line from number given = if nat_le from number then told_line number given else []

-- lines were done one after the other, each on what the line before left, and this is their report: a printed line for
-- each from a number on, where the first line has number 1
pub data Runs (from : ℕ) (start : Scene) : List (List ℕ) → Scene → List ℕ → Type 0 where
  begin : Runs from start [] start []
  go_on : (lines : List (List ℕ)) (before : Scene) (report line : List ℕ) (after : Scene) (given : Told)
      → Runs from start lines before report
      → Happens (asked line) before after given
      → Runs from start (lines ++ line ∷ []) after (report ++ written_line from (length lines + 1) given)
