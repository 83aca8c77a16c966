-- Frames on their way out: those that a call left, in the groups in which they leave, and whether one was lost.
use Rattle.std.specs.Prelude.{◌≡◌, ◌≤◌, ◌++◌, ◌||◌, ℕ, nat_lt, Bool, true, false, List, [], length, take, if◌then◌else◌}
use Rattle.tipc_outside.specs.declared.outgoing.Class.{Class}
use Rattle.tipc_outside.specs.declared.outgoing.Class.TheVariants as class
use Rattle.tipc_outside.specs.declared.outgoing.Outgoing.{Outgoing}

-- frames of one group, in order, and whether one of them was lost for want of memory
pub record FrameGroup : Type 0 where
  pub frames : List Outgoing
  pub lost : Bool

-- the frames that go out: those that leave first, and those that leave behind them
pub record Out : Type 0 where
  pub first : FrameGroup
  pub behind : FrameGroup

-- a box with no frame
abbrev pub no_frames : Out
no_frames = record { first = record { frames = []; lost = false }; behind = record { frames = []; lost = false } }

-- the frames in the order in which they leave; one that was lost takes those behind it with it
abbrev pub frames_leaving : Out → List Outgoing
frames_leaving o = if o.first.lost then o.first.frames else o.first.frames ++ o.behind.frames

-- whether a frame was lost
abbrev pub is_lost : Out → Bool
is_lost o = o.first.lost || o.behind.lost

-- frames of link states and repeated packets leave first
abbrev pub leaves_first : Class → Bool
leaves_first class.Notice = true
leaves_first class.State = true
leaves_first class.Repeated = true
leaves_first other = false

-- frames that were made, by the groups in which they leave
pub record Made : Type 0 where
  pub first : List Outgoing
  pub behind : List Outgoing

-- frames that all leave first, and frames that all leave behind those
abbrev pub made_first : List Outgoing → Made
made_first frames = record { first = frames; behind = [] }

-- frames that all leave behind those that leave first
abbrev pub made_behind : List Outgoing → Made
made_behind frames = record { first = []; behind = frames }

-- frames of one class
abbrev pub made_as : Class → List Outgoing → Made
made_as class frames = if leaves_first class then made_first frames else made_behind frames

-- A group after frames were added: all of them, or, where one found no memory, those before it. It is marked just where it was before, or
-- one of them is missing.
pub record GroupGrows (old new : FrameGroup) (added : List Outgoing) : Type 0 where
  pub count : ℕ
  pub within : count ≤ length added
  pub front : new.frames ≡ old.frames ++ take count added
  pub lost_is : new.lost ≡ (old.lost || nat_lt count (length added))
  pub none : old.lost ≡ true → (new.lost ≡ true) × (new.frames ≡ old.frames)

-- a box after these were put into it, each group behind what was in it
pub record Gains (old new : Out) (made : Made) : Type 0 where
  pub first : GroupGrows old.first new.first made.first
  pub behind : GroupGrows old.behind new.behind made.behind

-- a box after frames were put behind all that is in it
abbrev pub Adds : Out → Out → List Outgoing → Type 0
Adds old new added = Gains old new (made_behind added)

-- a box after frames were put behind those that leave first
abbrev pub AddsFirst : Out → Out → List Outgoing → Type 0
AddsFirst old new added = Gains old new (made_first added)
