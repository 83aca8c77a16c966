-- What an event makes of a pair: the pair after it, what is told of links and contact, and the frames that leave.
use Rattle.std.specs.Prelude.{◌≡◌, List, [], ◌∷◌, ◌++◌}
use Rattle.tipc_outside.specs.declared.outgoing.Outgoing.{Outgoing}
use Rattle.tipc_outside.specs.Frames.{Gains, Made, Out, no_frames}
use Rattle.tipc_pair.specs.declared.transitions.Transition.{Transition}
use Rattle.tipc_pair.specs.Facing.{PairEnds}

-- the course of an event at a pair
pub record Course : Type 0 where
  pub pair : PairEnds
  pub changes : List Transition
  -- frames of link states and repeated packets, as they are made; and newly numbered packets, which leave behind all of those. In one
  -- event packets are numbered on one link alone.
  pub states : List Outgoing
  pub numbered : List Outgoing

-- nothing happens
abbrev pub rests : PairEnds → Course
rests x = record { pair = x; changes = []; states = []; numbered = [] }

-- one step and then another
unfoldable pub going_on : Course → (PairEnds → Course) → Course
going_on c step = record {
  pair = (step c.pair).pair;
  changes = c.changes ++ (step c.pair).changes;
  states = c.states ++ (step c.pair).states;
  numbered = c.numbered ++ (step c.pair).numbered;
}

-- it is told first of all
abbrev pub telling : Transition → Course → Course
telling change c = record c { changes = change ∷ c.changes }

-- the frames of an event in the order in which they leave
abbrev pub sent_in : Course → List Outgoing
sent_in c = c.states ++ c.numbered

-- the frames of an event in the groups in which they leave
abbrev pub made_in : Course → Made
made_in c = record { first = c.states; behind = c.numbered }

-- what an event has told so far, and its frames, of which some may be lost for want of memory
pub record LeavingState : Type 0 where
  pub changes : List Transition
  pub out : Out

-- what a step told was added, and its frames
pub record AddsCourse (old new : LeavingState) (c : Course) : Type 0 where
  pub changes : new.changes ≡ old.changes ++ c.changes
  pub made : Gains old.out new.out (made_in c)

-- an event that began with nothing told this, and its frames are these, of which some may be lost for want of memory
pub record IsToldOf (c : Course) (told : LeavingState) : Type 0 where
  pub changes : told.changes ≡ c.changes
  pub made : Gains no_frames told.out (made_in c)
