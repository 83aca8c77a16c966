-- What an audit answers of nodes, and what its replay has made then.
use Rattle.std.specs.Prelude.{◌≡◌, ◌≢◌, ◌⊎◌, ◌+◌, ◌-◌, ◌≤◌, ℕ, false, List, Option, Some, None, length, slice_get, slice_index_or}
use Rattle.std.specs.List.{All, Contains}
use Rattle.tipc_types.specs.declared.node_calls.EventNote.TheVariants.{Arrive}
use Rattle.tipc_journal.specs.declared.entries.Entry.{Entry}
use Rattle.tipc_journal.specs.Room.{has_journal_room}
use Rattle.tipc_journal.specs.Steps.{PlacedStep, steps}
use Rattle.tipc_node_lock.specs.Locked.{LockedState}
use Rattle.tipc_replay.specs.Skies.{AirState}
use Rattle.tipc_replay.specs.States.{MemberState, ReplayState, empty_replay}
use Rattle.tipc_live.specs.declared.answers.Audit.{Audit}
use Rattle.tipc_live.specs.declared.answers.Audit.TheVariants.{Differ, NoFrame, Told, TooOld, Twice, Yes}
use Rattle.tipc_live.specs.Again.{HasNoFrame, IsTooOld}
use Rattle.tipc_live.specs.Differing.{DifferFirst}
use Rattle.tipc_live.specs.Following.{HasFollowed, HasNoOther, HaveBytes, IsMadeAt, IsMadeTo, IsRunOf}
use Rattle.tipc_live.specs.Nodes.{locked_number}
use Rattle.tipc_live.specs.Stamping.{AreStampedOnce, IsFirstTwice}
use Rattle.tipc_live.specs.Telling.{AllTellTrue, IsFirstTold}

-- no stamp stands twice, and each pass tells what is so
pub record AreToldTrue {P : Type 0} (nodes : List (LockedState P)) : Type 0 where
  pub once : AreStampedOnce nodes
  pub told : All AllTellTrue nodes

-- this step stands in the journal of the node with that number, which is at that place
pub record IsStepOf {P : Type 0} (nodes : List (LockedState P)) (number : ℕ) (place : ℕ) (n : LockedState P) (p : PlacedStep) : Type 0 where
  pub there : slice_get nodes place ≡ Some n
  pub number_is : locked_number n ≡ number
  pub stands : Contains (steps n.node.journal) p

-- ---- an arrival that can't be made again

-- The replay made just the steps below that of an arrival, whose bytes are these.
pub record StopsAt {P : Type 0} (gives : P → ℕ → ℕ → ℕ → Type 0) (nodes : List (LockedState P)) (replay : ReplayState) (node number bearer : ℕ) (bytes : List ℕ) : Type 0 where
  pub place : ℕ
  pub locked : LockedState P
  pub step : PlacedStep
  pub step_is : IsStepOf nodes node place locked step
  pub event : step.step.event ≡ Arrive bearer number
  pub heard : slice_get locked.heard number ≡ Some bytes
  pub follows : HasFollowed gives nodes replay step.step.by.stamp

-- ---- a step that gives other entries

-- the replay made the step too, and that is the first of its places at which an entry is kept that the replay doesn't
-- have there
pub record GivesOther {P : Type 0} (gives : P → ℕ → ℕ → ℕ → Type 0) (air : AirState) (n : LockedState P) (m : MemberState) (p : PlacedStep) (place : ℕ) (kept : Entry) (replayed : Option Entry) : Type 0 where
  pub made : IsMadeTo gives air p n m
  pub differs : DifferFirst n.node.journal m.node.journal (length p.before) (length p.before + 1 + length p.step.inside) place kept replayed

-- the journal of the replay has no room for the step, at whose first place it has nothing
pub record LacksRoom {P : Type 0} (gives : P → ℕ → ℕ → ℕ → Type 0) (air : AirState) (n : LockedState P) (m : MemberState) (p : PlacedStep) (place : ℕ) (replayed : Option Entry) : Type 0 where
  pub run : IsRunOf gives n m
  pub full : has_journal_room m.node.journal ≡ false
  pub place_is : place ≡ length p.before
  pub nothing : replayed ≡ None

-- The entry that the journal of a node keeps at that place, from 0, isn't that of the replay, which made its step or
-- has no room for it. It made just the steps below that of all other nodes.
pub record DiffersAt {P : Type 0} (gives : P → ℕ → ℕ → ℕ → Type 0) (nodes : List (LockedState P)) (replay : ReplayState) (number place : ℕ) (kept : Entry) (replayed : Option Entry) : Type 0 where
  pub index : ℕ
  pub locked : LockedState P
  pub step : PlacedStep
  pub step_is : IsStepOf nodes number index locked step
  pub inside : length step.before ≤ place
  pub kept_is : slice_get locked.node.journal place ≡ Some kept
  pub member : MemberState
  pub member_is : slice_index_or replay.members number None ≡ Some member
  pub others : (other : ℕ) → other ≢ index → IsMadeAt gives nodes replay step.step.by.stamp other
  pub alone : HasNoOther nodes replay
  pub cause : GivesOther gives replay.air locked member step place kept replayed
      ⊎ (LacksRoom gives replay.air locked member step place replayed × HasFollowed gives nodes replay step.step.by.stamp)

-- ---- nothing of that

-- The replay is of the very journals of the nodes, whose stamps rise, and what arrived had the bytes that were heard.
pub record IsWholeRun {P : Type 0} (gives : P → ℕ → ℕ → ℕ → Type 0) (replay : ReplayState) (n : LockedState P) (m : MemberState) : Type 0 where
  pub run : IsRunOf gives n m
  pub journal : m.node.journal ≡ n.node.journal
  pub arrivals : length m.arrivals ≡ length n.heard
  pub heard : HaveBytes replay.air m.arrivals n.heard

-- the replay has just these nodes, each run whole
pub record AreReplayed {P : Type 0} (gives : P → ℕ → ℕ → ℕ → Type 0) (nodes : List (LockedState P)) (replay : ReplayState) : Type 0 where
  pub each : (place : ℕ) (n : LockedState P) → slice_get nodes place ≡ Some n →
      (m : MemberState) × (slice_index_or replay.members (locked_number n) None ≡ Some m) × IsWholeRun gives replay n m
  pub alone : HasNoOther nodes replay

-- ---- the answer

-- what shows an answer behind Twice and Told
abbrev pub ShowsAnswer : {P : Type 0} → (P → ℕ → ℕ → ℕ → Type 0) → List (LockedState P) → ReplayState → Audit → Type 0
ShowsAnswer gives nodes replay (NoFrame node number) =
    (bearer : ℕ) × (bytes : List ℕ) × StopsAt gives nodes replay node number bearer bytes × HasNoFrame replay.air node bearer bytes
ShowsAnswer gives nodes replay (TooOld node number count) =
    (bearer : ℕ) × (bytes : List ℕ) × StopsAt gives nodes replay node number bearer bytes × IsTooOld replay node bearer bytes count
ShowsAnswer gives nodes replay (Differ node place kept replayed) = (1 ≤ place) × DiffersAt gives nodes replay node (place - 1) kept replayed
ShowsAnswer gives nodes replay Yes = AreReplayed gives nodes replay
ShowsAnswer gives nodes replay other = ⊥

-- What shows each answer of an audit. Before Twice and Told nothing is made.
abbrev pub Audits : {P : Type 0} → (P → ℕ → ℕ → ℕ → Type 0) → List (LockedState P) → ReplayState → Audit → Type 0
Audits gives nodes replay (Twice stamp) = IsFirstTwice nodes stamp × (replay ≡ empty_replay)
Audits gives nodes replay (Told node caller call) = AreStampedOnce nodes × IsFirstTold nodes node caller call × (replay ≡ empty_replay)
Audits gives nodes replay other = AreToldTrue nodes × ShowsAnswer gives nodes replay other
