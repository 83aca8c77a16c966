-- How far a replay has followed the journals of nodes.
use Rattle.std.specs.Prelude.{◌≡◌, ◌%◌, ◌+◌, ◌^◌, ◌<◌, ◌≤◌, ◌++◌, ℕ, List, [], Option, Some, None, length, option_map, slice_get, slice_index_or}
use Rattle.tipc_types.specs.declared.node_calls.EventNote.{EventNote}
use Rattle.tipc_types.specs.declared.node_calls.EventNote.TheVariants.{Arrive}
use Rattle.tipc_journal.specs.declared.entries.Entry.{Entry}
use Rattle.tipc_journal.specs.Counting.{StampsRise, names_sent, names_sent_before}
use Rattle.tipc_journal.specs.Licensed.{AllPicked}
use Rattle.tipc_journal.specs.Steps.{IsWhole, NodeStep, PlacedStep, step_entries, steps}
use Rattle.tipc_pick.specs.Choosing.{Choosing}
use Rattle.tipc_node.specs.Works.{addr_of_word}
use Rattle.tipc_node_lock.specs.Journals.{arrival_numbers}
use Rattle.tipc_node_lock.specs.Locked.{LockedState}
use Rattle.tipc_replay.specs.declared.air.Arrived.{Arrived}
use Rattle.tipc_replay.specs.Skies.{AirState, air_on}
use Rattle.tipc_replay.specs.States.{MemberState, ReplayState, journal_now}
use Rattle.tipc_live.specs.declared.keeping.KeptStep.{KeptStep}
use Rattle.tipc_live.specs.Fronts.{IsFrontBelow}
use Rattle.tipc_live.specs.Keeping.{kept_step}
use Rattle.tipc_live.specs.Nodes.{locked_number}

-- ---- one node

-- What the replay keeps of a node is a run of that node in its boot, with its pick from the first turn on: its journal
-- is whole steps, whose stamps rise, and each message by name went to the match that the pick gives.
pub record IsRunOf {P : Type 0} (gives : P → ℕ → ℕ → ℕ → Type 0) (n : LockedState P) (m : MemberState) : Type 0 where
  pub own : m.node.own ≡ n.node.own
  pub boot : m.node.boot ≡ n.node.boot
  pub past : m.past ≡ []
  pub whole : IsWhole m.node.journal
  pub rise : StampsRise m.node.journal
  pub picked : AllPicked (gives n.chooser.pick) (names_sent_before m.node.journal) (addr_of_word n.node.own) m.node.journal
  pub arrived : length m.arrivals ≡ length (arrival_numbers m.node.journal)

-- the bytes of a frame that arrived
abbrev pub arrived_bytes : AirState → Arrived → Option (List ℕ)
arrived_bytes air a = option_map (λ f. f.frame) (slice_get (air_on a.bearer air) a.frame)

-- so many frames arrived, at most, as were heard, each with the bytes of that number
pub record HaveBytes (air : AirState) (arrivals : List Arrived) (heard : List (List ℕ)) : Type 0 where
  pub few : length arrivals ≤ length heard
  pub each : (k : ℕ) (a : Arrived) → slice_get arrivals k ≡ Some a → arrived_bytes air a ≡ slice_get heard k

-- The replay made just those steps of the node again that have a stamp below this one. They gave what the journal
-- keeps, and what arrived in them had the bytes that were heard.
pub record IsMadeBelow {P : Type 0} (gives : P → ℕ → ℕ → ℕ → Type 0) (air : AirState) (stamp : ℕ) (n : LockedState P) (m : MemberState) : Type 0 where
  pub run : IsRunOf gives n m
  pub heard : HaveBytes air m.arrivals n.heard
  pub front : IsFrontBelow stamp n.node.journal m.node.journal

-- ---- all nodes

-- so it is at the node of that place
abbrev pub IsMadeAt : {P : Type 0} → (P → ℕ → ℕ → ℕ → Type 0) → List (LockedState P) → ReplayState → ℕ → ℕ → Type 0
IsMadeAt {P} gives nodes replay stamp place =
    (n : LockedState P) → slice_get nodes place ≡ Some n →
    (m : MemberState) × (slice_index_or replay.members (locked_number n) None ≡ Some m) × IsMadeBelow gives replay.air stamp n m

-- no other node is in the replay
abbrev pub HasNoOther : {P : Type 0} → List (LockedState P) → ReplayState → Type 0
HasNoOther {P} nodes replay =
    (number : ℕ) (m : MemberState) → slice_index_or replay.members number None ≡ Some m →
    (place : ℕ) × (n : LockedState P) × (slice_get nodes place ≡ Some n) × (locked_number n ≡ number)

-- The replay made just those steps of all nodes again that have a stamp below this one.
pub record HasFollowed {P : Type 0} (gives : P → ℕ → ℕ → ℕ → Type 0) (nodes : List (LockedState P)) (replay : ReplayState) (stamp : ℕ) : Type 0 where
  pub each : (place : ℕ) → IsMadeAt gives nodes replay stamp place
  pub alone : HasNoOther nodes replay

-- ---- one step more at one node

-- the call of a step as it is made again: an arrival has the number that the replay counts
abbrev pub called_again : ℕ → EventNote → EventNote
called_again count (Arrive bearer number) = Arrive bearer count
called_again count call = call

-- the bytes that arrived in a call
abbrev pub heard_in : List (List ℕ) → EventNote → Option (List ℕ)
heard_in heard (Arrive bearer number) = slice_get heard number
heard_in heard call = None

-- the number of an arrival; 0 for any other call
abbrev pub number_in : EventNote → ℕ
number_in (Arrive bearer number) = number
number_in call = 0

-- The replay made this step of a node again behind all that have a lower stamp; what arrived in it had the bytes that
-- were heard then.
pub record IsMadeTo {P : Type 0} (gives : P → ℕ → ℕ → ℕ → Type 0) (air : AirState) (p : PlacedStep) (n : LockedState P) (m : MemberState) : Type 0 where
  pub run : IsRunOf gives n m
  pub front : List Entry
  pub front_is : IsFrontBelow p.step.by.stamp n.node.journal front
  pub count : ℕ
  pub heard : (k : ℕ) (a : Arrived) → k < count → slice_get m.arrivals k ≡ Some a → arrived_bytes air a ≡ slice_get n.heard k
  pub made : NodeStep
  pub by : made.by ≡ p.step.by
  pub event : made.event ≡ called_again count p.step.event
  pub journal : m.node.journal ≡ front ++ step_entries made
  pub heard_last : (a : Arrived) → slice_get m.arrivals count ≡ Some a → arrived_bytes air a ≡ heard_in n.heard p.step.event
  pub last : length m.arrivals ≤ count + 1

-- ---- a step that is to be made

-- the step stands in the journal of its node
pub record IsKeptOf {P : Type 0} (nodes : List (LockedState P)) (k : KeptStep) : Type 0 where
  pub node : LockedState P
  pub there : slice_get nodes k.node ≡ Some node
  pub index : ℕ
  pub placed : PlacedStep
  pub stands : slice_get (steps node.node.journal) index ≡ Some placed
  pub is : k ≡ kept_step k.node placed

-- no other step of the nodes has its stamp
abbrev pub HasOwnStamp : {P : Type 0} → List (LockedState P) → KeptStep → Type 0
HasOwnStamp {P} nodes k =
    (place : ℕ) (n : LockedState P) (index : ℕ) (p : PlacedStep) → slice_get nodes place ≡ Some n → slice_get (steps n.node.journal) index ≡ Some p
    → p.step.by.stamp ≡ k.by.stamp → kept_step place p ≡ k

-- The choosers of a replay: each has the pick of its node, and is at the turn that the journal of the replay tells.
pub record AreTurned {P Q : Type 0} (pick_of : Q → P) (nodes : List (LockedState P)) (replay : ReplayState) (choosers : List (Choosing Q)) : Type 0 where
  pub count : length choosers ≡ length nodes
  pub each : (place : ℕ) (n : LockedState P) (c : Choosing Q) → slice_get nodes place ≡ Some n → slice_get choosers place ≡ Some c
      → (pick_of c.pick ≡ n.chooser.pick) × (c.turn ≡ names_sent (journal_now replay.members (locked_number n)) % 2 ^ 64)
