-- Every event leaves the link ends of each node right, its numbers its own and low, its lists packed, and its originals so that they name sessions that are
-- over.
use Rattle.std.proofs.Common.{◌+◌, ℕ, Bool, List, [], Option, length}
use Rattle.tipc_types.specs.Address.{node_word}
use Rattle.tipc_types.specs.declared.node_calls.Answer.{Answer}
use Rattle.tipc_types.specs.declared.node_calls.By.{By}
use Rattle.tipc_types.specs.declared.node_calls.Answer.TheVariants as answer
use Rattle.tipc_types.specs.declared.node_calls.EventNote.TheVariants as note
use Rattle.tipc_node.specs.Ends.{HasRightEnds}
use Rattle.tipc_node.specs.Nodes.{NodeState, step_of}
use Rattle.tipc_node.specs.Numbers.{HasOwnNumbers, IsBounded}
use Rattle.tipc_node.specs.Originals.{NameEnded}
use Rattle.tipc_node.specs.Sockets.{kept_answer}
use Rattle.tipc_node.specs.Telling.{ArePacked}
use Rattle.tipc_node.proofs.pairs.Numbers.{new_ended, new_numbers, numbers_low, turn_ended, turn_numbers}
use Rattle.tipc_node.proofs.pairs.Packed.{new_packed, turn_packed}
use Rattle.tipc_node.proofs.pairs.RightEnds.{new_right}
use Rattle.tipc_node.proofs.pairs.Standing.{arrived_right, performed_right}
use Rattle.tipc_replay.specs.declared.events.WorldEvent.{WorldEvent}
use Rattle.tipc_replay.specs.declared.events.WorldEvent.TheVariants.{Arrive, Call, Restart}
use Rattle.tipc_replay.specs.Calls.{CanHappenAt}
use Rattle.tipc_replay.specs.Ends.{AllNameEnded, AreBounded, HaveLowNumbers, HaveOwnNumbers, HavePackedLists, HaveRightEnds}
use Rattle.tipc_replay.specs.Events.{JoinsAt}
use Rattle.tipc_replay.specs.Members.{IsFresh}
use Rattle.tipc_replay.specs.States.{MemberState}
use Rattle.tipc_replay.specs.Steps.{Becomes, Stage}
use Rattle.tipc_replay.proofs.states.Each.{Keeps, becomes_each, joined_each, none_each}

does_right : (members : List (Option MemberState)) (by : By) (event : WorldEvent) → CanHappenAt members event → Keeps HasRightEnds by event
does_right members by (Restart a) can bytes m m' frames answered h right = new_right m'.node h.0.node.alone
does_right members by (Call a call) can bytes m m' frames answered h right = performed_right m.node m'.node by call frames answered can.1 h.performs h.turn right
does_right members by (Arrive a bearer place) can bytes m m' frames answered h right =
    arrived_right m.node m'.node by bearer (length m.arrivals) bytes frames h.arrived h.arrives h.turn right

pub becomes_right : (old new : Stage) (by : By) (event : WorldEvent) (answered : Answer) (lost : Bool) → CanHappenAt old.members event → Becomes old by event new answered lost → HaveRightEnds old.members → HaveRightEnds new.members
becomes_right old new by event answered lost can h all = becomes_each HasRightEnds old new by event answered lost (does_right old.members by event can) h all

pub start_right : HaveRightEnds []
start_right = none_each HasRightEnds

pub joined_right : (old new : List (Option MemberState)) (n first : ℕ) → JoinsAt old new n first → HaveRightEnds old → HaveRightEnds new
joined_right old new n first j all = joined_each HasRightEnds old new n first (λ fresh h. new_right fresh h.alone) j all

-- ---- limits

does_bounded : (by : By) (event : WorldEvent) → Keeps IsBounded by event
does_bounded by (Restart a) bytes m m' frames answered h was = h.0.node.bounded
does_bounded by (Call a call) bytes m m' frames answered h was = h.bounded
does_bounded by (Arrive a bearer place) bytes m m' frames answered h was = h.bounded

pub becomes_bounded : (old new : Stage) (by : By) (event : WorldEvent) (answered : Answer) (lost : Bool) → Becomes old by event new answered lost → AreBounded old.members → AreBounded new.members
becomes_bounded old new by event answered lost h all = becomes_each IsBounded old new by event answered lost (does_bounded by event) h all

pub start_bounded : AreBounded []
start_bounded = none_each IsBounded

pub joined_bounded : (old new : List (Option MemberState)) (n first : ℕ) → JoinsAt old new n first → AreBounded old → AreBounded new
joined_bounded old new n first j all = joined_each IsBounded old new n first (λ fresh h. h.bounded) j all

-- ---- numbers

does_numbers : (by : By) (event : WorldEvent) → Keeps HasOwnNumbers by event
does_numbers by (Restart a) bytes m m' frames answered h was = new_numbers m'.node h.0.node.alone h.0.node.bounded
does_numbers by (Call a call) bytes m m' frames answered h was =
    (let t = h.turn in turn_numbers m.node m'.node [] (step_of by call t.inside (kept_answer answered)) frames t.told_before t.told t.turn was)
does_numbers by (Arrive a bearer place) bytes m m' frames answered h was =
    (let t = h.turn in turn_numbers m.node m'.node bytes (step_of by (note.Arrive bearer (length m.arrivals)) t.inside (answer.Arrived h.arrived)) frames t.told_before t.told t.turn was)

pub becomes_numbers : (old new : Stage) (by : By) (event : WorldEvent) (answered : Answer) (lost : Bool) → Becomes old by event new answered lost → HaveOwnNumbers old.members → HaveOwnNumbers new.members
becomes_numbers old new by event answered lost h all = becomes_each HasOwnNumbers old new by event answered lost (does_numbers by event) h all

pub start_numbers : HaveOwnNumbers []
start_numbers = none_each HasOwnNumbers

pub joined_numbers : (old new : List (Option MemberState)) (n first : ℕ) → JoinsAt old new n first → HaveOwnNumbers old → HaveOwnNumbers new
joined_numbers old new n first j all = joined_each HasOwnNumbers old new n first (λ fresh h. new_numbers fresh h.alone h.bounded) j all

-- so they are low
pub all_low : (members : List (Option MemberState)) → HaveRightEnds members → HaveOwnNumbers members → AreBounded members → HaveLowNumbers members
all_low members ends numbers bounded n m there = numbers_low m.node (ends n m there) (numbers n m there) (bounded n m there)

-- ---- lists

fresh_packed : (n : NodeState) (own boot : ℕ) → IsFresh n own boot → ArePacked n
fresh_packed n own boot h = new_packed n h.alone own boot h.casting

does_packed : (by : By) (event : WorldEvent) → Keeps ArePacked by event
does_packed by (Restart a) bytes m m' frames answered h was = fresh_packed m'.node m.node.own (m.node.boot + 1) h.0.node
does_packed by (Call a call) bytes m m' frames answered h was =
    (let t = h.turn in turn_packed m.node m'.node [] (step_of by call t.inside (kept_answer answered)) frames t.told_before was t.turn)
does_packed by (Arrive a bearer place) bytes m m' frames answered h was =
    (let t = h.turn in turn_packed m.node m'.node bytes (step_of by (note.Arrive bearer (length m.arrivals)) t.inside (answer.Arrived h.arrived)) frames t.told_before was t.turn)

pub becomes_packed : (old new : Stage) (by : By) (event : WorldEvent) (answered : Answer) (lost : Bool) → Becomes old by event new answered lost → HavePackedLists old.members → HavePackedLists new.members
becomes_packed old new by event answered lost h all = becomes_each ArePacked old new by event answered lost (does_packed by event) h all

pub start_packed : HavePackedLists []
start_packed = none_each ArePacked

pub joined_packed : (old new : List (Option MemberState)) (n first : ℕ) → JoinsAt old new n first → HavePackedLists old → HavePackedLists new
joined_packed old new n first j all = joined_each ArePacked old new n first (λ fresh h. fresh_packed fresh (node_word n) first h) j all

-- ---- originals

-- beside the numbers
record NumbersAndNames (n : NodeState) : Type 0 where
  numbers : HasOwnNumbers n
  names : NameEnded n

does_name : (by : By) (event : WorldEvent) → Keeps NumbersAndNames by event
does_name by (Restart a) bytes m m' frames answered h was = record { numbers = new_numbers m'.node h.0.node.alone h.0.node.bounded; names = new_ended m'.node h.0.node.alone }
does_name by (Call a call) bytes m m' frames answered h was = record {
  numbers = does_numbers by (Call a call) bytes m m' frames answered h was.numbers;
  names = (let t = h.turn in turn_ended m.node m'.node [] (step_of by call t.inside (kept_answer answered)) frames t.told_before t.told t.turn was.numbers was.names);
}
does_name by (Arrive a bearer place) bytes m m' frames answered h was = record {
  numbers = does_numbers by (Arrive a bearer place) bytes m m' frames answered h was.numbers;
  names = (let t = h.turn in turn_ended m.node m'.node bytes (step_of by (note.Arrive bearer (length m.arrivals)) t.inside (answer.Arrived h.arrived)) frames t.told_before t.told t.turn was.numbers was.names);
}

pub becomes_named : (old new : Stage) (by : By) (event : WorldEvent) (answered : Answer) (lost : Bool) → Becomes old by event new answered lost → HaveOwnNumbers old.members → AllNameEnded old.members → AllNameEnded new.members
becomes_named old new by event answered lost h numbers names n m there =
    (becomes_each NumbersAndNames old new by event answered lost (does_name by event) h (λ k x is. record { numbers = numbers k x is; names = names k x is }) n m there).names

pub start_named : AllNameEnded []
start_named = none_each NameEnded

pub joined_named : (old new : List (Option MemberState)) (n first : ℕ) → JoinsAt old new n first → AllNameEnded old → AllNameEnded new
joined_named old new n first j all = joined_each NameEnded old new n first (λ fresh h. new_ended fresh h.alone) j all
