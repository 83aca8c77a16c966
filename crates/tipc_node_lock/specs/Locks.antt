-- What contracts see of a node's lock, and what a locked call tells its caller.
use Rattle.std.specs.Prelude.{◌≡◌, ◌==◌, ◌&&◌, ℕ, Bool, true, false, List, Result, Ok, Err, length, count_by, nat_le}
use Rattle.std.specs.List.{list_all}
use Rattle.atomic_table.specs.Seated.{TableId}
use Rattle.tipc_types.specs.declared.node_calls.Answer.{Answer}
use Rattle.tipc_types.specs.declared.node_calls.Answer.TheVariants as answer
use Rattle.tipc_types.specs.declared.node_calls.Arrival.{Arrival}
use Rattle.tipc_types.specs.declared.node_calls.EventNote.{EventNote}
use Rattle.tipc_types.specs.declared.node_calls.EventNote.TheVariants.{Arrive}
use Rattle.tipc_stamp.specs.Seats.{is_spent}
use Rattle.tipc_node.specs.declared.steps.NodeFault.TheVariants as node_fault
use Rattle.tipc_node.specs.Sockets.{kept_answer}
use Rattle.tipc_node_lock.specs.declared.faults.LockFault.{LockFault}
use Rattle.tipc_node_lock.specs.declared.faults.LockFault.TheVariants as fault
use Rattle.tipc_node_lock.specs.Passes.{IsNextStamp, MayHaveDrawn, PassState, having_made, having_moved, marked_full}

-- the lock of a node: its address word, the stamps of its calls, and how many callers it has
pub record LockState : Type 0 where
  pub own : ℕ
  pub of_table : TableId
  pub callers : ℕ

-- a pass of a lock is one of its stamps and of its node's address
abbrev pub IsPassOf : LockState → PassState → Type 0
IsPassOf l p = (p.seat.of_table ≡ l.of_table) × (p.own ≡ l.own)

-- The caller made this call under a stamp that its seat drew, and it was answered so; where it made a socket, the pass has the taker of its
-- inbox. Then messages may have moved, under further stamps.
pub record HasMade (p p' : PassState) (call : EventNote) (kept : Answer) : Type 0 where
  pub stamp : ℕ
  pub next : IsNextStamp stamp p.seat
  pub inbox : TableId
  pub moved : List ℕ
  pub short : Bool
  pub made : p' ≡ having_moved (having_made p stamp call kept inbox) moved short

-- what a pass knows of a call that wasn't made
abbrev pub IsTurnedAway : PassState → LockFault → PassState → Type 0
IsTurnedAway p (fault.Node node_fault.JournalFull) p' = p' ≡ marked_full p
IsTurnedAway p fault.Spent p' = (is_spent p.seat ≡ true) × (p' ≡ p)
IsTurnedAway p (fault.Node node_fault.NoMemory) p' = (is_spent p.seat ≡ false) × MayHaveDrawn p p'

-- what a pass knows of a call, by its answer
abbrev pub Calls : PassState → EventNote → Result Answer LockFault → PassState → Type 0
Calls p call (Ok answered) p' = HasMade p p' call (kept_answer answered)
Calls p call (Err why) p' = IsTurnedAway p why p'

-- what a pass knows of an arrival, by its answer; the arrival has a number that the node counts
abbrev pub ArrivalCalls : PassState → ℕ → Result Arrival LockFault → PassState → Type 0
ArrivalCalls p bearer (Ok arrived) p' = (number : ℕ) × HasMade p p' (Arrive bearer number) (answer.Arrived arrived)
ArrivalCalls p bearer (Err why) p' = IsTurnedAway p why p'

-- whether there is one pass, and no more, of the caller with that number
abbrev pub has_one_pass : List PassState → ℕ → Bool
has_one_pass passes caller = count_by (λ p. p.caller == caller) passes == 1

-- whether a pass is of the node at this address, and of a caller with a number up to this one that has no other pass
abbrev pub is_sole_pass : ℕ → ℕ → List PassState → PassState → Bool
is_sole_pass own callers passes p = (p.own == own) && (nat_le p.caller callers && has_one_pass passes p.caller)

-- Whether the passes are one for each caller, all of the node at this address: there are as many as callers, and each is the only one of a
-- caller whose number is none above theirs. (It is none below 1, by the type of a pass.)
unfoldable pub is_one_per_caller : ℕ → ℕ → List PassState → Bool
is_one_per_caller own callers passes = (length passes == callers) && list_all (is_sole_pass own callers passes) passes
