-- What locked calls make of a pass, told in the words of a run.
use Rattle.std.proofs.Common.{◌≡◌, inl, inr, true, ◌∙◌, ap}
use Rattle.std.specs.Prelude.{ℕ, Option, Some, None, Result, Ok, Err}
use Rattle.tipc_types.specs.declared.message_forms.Message.{Message}
use Rattle.tipc_types.specs.declared.node_calls.Answer.{Answer}
use Rattle.tipc_types.specs.declared.node_calls.Arrival.{Arrival}
use Rattle.tipc_types.specs.declared.node_calls.EventNote.{EventNote}
use Rattle.tipc_node.specs.declared.steps.NodeFault.TheVariants as node_fault
use Rattle.tipc_node_lock.specs.declared.faults.LockFault.{LockFault}
use Rattle.tipc_node_lock.specs.declared.faults.LockFault.TheVariants as fault
use Rattle.tipc_node_lock.specs.declared.inboxes.NoSocket.{NoSocket}
use Rattle.tipc_node_lock.specs.Inboxes.{PortTakerState}
use Rattle.tipc_node_lock.specs.Locks.{ArrivalCalls, Calls as LockCalls, HasMade, IsPassOf, IsTurnedAway, LockState}
use Rattle.tipc_node_lock.specs.Passes.{IsOfSameCaller, MayHaveDrawn, PassState, ReceivesAt, TakesAt, TakesFrom, marked_full}
use Rattle.tipc_work.specs.Called.{IsSameCaller, IsToldFull, MakesCall}

-- a call that was answered
pub makes_call : (p p' : PassState) (call : EventNote) (kept : Answer) → HasMade p p' call kept → MakesCall p p' call kept
makes_call p p' call kept h = record {
  stamp = h.stamp;
  made = ap (λ (q : PassState). q.made) h.made;
  full = ap (λ (q : PassState). q.full) h.made;
  handed = ap (λ (q : PassState). q.handed) h.made;
}

-- a call for which the journal had no room
pub told_full : (p p' : PassState) → p' ≡ marked_full p → IsToldFull p p'
told_full p p' is = record {
  made = ap (λ (q : PassState). q.made) is;
  full = ap (λ (q : PassState). q.full) is;
  handed = ap (λ (q : PassState). q.handed) is;
}

-- it stays a pass of the lock
pub stays : (l : LockState) (p p' : PassState) → IsOfSameCaller p p' → IsPassOf l p → IsPassOf l p'
stays l p p' o was = (o.of_table ∙ was.0, o.own ∙ was.1)

-- a mark that stays
same_with : (p p' : PassState) → IsOfSameCaller p p' → (p.full ≡ true → p'.full ≡ true) → IsSameCaller p p'
same_with p p' o full = record { of_table = o.of_table; own = o.own; caller = o.caller; full = full }

turned_full : (p p' : PassState) (why : LockFault) → IsTurnedAway p why p' → p.full ≡ true → p'.full ≡ true
turned_full p p' (fault.Node node_fault.JournalFull) turned was = ap (λ (q : PassState). q.full) turned
turned_full p p' fault.Spent turned was = ap (λ (q : PassState). q.full) turned.1 ∙ was
turned_full p p' (fault.Node node_fault.NoMemory) turned was = by turned.1
  where
    by : MayHaveDrawn p p' → p'.full ≡ true
    by (inl is) = ap (λ (q : PassState). q.full) is ∙ was
    by (inr (stamp, is)) = ap (λ (q : PassState). q.full) is ∙ was

-- it stays the same caller's, whatever is answered
pub called_same : (p p' : PassState) (call : EventNote) (r : Result Answer LockFault) → LockCalls p call r p' → IsOfSameCaller p p' → IsSameCaller p p'
called_same p p' call (Ok answered) c o = same_with p p' o (λ was. ap (λ (q : PassState). q.full) c.made ∙ was)
called_same p p' call (Err why) c o = same_with p p' o (turned_full p p' why c)

pub heard_same : (p p' : PassState) (bearer : ℕ) (r : Result Arrival LockFault) → ArrivalCalls p bearer r p' → IsOfSameCaller p p' → IsSameCaller p p'
heard_same p p' bearer (Ok arrived) c o = same_with p p' o (λ was. ap (λ (q : PassState). q.full) c.1.made ∙ was)
heard_same p p' bearer (Err why) c o = same_with p p' o (turned_full p p' why c)

-- ---- receiving beside the lock

-- what a receive leaves of a pass
pub record Receives (p p' : PassState) : Type 0 where
  pub same : IsSameCaller p p'
  pub made : p'.made ≡ p.made
  pub seat : p'.seat ≡ p.seat

receives_still : (p p' : PassState) → p' ≡ p → Receives p p'
receives_still p p' is = record {
  same = record {
    of_table = ap (λ (q : PassState). q.seat.of_table) is;
    own = ap (λ (q : PassState). q.own) is;
    caller = ap (λ (q : PassState). q.caller) is;
    full = λ was. ap (λ (q : PassState). q.full) is ∙ was;
  };
  made = ap (λ (q : PassState). q.made) is;
  seat = ap (λ (q : PassState). q.seat) is;
}

receives_one : (p p' : PassState) (index : ℕ) (t : PortTakerState) (taken : Option Message) → TakesAt p index t taken p' → Receives p p'
receives_one p p' index t None takes = receives_still p p' takes.0
receives_one p p' index t (Some m) takes = record {
  same = record {
    of_table = ap (λ (q : PassState). q.seat.of_table) takes;
    own = ap (λ (q : PassState). q.own) takes;
    caller = ap (λ (q : PassState). q.caller) takes;
    full = λ was. ap (λ (q : PassState). q.full) takes ∙ was;
  };
  made = ap (λ (q : PassState). q.made) takes;
  seat = ap (λ (q : PassState). q.seat) takes;
}

receives_from : (p p' : PassState) (port : ℕ) (taken : Option Message) → TakesFrom p port taken p' → Receives p p'
receives_from p p' port taken (index, t, at, is, takes) = receives_one p p' index t taken takes

pub receives : (p p' : PassState) (port : ℕ) (r : Result (Option Message) NoSocket) → ReceivesAt p port r p' → Receives p p'
receives p p' port (Ok taken) at = receives_from p p' port taken at.1
receives p p' port (Err why) at = receives_still p p' at.1
