-- After an arrival the node is valid, and its journal grew by the step of the arrival.
use Rattle.std.proofs.Common.{ℕ, List, Result, Ok, Err}
use Rattle.std.specs.Prelude.{IfOk, OnOk}
use Rattle.tipc_types.specs.declared.node_calls.Arrival.{Arrival}
use Rattle.tipc_types.specs.declared.node_calls.By.{By}
use Rattle.tipc_outside.specs.Frames.{Out}
use Rattle.tipc_node.specs.Arrivals.{Arrived}
use Rattle.tipc_node.specs.Nodes.{NodeState}
use Rattle.tipc_node.specs.Telling.{IsTold}
use Rattle.tipc_node.specs.Valid.{GrewByStep, IsValid}

pub valid_of : (n : NodeState) → IsTold n → IsValid n
valid_of n told = record { whole = told.whole; licensed = told.licensed; answered = told.answered; fates = told.fates }

pub arrival_grows : {E : Type 0} (n n' : NodeState) (by : By) (bearer number : ℕ) (bytes : List ℕ) (box box' : Out) (r : Result Arrival E) → IfOk r (Arrived n by bearer number bytes n' box box')
    → OnOk r (GrewByStep n.journal n'.journal)
arrival_grows n n' by bearer number bytes box box' (Ok a) arrived = (_, arrived.turn.turn.inside, arrived.turn.turn.journal)
arrival_grows n n' by bearer number bytes box box' (Err e) arrived = tt
