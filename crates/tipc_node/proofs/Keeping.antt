-- What the calls of a node promise, from what the parts of the node tell of them.
use Rattle.std.proofs.Common.{◌≡◌, ℕ, List, [], Result, Ok, Err, length, subst, sym}
use Rattle.std.specs.Prelude.{IfOk, OnErr}
use Rattle.std.proofs.lemmas.Result.{IfOk-weaker}
use Rattle.tipc_types.specs.declared.node_calls.Answer.{Answer}
use Rattle.tipc_types.specs.declared.node_calls.Answer.TheVariants as answer
use Rattle.tipc_types.specs.declared.node_calls.Arrival.{Arrival}
use Rattle.tipc_types.specs.declared.node_calls.By.{By}
use Rattle.tipc_types.specs.declared.node_calls.EventNote.{EventNote}
use Rattle.tipc_types.specs.declared.node_calls.EventNote.TheVariants as event
use Rattle.tipc_types.specs.declared.services.Publication.{Publication}
use Rattle.tipc_outside.specs.declared.outgoing.Outgoing.{Outgoing}
use Rattle.tipc_outside.specs.Frames.{Adds, Out}
use Rattle.tipc_journal.specs.Licensed.{IsPicked, IsPickedOf}
use Rattle.tipc_send_window.specs.Sending.{IsSending}
use Rattle.tipc_sockets.specs.SocketTables.{AreSockets}
use Rattle.tipc_node.specs.Arrivals.{Arrived, Arrives}
use Rattle.tipc_node.specs.Calls.{CanPerform, HasInstances, IsPickedFrom, Performed, Performs}
use Rattle.tipc_node.specs.Discovery.{AreFound}
use Rattle.tipc_node.specs.Nodes.{NodeState}
use Rattle.tipc_node.specs.Sharing.{SharesNames}
use Rattle.tipc_node.specs.Sockets.{kept_answer}
use Rattle.tipc_node.specs.Telling.{ArePacked, IsTold}
use Rattle.tipc_node.specs.Turns.{AreCast, AreNamed}
use Rattle.tipc_node.specs.Works.{addr_of_word}
use Rattle.tipc_node.proofs.Kept.{IsKept, arrives_kept, performs_kept, turn_kept}
use Rattle.tipc_node.proofs.journal.Refusing.{told_found}

-- the invariant of a node, as its fields
abbrev pub Held : NodeState → Type 0
Held n = IsTold n × AreNamed n × ArePacked n × SharesNames n × AreFound n × AreCast n

pub kept_of : (n : NodeState) → Held n → IsKept n
kept_of n h = record { told = h.0; named = h.1; packed = h.2; shares = h.3; found = h.4; cast = h.5 }

pub held_of : (n : NodeState) → IsKept n → Held n
held_of n k = (k.told, k.named, k.packed, k.shares, k.found, k.cast)

-- ---- a call

-- a call was performed, and these frames left
abbrev pub IsDone : NodeState → By → EventNote → NodeState → Out → Out → Answer → Type 0
IsDone n by call n' box box' answered = (frames : List Outgoing) × Performs n by call n' frames answered × Adds box box' frames

performed_by : (n n' : NodeState) (by : By) (call : EventNote) (box box' : Out) (answered : Answer) → Held n → AreSockets n'.sockets → length n'.neighbours ≡ 33 → IsSending n'.casting.sending → CanPerform call → HasInstances call → IsDone n by call n' box box' answered → Performed n by call n' box box' answered
performed_by n n' by call box box' answered held sound wide sending can ranges d =
    record { frames = d.0; performs = d.1; turn = performs_kept n n' by call d.0 answered (kept_of n held) can ranges d.1 sound wide sending; adds = d.2 }

pub call_performed : {E : Type 0} (n n' : NodeState) (by : By) (call : EventNote) (box box' : Out) (r : Result Answer E) → Held n → AreSockets n'.sockets → length n'.neighbours ≡ 33 → IsSending n'.casting.sending → CanPerform call → HasInstances call → IfOk r (IsDone n by call n' box box')
    → IfOk r (Performed n by call n' box box')
call_performed n n' by call box box' r held sound wide sending can ranges done =
    IfOk-weaker r (IsDone n by call n' box box') (Performed n by call n' box box') (λ a. performed_by n n' by call box box' a held sound wide sending can ranges) done

pub call_kept : {E : Type 0} (n n' : NodeState) (by : By) (call : EventNote) (box box' : Out) (r : Result Answer E) → Held n → AreSockets n'.sockets → length n'.neighbours ≡ 33 → IsSending n'.casting.sending → CanPerform call → HasInstances call → IfOk r (IsDone n by call n' box box') → OnErr r (n' ≡ n)
    → Held n'
call_kept n n' by call box box' (Ok a) held sound wide sending can ranges done same =
    let p = performed_by n n' by call box box' a held sound wide sending can ranges done in
    held_of n' (turn_kept n n' by call [] (kept_answer a) p.frames (kept_of n held) p.turn)
call_kept n n' by call box box' (Err e) held sound wide sending can ranges done same = subst Held (sym same) held

-- ---- an arrival

-- a frame arrived, and these frames left
abbrev pub IsMet : NodeState → By → ℕ → ℕ → List ℕ → NodeState → Out → Out → Arrival → Type 0
IsMet n by bearer number bytes n' box box' answered = (frames : List Outgoing) × Arrives n n' by bearer number bytes frames answered × Adds box box' frames

arrived_by : (n n' : NodeState) (by : By) (bearer number : ℕ) (bytes : List ℕ) (box box' : Out) (answered : Arrival) → Held n → AreSockets n'.sockets → IsSending n'.casting.sending → IsMet n by bearer number bytes n' box box' answered
    → Arrived n by bearer number bytes n' box box' answered
arrived_by n n' by bearer number bytes box box' answered held sound sending d =
    record { frames = d.0; arrives = d.1; turn = arrives_kept n n' by bearer number bytes d.0 answered (kept_of n held) d.1 sound sending; adds = d.2 }

pub frame_arrived : {E : Type 0} (n n' : NodeState) (by : By) (bearer number : ℕ) (bytes : List ℕ) (box box' : Out) (r : Result Arrival E) → Held n → AreSockets n'.sockets → IsSending n'.casting.sending → IfOk r (IsMet n by bearer number bytes n' box box')
    → IfOk r (Arrived n by bearer number bytes n' box box')
frame_arrived n n' by bearer number bytes box box' r held sound sending met =
    IfOk-weaker r (IsMet n by bearer number bytes n' box box') (Arrived n by bearer number bytes n' box box') (λ a. arrived_by n n' by bearer number bytes box box' a held sound sending) met

pub arrival_kept : {E : Type 0} (n n' : NodeState) (by : By) (bearer number : ℕ) (bytes : List ℕ) (box box' : Out) (r : Result Arrival E) → Held n → AreSockets n'.sockets → IsSending n'.casting.sending → IfOk r (IsMet n by bearer number bytes n' box box')
    → OnErr r (n' ≡ n) → Held n'
arrival_kept n n' by bearer number bytes box box' (Ok a) held sound sending met same =
    let p = arrived_by n n' by bearer number bytes box box' a held sound sending met in
    held_of n' (turn_kept n n' by (event.Arrive bearer number) bytes (answer.Arrived a) p.frames (kept_of n held) p.turn)
arrival_kept n n' by bearer number bytes box box' (Err e) held sound sending met same = subst Held (sym same) held

-- ---- what an error leaves

pub same_node : {E : Type 0} (n n' : NodeState) (box box' : Out) (r : Result Arrival E) → OnErr r ((n' ≡ n) × (box' ≡ box)) → OnErr r (n' ≡ n)
same_node n n' box box' (Ok a) h = tt
same_node n n' box box' (Err e) h = h.0

pub same_call : {E : Type 0} (n n' : NodeState) (r : Result Answer E) (A B : Type 0) → OnErr r ((n' ≡ n) × A × B) → OnErr r (n' ≡ n)
same_call n n' (Ok a) A B h = tt
same_call n n' (Err e) A B h = h.0

-- ---- which match a message by name went to

-- what the node finds is what its journal tells
pub picked_of : (gives : ℕ → ℕ → ℕ → Type 0) (turn : ℕ) (n : NodeState) (call : EventNote) (answered : Answer) → IsTold n → IsPickedFrom gives turn n call answered
    → IsPicked gives turn (addr_of_word n.own) n.journal call answered
picked_of gives turn n (event.SendName port kind instance importance body) answered told picked =
    subst (λ (found : List Publication). IsPickedOf gives turn found answered) (told_found n kind instance told) picked
picked_of gives turn n other answered told picked = tt
