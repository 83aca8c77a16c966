-- What always holds of a node stays so: its journal tells of it, its pairs are for the peers of their numbers, its sessions are packed,
-- it shares its names with its peers, it has a link end to each peer that it found, and its broadcast link has the peers in contact.
use Rattle.std.proofs.Common.{◌≡◌, ℕ, List, [], None, length}
use Rattle.tipc_types.specs.Address.{IsNodeWord}
use Rattle.tipc_types.specs.declared.node_calls.Answer.{Answer}
use Rattle.tipc_types.specs.declared.node_calls.Answer.TheVariants as answer
use Rattle.tipc_types.specs.declared.node_calls.Arrival.{Arrival}
use Rattle.tipc_types.specs.declared.node_calls.By.{By}
use Rattle.tipc_types.specs.declared.node_calls.EventNote.{EventNote}
use Rattle.tipc_types.specs.declared.node_calls.EventNote.TheVariants as event
use Rattle.tipc_outside.specs.declared.outgoing.Outgoing.{Outgoing}
use Rattle.tipc_send_window.specs.Sending.{IsSending}
use Rattle.tipc_sockets.specs.SocketTables.{AreSockets, no_sockets}
use Rattle.tipc_node.specs.Arrivals.{Arrives}
use Rattle.tipc_node.specs.Calls.{CallTurn, CanPerform, HasInstances, Performs}
use Rattle.tipc_node.specs.Discovery.{AreFound, nobody_heard}
use Rattle.tipc_node.specs.Nodes.{NodeState, neighbour_of, step_of}
use Rattle.tipc_node.specs.Sharing.{SharesNames}
use Rattle.tipc_node.specs.Sockets.{kept_answer}
use Rattle.tipc_node.specs.Telling.{ArePacked, IsTold}
use Rattle.tipc_node.specs.Turns.{AreCast, AreNamed}
use Rattle.tipc_node.proofs.journal.ArrivalTold.{arrives_told}
use Rattle.tipc_broadcast.specs.Casting.{booted}
use Rattle.tipc_node.proofs.turns.Arrivals.{arrives_turn}
use Rattle.tipc_node.proofs.turns.CastKept.{new_cast, turn_cast}
use Rattle.tipc_node.proofs.journal.FirstTold.{new_told}
use Rattle.tipc_node.proofs.turns.Discovery.{boot_low}
use Rattle.tipc_node.proofs.turns.FoundKept.{arrives_found, new_are_found, performs_found}
use Rattle.tipc_node.proofs.turns.Named.{IsBoot, new_named, turn_named}
use Rattle.tipc_node.proofs.pairs.Packed.{new_packed, turn_packed}
use Rattle.tipc_node.proofs.turns.Performing.{performs_turn}
use Rattle.tipc_node.proofs.names.SharedNames.{new_shares, performs_shares}
use Rattle.tipc_node.proofs.names.SharingArrivals.{arrives_shares}
use Rattle.tipc_node.proofs.journal.Told.{performs_told}

pub record IsKept (n : NodeState) : Type 0 where
  pub told : IsTold n
  pub named : AreNamed n
  pub packed : ArePacked n
  pub shares : SharesNames n
  pub found : AreFound n
  pub cast : AreCast n

-- a node that knows nobody
pub new_kept : (n : NodeState) → IsNodeWord n.own → IsBoot n.boot → n.sockets ≡ no_sockets n.own n.boot → AreSockets n.sockets → n.journal ≡ [] → ((peer : ℕ) → neighbour_of n peer ≡ None)
    → n.found ≡ nobody_heard n.own → n.casting ≡ booted n.own n.boot → IsKept n
new_kept n node boot none sound empty nobody unheard fresh = record {
  told = new_told n none sound empty nobody;
  named = new_named n boot nobody;
  packed = new_packed n nobody n.own n.boot fresh;
  shares = new_shares n empty;
  found = new_are_found n nobody unheard;
  cast = new_cast n node nobody fresh;
}

-- a step was recorded
pub turn_kept : (n n' : NodeState) (by : By) (note : EventNote) (bytes : List ℕ) (kept : Answer) (frames : List Outgoing) → IsKept n → CallTurn n n' by note bytes kept frames → IsKept n'
turn_kept n n' by note bytes kept frames k t = record {
  told = t.told;
  named = turn_named n n' bytes (step_of by note t.inside kept) frames k.named t.turn;
  packed = turn_packed n n' bytes (step_of by note t.inside kept) frames k.told k.packed t.turn;
  shares = t.shared;
  found = t.found;
  cast = turn_cast n n' bytes (step_of by note t.inside kept) frames k.told (boot_low n k.told k.named) k.cast t.turn;
}

-- a call; a publication of it has a range with instances
pub performs_kept : (n n' : NodeState) (by : By) (call : EventNote) (frames : List Outgoing) (answered : Answer) → IsKept n → CanPerform call → HasInstances call → Performs n by call n' frames answered → AreSockets n'.sockets
    → length n'.neighbours ≡ 33 → IsSending n'.casting.sending → CallTurn n n' by call [] (kept_answer answered) frames
performs_kept n n' by call frames answered k can ranges performs sound wide sending =
    let t = performs_turn n n' by call frames answered k.told k.named (boot_low n k.told k.named) k.cast wide can performs in
    let told = performs_told n n' by call frames answered k.told k.packed performs t.0 t.1 sound in
    record {
      inside = t.0;
      turn = t.1;
      told_before = k.told;
      joined_before = k.cast.joined;
      told = told;
      shared = performs_shares n n' by call frames answered k.told k.shares performs t.0 t.1 told ranges wide;
      found = performs_found n n' by call frames answered k.named k.found can performs t.0 (kept_answer answered) t.1;
      sending = sending;
    }

-- an arrival
pub arrives_kept : (n n' : NodeState) (by : By) (bearer number : ℕ) (bytes : List ℕ) (frames : List Outgoing) (answered : Arrival) → IsKept n → Arrives n n' by bearer number bytes frames answered → AreSockets n'.sockets
    → IsSending n'.casting.sending → CallTurn n n' by (event.Arrive bearer number) bytes (answer.Arrived answered) frames
arrives_kept n n' by bearer number bytes frames answered k arrives sound sending =
    let t = arrives_turn n n' by bearer number bytes frames answered k.told k.named k.found k.cast (boot_low n k.told k.named) arrives in
    let told = arrives_told n n' by bearer number bytes frames answered k.told k.cast.joined arrives t.0 t.1 sound in
    record {
      inside = t.0;
      turn = t.1;
      told_before = k.told;
      joined_before = k.cast.joined;
      told = told;
      shared = arrives_shares n n' by bearer number bytes frames answered k.told k.shares arrives t.0 t.1 told;
      found = arrives_found n n' by bearer number bytes frames answered t.0 k.named k.found arrives t.1;
      sending = sending;
    }
