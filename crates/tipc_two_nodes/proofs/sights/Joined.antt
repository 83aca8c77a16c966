-- The sessions of two link ends that are up with each other are joined.
use Rattle.std.proofs.Common.{◌≡◌, ◌≤◌, ◌+◌, ℕ, Some, length, sym, ap, ◌∙◌, subst, arith}
use Rattle.tipc_link.specs.Direction.{IsDirection, IsReceiver}
use Rattle.tipc_link.specs.Links.{LinkEnd}
use Rattle.tipc_link.specs.Sessions.{SessionEnd}
use Rattle.tipc_repair.specs.Laws.{SendsTo}
use Rattle.tipc_paired.proofs.PairedLaw.{turned as turned_pair}
use Rattle.tipc_paired.proofs.wires.Wires.{same_some, session_of_up}
use Rattle.tipc_paired.specs.Deeds.{IsUp}
use Rattle.tipc_paired.specs.Paired.{ArePaired}
use Rattle.tipc_paired.specs.Views.{View}
use Rattle.tipc_two_nodes.specs.Joined.{StandingAreJoined}

-- the epochs of a session are those of its link end
epochs_of : (x y : View) (b : ℕ) (e : LinkEnd) (s : SessionEnd) → ArePaired x y → IsUp (x.wires b) e s → (s.epoch ≡ e.fsm.own) × (e.fsm.peer ≡ Some s.peer_epoch)
epochs_of x y b e s h up =
    let going = (h.here.ends b e up.end_is).going up.up in
    let same : going.0 ≡ s = same_some going.0 s e.session going.1 up.session_is in
    (ap (λ (t : SessionEnd). t.epoch) (sym same) ∙ going.2, going.3 ∙ ap (λ (t : SessionEnd). Some t.peer_epoch) same)

-- one way: the session of y is with that of x
sends_to : (x y : View) (b : ℕ) (e d : LinkEnd) (s t : SessionEnd) → ArePaired x y → IsUp (x.wires b) e s → IsUp (y.wires b) d t → t.peer_epoch ≡ s.epoch → SendsTo s t ((x.wires b).line s.epoch)
sends_to x y b e d s t h here there with_it =
    let g = (h.here.wires b).going s (session_of_up (x.wires b) e s here) in
    let k = (h.there.wires b).going t (session_of_up (y.wires b) d t there) in
    let took_it : length ((y.wires b).got s.epoch) ≡ t.taken = ap (λ n. length ((y.wires b).got n)) (sym with_it) ∙ k.takes in
    let shown = subst (λ n. t.shown ≤ length ((x.wires b).line n) + 1) with_it k.shown in
    let count = g.sends.count in
    record {
      direction = subst (λ n. IsDirection s.sending n ((x.wires b).line s.epoch)) took_it g.sends;
      receiver = subst (λ n. IsReceiver t.held t.taken ((x.wires b).line n)) with_it k.holds;
      shown = omega (arith, shown, count);
    }

-- each knows the epoch of the other
met : (d : LinkEnd) (s t : SessionEnd) (own : ℕ) → s.epoch ≡ own → d.fsm.peer ≡ Some own → d.fsm.peer ≡ Some t.peer_epoch → t.peer_epoch ≡ s.epoch
met d s t own epoch known peer = same_some t.peer_epoch own d.fsm.peer peer known ∙ sym epoch

pub standing_are_joined : StandingAreJoined
standing_are_joined v w b s t h m =
    let x = h.here.view in
    let y = h.there.view in
    let paired = h.talking.twins.paired in
    let back = turned_pair x y paired in
    let here : IsUp (x.wires b) m.here s = record { end_is = h.seen_here.ends b ∙ m.here_up.end_is; up = m.here_up.up; session_is = m.here_up.session_is } in
    let there : IsUp (y.wires b) m.there t = record { end_is = h.seen_there.ends b ∙ m.there_up.end_is; up = m.there_up.up; session_is = m.there_up.session_is } in
    let own = epochs_of x y b m.here s paired here in
    let their = epochs_of y x b m.there t back there in
    record {
      line = (x.wires b).line s.epoch;
      sends = sends_to x y b m.here m.there s t paired here there (met m.there s t m.here.fsm.own own.0 m.known their.1);
      back = (y.wires b).line t.epoch;
      receives = sends_to y x b m.there m.here t s back there here (met m.here t s m.there.fsm.own their.0 m.knows own.1);
    }
