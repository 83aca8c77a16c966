-- A deed on one wire.
use Rattle.std.proofs.Common.{◌≡◌, ℕ, [], Option, Some, refl, sym, ap, ◌∙◌, subst, append-nil}
use Rattle.tipc_contact.specs.Peers.{ArePeers}
use Rattle.tipc_link.specs.Links.{LinkEnd}
use Rattle.tipc_paired.proofs.wires.Growing.{Agree, Grows, frame_here, half_back, told_none}
use Rattle.tipc_paired.proofs.wires.Sides.{ordered_still}
use Rattle.tipc_paired.proofs.wires.Wires.{on_put, prefix_same}
use Rattle.tipc_paired.specs.Paired.{ArePaired, IsEnd, IsEpochs, IsRecords, IsWire, IsHeardEpoch}
use Rattle.tipc_paired.specs.Views.{View, Wire, put_at, said_by, side_of, with_wire}

pub grows_same : (w : Wire) → Grows w w
grows_same w = record { line = λ epoch. prefix_same (w.line epoch); got = λ epoch. prefix_same (w.got epoch); begun = λ epoch g is. is }

pub agree_turned : (w v : Wire) → Agree w v → Agree v w
agree_turned w v agree epoch g h g_is h_is back =
    let there = agree g.peer_epoch h g h_is (ap v.begun back ∙ g_is) refl in
    (sym there.1, sym there.0)

-- an end that took no other epoch of the peer
pub high_still : (x y : View) (b : ℕ) (e e' : LinkEnd) → ArePaired x y → (x.wires b).end ≡ Some e → e'.fsm.highest ≡ e.fsm.highest → (d : LinkEnd) → ◌≡◌ {A = Option LinkEnd} (Some e') (Some d)
    → IsHeardEpoch y.told b d.fsm.highest
high_still x y b e e' h is same d there =
    let one : e' ≡ d = cc in
    subst (λ (k : LinkEnd). IsHeardEpoch y.told b k.fsm.highest) one (subst (IsHeardEpoch y.told b) (sym same) (h.here.highest b e is))

-- wire b of x has become w', and what holds of it still holds
pub record WireStep (x y : View) (b : ℕ) (w' : Wire) : Type 0 where
  pub grows : Grows (x.wires b) w'
  pub end : (e : LinkEnd) → w'.end ≡ Some e → IsEnd x.node b e
  pub wire : IsWire x.node.own w' (y.wires b)
  pub records : IsRecords x.node w' (y.wires b)
  pub epochs : IsEpochs x.node b x.told y.told w' (y.wires b)
  pub highest : (e : LinkEnd) → w'.end ≡ Some e → IsHeardEpoch y.told b e.fsm.highest
  pub peers : ArePeers (side_of (with_wire x b w')) (said_by x) (side_of y) (said_by y)

pub wire_deed : (x y : View) (b : ℕ) (w' : Wire) → ArePaired x y → WireStep x y b w' → ArePaired (with_wire x b w') y
wire_deed x y b w' h k =
    let grows : (c : ℕ) → Grows (x.wires c) (put_at x.wires b w' c) = on_put x.wires b w' (λ c w. Grows (x.wires c) w) k.grows (λ c. grows_same (x.wires c)) in
    let wires : (c : ℕ) → IsWire x.node.own (put_at x.wires b w' c) (y.wires c) = on_put x.wires b w' (λ c w. IsWire x.node.own w (y.wires c)) k.wire h.here.wires in
    let epochs : (c : ℕ) → IsEpochs x.node c x.told y.told (put_at x.wires b w' c) (y.wires c) = on_put x.wires b w' (λ c w. IsEpochs x.node c x.told y.told w (y.wires c)) k.epochs h.here.epochs in
    record {
      peers = k.peers;
      order = ordered_still (side_of x) (side_of y) (said_by x) (said_by y) (side_of (with_wire x b w')).ends h.order;
      here = record {
        node = h.here.node;
        ends = on_put x.wires b w' (λ c (w : Wire). (e : LinkEnd) → w.end ≡ Some e → IsEnd x.node c e) k.end h.here.ends;
        wires = wires;
        records = on_put x.wires b w' (λ c w. IsRecords x.node w (y.wires c)) k.records h.here.records;
        epochs = epochs;
        highest = on_put x.wires b w' (λ c (w : Wire). (e : LinkEnd) → w.end ≡ Some e → IsHeardEpoch y.told c e.fsm.highest) k.highest h.here.highest;
        frames = λ i f there. frame_here x.node.own (x.wires f.bearer) _ (y.wires f.bearer) f (h.here.frames i f there) (grows f.bearer);
      };
      there = half_back y x (with_wire x b w') [] h.there grows (λ c epoch. (wires c).prefix epoch) (λ c. agree_turned (put_at x.wires b w' c) (y.wires c) (epochs c).agree) (told_none y) (sym (append-nil x.told));
    }
