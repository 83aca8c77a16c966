-- A link of a node goes up while the contact lasts: the record of its bearer is that of the epoch under which it did, by an event of the receiver.
use Rattle.std.proofs.Common.{◌≡◌, ◌-◌, ℕ, Some, refl, sym, subst, inl, inr, arith}
use Rattle.tipc_link.specs.Links.{LinkEnd, record_of}
use Rattle.tipc_link.specs.Records.{kept_for}
use Rattle.tipc_changeover.specs.Links.{turned_state, Bearer, First, Second}
use Rattle.tipc_two_nodes.specs.links.Receiving.{IsSessionRecord, IsRecordFor, record_at}
use Rattle.tipc_two_nodes.specs.links.Sending.{number_as}
use Rattle.tipc_two_nodes.specs.links.Traffic.{turned_traffic as turned_traffic}
use Rattle.tipc_two_nodes.proofs.links.receiver.Tunnelling.{keeps_record}
use Rattle.tipc_two_nodes.proofs.links.sender.Turning.{follows_from, lines_turned}
use Rattle.tipc_paired.proofs.sessions.RiseDeeds.{Went}
use Rattle.tipc_paired.specs.Views.{Begun, View}
use Rattle.tipc_two_nodes.specs.Carriages.{IsPresent}
use Rattle.tipc_two_nodes.specs.Steps.{Receives}
use Rattle.tipc_two_nodes.specs.Twins.{AreTwins, takes_in}
use Rattle.tipc_two_nodes.proofs.arrivals.Arriving.{went_begins}

-- What a link of x on a bearer that went up made of its records, beside the other one: one is kept for this epoch, or a new one begins.
pub record RecordBegins (x x' : View) (b other : ℕ) (e : LinkEnd) (es : ℕ) : Type 0 where
  pub begins : record_at (x'.wires b).end ≡ Some (kept_for (record_of e) es)
  pub stays : record_at (x'.wires other).end ≡ record_at (x.wires other).end

-- and x keeps its numbers, and what began and was taken
pub record KeepsOnAt (x x' : View) : Type 0 where
  pub node : x'.node ≡ x.node
  pub begun : (c epoch : ℕ) (g : Begun) → (x.wires c).begun epoch ≡ Some g → (x'.wires c).begun epoch ≡ Some g
  pub present : IsPresent x x.node.contact x.node.seen
  pub got : (c epoch : ℕ) → (x'.wires c).got epoch ≡ (x.wires c).got epoch

-- so it takes, and no packet
pub record TakesNew (x x' y : View) (h : AreTwins x y) : Type 0 where
  pub receives : Receives x x' (takes_in x y h)
  pub delivered : receives.state.delivered ≡ (takes_in x y h).state.delivered

first_receives : (x x' y : View) (h : AreTwins x y) (e e' : LinkEnd) (es : ℕ) → KeepsOnAt x x' → Went x y 0 e e' es → RecordBegins x x' 0 1 e es → TakesNew x x' y h
first_receives x x' y h e e' es k m r =
    let c = takes_in x y h in
    let S = h.receives.sent x.node.seen x.node.contact in
    let T = h.receives.taken x.node.seen x.node.contact in
    let here = k.present in
    let was = T.near here in
    let B = went_begins x y 0 e e' es c.traffic c.state h.paired m S.near was in
    let R = keeps_record First 0 c.traffic c.state (record_of e) B.session S.lines (subst (λ o. IsRecordFor c.traffic.near (record_at o) c.state.near_record) m.end_is was) B.may.counts B.may.later B.may.begun B.may.held in
    let own = subst (λ n. IsSessionRecord c.traffic.near (kept_for (record_of e) n) R.state.near_record) (sym B.epoch_is) R.near_is in
    record {
      receives = record {
        node = k.node;
        begun = k.begun;
        present = λ now. here;
        state = R.state;
        takes = R.takes;
        moved = inr here;
        near = λ now. subst (λ o. IsRecordFor c.traffic.near o R.state.near_record) (sym r.begins) (inr own);
        far = λ now. subst (λ o. IsRecordFor c.traffic.far o R.state.far_record) (sym r.stays) (subst (IsRecordFor c.traffic.far (record_at (x.wires 1).end)) (sym R.far_is) (T.far here));
        near_got = λ epoch. inl (k.got 0 epoch);
        far_got = λ epoch. inl (k.got 1 epoch);
      };
      delivered = R.delivered;
    }

second_receives : (x x' y : View) (h : AreTwins x y) (e e' : LinkEnd) (es : ℕ) → KeepsOnAt x x' → Went x y 1 e e' es → RecordBegins x x' 1 0 e es → TakesNew x x' y h
second_receives x x' y h e e' es k m r =
    let c = takes_in x y h in
    let t = turned_traffic c.traffic in
    let s = turned_state c.state in
    let S = h.receives.sent x.node.seen x.node.contact in
    let T = h.receives.taken x.node.seen x.node.contact in
    let here = k.present in
    let was = T.far here in
    let B = went_begins x y 1 e e' es t s h.paired m S.far was in
    let R = keeps_record Second 1 t s (record_of e) B.session (lines_turned 0 c.traffic c.state (omega arith) S.lines) (subst (λ o. IsRecordFor t.near (record_at o) s.near_record) m.end_is was) B.may.counts B.may.later B.may.begun B.may.held in
    let own = subst (λ n. IsSessionRecord t.near (kept_for (record_of e) n) R.state.near_record) (sym B.epoch_is) R.near_is in
    record {
      receives = record {
        node = k.node;
        begun = k.begun;
        present = λ now. here;
        state = turned_state R.state;
        takes = follows_from Second First c.state R.state refl R.takes;
        moved = inr here;
        near = λ now. subst (λ o. IsRecordFor c.traffic.near o R.state.far_record) (sym r.stays) (subst (IsRecordFor c.traffic.near (record_at (x.wires 0).end)) (sym R.far_is) (T.near here));
        far = λ now. subst (λ o. IsRecordFor c.traffic.far o R.state.near_record) (sym r.begins) (inr own);
        near_got = λ epoch. inl (k.got 0 epoch);
        far_got = λ epoch. inl (k.got 1 epoch);
      };
      delivered = R.delivered;
    }

-- on either bearer
pub rise_receives : (b : Bearer) (x x' y : View) (h : AreTwins x y) (e e' : LinkEnd) (es : ℕ) → KeepsOnAt x x' → Went x y (number_as b) e e' es → RecordBegins x x' (number_as b) (1 - number_as b) e es → TakesNew x x' y h
rise_receives First x x' y h e e' es k m r = first_receives x x' y h e e' es k m r
rise_receives Second x x' y h e e' es k m r = second_receives x x' y h e e' es k m r
