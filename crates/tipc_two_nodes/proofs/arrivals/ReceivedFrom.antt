-- The pair of a node as a receiver, seen from the link of either bearer: how it stands for what was sent, and what it took.
use Rattle.std.proofs.Common.{◌≡◌, ◌++◌, ℕ, List, length, refl, sym, subst, arith}
use Rattle.std.specs.Prelude.{take}
use Rattle.tipc_types.specs.declared.packet_lists.Taken.{Taken}
use Rattle.tipc_pair.specs.declared.changes.PairOutcome.{PairOutcome}
use Rattle.tipc_pair.specs.Facing.{PairEnds, other}
use Rattle.tipc_changeover.specs.Links.{Bearer, First, Second, State}
use Rattle.tipc_changeover.specs.Reached.{IsReached}
use Rattle.tipc_two_nodes.specs.links.Arriving.{IsMadeFor, Opens, Stands}
use Rattle.tipc_two_nodes.specs.links.Following.{ReceiverFollows}
use Rattle.tipc_two_nodes.specs.links.Receiving.{AreLines, IsRecordFor, bytes_in, record_at}
use Rattle.tipc_two_nodes.specs.links.Sending.{number_as}
use Rattle.tipc_two_nodes.proofs.links.sender.Turning.{follows_from, lines_turned}
use Rattle.tipc_paired.specs.Views.{View}
use Rattle.tipc_two_nodes.specs.deeds.PairDeeds.{IsOfPair}
use Rattle.tipc_two_nodes.specs.Carriages.{AreSessions, Carriage, taken_of}
use Rattle.tipc_two_nodes.specs.Pieces.{state_from, traffic_from}
use Rattle.tipc_two_nodes.proofs.calls.PairViews.{end_first, end_second}

-- ---- before

pub stands_from : (b : Bearer) (v : View) (p : PairEnds) (c : Carriage) → IsOfPair v p → p.bearer ≡ number_as b → IsReached c.state → AreLines 0 c.traffic c.state → IsRecordFor c.traffic.near (record_at (v.wires 0).end) c.state.near_record
    → IsRecordFor c.traffic.far (record_at (v.wires 1).end) c.state.far_record → IsMadeFor p (traffic_from b c.traffic) → Stands p b (traffic_from b c.traffic) (state_from b c.state) (taken_of c)
stands_from First v p c pair is reached lines near far made =
    let at = end_first v p pair is in
    record {
      two_bearers = pair.two_bearers;
      made = made;
      lines = subst (λ n. AreLines n c.traffic c.state) (sym is) lines;
      reached = reached;
      receive = record {
        near = subst (λ o. IsRecordFor c.traffic.near (record_at o) c.state.near_record) at.0 near;
        far = subst (λ o. IsRecordFor c.traffic.far (record_at o) c.state.far_record) at.1 far;
        first_ones = refl;
      };
    }
stands_from Second v p c pair is reached lines near far made =
    let at = end_second v p pair is in
    record {
      two_bearers = pair.two_bearers;
      made = made;
      lines = subst (λ n. AreLines n (traffic_from Second c.traffic) (state_from Second c.state)) (sym is) (lines_turned 0 c.traffic c.state (omega arith) lines);
      reached = reached;
      receive = record {
        near = subst (λ o. IsRecordFor c.traffic.far (record_at o) c.state.far_record) at.0 far;
        far = subst (λ o. IsRecordFor c.traffic.near (record_at o) c.state.near_record) at.1 near;
        first_ones = refl;
      };
    }

-- the record and the sessions of the near link's bearer
pub record_from : (b : Bearer) (v : View) (bearer : ℕ) (c : Carriage) → bearer ≡ number_as b → IsRecordFor c.traffic.near (record_at (v.wires 0).end) c.state.near_record → IsRecordFor c.traffic.far (record_at (v.wires 1).end) c.state.far_record
    → IsRecordFor (traffic_from b c.traffic).near (record_at (v.wires bearer).end) (state_from b c.state).near_record
record_from First v bearer c is near far = subst (λ n. IsRecordFor c.traffic.near (record_at (v.wires n).end) c.state.near_record) (sym is) near
record_from Second v bearer c is near far = subst (λ n. IsRecordFor c.traffic.far (record_at (v.wires n).end) c.state.far_record) (sym is) far

pub sessions_from : (b : Bearer) (y : View) (own theirs bearer : ℕ) (c : Carriage) → bearer ≡ number_as b → AreSessions y own theirs 0 c.traffic.near c.state.near → AreSessions y own theirs 1 c.traffic.far c.state.far
    → AreSessions y own theirs bearer (traffic_from b c.traffic).near (state_from b c.state).near
sessions_from First y own theirs bearer c is near far = subst (λ n. AreSessions y own theirs n c.traffic.near c.state.near) (sym is) near
sessions_from Second y own theirs bearer c is near far = subst (λ n. AreSessions y own theirs n c.traffic.far c.state.far) (sym is) far

pub far_sessions_from : (b : Bearer) (y : View) (own theirs bearer : ℕ) (c : Carriage) → bearer ≡ number_as b → AreSessions y own theirs 0 c.traffic.near c.state.near → AreSessions y own theirs 1 c.traffic.far c.state.far
    → AreSessions y own theirs (other bearer) (traffic_from b c.traffic).far (state_from b c.state).far
far_sessions_from First y own theirs bearer c is near far = subst (λ n. AreSessions y own theirs (other n) c.traffic.far c.state.far) (sym is) far
far_sessions_from Second y own theirs bearer c is near far = subst (λ n. AreSessions y own theirs (other n) c.traffic.near c.state.near) (sym is) near

-- ---- and then

-- by events of the receiver the records of a node stand for those of a state, and these packets were taken behind others
pub record TakesSo (v' : View) (c : Carriage) (before : List (List ℕ)) (carried : List Taken) : Type 0 where
  pub state : State
  pub takes : ReceiverFollows First c.state state
  pub near : IsRecordFor c.traffic.near (record_at (v'.wires 0).end) state.near_record
  pub far : IsRecordFor c.traffic.far (record_at (v'.wires 1).end) state.far_record
  pub first_ones : take (length state.delivered) c.traffic.put ≡ before ++ bytes_in carried

pub opens_take : (b : Bearer) (v' : View) (q : PairEnds) (bearer : ℕ) (c : Carriage) (before : List (List ℕ)) (given : PairOutcome) (heard : PairEnds) → IsOfPair v' q → q.bearer ≡ number_as b
    → (o : Opens b bearer (traffic_from b c.traffic) (state_from b c.state) before heard q given) → TakesSo v' c before o.carried
opens_take First v' q bearer c before given heard pair is o =
    let R = o.receives in
    let at = end_first v' q pair is in
    record {
      state = R.state;
      takes = R.takes;
      near = subst (λ o. IsRecordFor c.traffic.near (record_at o) R.state.near_record) (sym at.0) R.receive.near;
      far = subst (λ o. IsRecordFor c.traffic.far (record_at o) R.state.far_record) (sym at.1) R.receive.far;
      first_ones = R.receive.first_ones;
    }
opens_take Second v' q bearer c before given heard pair is o =
    let R = o.receives in
    let at = end_second v' q pair is in
    record {
      state = state_from Second R.state;
      takes = follows_from Second First c.state R.state refl R.takes;
      near = subst (λ o. IsRecordFor c.traffic.near (record_at o) R.state.far_record) (sym at.1) R.receive.far;
      far = subst (λ o. IsRecordFor c.traffic.far (record_at o) R.state.near_record) (sym at.0) R.receive.near;
      first_ones = R.receive.first_ones;
    }
