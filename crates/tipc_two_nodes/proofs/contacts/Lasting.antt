-- What events of the receiver leave as it is of the sender's side, and those of the sender of the receiver's.
use Rattle.std.proofs.Common.{◌≡◌, ◌<◌, ℕ, ◌+◌, true, List, [], ◌∷◌, ◌++◌, Option, Some, None, refl, sym, ap, ◌∙◌, subst, inl, inr, append_assoc, append-nil, arith}
use Rattle.tipc_link.specs.Records.{Received}
use Rattle.tipc_paired.specs.Views.{View}
use Rattle.tipc_changeover.specs.Links.{turned_state, Bearer, First, Receiver, Sender, State}
use Rattle.tipc_changeover.specs.Events.{acted, taken_out, Acknowledge, Event, Failover, LinkUp, Number, Put, Record, Release, Switch, TakePlain, TakeTunnel}
use Rattle.tipc_two_nodes.specs.links.Following.{far, is_received, near, stays, ReceiverFollows}
use Rattle.tipc_two_nodes.specs.links.Laws.{TakesNone}
use Rattle.tipc_two_nodes.specs.links.Packets.{AreFor, IsFor}
use Rattle.tipc_two_nodes.specs.links.Receiving.{AreLines, IsSessionRecord, IsRecordFor, record_at}
use Rattle.tipc_two_nodes.specs.links.Sending.{IsSender, SendingEnds, StandFor, beside}
use Rattle.tipc_two_nodes.specs.links.Traffic.{Lines, Traffic}
use Rattle.tipc_two_nodes.proofs.links.sender.Grown.{Grows}
use Rattle.tipc_two_nodes.proofs.links.sender.Happening.{follows_reached}
use Rattle.tipc_two_nodes.specs.Carriages.{AreSessions, Carriage, IsSent, IsTaken, Numbers}

-- ---- the receiver takes

-- the senders are as they were, and more may be taken
pub record SendersStay (s s' : State) : Type 0 where
  pub near : s'.near ≡ s.near
  pub far : s'.far ≡ s.far
  pub put : s'.put ≡ s.put
  pub more : List ℕ
  pub delivered : s'.delivered ≡ s.delivered ++ more

stay_same : (s : State) → SendersStay s s
stay_same s = record { near = refl; far = refl; put = refl; more = []; delivered = sym (append-nil s.delivered) }

stay_one : (s : State) (event : Event) → is_received event ≡ true → SendersStay s (acted s event)
stay_one s Put is = absurd (let wrong : ⊥ = cc in wrong)
stay_one s (Number slot rest) is = absurd (let wrong : ⊥ = cc in wrong)
stay_one s (Acknowledge places) is = absurd (let wrong : ⊥ = cc in wrong)
stay_one s Release is = absurd (let wrong : ⊥ = cc in wrong)
stay_one s (Record session) is = record { near = refl; far = refl; put = refl; more = []; delivered = sym (append-nil s.delivered) }
stay_one s (TakePlain index) is = record { near = refl; far = refl; put = refl; more = index ∷ []; delivered = refl }
stay_one s (TakeTunnel session place full opening) is = record { near = refl; far = refl; put = refl; more = taken_out opening; delivered = refl }
stay_one s LinkUp is = absurd (let wrong : ⊥ = cc in wrong)
stay_one s Switch is = absurd (let wrong : ⊥ = cc in wrong)
stay_one s Failover is = absurd (let wrong : ⊥ = cc in wrong)

stay_then : (s s' s'' : State) → SendersStay s s' → SendersStay s' s'' → SendersStay s s''
stay_then s s' s'' f g = record {
  near = g.near ∙ f.near;
  far = g.far ∙ f.far;
  put = g.put ∙ f.put;
  more = f.more ++ g.more;
  delivered = g.delivered ∙ (ap (λ ds. ds ++ g.more) f.delivered ∙ append_assoc s.delivered f.more g.more);
}

stay_turned : (s s' : State) → SendersStay (turned_state s) (turned_state s') → SendersStay s s'
stay_turned s s' h = record { near = h.far; far = h.near; put = h.put; more = h.more; delivered = h.delivered }

pub takes_stay : (b : Bearer) (s s' : State) → ReceiverFollows b s s' → SendersStay s s'
takes_stay b s s' stays = stay_same s
takes_stay b s s' (near next event f may is) = stay_then s next _ (takes_stay b s next f) (stay_one next event is)
takes_stay b s s' (far next event f may is) = stay_then s next _ (takes_stay b s next f) (stay_turned next (turned_state (acted (turned_state next) event)) (stay_one (turned_state next) event is))

pub stand_stays : (b : Bearer) (x : SendingEnds) (t : Traffic) (s s' : State) → StandFor b x t s → SendersStay s s' → StandFor b x t s'
stand_stays b x t s s' h same = record {
  bearer = h.bearer;
  put = h.put ∙ sym same.put;
  near = subst (λ z. IsSender (IsFor t.put (beside x.bearer) t.far) t.near x.near z) (sym same.near) h.near;
  far = subst (λ z. IsSender (IsFor t.put x.bearer t.near) t.far x.far z) (sym same.far) h.far;
}

pub lines_stay : (bearer : ℕ) (t : Traffic) (s s' : State) → AreLines bearer t s → SendersStay s s' → AreLines bearer t s'
lines_stay bearer t s s' h same = record {
  put = h.put ∙ sym same.put;
  near = λ session. subst (λ (z : Sender). AreFor (IsFor t.put (beside bearer) t.far) (z.line session) (t.near.line session)) (sym same.near) (h.near session);
  far = λ session. subst (λ (z : Sender). AreFor (IsFor t.put bearer t.near) (z.line session) (t.far.line session)) (sym same.far) (h.far session);
}

-- what x sent stays so when the other node takes of it, which it doesn't do before x knows its number
pub sent_taken : (x : View) (n : Numbers) (own theirs : ℕ) (c : Carriage) (s' : State) → IsSent x n own theirs c → ReceiverFollows First c.state s' → (x.node.contact ≡ own → x.node.seen < theirs → ⊥)
    → IsSent x n own theirs (record { traffic = c.traffic; state = s' })
sent_taken x n own theirs c s' h takes known =
    let same = takes_stay First c.state s' takes in
    record {
      reached = follows_reached First c.state s' h.reached takes;
      lines = lines_stay 0 c.traffic c.state s' h.lines same;
      near_first = h.near_first;
      far_first = h.far_first;
      near = subst (λ z. AreSessions x own theirs 0 c.traffic.near z) (sym same.near) h.near;
      far = subst (λ z. AreSessions x own theirs 1 c.traffic.far z) (sym same.far) h.far;
      now = λ here seen. stand_stays First _ c.traffic c.state s' (h.now here seen) same;
      ahead = λ here apart higher. absurd (known here higher);
    }

-- ---- the sender sends

session_grown : (l l' : Lines) (a : Received) (r : Receiver) → Grows l l' → IsSessionRecord l a r → IsSessionRecord l' a r
session_grown l l' a r g h = record {
  begun = h.begun;
  epoch = ap (λ n. n + r.session) g.first ∙ h.epoch;
  taken = h.taken;
  holds = record {
    window = h.holds.window;
    wants = h.holds.wants;
    holds = λ d t held. g.stays r.session (a.taken + d) t.packet (h.holds.holds d t held);
  };
  plain = h.plain;
}

pub record_grown : (l l' : Lines) (o : Option Received) (r : Receiver) → Grows l l' → IsRecordFor l o r → IsRecordFor l' o r
record_grown l l' None r g h = h
record_grown l l' (Some a) r g (inl old) = inl ((let first = g.first in let lower = old.0 in omega arith), old.1)
record_grown l l' (Some a) r g (inr h) = inr (session_grown l l' a r g h)

-- the receiver's side stays so when more is sent
pub taken_sent : (y : View) (own theirs : ℕ) (c c' : Carriage) → IsTaken y own theirs c → TakesNone c.state c'.state → Grows c.traffic.near c'.traffic.near → Grows c.traffic.far c'.traffic.far → IsTaken y own theirs c'
taken_sent y own theirs c c' h same first second = record {
  near = λ present. subst (λ r. IsRecordFor c'.traffic.near (record_at (y.wires 0).end) r) (sym same.near) (record_grown c.traffic.near c'.traffic.near (record_at (y.wires 0).end) c.state.near_record first (h.near present));
  far = λ present. subst (λ r. IsRecordFor c'.traffic.far (record_at (y.wires 1).end) r) (sym same.far) (record_grown c.traffic.far c'.traffic.far (record_at (y.wires 1).end) c.state.far_record second (h.far present));
  none = λ ahead. (let k = h.none ahead in record { near = same.near ∙ k.near; far = same.far ∙ k.far; delivered = same.delivered ∙ k.delivered });
}
