-- What stands for a state as it is seen from one link stands for it as it is seen from the other.
use Rattle.std.proofs.Common.{Bool, ℕ, ◌≡◌, refl, sym, ap, ◌∙◌, subst, arith, ◌≤◌}
use Rattle.tipc_changeover.specs.Links.{other, turned_state, Bearer, First, Second, State}
use Rattle.tipc_changeover.specs.Events.{Event, MayAct}
use Rattle.tipc_two_nodes.specs.links.Traffic.{Traffic, turned_traffic as turned_traffic}
use Rattle.tipc_two_nodes.specs.links.Packets.{AreFor, IsFor}
use Rattle.tipc_two_nodes.specs.links.Receiving.{AreLines}
use Rattle.tipc_two_nodes.specs.links.Sending.{IsSender, SendingEnds, StandFor, beside, number_as, turned_sending as turned_ends}
use Rattle.tipc_two_nodes.specs.links.Following.{Become, Events, far, near, stays}

other_number : (b : Bearer) → beside (number_as b) ≡ number_as (other b)
other_number First = refl
other_number Second = refl

beside_twice : (b : Bearer) → beside (beside (number_as b)) ≡ number_as b
beside_twice First = refl
beside_twice Second = refl

pub stand_turned : (b : Bearer) (x : SendingEnds) (t : Traffic) (s : State) → StandFor b x t s → StandFor (other b) (turned_ends x) (turned_traffic t) (turned_state s)
stand_turned b x t s h =
    let back : x.bearer ≡ beside (beside x.bearer) = h.bearer ∙ (sym (beside_twice b) ∙ ap (λ n. beside (beside n)) (sym h.bearer)) in
    record {
      bearer = ap beside h.bearer ∙ other_number b;
      put = h.put;
      near = subst (λ n. IsSender (IsFor t.put n t.near) t.far x.far s.far) back h.far;
      far = h.near;
    }

other_back : (b b' : Bearer) → other b' ≡ b → other b ≡ b'
other_back b First is = ap other (sym is)
other_back b Second is = ap other (sym is)

pub follows_from : {kind : Event → Bool} (b b' : Bearer) (s s' : State) → other b' ≡ b → Events kind b (turned_state s) s' → Events kind b' s (turned_state s')
follows_from b b' s s' is stays = stays
follows_from b b' s s' is (near next event f may sent) = far (turned_state next) event (follows_from b b' s next is f) (subst (λ c. MayAct c next event) (sym is) may) sent
follows_from b b' s s' is (far next event f may sent) = near (turned_state next) event (follows_from b b' s next is f) (subst (λ c. MayAct c (turned_state next) event) (other_back b b' is) may) sent

stand_back : (b : Bearer) (x : SendingEnds) (t : Traffic) (s : State) → x.bearer ≡ number_as b → StandFor (other b) (turned_ends x) (turned_traffic t) s → StandFor b x t (turned_state s)
stand_back b x t s is h =
    let back : beside (beside x.bearer) ≡ x.bearer = ap (λ n. beside (beside n)) is ∙ (beside_twice b ∙ sym is) in
    record {
      bearer = is;
      put = h.put;
      near = h.far;
      far = subst (λ n. IsSender (IsFor t.put n t.near) t.far x.far s.near) back h.near;
    }

-- what becomes of a state that is seen from the far link
pub become_turned : (b : Bearer) (x : SendingEnds) (t : Traffic) (s : State) → Become (other b) (turned_ends x) (turned_traffic t) (turned_state s) → x.bearer ≡ number_as b → Become b x t s
become_turned b x t s h is = record {
  state = turned_state h.state;
  follows = follows_from (other b) b s h.state refl h.follows;
  stand = stand_back b x t h.state is h.stand;
}

pub lines_turned : (bearer : ℕ) (t : Traffic) (s : State) → bearer ≤ 1 → AreLines bearer t s → AreLines (beside bearer) (turned_traffic t) (turned_state s)
lines_turned bearer t s low h =
    let back : bearer ≡ beside (beside bearer) = omega arith in
    record {
      put = h.put;
      near = λ session. subst (λ n. AreFor (IsFor t.put n t.near) (s.far.line session) (t.far.line session)) back (h.far session);
      far = h.near;
    }

pub lines_back : (bearer : ℕ) (t : Traffic) (s : State) → bearer ≤ 1 → AreLines (beside bearer) (turned_traffic t) s → AreLines bearer t (turned_state s)
lines_back bearer t s low h =
    let back : beside (beside bearer) ≡ bearer = omega arith in
    record {
      put = h.put;
      near = h.far;
      far = λ session. subst (λ n. AreFor (IsFor t.put n t.near) (s.near.line session) (t.far.line session)) back (h.near session);
    }

-- ends that stand for a state have lines that do
pub stand_lines : (b : Bearer) (x : SendingEnds) (t : Traffic) (s : State) → StandFor b x t s → AreLines x.bearer t s
stand_lines b x t s h = record { put = h.put; near = h.near.lines; far = h.far.lines }
