-- What the laws of a pair's calls rest on: the ends of a pair are as they ask, and only one list of packets can be meant by those that an end
-- numbered.
use Rattle.std.proofs.Common.{◌≡◌, ◌<◌, ◌-◌, ◌^◌, ℕ, true, List, [], ◌∷◌, Option, Some, sym, subst}
use Rattle.std.specs.Prelude.{All}
use Rattle.std.proofs.lemmas.List.Elements.{All-head, All-tail}
use Rattle.tipc_types.specs.LinkStates.{is_up}
use Rattle.tipc_link.specs.Links.{LinkEnd}
use Rattle.tipc_pair.specs.Facing.{PairEnds}
use Rattle.tipc_pair.specs.PairFacts.{IsEndOf, IsPairOfEnds}
use Rattle.tipc_pair.specs.PairArrivals.{restored}
use Rattle.tipc_pair.specs.Runs.{IsListed}
use Rattle.tipc_pair.proofs.EndSteps.{far_of, near_of, session_is}
use Rattle.tipc_pair.proofs.Followings.{some_there}
use Rattle.tipc_two_nodes.specs.links.Ends.{AreListed}
use Rattle.tipc_two_nodes.specs.links.Turning.{AreEnds, IsRunning, IsUnderOwn}

-- ---- the ends of a pair

-- a packet as it waited to be sent
abbrev IsRestored : List ℕ → Type 0
IsRestored packet = restored packet ≡ packet

each_listed : (packets : List (List ℕ)) → All IsListed packets → All IsRestored packets → AreListed packets
each_listed [] h waited = tt
each_listed (packet ∷ packets) h waited = (
  record { listed = All-head IsListed packet packets h; as_waiting = All-head IsRestored packet packets waited },
  each_listed packets (All-tail IsListed packet packets h) (All-tail IsRestored packet packets waited),
)

end_runs : (own peer contact seen bearer : ℕ) (o : Option LinkEnd) (e : LinkEnd) → IsEndOf own peer contact seen bearer e → IsUnderOwn o → o ≡ Some e → is_up e.fsm.state ≡ true → IsRunning bearer o e
end_runs own peer contact seen bearer o e h under is up =
    let s = some_there e.session (h.begun up) in
    let on = session_is bearer e.session s.0 h.session s.1 in
    let own_one = under e s.0 is up s.1 in
    let long : s.0.epoch < 2 ^ 64 = subst (λ n. n < 2 ^ 64) (sym own_one.epoch) own_one.fits in
    record {
      session = s.0;
      up_at = record { end_is = is; up = up; session_is = s.1; epoch_is = own_one.epoch; bearer_is = on.bearer_is; few = on.few };
      listed = each_listed s.0.sending.unacked on.unacked own_one.waited;
      epoch = long;
      going_on = h.states.going_on up;
    }

pub pair_ends : (x : PairEnds) → IsPairOfEnds x → IsUnderOwn x.near → IsUnderOwn x.far → AreEnds x
pair_ends x h near far = record {
  two_bearers = h.two_bearers;
  near = λ e is up. end_runs x.own x.peer x.contact x.seen x.bearer x.near e (near_of x e h is) near is up;
  far = λ e is up. end_runs x.own x.peer x.contact x.seen (1 - x.bearer) x.far e (far_of x e h is) far is up;
}

-- ---- out of contact

-- ---- the packets that were numbered
