-- What the near link of a pair took is opened: the records of the pair then, and the packets that were taken in the contact.
use Rattle.std.proofs.Common.{◌≡◌, ℕ, ◌++◌, List, [], Option, Some, None, refl, sym, ap, ◌∙◌, subst, inl}
use Rattle.tipc_types.specs.declared.packet_lists.Taken.{Taken}
use Rattle.tipc_recv_window.specs.declared.outcomes.LinkOutcome.{LinkOutcome}
use Rattle.tipc_link.specs.Links.{LinkEnd}
use Rattle.tipc_tunnel.specs.Tunnels.{Tunnelled}
use Rattle.tipc_pair.specs.declared.changes.PairOutcome.{PairOutcome}
use Rattle.tipc_pair.specs.Courses.{Course, going_on, rests}
use Rattle.tipc_pair.specs.Facing.{PairEnds}
use Rattle.tipc_pair.specs.PairArrivals.{OpensInto, Unwraps, as_it_is, deferred, ignored, inner_at, none_taken, opens, taken_down, taken_in, tunnel}
use Rattle.tipc_changeover.specs.Links.{Bearer, State}
use Rattle.tipc_two_nodes.specs.links.Arriving.{HasTaken, Opens, Receives, brings, ignores, waits}
use Rattle.tipc_two_nodes.specs.links.Receiving.{IsRecordFor, bytes_in, record_at}
use Rattle.tipc_two_nodes.specs.links.Traffic.{Traffic}
use Rattle.tipc_two_nodes.proofs.links.receiver.BegunKept.{unwraps_begun}
use Rattle.tipc_two_nodes.proofs.links.receiver.Opening.{unwraps}
use Rattle.tipc_two_nodes.proofs.links.receiver.Unwrapping.{taken_down_near}

inner_near : (v : Tunnelled) (by : ℕ) (y : PairEnds) (o : Option LinkEnd) → record_at (inner_at v by y o).pair.near ≡ record_at y.near
inner_near v by y None = refl
inner_near v by y (Some e) = refl

unwraps_near : (y : PairEnds) (taken : List Taken) (c : Course) (carried : List Taken) → Unwraps y taken c carried → record_at c.pair.near ≡ record_at y.near
unfolding going_on
unwraps_near y taken c carried none_taken = refl
unwraps_near y taken c carried (as_it_is first others not_far) = refl
unwraps_near y taken c carried (tunnel first others v far) =
    inner_near v first.by (taken_down v.kind v.old.epoch y).pair (taken_down v.kind v.old.epoch y).pair.far ∙ taken_down_near v.kind v.old.epoch y

pub receives : (y : PairEnds) (b : Bearer) (t : Traffic) (s : State) (before : List (List ℕ)) (taken : List Taken) (c : Course) (carried : List Taken) → HasTaken y b t s before taken → Unwraps y taken c carried
    → Receives b y.bearer t s before c.pair carried
receives y b t s before taken c carried h u =
    let T = unwraps y b t s taken c carried h.two_bearers h.lines h.sound h.bounded h.far h.made h.next u in
    let near = subst (λ o. IsRecordFor t.near o T.state.near_record) (sym (unwraps_near y taken c carried u)) (subst (λ r. IsRecordFor t.near (record_at y.near) r) (sym T.near_is) h.near) in
    record {
      state = T.state;
      takes = T.takes;
      lines = T.lines;
      receive = record {
        near = near;
        far = T.far_is;
        first_ones = T.longer ∙ ap (λ ps. ps ++ bytes_in carried) h.first_ones;
      };
    }

-- a link that took nothing leaves the pair as it is
nothing_taken : (y : PairEnds) (b : Bearer) (t : Traffic) (s : State) (before : List (List ℕ)) → HasTaken y b t s before [] → Receives b y.bearer t s before y []
nothing_taken y b t s before h = receives y b t s before [] (rests y) [] h none_taken

pub gives : (y : PairEnds) (b : Bearer) (t : Traffic) (s : State) (before : List (List ℕ)) (outcome : LinkOutcome) (c : Course) (given : PairOutcome) → HasTaken y b t s before (taken_in outcome) → OpensInto y outcome c given
    → Opens b y.bearer t s before y c.pair given
gives y b t s before outcome c given h (opens {taken = taken} {carried = carried} {c = inner} {given = items} {last = last} u all) =
    let R = receives y b t s before taken inner carried h u in
    record {
      carried = carried;
      begun = inner.pair.begun;
      begun_is = (unwraps_begun y taken inner carried u).begun;
      gives = brings all;
      receives = record { state = R.state; takes = R.takes; lines = R.lines; receive = R.receive };
    }
gives y b t s before outcome c given h deferred = record { carried = []; begun = y.begun; begun_is = inl refl; gives = waits; receives = nothing_taken y b t s before h }
gives y b t s before outcome c given h ignored = record { carried = []; begun = y.begun; begun_is = inl refl; gives = ignores; receives = nothing_taken y b t s before h }
