-- Deeds of a node that leave its contact numbers as they are, and are events of the sender: what it sends by them, whatever it takes.
use Rattle.std.proofs.Common.{◌≡◌, ℕ, List, refl}
use Rattle.tipc_outside.specs.declared.outgoing.Outgoing.{Outgoing}
use Rattle.tipc_pair.specs.Courses.{Course, sent_in}
use Rattle.tipc_pair.specs.Facing.{PairEnds}
use Rattle.tipc_changeover.specs.Links.{Bearer, First}
use Rattle.tipc_changeover.proofs.Staying.{reached_sound}
use Rattle.tipc_two_nodes.specs.links.Acting.{Acted, sent_with}
use Rattle.tipc_two_nodes.specs.links.Sending.{ends_seen, number_as}
use Rattle.tipc_two_nodes.specs.links.Traffic.{Traffic}
use Rattle.tipc_two_nodes.proofs.links.sender.Happening.{follows_reached}
use Rattle.tipc_paired.specs.Views.{View}
use Rattle.tipc_two_nodes.specs.deeds.PairDeeds.{Did, IsOfPair, Took}
use Rattle.tipc_two_nodes.specs.Carriages.{ends_in}
use Rattle.tipc_two_nodes.specs.Carrying.{Carries, none_taken}
use Rattle.tipc_two_nodes.specs.Pieces.{KeepsNumbers, state_from, traffic_from}
use Rattle.tipc_two_nodes.specs.Steps.{Receives, Enters, IsSendingPiece, Stays}
use Rattle.tipc_two_nodes.specs.Twins.{AreTwins, GoesOn, sends_in, takes_in}
use Rattle.tipc_two_nodes.proofs.steps.Carrying.{enters_carries, goes_on_same}
use Rattle.tipc_two_nodes.proofs.calls.Chaining.{Along, AreNow, along_tells, deeds_along, grows_at}
use Rattle.tipc_two_nodes.proofs.calls.PairViews.{acted_from, same_node}
use Rattle.tipc_two_nodes.proofs.calls.PieceTwins.{sends_at}
use Rattle.tipc_two_nodes.proofs.steps.TwinSteps.{enters_twins, goes_on_twins}

-- what x goes on to send, where nothing else was put
pub record Stretch (x x' y : View) (h : AreTwins x y) : Type 0 where
  pub goes : GoesOn x x' y
  pub stays : Stays x x' y h.here
  pub traffic : Traffic
  pub put : traffic.put ≡ (sends_in x y h).traffic.put
  pub sends : IsSendingPiece x x' (sends_in x y h) traffic

acted_sends : (x x' y : View) (h : AreTwins x y) (frames : List Outgoing) (numbered taken : ℕ → ℕ → List (List ℕ)) → Did x y x' frames numbered taken → Along x x' y h.here → AreNow x' numbered 0 → AreNow x' numbered 1
    → (a : Acted First (ends_in x) (ends_in x') (sends_in x y h).traffic (sends_in x y h).state) → IsSendingPiece x x' (sends_in x y h) (sent_with (sends_in x y h).traffic (ends_in x') a.near a.far)
acted_sends x x' y h frames numbered taken d g near far a =
    let n = h.here in
    let c = sends_in x y h in
    let stays = g.goes.stays in
    let sent = h.sends.sent x.node.contact x.node.seen in
    let stand = sent.now refl refl in
    let sound = reached_sound c.state sent.reached in
    let B = a.become in
    let after_it = reached_sound B.state (follows_reached First c.state B.state sent.reached B.follows) in
    record {
      node = stays.node;
      become = B;
      near = sends_at _ _ x x' y n 0 c.traffic.near c.state.near B.state.near _ _ _ a.near h.paired g.paired h.numbers_here stays sent.near_first sent.near stand.near sound.near.ends (grows_at x x' y n 0 frames numbered taken d g.goes near) B.stand.near after_it.near.ends a.near_is;
      far = sends_at _ _ x x' y n 1 c.traffic.far c.state.far B.state.far _ _ _ a.far h.paired g.paired h.numbers_here stays sent.far_first sent.far stand.far sound.far.ends (grows_at x x' y n 1 frames numbered taken d g.goes far) B.stand.far after_it.far.ends a.far_is;
      apart = stays.apart;
    }

-- by deeds that act as events of the sender
pub deeds_stretch : (x x' y : View) (h : AreTwins x y) (frames : List Outgoing) (numbered taken : ℕ → ℕ → List (List ℕ)) → Did x y x' frames numbered taken → x'.node ≡ x.node → AreNow x' numbered 0 → AreNow x' numbered 1
    → Acted First (ends_in x) (ends_in x') (sends_in x y h).traffic (sends_in x y h).state → Stretch x x' y h
deeds_stretch x x' y h frames numbered taken d same near far a =
    let g = deeds_along x y x' h.here h.there h.paired h.numbers_here h.numbers_there h.recorded_here d.does same in
    record {
      goes = record { paired = g.paired; tells = along_tells x x' y h.here g.goes; begun = g.goes.begun; recorded = g.recorded };
      stays = g.goes.stays;
      traffic = sent_with (sends_in x y h).traffic (ends_in x') a.near a.far;
      put = refl;
      sends = acted_sends x x' y h frames numbered taken d g near far a;
    }

-- so it is with a course of the pair that keeps its contact numbers
pub course_stretch : (b : Bearer) (v v' y : View) (h : AreTwins v y) (p : PairEnds) (c : Course) (numbered taken : ℕ → ℕ → List (List ℕ)) → IsOfPair v p → p.bearer ≡ number_as b → Took v y v' c numbered taken → KeepsNumbers p c.pair
    → Acted b (ends_seen p) (ends_seen c.pair) (traffic_from b (sends_in v y h).traffic) (state_from b (sends_in v y h).state) → AreNow v' numbered 0 → AreNow v' numbered 1 → Stretch v v' y h
course_stretch b v v' y h p c numbered taken pair is took numbers acted near far =
    deeds_stretch v v' y h (sent_in c) numbered taken took.did (same_node v v' p c.pair pair took.pair took.did.boot numbers) near far
    (acted_from b v v' p c.pair (sends_in v y h).traffic (sends_in v y h).state pair took.pair is numbers.bearer acted)

-- ---- the two stay twins, and what crosses stays so

-- where x keeps its records for other ones by events, and takes no packet
pub stretch_goes_on : (x x' y : View) (h : AreTwins x y) → Stretch x x' y h → (r : Receives x x' (takes_in x y h)) → r.state.delivered ≡ (takes_in x y h).state.delivered → (k : AreTwins x' y) × Carries x x' y h k none_taken
stretch_goes_on x x' y h s r same = (goes_on_twins x x' y s.traffic h s.goes s.stays s.sends r, goes_on_same x x' y s.traffic h s.goes s.stays s.sends r s.put same)

-- or a contact of x begins
pub stretch_enters : (x x' y : View) (h : AreTwins x y) → Stretch x x' y h → Enters y x x' → (k : AreTwins x' y) × Carries x x' y h k none_taken
stretch_enters x x' y h s enters = (enters_twins x x' y s.traffic h s.goes s.stays s.sends enters, enters_carries x x' y s.traffic h s.goes s.stays s.sends enters s.put)
