-- A whole call of a node in one step: it numbers packets by events of the sender, and what it takes is next.
use Rattle.std.proofs.Common.{◌≡◌, ◌⊎◌, ◌++◌, ℕ, List, [], refl}
use Rattle.tipc_outside.specs.declared.outgoing.Outgoing.{Outgoing}
use Rattle.tipc_changeover.specs.Links.{First}
use Rattle.tipc_changeover.proofs.Staying.{reached_sound}
use Rattle.tipc_two_nodes.specs.links.Acting.{Acted, sent_with}
use Rattle.tipc_two_nodes.specs.links.Traffic.{Traffic}
use Rattle.tipc_two_nodes.proofs.links.sender.Happening.{follows_reached}
use Rattle.tipc_paired.specs.Paired.{ArePaired}
use Rattle.tipc_paired.specs.Views.{View, epoch_on}
use Rattle.tipc_two_nodes.specs.deeds.PairDeeds.{Did}
use Rattle.tipc_two_nodes.specs.Carriages.{Carriage, IsSent, Numbers, ends_in, taken_of}
use Rattle.tipc_two_nodes.specs.Carrying.{Carries, taken_in_contact}
use Rattle.tipc_two_nodes.specs.Numbers.{AreNumbers}
use Rattle.tipc_two_nodes.specs.Pieces.{GrowsAt}
use Rattle.tipc_two_nodes.specs.Steps.{Receives, IsSendingPiece, Stays}
use Rattle.tipc_two_nodes.specs.Twins.{AreTwins, GoesOn, sends_in, takes_in}
use Rattle.tipc_two_nodes.proofs.steps.Carrying.{goes_on_carries}
use Rattle.tipc_two_nodes.proofs.calls.Chaining.{along_tells}
use Rattle.tipc_two_nodes.proofs.calls.PieceTwins.{sends_at}
use Rattle.tipc_two_nodes.proofs.steps.TwinSteps.{goes_on_twins}
use Rattle.tipc_two_nodes.proofs.arrivals.Within.{AlongWithin, grows_on}

-- ---- what it sends

pub call_sends : (x x' y : View) (n : Numbers) (c : Carriage) → ArePaired x y → AreNumbers x y n → IsSent x n x.node.contact x.node.seen c → ArePaired x' y → Stays x x' y n → GrowsAt x x' 0 → GrowsAt x x' 1 → (a : Acted First (ends_in x) (ends_in x') c.traffic c.state)
    → IsSendingPiece x x' c (sent_with c.traffic (ends_in x') a.near a.far)
call_sends x x' y n c h are sent paired stays first second a =
    let stand = sent.now refl refl in
    let sound = reached_sound c.state sent.reached in
    let B = a.become in
    let after_it = reached_sound B.state (follows_reached First c.state B.state sent.reached B.follows) in
    record {
      node = stays.node;
      become = B;
      near = sends_at _ _ x x' y n 0 c.traffic.near c.state.near B.state.near _ _ _ a.near h paired are stays sent.near_first sent.near stand.near sound.near.ends first B.stand.near after_it.near.ends a.near_is;
      far = sends_at _ _ x x' y n 1 c.traffic.far c.state.far B.state.far _ _ _ a.far h paired are stays sent.far_first sent.far stand.far sound.far.ends second B.stand.far after_it.far.ends a.far_is;
      apart = stays.apart;
    }

-- ---- the call

-- the epoch of a bearer is as it was, or nothing was numbered on it
abbrev pub IsEven : View → View → (ℕ → ℕ → List (List ℕ)) → ℕ → Type 0
IsEven x x' numbered b = (epoch_on x'.node (x'.wires b) ≡ epoch_on x.node (x.wires b)) ⊎ ((epoch : ℕ) → numbered b epoch ≡ [])

pub along_goes_on : (x x' y : View) (n : Numbers) → AlongWithin x x' y n → GoesOn x x' y
along_goes_on x x' y n a = record { paired = a.along.paired; tells = along_tells x x' y n a.along.goes; begun = a.along.goes.begun; recorded = a.along.recorded }

-- all that a call shows which leaves the contact numbers as they are
pub record WentOn (x x' y : View) (h : AreTwins x y) (numbered taken : ℕ → ℕ → List (List ℕ)) : Type 0 where
  pub frames : List Outgoing
  pub did : Did x y x' frames numbered taken
  pub within : AlongWithin x x' y h.here
  pub near : IsEven x x' numbered 0
  pub far : IsEven x x' numbered 1
  pub acted : Acted First (ends_in x) (ends_in x') (sends_in x y h).traffic (sends_in x y h).state

abbrev pub traffic_then : (x x' y : View) (h : AreTwins x y) → Acted First (ends_in x) (ends_in x') (sends_in x y h).traffic (sends_in x y h).state → Traffic
traffic_then x x' y h a = sent_with (sends_in x y h).traffic (ends_in x') a.near a.far

pub went_sends : (x x' y : View) (h : AreTwins x y) (numbered taken : ℕ → ℕ → List (List ℕ)) → (m : WentOn x x' y h numbered taken) → IsSendingPiece x x' (sends_in x y h) (traffic_then x x' y h m.acted)
went_sends x x' y h numbered taken m =
    call_sends x x' y h.here (sends_in x y h) h.paired h.numbers_here (h.sends.sent x.node.contact x.node.seen) m.within.along.paired m.within.along.goes.stays
    (grows_on x x' y h.here 0 m.frames numbered taken m.did m.within m.near) (grows_on x x' y h.here 1 m.frames numbered taken m.did m.within m.far) m.acted

-- it goes on in its contact, or has none
pub went_twins : (x x' y : View) (h : AreTwins x y) (numbered taken : ℕ → ℕ → List (List ℕ)) → WentOn x x' y h numbered taken → Receives x x' (takes_in x y h) → AreTwins x' y
went_twins x x' y h numbered taken m receives =
    goes_on_twins x x' y (traffic_then x x' y h m.acted) h (along_goes_on x x' y h.here m.within) m.within.along.goes.stays (went_sends x x' y h numbered taken m) receives

-- and what crosses stays so, but for what was taken
pub went_carries : (x x' y : View) (h : AreTwins x y) (numbered taken : ℕ → ℕ → List (List ℕ)) (m : WentOn x x' y h numbered taken) (receives : Receives x x' (takes_in x y h)) (packets : List (List ℕ))
    → taken_of (record { traffic = (takes_in x y h).traffic; state = receives.state }) ≡ taken_of (takes_in x y h) ++ packets → Carries x x' y h (went_twins x x' y h numbered taken m receives) (taken_in_contact x.node.contact x.node.seen packets)
unfolding went_twins
went_carries x x' y h numbered taken m receives packets longer =
    goes_on_carries x x' y (traffic_then x x' y h m.acted) h (along_goes_on x x' y h.here m.within) m.within.along.goes.stays (went_sends x x' y h numbered taken m) receives packets refl longer
