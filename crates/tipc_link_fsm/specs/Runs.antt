-- Runs of link states: what a list of events does to an end.
use Rattle.std.specs.Prelude.{◌≡◌, ℕ, Bool, true, false, List, [], ◌∷◌, ◌++◌, Option, Some, None}
use Rattle.tipc_link_fsm.specs.declared.changes.Change.{Change}
use Rattle.tipc_link_fsm.specs.declared.changes.Change.TheVariants.{Up}
use Rattle.tipc_link_fsm.specs.Table.{Fsm, Outcome, is_in_reset, is_last, on_reset, on_activate, on_traffic, on_tick, on_cut, on_peer_tunnel, release, forget_peer, contact_ended}

-- a call of a link end with its arguments; `held` says that the pair's other link is up
pub data Call : Type 0 where
  ResetArrives : (es : ℕ) (held : Bool) → Call
  ActivateArrives : (es er : ℕ) → Call
  TrafficArrives : (es er : ℕ) → Call
  TickPasses : (held : Bool) → Call
  BearerIsCut : (held : Bool) → Call
  TunnelNames : (epoch : ℕ) → Call
  Releases : Call
  ForgetsPeer : Call
  ContactEnds : Call

-- what a call does, by the table
abbrev pub outcome : Fsm → Call → Outcome
outcome s (ResetArrives es held) = on_reset s es held
outcome s (ActivateArrives es er) = on_activate s es er
outcome s (TrafficArrives es er) = on_traffic s es er
outcome s (TickPasses held) = on_tick s held
outcome s (BearerIsCut held) = on_cut s held
outcome s (TunnelNames epoch) = on_peer_tunnel s epoch
outcome s Releases = release s
outcome s ForgetsPeer = forget_peer s
outcome s ContactEnds = contact_ended s

-- the two epochs that a call's frame shows: its sender's own, and the receiver's as the sender knows it
abbrev pub shown_epochs : Call → Option (ℕ × ℕ)
shown_epochs (ActivateArrives es er) = Some (es, er)
shown_epochs (TrafficArrives es er) = Some (es, er)
shown_epochs _ = None

-- a call takes a link up under an epoch of the peer: the end was in reset, its own epoch stays and isn't the last of its
-- boot, and the call's frame shows that epoch of the peer together with the end's own one
pub record GoesUp (s : Fsm) (c : Call) (es : ℕ) : Type 0 where
  pub was_in_reset : is_in_reset s.state ≡ true
  pub own_stays : (outcome s c).after.own ≡ s.own
  pub goes_on : is_last s.own ≡ false
  pub told : shown_epochs c ≡ Some (es, s.own)
  pub taken : (outcome s c).after.peer ≡ Some es

-- the own epoch under which a change takes the link up, where it does
abbrev pub epoch_up : Change → ℕ → List ℕ
epoch_up Up own = own ∷ []
epoch_up _ own = []

-- the own epochs under which calls, one after another, take the link up
abbrev pub epochs_up : Fsm → List Call → List ℕ
epochs_up s [] = []
epochs_up s (c ∷ cs) = epoch_up (outcome s c).change (outcome s c).after.own ++ epochs_up (outcome s c).after cs
