-- How a link of a pair goes up or down, and what the pair's other link does then: the events of the sender that
-- follow.
use Rattle.std.specs.Prelude.{◌≡◌, ℕ, ◌<◌, ◌≤◌, ◌^◌, All, Bool, true, false, List, Option, Some}
use Rattle.tipc_types.specs.LinkStates.{is_up}
use Rattle.tipc_types.specs.declared.link_words.Cause.{Cause}
use Rattle.tipc_link_fsm.specs.declared.changes.Change.{Change}
use Rattle.tipc_link_fsm.specs.declared.changes.Change.TheVariants.{Down, Up as GoesUp}
use Rattle.tipc_link_fsm.specs.Table.{Fsm, Outcome, is_held, is_last, lowered}
use Rattle.tipc_link.specs.Links.{LinkEnd, is_down}
use Rattle.tipc_link.specs.Sessions.{SessionEnd}
use Rattle.tipc_pair.specs.Facing.{PairEnds, turned}
use Rattle.tipc_pair.specs.PairArrivals.{restored}
use Rattle.tipc_changeover.specs.Links.{Reset, Up}
use Rattle.tipc_two_nodes.specs.links.Sending.{beside, state_as}
use Rattle.tipc_two_nodes.specs.links.Ends.{AreListed, IsUpAt}

-- ---- the table of link states

-- whether a change takes the link up
abbrev pub is_rise : Change → Bool
is_rise GoesUp = true
is_rise other = false

-- What a call makes of the link states of an end, which is to be held where it goes down: it goes down from up, goes
-- up from reset, or stays as it was for the other link.
pub data TurnsEnd (held : Bool) (fsm : Fsm) (o : Outcome) : Type 0 where
  goes_down : (cause : Cause) → o.change ≡ Down cause → is_up fsm.state ≡ true → o.after ≡ lowered fsm held
      → TurnsEnd held fsm o
  goes_up : o.change ≡ GoesUp → state_as fsm.state ≡ Reset → o.after.own ≡ fsm.own → state_as o.after.state ≡ Up
      → TurnsEnd held fsm o
  stays_so : is_rise o.change ≡ false → is_down o.change ≡ false → o.after.own ≡ fsm.own
      → state_as o.after.state ≡ state_as fsm.state
      → TurnsEnd held fsm o

-- ---- the ends of a pair

-- a link that is up, with its session, whose packets can travel on the other link
pub record IsRunning (bearer : ℕ) (o : Option LinkEnd) (e : LinkEnd) : Type 0 where
  pub session : SessionEnd
  pub up_at : IsUpAt bearer o e session
  pub listed : AreListed session.sending.unacked
  pub epoch : session.epoch < 2 ^ 64
  pub going_on : is_last e.fsm.own ≡ false

-- where there is an end on this bearer and its link is up, it is running
abbrev pub RunsWhereUp : ℕ → Option LinkEnd → Type 0
RunsWhereUp bearer o = (e : LinkEnd) → o ≡ Some e → is_up e.fsm.state ≡ true → IsRunning bearer o e

-- both ends of a pair are running where their links are up
pub record AreEnds (x : PairEnds) : Type 0 where
  pub two_bearers : x.bearer ≤ 1
  pub near : RunsWhereUp x.bearer x.near
  pub far : RunsWhereUp (beside x.bearer) x.far

-- A session is under its end's epoch, which has 64 bits, and each of its unacknowledged packets is as it waited.
pub record IsOwnSession (e : LinkEnd) (s : SessionEnd) : Type 0 where
  pub epoch : s.epoch ≡ e.fsm.own
  pub fits : e.fsm.own < 2 ^ 64
  pub waited : All (λ (packet : List ℕ). restored packet ≡ packet) s.sending.unacked

-- so is that of a link that is up
abbrev pub IsUnderOwn : Option LinkEnd → Type 0
IsUnderOwn o = (e : LinkEnd) (s : SessionEnd) → o ≡ Some e → is_up e.fsm.state ≡ true → e.session ≡ Some s
    → IsOwnSession e s

-- ---- what follows

-- where the near end of a pair is held, the far link is up and carries what the near one left
abbrev pub HasFarUp : PairEnds → Type 0
HasFarUp x = (e : LinkEnd) → x.near ≡ Some e → is_held e.fsm.state ≡ true
    → (f : LinkEnd) × (u : SessionEnd) × IsUpAt u.bearer x.far f u

-- and so it is with either end
abbrev pub AreCarried : PairEnds → Type 0
AreCarried x = HasFarUp x × HasFarUp (turned x)
