-- What becomes of the sessions of a pair while no link goes up or down: each goes on.
use Rattle.std.specs.Prelude.{◌≡◌, ◌≤◌, ℕ, List, ◌∷◌, Option, Some, None, if◌then◌else◌}
use Rattle.tipc_types.specs.LinkStates.{is_up}
use Rattle.tipc_types.specs.declared.packet_lists.Taken.{Taken}
use Rattle.tipc_recv_window.specs.declared.outcomes.LinkOutcome.{LinkOutcome}
use Rattle.tipc_tunnel.specs.Tunnels.{Tunnelled}
use Rattle.tipc_repair.specs.Laws.{GoesOn}
use Rattle.tipc_link.specs.Links.{LinkEnd}
use Rattle.tipc_link.specs.Sessions.{SessionEnd}
use Rattle.tipc_pair.specs.Facing.{PairEnds, facing, other}
use Rattle.tipc_pair.specs.PairArrivals.{SpeaksOfFar, hears as heard_by}
use Rattle.tipc_pair.specs.PairTurns.{Opening}
use Rattle.tipc_pair.specs.PairTurns.Opening.{hears}

-- the session of a link end that is up
abbrev pub up_session : Option LinkEnd → Option SessionEnd
up_session None = None
up_session (Some e) = if is_up e.fsm.state then e.session else None

-- it is the same session, under the same epochs, and nothing was taken back in it
pub record StaysOn (s t : SessionEnd) : Type 0 where
  pub own : t.own ≡ s.own
  pub peer : t.peer ≡ s.peer
  pub bearer : t.bearer ≡ s.bearer
  pub epoch : t.epoch ≡ s.epoch
  pub peer_epoch : t.peer_epoch ≡ s.peer_epoch
  pub record_epoch : t.record_epoch ≡ s.record_epoch
  pub goes : GoesOn s t

-- where an end was up it is up, and its session goes on
abbrev pub EndGoesOn : Option LinkEnd → Option LinkEnd → Type 0
EndGoesOn before now = (s : SessionEnd) → up_session before ≡ Some s → (t : SessionEnd) × (up_session now ≡ Some t) × StaysOn s t

-- so it is with both ends of a pair
pub record EndsGoOn (x y : PairEnds) : Type 0 where
  pub near : EndGoesOn x.near y.near
  pub far : EndGoesOn x.far y.far

-- each end that is up keeps a record of its peer under an epoch that is at least this one of its bearer
pub record HaveRecords (known : ℕ → ℕ) (x : PairEnds) : Type 0 where
  pub two : x.bearer ≤ 1
  pub near : (s : SessionEnd) → up_session x.near ≡ Some s → known x.bearer ≤ s.record_epoch
  pub far : (s : SessionEnd) → up_session x.far ≡ Some s → known (other x.bearer) ≤ s.record_epoch

-- a tunnel packet that was taken on the near link, and speaks of the far one, names no higher epoch than this of that bearer
abbrev pub OpensKnown : (ℕ → ℕ) → PairEnds → LinkOutcome → Type 0
OpensKnown known x outcome = (taken others : List Taken) (first : Taken) (t : Tunnelled) → outcome ≡ LinkOutcome.Took taken → taken ≡ first ∷ others
    → SpeaksOfFar x first.packet t → t.old.epoch ≤ known (other x.bearer)

-- so it is with what happens first at a pair
abbrev pub BringsKnown : (ℕ → ℕ) → PairEnds → Opening → Type 0
BringsKnown known x (hears bearer es er p by shown) =
    OpensKnown known (heard_by p.header es er p by shown (facing bearer x)).course.pair (heard_by p.header es er p by shown (facing bearer x)).outcome
BringsKnown known x other = Unit {0}

-- both ends go on, and keep such records
pub record SessionsLast (known : ℕ → ℕ) (x y : PairEnds) : Type 0 where
  pub goes : EndsGoOn x y
  pub records : HaveRecords known y
