-- Two nodes whose link ends on a bearer are up with each other: what the one numbers in its session the other takes, both ways.
use Rattle.std.specs.Prelude.{◌≡◌, ℕ, true, List, Some}
use Rattle.tipc_types.specs.LinkStates.{is_up}
use Rattle.tipc_link.specs.Links.{LinkEnd}
use Rattle.tipc_link.specs.Sessions.{SessionEnd}
use Rattle.tipc_repair.specs.Laws.{SendsTo}
use Rattle.tipc_two_nodes.specs.Sights.{AreSeen, Sight}

-- the link end of v on a bearer is up in this session
pub record IsUpIn (v : Sight) (bearer : ℕ) (e : LinkEnd) (s : SessionEnd) : Type 0 where
  pub end_is : v.ends bearer ≡ Some e
  pub up : is_up e.fsm.state ≡ true
  pub session_is : e.session ≡ Some s

-- the link ends of both on a bearer are up in these sessions, each with the other's epoch
pub record StandTogether (v w : Sight) (bearer : ℕ) (s t : SessionEnd) : Type 0 where
  pub here : LinkEnd
  pub there : LinkEnd
  pub here_up : IsUpIn v bearer here s
  pub there_up : IsUpIn w bearer there t
  pub knows : here.fsm.peer ≡ Some there.fsm.own
  pub known : there.fsm.peer ≡ Some here.fsm.own

-- two sessions are joined: each sends to the other, whatever was lost
pub record SendBothWays (s t : SessionEnd) : Type 0 where
  pub line : List (List ℕ)
  pub sends : SendsTo s t line
  pub back : List (List ℕ)
  pub receives : SendsTo t s back

-- link ends that are up with each other are in sessions that are joined
abbrev pub StandingAreJoined : Type 0
StandingAreJoined = (v w : Sight) (bearer : ℕ) (s t : SessionEnd) → AreSeen v w → StandTogether v w bearer s t → SendBothWays s t
