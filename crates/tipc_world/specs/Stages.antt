-- How two nodes come up to one another on a bearer, step by step, and what a round finds that takes each such pair one
-- step further.
use Rattle.std.specs.Prelude.{◌≡◌, ◌≢◌, ◌≤◌, ℕ, true, false, None, Some, is_some, slice_index_or}
use Rattle.tipc_pair.specs.Facing.{facing, is_up_at}
use Rattle.tipc_settling.specs.Rises.{AnswersAt}
use Rattle.tipc_node.specs.Nodes.{pair_with}
use Rattle.tipc_replay.specs.States.{MemberState, is_mended_at}
use Rattle.tipc_world.specs.declared.places.Places.{Places}
use Rattle.tipc_world.specs.CalmWorlds.{IsFromMended}
use Rattle.tipc_world.specs.Ends.{AreBefore, ends_of}
use Rattle.tipc_world.specs.Poised.{IsDownWorld}
use Rattle.tipc_world.specs.RisingWorlds.{AreUpsAnswered, IsRisingNode}
use Rattle.tipc_world.specs.RoundParts.{Guards, IsKept, IsRound}
use Rattle.tipc_world.specs.States.{WorldState, is_there}
use Rattle.tipc_world.specs.StillWorlds.{footing_at}

-- two nodes share a bearer: both are there, and it is mended at both
pub record ShareBearer (start : WorldState) (n b bearer : ℕ) : Type 0 where
  pub here : is_there start n ≡ true
  pub there : is_there start b ≡ true
  pub apart : n ≢ b
  pub on_one : bearer ≤ 1
  pub mended : is_mended_at start.members n bearer ≡ true
  pub mended_there : is_mended_at start.members b bearer ≡ true

-- ---- the steps

-- node n has made its end to node b
abbrev pub HasEnd : ℕ → ℕ → MemberState → Type 0
HasEnd b bearer m = is_some (facing bearer (pair_with m.node b)).near ≡ true

-- and it has seen the contact number of node b
abbrev pub HasSeen : WorldState → ℕ → ℕ → MemberState → Type 0
HasSeen start n b m = (pair_with m.node b).seen ≡ (footing_at start b n).contact

-- and its end answers node b
abbrev pub IsAnswering : WorldState → ℕ → ℕ → ℕ → MemberState → Type 0
IsAnswering start n b bearer m = AnswersAt ((footing_at start b n).epoch bearer) (facing bearer (pair_with m.node b)).near

-- and its link to node b is up
abbrev pub HasLinkUp : ℕ → ℕ → MemberState → Type 0
HasLinkUp b bearer m = is_up_at (facing bearer (pair_with m.node b)).near ≡ true

-- each node is so with each other one on each bearer that they share
abbrev pub OnShared : WorldState → (ℕ → ℕ → ℕ → MemberState → Type 0) → WorldState → Type 0
OnShared start Q w = (n b bearer : ℕ) (m : MemberState) → ShareBearer start n b bearer → slice_index_or w.members n None ≡ Some m → Q n b bearer m

-- ---- rounds once all ends are made

-- node n rises, and has made its ends on shared bearers; from the first step on they answer, and from the second one on
-- its links there are up
pub record IsMetNode (start : WorldState) (most step n : ℕ) (m : MemberState) : Type 0 where
  pub rising : IsRisingNode start most n m
  pub made : (b bearer : ℕ) → ShareBearer start n b bearer → HasEnd b bearer m
  pub answers : 1 ≤ step → (b bearer : ℕ) → ShareBearer start n b bearer → IsAnswering start n b bearer m
  pub up : 2 ≤ step → (b bearer : ℕ) → ShareBearer start n b bearer → HasLinkUp b bearer m

-- likewise of a world that goes on from there: each node is so, and each frame that was sent since left on a bearer
-- that was mended, and is up to date with what its sender was when the call began
abbrev pub IsMetWorld : WorldState → ℕ → ℕ → WorldState → Type 0
IsMetWorld start most step w = Guards start (ends_of start.air) (IsMetNode start most step) (IsFromMended start) w

-- A round begins so: the call began in a world in which no link was up, the ends on shared bearers are made, no link
-- was silent for long, each link that is up is answered; and nothing is lost in the round.
pub record MetRound (start : WorldState) (most step : ℕ) (places : Places) (outset : WorldState) (ends : Places) (now : WorldState) (r : IsRound places outset ends now) : Type 0 where
  pub kept : IsKept start
  pub down : IsDownWorld start
  pub few : most ≤ 3
  pub behind : AreBefore (ends_of start.air) places
  pub within : AreBefore places (ends_of outset.air)
  pub whole : now.lost ≡ false
  pub met : IsMetWorld start most step outset
  pub ups : AreUpsAnswered start outset

-- ---- round by round

-- after the first round: no link is silent, each one that is up is answered, and all ends on shared bearers are made
pub record HasMet (start w : WorldState) : Type 0 where
  pub met : IsMetWorld start 0 0 w
  pub ups : AreUpsAnswered start w

-- after the second: each node has seen the contact number of each other one with which it shares a bearer
pub record HasSeenAll (start w : WorldState) : Type 0 where
  pub met : IsMetWorld start 1 0 w
  pub ups : AreUpsAnswered start w
  pub seen : OnShared start (λ n b bearer m. HasSeen start n b m) w

-- after the third: each end on a shared bearer answers
pub record HasAnswered (start w : WorldState) : Type 0 where
  pub met : IsMetWorld start 2 1 w
  pub ups : AreUpsAnswered start w

-- after the fourth, and after each later one: each link on a shared bearer is up
pub record HasComeUp (start w : WorldState) : Type 0 where
  pub met : IsMetWorld start 3 2 w
  pub ups : AreUpsAnswered start w
