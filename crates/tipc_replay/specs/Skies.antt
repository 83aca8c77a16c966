-- The air: every frame that was ever sent, by bearer.
use Rattle.std.specs.Prelude.{ℕ, ◌+◌, ◌==◌, List, [], ◌++◌, if◌then◌else◌, length}
use Rattle.tipc_replay.specs.declared.air.Sent.{Sent}

-- what was sent on bearer 0, and on bearer 1
pub record AirState : Type 0 where
  pub first : List Sent
  pub second : List Sent

-- an air in which nothing was sent yet
abbrev pub empty_air : AirState
empty_air = record { first = []; second = [] }

-- what was sent on a bearer, of which there are two
abbrev pub air_on : ℕ → AirState → List Sent
air_on bearer air = if bearer == 0 then air.first else (if bearer == 1 then air.second else [])

-- how many frames were sent on both together
abbrev pub air_size : AirState → ℕ
air_size air = length air.first + length air.second

-- these frames came into it behind all others, on bearer 0 and on bearer 1
abbrev pub with_both : AirState → List Sent → List Sent → AirState
with_both air first second = record { first = air.first ++ first; second = air.second ++ second }

-- these came into it on one bearer
abbrev pub with_sent : AirState → ℕ → List Sent → AirState
with_sent air bearer more = if bearer == 0 then with_both air more [] else with_both air [] more
