-- Places in the air of both bearers.
use Rattle.std.specs.Prelude.{ℕ, ◌==◌, ◌≤◌, if◌then◌else◌, length}
use Rattle.tipc_replay.specs.Skies.{AirState}
use Rattle.tipc_world.specs.declared.places.Places.{Places}

-- the place on a bearer, of which there are two
abbrev pub place_on : ℕ → Places → ℕ
place_on bearer places = if bearer == 0 then places.first else places.second

-- the same with another place on a bearer
abbrev pub with_place : Places → ℕ → ℕ → Places
with_place places bearer place = if bearer == 0 then record { first = place; second = places.second } else record { first = places.first; second = place }

-- the first frames of both bearers
abbrev pub first_frames : Places
first_frames = record { first = 0; second = 0 }

-- the places behind the last frames of both bearers
abbrev pub ends_of : AirState → Places
ends_of air = record { first = length air.first; second = length air.second }

-- each of two places isn't behind the other one on its bearer
abbrev pub AreBefore : Places → Places → Type 0
AreBefore places ends = (places.first ≤ ends.first) × (places.second ≤ ends.second)
