-- Positions in a session, and the sequence numbers that packets carry.
use Rattle.std.specs.Prelude.{ℕ, ◌+◌, ◌-◌, ◌%◌}

-- A position counts the packets of one direction from 1 on, without bound; this is the number that a packet at
-- that position shows.
unfoldable pub number_of : ℕ → ℕ
number_of position = position % 65536

-- how far one number lies past another, going round after 65,535
unfoldable pub distance_of : ℕ → ℕ → ℕ
distance_of from to = (to + 65536 - from) % 65536
