-- What contracts see of a seat.
use Rattle.std.specs.Prelude.{ℕ, ◌^◌, nat_le, Bool, List, [], ◌∷◌, ◌++◌, length}
use Rattle.atomic_table.specs.Seated.{TableId}

-- the word that a seat is of, the numbers that it drew, in order, and the least number that wasn't drawn when it last looked
pub record SeatState : Type 0 where
  pub of_table : TableId
  pub drawn : List ℕ
  pub seen : ℕ

-- a seat that drew nothing and saw nothing
abbrev pub new_seat : TableId → SeatState
new_seat table = record { of_table = table; drawn = []; seen = 0 }

-- after it drew a number
abbrev pub drew : SeatState → ℕ → SeatState
drew seat n = record { of_table = seat.of_table; drawn = seat.drawn ++ n ∷ []; seen = seat.seen }

-- after it saw a number
abbrev pub saw : SeatState → ℕ → SeatState
saw seat n = record { of_table = seat.of_table; drawn = seat.drawn; seen = n }

-- whether it drew as many numbers as a seat may: 2^40
abbrev pub is_spent : SeatState → Bool
is_spent seat = nat_le (2 ^ 40) (length seat.drawn)
