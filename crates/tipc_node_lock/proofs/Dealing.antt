-- New passes, one for each seat.
use Rattle.std.specs.List.{All}
use Rattle.std.proofs.Common.{◌≡◌, ℕ, zero, suc, ◌+◌, arith, List, [], ◌∷◌, length, refl}
use Rattle.atomic_table.specs.Seated.{TableId}
use Rattle.tipc_stamp.specs.Seats.{SeatState}
use Rattle.tipc_node_lock.specs.Passes.{passes_from}

-- there are as many as seats
pub passes_count : (own caller : ℕ) (seats : List SeatState) → length (passes_from own caller seats) ≡ length seats
passes_count own caller [] = refl
passes_count own caller (seat ∷ seats) = let rest = passes_count own (caller + 1) seats in omega (arith, rest)

-- each is of the node, and of the word that the seats are of
pub passes_fit : (own caller : ℕ) (table : TableId) (seats : List SeatState) → All (λ s. s.of_table ≡ table) seats
    → All (λ p. (p.seat.of_table ≡ table) × (p.own ≡ own)) (passes_from own caller seats)
passes_fit own caller table [] all i d within = absurd (omega (arith, within))
passes_fit own caller table (seat ∷ seats) all zero d within = (all 0 seat (omega arith), refl)
passes_fit own caller table (seat ∷ seats) all (suc i) d within =
    passes_fit own (caller + 1) table seats (λ j e less. all (suc j) e (omega (arith, less))) i d (omega (arith, within))
