use Rattle.std.proofs.Common.{◌≡◌, List, ℕ, length}
use Rattle.tipc_bundle.proofs.Walks.{StandBefore}
use Rattle.tipc_bundle.proofs.splitting.bad_place.Given as goal

-- as many inner packets as were counted stand before the place
abbrev pub invariant-loop : goal.invariant-loop
invariant-loop l = (before : List (List ℕ)) × (length before ≡ l.counter) × StandBefore before l.bundle l.place
