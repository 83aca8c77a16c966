use Rattle.std.proofs.Common.{◌≡◌, length}
use Rattle.tipc_bundle.proofs.Walks.{StandBefore}
use Rattle.tipc_bundle.proofs.splitting.inner_packets.Given as goal

-- the copies are of the inner packets before the place
abbrev pub invariant-loop : goal.invariant-loop
invariant-loop l = (length l.inner ≡ l.counter) × StandBefore l.inner l.bundle l.place
