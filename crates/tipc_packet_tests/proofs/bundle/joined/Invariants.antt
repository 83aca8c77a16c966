use Rattle.std.proofs.Common.{List, ℕ}
use Rattle.tipc_bundle.specs.Bundles.{Carries, IsInner}
use Rattle.tipc_packet_tests.proofs.bundle.joined.Given as goal

abbrev pub invariant-loop : goal.invariant-loop
invariant-loop g l = (packets : List (List ℕ)) × Carries l.last packets × IsInner l.packet
