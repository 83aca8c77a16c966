use Rattle.std.proofs.Common.{◌≡◌}
use Rattle.tipc_thread_tests.proofs.inboxes.take_next.Given as goal

abbrev pub invariant-loop : goal.invariant-loop
invariant-loop g l = l.taker.of_inbox ≡ l.inbox
