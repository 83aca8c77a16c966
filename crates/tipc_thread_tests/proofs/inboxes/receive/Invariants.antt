use Rattle.std.proofs.Common.{◌≡◌}
use Rattle.tipc_thread_tests.proofs.inboxes.receive.Given as goal

abbrev pub invariant-loop-number : goal.invariant-loop-number
invariant-loop-number g l = l.taker.of_inbox ≡ l.inbox
