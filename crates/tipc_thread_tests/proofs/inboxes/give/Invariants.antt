use Rattle.std.proofs.Common.{◌≡◌}
use Rattle.tipc_thread_tests.proofs.inboxes.give.Given as goal

abbrev pub invariant-loop-number : goal.invariant-loop-number
invariant-loop-number g l = l.giver.of_inbox ≡ l.inbox
