use Rattle.std.proofs.Common.{◌≡◌}
use Rattle.tipc_thread_tests.proofs.inboxes.offer_until_it_stays.Given as goal

abbrev pub invariant-loop : goal.invariant-loop
invariant-loop g l = l.giver.of_inbox ≡ l.inbox
