use Rattle.std.proofs.Common.{◌≡◌}
use Rattle.tipc_work.proofs.ShowingLaws.{AreTriedAgain}
use Rattle.tipc_work.proofs.showing.tries_of.Given as goal

-- the calls before are tries that say to try again
abbrev pub invariant-loop-one : goal.invariant-loop-one
invariant-loop-one l = AreTriedAgain l.call l.made l.one-index × (l.count ≡ l.one-index)
