use Rattle.tipc_journal.specs.Names.{live, live_after}
use Rattle.tipc_journal.proofs.Following.{followed}
use Rattle.tipc_journal.proofs.NameLaws.{live_more}
use Rattle.tipc_journal.proofs.keeping.Journal.live.Goals as goal

pub loop-entry-preserved : goal.loop-entry-preserved
loop-entry-preserved c =
    followed live live_after live_more _ _ _ _ _ c.loop-entry-test.true c.entry-item.is c.loop-entry.invariant c.in_ok-follow_own.ensures
