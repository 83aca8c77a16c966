use Rattle.tipc_journal.specs.Names.{learned, learned_after}
use Rattle.tipc_journal.proofs.Following.{followed}
use Rattle.tipc_journal.proofs.NameLaws.{learned_more}
use Rattle.tipc_journal.proofs.keeping.Journal.learned.Goals as goal

pub loop-entry-preserved : goal.loop-entry-preserved
loop-entry-preserved c =
    followed learned learned_after learned_more _ _ _ _ _ c.loop-entry-test.true c.entry-item.is c.loop-entry.invariant c.in_ok-follow_peers.ensures
