use Rattle.std.proofs.Common.{length, ap, sym}
use Rattle.tipc_journal.proofs.StreamLaws.{accepted_nil}
use Rattle.tipc_replay.specs.States.{counted}
use Rattle.tipc_replay.proofs.streams.Flows.{accepted_next}
use Rattle.tipc_replay.proofs.members.accepted_in.Goals as goal

pub loop-journal-init : goal.loop-journal-init
loop-journal-init c = sym (ap (λ xs. counted (length xs)) (accepted_nil _))

pub loop-journal-preserved : goal.loop-journal-preserved
loop-journal-preserved c =
    accepted_next c.args.journals.now c.loop-journal.journal-index c.journal-item.result c.node.result c.args.peer c.args.contact _ _ _ c.loop-journal-test.true c.journal-item.is c.node.ensures
    c.loop-journal.invariant c.accepted_count.ensures c.saturating_add-count.ensures
