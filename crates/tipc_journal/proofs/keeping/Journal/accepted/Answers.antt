use Rattle.std.proofs.Common.{◌∙◌, ap}
use Rattle.tipc_journal.specs.Prefixes.{list_with}
use Rattle.tipc_journal.specs.Streams.{Stream, accepted, accepted_message}
use Rattle.tipc_journal.proofs.Following.{followed}
use Rattle.tipc_journal.proofs.StreamLaws.{accepted_more}
use Rattle.tipc_journal.proofs.keeping.Journal.accepted.Goals as goal

pub loop-entry-preserved : goal.loop-entry-preserved
loop-entry-preserved c =
    let s : Stream = record { peer = c.args.peer; contact = c.args.contact; flow = c.args.flow } in
    followed (λ es. accepted es s) (λ found e. list_with found (accepted_message s e)) (λ xs e. accepted_more xs e s) _ _ _ _ _
    c.loop-entry-test.true c.entry-item.is c.loop-entry.invariant
    (c.in_ok-add_copy.ensures ∙ ap (list_with c.loop-entry.found.items) c.accepted_message.ensures)
