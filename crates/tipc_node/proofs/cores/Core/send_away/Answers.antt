use Rattle.std.proofs.Common.{◌-◌, ◌++◌, ◌∷◌, [], ap, refl, ◌∙◌}
use Rattle.tipc_journal.specs.Room.{JournalState}
use Rattle.tipc_journal.specs.Steps.{step_entries}
use Rattle.tipc_node.specs.contracts.cores.Core.{the_view}
use Rattle.tipc_node.specs.Drafts.{DraftState, own_of}
use Rattle.tipc_node.specs.Nodes.{step_of}
use Rattle.tipc_node.proofs.work.Wayfaring.{away_sent}
use Rattle.tipc_node.proofs.cores.Core.send_away.Goals as goal

pub returns-clause-sent : goal.returns-clause-sent
returns-clause-sent c =
    let d = c.self.inside.draft in
    let last = c.put_alone.new.self.work in
    let told = c.in_ok-accepted.accepted ∷ [] in
    away_sent c.args.self.now (the_view c.self.inside) c.args.by c.args.note c.args.peer c.args.m c.args.sent (own_of d) last.neighbours last.sockets [] told c.record_entry.new.journal.entries c.record_entry.new.journal.kept
    c.args.out.now c.put_alone.new.out c.self.view_is c.self.invariant.2 refl (ap (λ (z : DraftState). z.work.sockets) c.in_ok-accepted.ensures.rest) c.in_ok-accepted.ensures.puts
    (c.record_entry.ensures.journal ∙ ap (λ es. es ++ step_entries (step_of c.args.by c.args.note told c.args.sent)) (ap (λ (j : JournalState). j.entries) c.in_ok-reserve.ensures.ok))
    (c.record_entry.ensures.kept ∙ ap (λ (j : JournalState). j.kept - 1) c.in_ok-reserve.ensures.ok)
