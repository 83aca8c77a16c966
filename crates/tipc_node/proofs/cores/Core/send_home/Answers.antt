use Rattle.std.proofs.Common.{◌-◌, ◌≡◌, ◌++◌, [], List, Option, ap, false, refl, sym, subst, ◌∙◌}
use Rattle.tipc_journal.specs.Room.{JournalState}
use Rattle.tipc_journal.specs.Steps.{step_entries}
use Rattle.tipc_ports.specs.Numbers.{PortTable}
use Rattle.tipc_node.specs.contracts.cores.Core.{the_view}
use Rattle.tipc_node.specs.declared.neighbours.Neighbour.{Neighbour}
use Rattle.tipc_node.specs.Drafts.{DraftState, own_of}
use Rattle.tipc_node.specs.Nodes.{step_of}
use Rattle.tipc_node.specs.Works.{GivesFate, Work, begun, concluded, work_of}
use Rattle.tipc_node.proofs.work.Drafting.{idle_work}
use Rattle.tipc_node.proofs.work.Homing.{settles_node}
use Rattle.tipc_node.proofs.work.Making.{node_of}
use Rattle.tipc_node.proofs.work.Wayfaring.{home_sent}
use Rattle.tipc_node.proofs.cores.Core.send_home.Goals as goal

pub invariant_of-self-2 : goal.invariant_of-self-2
invariant_of-self-2 c =
    let i = c.self.invariant in
    let d = c.self.inside.draft in
    let last = c.settle_alone.new.self in
    let same = settles_node (own_of d) (work_of d.work.neighbours d.work.sockets c.new-inside.result.items) false c.args.m (work_of d.work.neighbours last.work.sockets c.settle_alone.new.inside.items) [] c.in_ok-settle_alone.ensures.settles in (
      idle_work d last (work_of d.work.neighbours last.work.sockets d.work.inside) c.settle_alone.ensures.rest refl i.0,
      i.1,
      same.own ∙ i.2,
      ap (λ (p : PortTable). p.boot) same.ports ∙ i.3,
      i.4,
      i.5,
      i.6,
    )

pub returns-clause-sent : goal.returns-clause-sent
returns-clause-sent c =
    let n = c.args.self.now in
    let k = the_view c.self.inside in
    let d = c.self.inside.draft in
    let s = c.settle_alone.new.self.work.sockets in
    let journal = c.record.new.journal.entries in
    subst (λ (ys : List (Option Neighbour)). (w : Work) × GivesFate n.own (begun n) false c.args.m w [] × (node_of k ys s journal c.record.new.journal.kept ≡ concluded n c.args.by c.args.note w c.args.sent)) (sym (ap (λ (z : DraftState). z.work.neighbours) c.settle_alone.ensures.rest))
    (home_sent n k c.args.by c.args.note c.args.m c.args.sent (own_of d) d.work.neighbours s c.new-inside.result.items c.settle_alone.new.inside.items journal c.record.new.journal.kept
    c.self.view_is c.self.invariant.2 refl c.new-inside.ensures.items c.in_ok-settle_alone.ensures.settles
    (c.record.ensures.journal ∙ ap (λ es. es ++ step_entries (step_of c.args.by c.args.note c.settle_alone.new.inside.items c.args.sent)) (ap (λ (j : JournalState). j.entries) c.in_ok-reserve.ensures.ok))
    (c.record.ensures.kept ∙ ap (λ (j : JournalState). j.kept - 1) c.in_ok-reserve.ensures.ok))
