use Rattle.std.proofs.Common.{ap, subst, ◌∙◌}
use Rattle.std.specs.Prelude.{OnOk}
use Rattle.tipc_node.specs.Drafts.{DraftState, own_of, restored, start_of}
use Rattle.tipc_node.specs.Hearings.{TookIn}
use Rattle.tipc_node.specs.Works.{work_of}
use Rattle.tipc_node.proofs.work.Delivering.{took_items_ok}
use Rattle.tipc_node.proofs.drafts.Draft.take_in.Goals as goal

pub returns-in-Items-clause-took : goal.returns-in-Items-clause-took
returns-in-Items-clause-took c =
    let i = c.self.inside in
    let w = work_of i.neighbours.items i.sockets i.inside.items in
    subst (λ (d : DraftState). OnOk c.apply_items.result (TookIn (own_of d) c.args.peer d.work c.args.m (work_of i.neighbours.items c.apply_items.new.sockets c.apply_items.new.inside.items) d.out i.out)) c.self.view_is
    (took_items_ok c.apply_items.result i.sockets.own c.args.peer c.node-from.result.word w c.args.m c.in-Items.withdrawal c.in-Items.items c.as_slice.result.now c.apply_items.new.sockets c.apply_items.new.inside.items
    i.out c.in-Items.is c.node-from.ensures c.as_slice.ensures c.apply_items.ensures.sockets c.apply_items.ensures.told)

pub returns-in-Items-clause-start : goal.returns-in-Items-clause-start
returns-in-Items-clause-start c =
    let i = c.self.inside in
    ap (λ word. (restored i.copies.items i.neighbours.items, word)) c.apply_items.ensures.own ∙ ap start_of c.self.view_is
