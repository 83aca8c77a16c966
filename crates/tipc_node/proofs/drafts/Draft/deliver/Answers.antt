use Rattle.std.proofs.Common.{List, sym, subst}
use Rattle.std.specs.Prelude.{OnOk}
use Rattle.tipc_journal.specs.declared.entries.Entry.{Entry}
use Rattle.tipc_node.specs.Drafts.{DraftState, own_of}
use Rattle.tipc_node.specs.Hearings.{Delivered, TookIn}
use Rattle.tipc_node.specs.Works.{work_of}
use Rattle.tipc_node.proofs.work.Delivering.{delivered_none, delivered_some}
use Rattle.tipc_node.proofs.work.Returning.{on_ok}
use Rattle.tipc_node.proofs.drafts.Draft.deliver.Goals as goal

pub returns-in-Some-clause-delivered : goal.returns-in-Some-clause-delivered
returns-in-Some-clause-delivered c =
    let i = c.self.inside in
    let w = work_of i.neighbours.items i.sockets i.inside.items in
    let last = c.take_in.new.self in
    subst (λ (d : DraftState). OnOk c.take_in.result (Delivered (own_of d) c.args.peer d.work c.args.delivery last.work d.out last.out)) c.self.view_is
    (on_ok c.take_in.result
    (λ took. delivered_some i.sockets.own c.args.peer w c.args.delivery c.in-Some.m last.work i.out last.out c.requires.plain c.in-Some.is
    (subst (λ (es : List Entry). TookIn i.sockets.own c.args.peer (work_of i.neighbours.items i.sockets es) c.in-Some.m last.work i.out last.out) c.in_ok-push.ensures.items took))
    c.take_in.ensures.took)

pub returns-in-None-clause-delivered : goal.returns-in-None-clause-delivered
returns-in-None-clause-delivered c =
    let i = c.self.inside in
    let w = work_of i.neighbours.items i.sockets i.inside.items in
    subst (λ (d : DraftState). Delivered (own_of d) c.args.peer d.work c.args.delivery (work_of i.neighbours.items i.sockets c.push.new.self.items) d.out i.out) c.self.view_is
    (subst (λ (es : List Entry). Delivered i.sockets.own c.args.peer w c.args.delivery (work_of i.neighbours.items i.sockets es) i.out i.out) (sym c.in_ok-push.ensures.items)
    (delivered_none i.sockets.own c.args.peer w c.args.delivery i.out c.requires.plain c.in-None.is))
