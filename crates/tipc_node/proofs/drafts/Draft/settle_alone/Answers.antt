use Rattle.std.proofs.Common.{List, Option, [], ap, false, subst, ◌∙◌}
use Rattle.std.specs.Prelude.{OnOk}
use Rattle.std.proofs.lemmas.Result.{on_err_weaker}
use Rattle.tipc_sockets.specs.SocketTables.{SocketTable}
use Rattle.tipc_node.specs.declared.neighbours.Neighbour.{Neighbour}
use Rattle.tipc_node.specs.Drafts.{DraftState, own_of, with_sockets_in}
use Rattle.tipc_node.specs.Works.{GivesFate, work_of}
use Rattle.tipc_node.proofs.work.Drafting.{draft_of, settled_same}
use Rattle.tipc_node.proofs.drafts.Draft.settle_alone.Goals as goal

pub invariant_of-self : goal.invariant_of-self
invariant_of-self c =
    let w = c.self.inside in
    let same = settled_same c.settle.result c.as_slice.result.now w.sockets c.settle.new.sockets c.args.inside.now.items c.settle.new.inside.items c.args.m c.settle.ensures.settles c.settle.ensures.err in
    (same.own ∙ c.self.invariant.0, c.self.invariant.1)

pub returns-clause-settles : goal.returns-clause-settles
returns-clause-settles c =
    let w = c.self.inside in
    let s = c.settle.new.sockets in
    let es = c.args.inside.now.items in
    let es' = c.settle.new.inside.items in
    subst (λ (z : DraftState). OnOk c.settle.result (GivesFate (own_of z) (work_of z.work.neighbours z.work.sockets es) false c.args.m (work_of z.work.neighbours s es') [])) c.self.view_is
    (subst (λ (xs : List (Option Neighbour)). OnOk c.settle.result (GivesFate w.sockets.own (work_of xs w.sockets es) false c.args.m (work_of xs s es') [])) c.as_slice.ensures.value c.settle.ensures.settles)

pub returns-clause-rest : goal.returns-clause-rest
returns-clause-rest c = ap (λ (z : DraftState). with_sockets_in z c.settle.new.sockets) c.self.view_is

pub returns-clause-err : goal.returns-clause-err
returns-clause-err c =
    let w = c.self.inside in
    on_err_weaker c.settle.result (λ same. ap (λ (s : SocketTable). draft_of w.neighbours.items s w.inside.items w.copies.items w.out) same ∙ c.self.view_is) c.settle.ensures.err
