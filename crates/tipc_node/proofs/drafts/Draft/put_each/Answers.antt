use Rattle.std.proofs.Common.{◌≡◌, ◌<◌, true, Some, length, sym, ap, subst, ◌∙◌, arith}
use Rattle.std.specs.Prelude.{OnOk, slice_set}
use Rattle.tipc_sockets.specs.SocketTables.{SocketTable}
use Rattle.tipc_node.specs.Drafts.{DraftState, PutEach, own_of}
use Rattle.tipc_node.specs.Nodes.{is_met}
use Rattle.tipc_node.specs.Sockets.{with_sockets_of}
use Rattle.tipc_node.specs.Works.{is_in_contact, work_of}
use Rattle.tipc_node.proofs.work.Drafting.{start_changed, start_kept}
use Rattle.tipc_node.proofs.work.Returning.{on_ok}
use Rattle.tipc_node.proofs.work.Tellings.{contact_kept}
use Rattle.tipc_node.proofs.work.Wayfaring.{read_at}
use Rattle.tipc_node.proofs.drafts.Draft.put_each.Goals as goal

pub returns-clause-puts : goal.returns-clause-puts
returns-clause-puts c =
    let w = c.self.inside in
    let xs = w.neighbours.items in
    let peer = c.requires.peer in
    let wide = c.self.invariant.1.wide in
    let within : c.args.peer < length xs = omega (arith, peer, wide) in
    let was = read_at xs c.args.peer c.index_mut.result.now c.in-Some.neighbour within c.index_mut.ensures.value c.in-Some.is in
    let last = slice_set xs c.args.peer (Some c.put_each_on.new.neighbour) in
    subst (λ (z : DraftState). OnOk c.put_each_on.result ((s : SocketTable) → PutEach (own_of z) (with_sockets_of z.work s) c.args.peer c.args.messages.now (work_of last s c.put_each_on.new.inside.items) z.out c.put_each_on.new.out)) c.self.view_is
    (on_ok c.put_each_on.result
    (λ puts s. subst (λ word. PutEach word (work_of xs s w.inside.items) c.args.peer c.args.messages.now (work_of last s c.put_each_on.new.inside.items) w.out c.put_each_on.new.out) (sym c.self.invariant.0) (puts xs s was))
    c.put_each_on.ensures.puts)

pub returns-clause-contact : goal.returns-clause-contact
returns-clause-contact c =
    let w = c.self.inside in
    let xs = w.neighbours.items in
    let peer = c.requires.peer in
    let wide = c.self.invariant.1.wide in
    let within : c.args.peer < length xs = omega (arith, peer, wide) in
    let was = read_at xs c.args.peer c.index_mut.result.now c.in-Some.neighbour within c.index_mut.ensures.value c.in-Some.is in
    let some : is_in_contact xs c.args.peer ≡ true = ap (λ (z : DraftState). is_in_contact z.work.neighbours c.args.peer) c.self.view_is ∙ c.requires.contact in
    on_ok c.put_each_on.result
    (λ after k. contact_kept xs c.args.peer k c.in-Some.neighbour c.put_each_on.new.neighbour was (ap is_met (sym was) ∙ some) after ∙ ap (λ (z : DraftState). is_in_contact z.work.neighbours k) c.self.view_is)
    c.put_each_on.ensures.contact

pub returns-clause-start : goal.returns-clause-start
returns-clause-start c =
    let w = c.self.inside in
    start_changed c.args.self.now w.neighbours.items c.as_slice.result.now w.copies.items c.keep.new.copies.items w.sockets w.inside.items c.put_each_on.new.inside.items w.out c.put_each_on.new.out c.args.peer (Some c.put_each_on.new.neighbour)
    c.self.view_is c.as_slice.ensures.value c.in_ok-keep.ensures.kept c.keep.ensures.same

pub returns-in_err-keep-clause-start : goal.returns-in_err-keep-clause-start
returns-in_err-keep-clause-start c =
    let w = c.self.inside in
    start_kept c.args.self.now w.neighbours.items c.as_slice.result.now w.copies.items c.keep.new.copies.items w.sockets w.inside.items w.inside.items w.out w.out c.self.view_is c.as_slice.ensures.value c.keep.ensures.same
