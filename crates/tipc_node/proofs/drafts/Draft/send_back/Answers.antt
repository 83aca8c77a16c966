use Rattle.std.proofs.Common.{Some, ◌<◌, ◌∙◌, length, ap, sym, subst, arith}
use Rattle.tipc_types.specs.Address.{IsNodeWord}
use Rattle.tipc_types.specs.declared.identity.Addr.{Addr}
use Rattle.tipc_node.specs.Drafts.{DraftState}
use Rattle.tipc_node.specs.Messages.{destination_of}
use Rattle.tipc_node.specs.Works.{waiting_to}
use Rattle.tipc_node.proofs.work.Drafting.{put_back, start_changed, start_kept}
use Rattle.tipc_node.proofs.work.Returning.{contact_to, payload_carried, waiting_node}
use Rattle.tipc_node.proofs.work.Wayfaring.{read_at as place_is}
use Rattle.tipc_node.proofs.drafts.Draft.send_back.Goals as goal

pub unreachable-requires : goal.unreachable-requires
unreachable-requires c =
    let t = c.self.invariant.1 in
    let counted = c.requires.contact in
    let node = waiting_node c.self.inside.neighbours.items (destination_of c.args.back) counted.0 t.wide t.nobody (ap (λ (d : DraftState). waiting_to d.work.neighbours (destination_of c.args.back)) c.self.view_is ∙ counted.1) in
    c.in_default.ensures.none (subst (λ (a : Addr). IsNodeWord a.word) (sym c.destination.ensures) node)

pub put_on-requires-clause-carried : goal.put_on-requires-clause-carried
put_on-requires-clause-carried c = payload_carried c.args.back c.requires.payload

pub put_on-requires-clause-contact : goal.put_on-requires-clause-contact
put_on-requires-clause-contact c =
    let xs = c.self.inside.neighbours.items in
    let peer = c.in-Some.peer in
    let some = c.in-Some.ensures.some in
    let counted = c.requires.contact in
    let wide = c.self.invariant.1.wide in
    let within : peer < length xs = omega (arith, wide, some) in
    let was = place_is xs peer c.index_mut.result.now c.in-Some-index_mut.neighbour within c.index_mut.ensures.value c.in-Some-index_mut.is in
    contact_to xs (destination_of c.args.back) peer counted.0 c.in-Some-index_mut.neighbour (ap (λ (a : Addr). a.word) (sym c.destination.ensures) ∙ some.2)
    (ap (λ (d : DraftState). waiting_to d.work.neighbours (destination_of c.args.back)) c.self.view_is ∙ counted.1) was

pub returns-clause-went : goal.returns-clause-went
returns-clause-went c =
    let w = c.self.inside in
    let xs = w.neighbours.items in
    let peer = c.in-Some.peer in
    let some = c.in-Some.ensures.some in
    let wide = c.self.invariant.1.wide in
    let within : peer < length xs = omega (arith, wide, some) in
    let was = place_is xs peer c.index_mut.result.now c.in-Some-index_mut.neighbour within c.index_mut.ensures.value c.in-Some-index_mut.is in
    put_back c.put_on.result c.args.self.now w.own.word peer xs w.copies.items w.sockets w.inside.items c.put_on.new.inside.items c.in-Some-index_mut.neighbour c.put_on.new.neighbour c.args.back w.out c.put_on.new.out
    c.self.view_is c.self.invariant.0 was (ap (λ (a : Addr). a.word) (sym c.destination.ensures) ∙ some.2) c.put_on.ensures.put

pub returns-clause-start : goal.returns-clause-start
returns-clause-start c =
    let w = c.self.inside in
    start_changed c.args.self.now w.neighbours.items c.as_slice.result.now w.copies.items c.keep.new.copies.items w.sockets w.inside.items c.put_on.new.inside.items w.out c.put_on.new.out c.in-Some.peer (Some c.put_on.new.neighbour)
    c.self.view_is c.as_slice.ensures.value c.in_ok-keep.ensures.kept c.keep.ensures.same

pub returns-in_err-keep-clause-start : goal.returns-in_err-keep-clause-start
returns-in_err-keep-clause-start c =
    let w = c.self.inside in
    start_kept c.args.self.now w.neighbours.items c.as_slice.result.now w.copies.items c.keep.new.copies.items w.sockets w.inside.items w.inside.items w.out w.out c.self.view_is c.as_slice.ensures.value c.keep.ensures.same
