use Rattle.std.proofs.Common.{List, length, ap, ◌∙◌, arith}
use Rattle.std.specs.List.{list_any}
use Rattle.tipc_types.specs.declared.services.Publication.{Publication}
use Rattle.tipc_types.specs.Tables.{is_named, without}
use Rattle.tipc_sockets.proofs.Keeping.{not_true, ok_is_no_err, put_back, same_publications, sockets_published, taken_out}
use Rattle.tipc_sockets.proofs.sockets.SocketsNames.publish.Goals as goal

pub invariant_of-self-in-Ok : goal.invariant_of-self-in-Ok
invariant_of-self-in-Ok c =
    let places = c.in-Ok.ensures.places in
    let same = ap (λ (ps : List Publication). length ps) c.as_slice-count.ensures in
    (c.self.invariant.0, sockets_published _ c.args.p _ _ _ c.self.invariant.1 c.in_ok-publish.ensures.sound c.in_ok-publish.ensures.ok c.in-Ok.ensures.live, omega (arith, places, same))

pub invariant_of-self-in-Err : goal.invariant_of-self-in-Err
invariant_of-self-in-Err c =
    let p = c.args.p in
    let names = c.self.inside.names in
    let unheld = not_true (list_any (is_named p.at.node.word p.key) names) (λ held. ok_is_no_err _ _ (c.in_ok-publish.ensures.duplicate.1 held)) in
    let back = taken_out p.at.node.word p.key c.withdraw.result c.publish.new.self c.withdraw.new.self c.withdraw.ensures.after c.withdraw.ensures.unknown c.withdraw.ensures.err ∙ ap (λ (ps : List Publication). without p.at.node.word p.key ps) c.in_ok-publish.ensures.ok ∙ put_back p names c.self.invariant.1.names unheld in
    let kept = c.note_added.ensures.kept in
    let some = c.self.invariant.2 in
    let same = ap (λ (ps : List Publication). length ps) back in
    (c.self.invariant.0, same_publications _ _ _ _ c.self.invariant.1 c.withdraw.ensures.sound back c.in-Err.ensures.same_live, omega (arith, kept, some, same))

pub returns-in-Err-clause-err : goal.returns-in-Err-clause-err
returns-in-Err-clause-err c =
    let w = c.self.inside in
    let p = c.args.p in
    let names = w.names in
    let unheld = not_true (list_any (is_named p.at.node.word p.key) names) (λ held. ok_is_no_err _ _ (c.in_ok-publish.ensures.duplicate.1 held)) in
    let back = taken_out p.at.node.word p.key c.withdraw.result c.publish.new.self c.withdraw.new.self c.withdraw.ensures.after c.withdraw.ensures.unknown c.withdraw.ensures.err ∙ ap (λ (ps : List Publication). without p.at.node.word p.key ps) c.in_ok-publish.ensures.ok ∙ put_back p names c.self.invariant.1.names unheld in
    let lived = c.in-Err.ensures.same_live in
    let told = c.in-Err.ensures.same_told in
    (λ i. record { own = w.own.word; names = back i; live = lived i; ports = w.ports; queues = w.queues.entries; watchers = told i }) ∙ c.self.view_is
