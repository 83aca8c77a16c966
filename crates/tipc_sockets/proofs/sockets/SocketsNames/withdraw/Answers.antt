use Rattle.std.proofs.Common.{Bool, List, length, not, ap, sym, ◌∙◌, arith}
use Rattle.tipc_types.specs.declared.services.Publication.{Publication}
use Rattle.tipc_types.specs.Tables.{is_named}
use Rattle.tipc_topology.specs.Changing.{with_loss}
use Rattle.tipc_topology.proofs.Removable.{found_only}
use Rattle.tipc_sockets.specs.Publishing.{withdrawn}
use Rattle.tipc_sockets.specs.SocketTables.{SocketTable}
use Rattle.tipc_sockets.proofs.Keeping.{fewer_left, sockets_kept}
use Rattle.tipc_sockets.proofs.sockets.SocketsNames.withdraw.Goals as goal

pub invariant_of-self-2 : goal.invariant_of-self-2
invariant_of-self-2 c =
    let w = c.self.inside in
    let kept : Publication → Bool = λ (p : Publication). not (is_named c.args.node.word c.args.key p) in
    let some = fewer_left kept w.names w.leaving c.self.invariant.2 in
    let same = ap (λ (ps : List Publication). length ps) c.in_ok-p.ensures.after in
    (c.self.invariant.0, sockets_kept _ kept _ _ _ c.self.invariant.1 c.in_ok-p.ensures.sound c.in_ok-p.ensures.after c.remove_named.ensures, omega (arith, some, same))

pub returns-clause-after : goal.returns-clause-after
returns-clause-after c =
    let w = c.self.inside in
    let only = found_only (is_named c.args.node.word c.args.key) c.in_ok-p.p w.names (c.self.invariant.1.names.named c.args.node.word c.args.key) c.in_ok-p.ensures.ok in
    let named = c.in_ok-p.ensures.after in
    let lived = c.remove_named.ensures in
    let told = c.lose.ensures ∙ ap (λ (ps : List Publication). with_loss ps w.topology) (sym only) in
    (λ i. record { own = w.own.word; names = named i; live = lived i; ports = w.ports; queues = w.queues.entries; watchers = told i })
    ∙ ap (λ (t : SocketTable). withdrawn t c.args.node.word c.args.key) c.self.view_is
