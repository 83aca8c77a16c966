use Rattle.std.proofs.Common.{◌∙◌, ap, subst, sym}
use Rattle.tipc_types.specs.Address.{IsNodeWord}
use Rattle.tipc_sockets.specs.SocketTables.{no_sockets}
use Rattle.tipc_broadcast.specs.Casting.{booted}
use Rattle.tipc_node.specs.Discovery.{nobody_heard}
use Rattle.tipc_node.proofs.journal.FirstTold.{new_told}
use Rattle.tipc_node.proofs.Keeping.{held_of}
use Rattle.tipc_node.proofs.Kept.{new_kept}
use Rattle.tipc_node.proofs.names.SharedNames.{new_shares}
use Rattle.tipc_node.proofs.nodes.Node.new.Goals as goal

pub invariant_of-result : goal.invariant_of-result
invariant_of-result c =
    let n = c.in_ok-core.core in
    let made = c.in_ok-core.ensures in
    let none = made.empty.0 ∙ ap (λ w. no_sockets w c.args.boot) (sym made.own.0) ∙ ap (no_sockets n.own) (sym made.own.1) in
    let unheard = made.unheard ∙ ap nobody_heard (sym made.own.0) in
    let fresh = made.casting ∙ ap (λ w. booted w c.args.boot) (sym made.own.0) ∙ ap (booted n.own) (sym made.own.1) in
    held_of n (new_kept n (subst IsNodeWord (sym made.own.0) c.requires.node) c.sound.ensures.epochs none c.sound.ensures.sockets made.empty.1 made.alone unheard fresh)

pub returns-clause-told : goal.returns-clause-told
returns-clause-told c =
    let n = c.in_ok-core.core in
    let made = c.in_ok-core.ensures in
    let none = made.empty.0 ∙ ap (λ w. no_sockets w c.args.boot) (sym made.own.0) ∙ ap (no_sockets n.own) (sym made.own.1) in
    new_told n none c.sound.ensures.sockets made.empty.1 made.alone

pub returns-clause-shares : goal.returns-clause-shares
returns-clause-shares c = new_shares c.in_ok-core.core c.in_ok-core.ensures.empty.1

pub returns-clause-bounded : goal.returns-clause-bounded
returns-clause-bounded c = record { boot = c.sound.ensures.epochs; few = c.sound.ensures.few }
