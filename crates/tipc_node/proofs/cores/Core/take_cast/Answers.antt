use Rattle.std.proofs.Common.{subst}
use Rattle.tipc_node.specs.CastHearings.{IsCastPrepared}
use Rattle.tipc_node.specs.Nodes.{NodeState}
use Rattle.tipc_node.proofs.cores.Core.take_cast.Goals as goal

pub cast_alone-requires-clause-prepared : goal.cast_alone-requires-clause-prepared
cast_alone-requires-clause-prepared c =
    let d = c.args.due.now in
    let x = c.in-Some.neighbour.now in
    (x, c.in-Some.ensures.some, subst (λ (n : NodeState). IsCastPrepared n.casting x d c.in_ok-heard.heard) c.self.view_is c.in_ok-heard.ensures.prepared)

pub cast_each-requires-clause-prepared : goal.cast_each-requires-clause-prepared
cast_each-requires-clause-prepared c =
    let d = c.args.due.now in
    let x = c.in-Some.neighbour.now in
    (x, c.in-Some.ensures.some, subst (λ (n : NodeState). IsCastPrepared n.casting x d c.in_ok-heard.heard) c.self.view_is c.in_ok-heard.ensures.prepared)
