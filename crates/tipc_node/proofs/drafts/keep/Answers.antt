use Rattle.std.proofs.Common.{Some, None, Option, ap, ◌∙◌, sym, arith}
use Rattle.std.specs.Prelude.{is_some}
use Rattle.std.proofs.lemmas.List.{get_or-set_other, get_or_default}
use Rattle.tipc_node.specs.declared.neighbours.Neighbour.{Neighbour}
use Rattle.tipc_node.proofs.work.Restoring.{keep_there, there_is}
use Rattle.tipc_node.proofs.drafts.keep.Goals as goal

pub returns-clause-same : goal.returns-clause-same
returns-clause-same c =
    let empty = ap (λ (o : Option Neighbour). is_some o) (get_or_default c.args.copies.now.items c.args.peer None c.index.result.now c.requires.wide ∙ sym c.index.ensures) ∙ sym c.is_some.ensures ∙ c.if-is_some.false in
    keep_there c.args.copies.now.items c.args.neighbours.now c.args.peer c.in_ok-copy.field-0 empty
    (there_is c.args.neighbours.now c.args.peer c.index-neighbours-peer.result c.in-Some.neighbour c.requires.there c.index-neighbours-peer.is c.in-Some.is ∙ ap (λ (x : Neighbour). Some x) (sym c.in_ok-copy.ensures))

pub returns-clause-first : goal.returns-clause-first
returns-clause-first c =
    let some = c.requires.some in
    get_or-set_other c.args.copies.now.items c.args.peer 0 (Some c.in_ok-copy.field-0) None (λ e. (let wrong : ⊥ = omega (arith, e, some) in wrong))
