use Rattle.std.proofs.Common.{Some, refl, subst, sym}
use Rattle.tipc_pair.specs.Facing.{in_contact}
use Rattle.tipc_node.specs.Casting.{CanBeTold}
use Rattle.tipc_node.proofs.work.Hearings.{taken_heard, told_there}
use Rattle.tipc_node.proofs.neighbours.Neighbour.hear.Goals as goal

pub take-requires : goal.take-requires
take-requires c =
    let d = c.args.due.now in
    let h = c.args.heard in
    (d.first, d.second, h.number, told_there (Some c.args.self.now) c.args.self.now d h refl c.requires)

pub returns-clause-heard : goal.returns-clause-heard
returns-clause-heard c =
    let x = c.args.self.now in
    let d = c.args.due.now in
    let h = c.args.heard in
    taken_heard x d h c.take.new.self _ c.args.out.now c.take.new.out c.requires (c.take.ensures.takes d.first d.second h.number (told_there (Some x) x d h refl c.requires)) refl refl refl c.take.ensures.once

pub returns-clause-told : goal.returns-clause-told
returns-clause-told c =
    subst (CanBeTold (in_contact c.args.self.now.pair) c.take.result) (sym (let p = c.requires in p.stated)) c.take.ensures.told
