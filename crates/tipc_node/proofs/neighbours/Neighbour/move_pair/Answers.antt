use Rattle.std.proofs.Common.{subst, sym}
use Rattle.std.specs.Prelude.{filter}
use Rattle.std.proofs.lemmas.Result.{IfOk-weaker}
use Rattle.tipc_pair.specs.Contacts.{is_of_contact}
use Rattle.tipc_pair.specs.Facing.{in_contact}
use Rattle.tipc_node.specs.Casting.{IsContactChange}
use Rattle.tipc_node.specs.declared.neighbours.Upkeep.TheVariants as upkeep
use Rattle.tipc_node.proofs.work.Neighbouring.{part_told}
use Rattle.tipc_node.proofs.neighbours.Neighbour.move_pair.Goals as goal

pub returns-in-Cut-clause-contact : goal.returns-in-Cut-clause-contact
returns-in-Cut-clause-contact c =
    let x = c.args.self.now in
    IfOk-weaker c.cut.result _ _ (λ changes is. subst (λ cs. IsContactChange (in_contact x.pair) (filter is_of_contact cs)) (sym is) (part_told (upkeep.Cut c.in-Cut.bearer) c.args.shown x c.sound.ensures.pair)) c.cut.ensures.changes

pub returns-in-Tick-clause-contact : goal.returns-in-Tick-clause-contact
returns-in-Tick-clause-contact c =
    let x = c.args.self.now in
    IfOk-weaker c.tick.result _ _ (λ changes is. subst (λ cs. IsContactChange (in_contact x.pair) (filter is_of_contact cs)) (sym is) (part_told upkeep.Tick c.args.shown x c.sound.ensures.pair)) c.tick.ensures.changes
