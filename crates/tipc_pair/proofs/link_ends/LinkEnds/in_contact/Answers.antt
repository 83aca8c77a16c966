use Rattle.std.proofs.Common.{◌≡◌, ◌∙◌, false, sym, subst, ap}
use Rattle.std.specs.Prelude.{◌||◌}
use Rattle.tipc_link_fsm.specs.Table.{is_last}
use Rattle.tipc_pair.specs.Facing.{PairEnds, is_up_at}
use Rattle.tipc_pair.proofs.Followings.{contact_going}
use Rattle.tipc_pair.proofs.link_ends.LinkEnds.in_contact.Goals as goal

pub returns-then-is_up-clause-going_on : goal.returns-then-is_up-clause-going_on
returns-then-is_up-clause-going_on c = λ up. subst (λ (v : PairEnds). is_last v.contact ≡ false) c.self.view_is
    (contact_going _ c.self.invariant (ap (λ b. b || is_up_at c.self.inside.far) (sym c.is_up.ensures ∙ up)))

pub returns-else-is_up-clause-going_on : goal.returns-else-is_up-clause-going_on
returns-else-is_up-clause-going_on c = λ up. subst (λ (v : PairEnds). is_last v.contact ≡ false) c.self.view_is
    (contact_going _ c.self.invariant (ap (λ b. b || is_up_at c.self.inside.far) (sym c.is_up.ensures ∙ c.if-is_up.false) ∙ (sym c.is_up-else-is_up.ensures ∙ up)))
