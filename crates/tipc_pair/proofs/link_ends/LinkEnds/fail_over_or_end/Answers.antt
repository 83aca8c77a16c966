use Rattle.std.proofs.Common.{◌∙◌, sym, ap}
use Rattle.tipc_pair.specs.Changeovers.{contact_ends, gone_down}
use Rattle.tipc_pair.specs.Facing.{PairEnds}
use Rattle.tipc_pair.proofs.Followings.{gone_down_ends}
use Rattle.tipc_pair.proofs.Steppings.{course_adds}
use Rattle.tipc_pair.proofs.link_ends.LinkEnds.fail_over_or_end.Goals as goal

pub returns-clause-adds : goal.returns-clause-adds
returns-clause-adds c =
    let x = c.args.self.now in
    course_adds c.end_contact.result c.args.event.now c.end_contact.new.event _ (gone_down x)
    (ap (λ n. contact_ends (record x { seen = n }) (x.contact, x.seen) 0) (ap (λ (v : PairEnds). v.seen) c.self.view_is) ∙ sym (gone_down_ends x (sym c.far_is_up.ensures ∙ c.if-far_is_up.false)))
    c.end_contact.ensures.adds
