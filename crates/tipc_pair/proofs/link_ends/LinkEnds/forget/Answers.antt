use Rattle.std.proofs.Common.{◌≡◌, false, sym, subst}
use Rattle.tipc_pair.specs.Facing.{PairEnds, in_contact, is_up_at}
use Rattle.tipc_pair.proofs.Followings.{far_down, forgotten_kept, near_down, with_contact}
use Rattle.tipc_pair.proofs.link_ends.LinkEnds.forget.Goals as goal

pub forget_end-requires-clause-contact : goal.forget_end-requires-clause-contact
forget_end-requires-clause-contact c = with_contact _ _ _ _ _ c.self.inside.near c.self.invariant.near

pub forget_end-requires-clause-down : goal.forget_end-requires-clause-down
forget_end-requires-clause-down c = subst (λ (v : PairEnds). is_up_at v.near ≡ false) (sym c.self.view_is) (near_down c.args.self.now c.requires)

pub forget_end-requires-2-clause-contact : goal.forget_end-requires-2-clause-contact
forget_end-requires-2-clause-contact c = with_contact _ _ _ _ _ c.self.inside.far c.self.invariant.far

pub forget_end-requires-2-clause-down : goal.forget_end-requires-2-clause-down
forget_end-requires-2-clause-down c = subst (λ (v : PairEnds). is_up_at v.far ≡ false) (sym c.self.view_is) (far_down c.args.self.now c.requires)

pub invariant_of-self : goal.invariant_of-self
invariant_of-self c =
    forgotten_kept _ c.args.seen c.forget_end.new.link c.forget_end-2.new.link c.self.invariant (subst (λ (v : PairEnds). in_contact v ≡ false) (sym c.self.view_is) c.requires)
    c.forget_end.ensures.after c.forget_end-2.ensures.after
