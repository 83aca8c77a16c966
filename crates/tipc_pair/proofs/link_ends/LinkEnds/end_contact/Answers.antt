use Rattle.std.proofs.Common.{◌≤◌, ◌∙◌, subst, ap}
use Rattle.tipc_link_fsm.specs.Table.{is_last}
use Rattle.tipc_pair.specs.Facing.{PairEnds, facing}
use Rattle.tipc_pair.proofs.Facings.{facing_contact}
use Rattle.tipc_pair.proofs.Followings.{ended_adds_ok, numbers_are, ok_so, parted_back}
use Rattle.tipc_pair.proofs.link_ends.LinkEnds.end_contact.Goals as goal

pub part-requires : goal.part-requires
part-requires c = ap is_last (ap (λ (v : PairEnds). v.contact) c.face.ensures.after ∙ facing_contact 0 c.args.self.now) ∙ c.requires

pub returns-clause-after : goal.returns-clause-after
returns-clause-after c =
    let x = c.args.self.now in
    let two : x.bearer ≤ 1 = subst (λ (v : PairEnds). v.bearer ≤ 1) c.self.view_is c.self.invariant.two_bearers in
    ok_so c.tell.result _ (c.face-2.ensures.after ∙ (ap (λ (v : PairEnds). facing v.bearer c.part.new.self) c.self.view_is
    ∙ parted_back c.args.seen x c.face.new.self c.part.new.self two c.face.ensures.after c.part.ensures.after))

pub returns-clause-adds : goal.returns-clause-adds
returns-clause-adds c =
    let x = c.args.self.now in
    let two : x.bearer ≤ 1 = subst (λ (v : PairEnds). v.bearer ≤ 1) c.self.view_is c.self.invariant.two_bearers in
    ended_adds_ok c.tell.result c.args.seen c.args.shown (x.contact, x.seen) c.contact_numbers-contact.result c.states-states.result x c.face.new.self c.part.new.self c.args.event.now
    c.tell_ended.new.event c.part.new.event c.tell.new.self two c.face.ensures.after c.in_ok-tell_ended.ensures c.part.ensures.after c.part.ensures.changes c.part.ensures.frames
    (numbers_are c.contact_numbers-contact.result x.contact x.seen c.contact_numbers-contact.ensures.own c.contact_numbers-contact.ensures.seen) c.states-states.ensures c.tell.ensures
