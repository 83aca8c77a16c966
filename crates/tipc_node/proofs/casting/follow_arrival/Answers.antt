use Rattle.std.proofs.Common.{◌∙◌, ap, subst, sym}
use Rattle.tipc_outside.specs.Frames.{Adds}
use Rattle.tipc_outside.proofs.Adding.{adds_more}
use Rattle.tipc_broadcast.specs.Casting.{Casting}
use Rattle.tipc_broadcast.specs.Deeds.{after_deeds, deeds_frames}
use Rattle.tipc_broadcast.proofs.Deeds.{after_more, frames_more}
use Rattle.tipc_node.specs.Casting.{contact_deeds, state_deeds}
use Rattle.tipc_node.proofs.work.Casting.{told_joined}
use Rattle.tipc_node.proofs.casting.follow_arrival.Goals as goal

pub take_state-requires-clause-joined : goal.take_state-requires-clause-joined
take_state-requires-clause-joined c = λ some.
    told_joined c.args.peer c.args.broadcast.now c.follow_contact.new.broadcast c.args.changes.now c.args.stated c.requires.told c.in_ok-follow_contact.ensures.after some

pub returns-clause-after : goal.returns-clause-after
returns-clause-after c =
    let first = contact_deeds c.args.peer c.args.changes.now in
    let then = state_deeds c.args.peer c.args.stated in
    c.take_state.ensures.after ∙ ap (after_deeds then) c.in_ok-follow_contact.ensures.after ∙ sym (after_more first then c.args.broadcast.now)

pub returns-clause-frames : goal.returns-clause-frames
returns-clause-frames c =
    let v = c.args.broadcast.now in
    let first = contact_deeds c.args.peer c.args.changes.now in
    let then = state_deeds c.args.peer c.args.stated in
    let second = subst (λ (u : Casting). Adds c.follow_contact.new.out c.take_state.new.out (deeds_frames then u)) c.in_ok-follow_contact.ensures.after c.take_state.ensures.frames in
    subst (Adds c.args.out.now c.take_state.new.out) (sym (frames_more first then v))
    (adds_more c.args.out.now c.follow_contact.new.out c.take_state.new.out (deeds_frames first v) (deeds_frames then (after_deeds first v)) c.in_ok-follow_contact.ensures.frames second)
