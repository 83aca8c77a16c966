use Rattle.std.proofs.Common.{◌≡◌, ◌∙◌, ap, subst, sym}
use Rattle.std.specs.Prelude.{OnOk}
use Rattle.tipc_types.specs.Address.{node_word}
use Rattle.tipc_outside.specs.Frames.{Adds}
use Rattle.tipc_outside.proofs.Adding.{gains_none}
use Rattle.tipc_broadcast.specs.Contacts.{has_joined}
use Rattle.tipc_broadcast.specs.Deeds.{after_deeds, deeds_frames}
use Rattle.tipc_node.proofs.work.Casting.{found_deeds, none_deeds}
use Rattle.tipc_node.proofs.casting.follow_contact.Goals as goal

pub follow_change-requires-clause-change : goal.follow_change-requires-clause-change
follow_change-requires-clause-change c =
    (found_deeds (has_joined (node_word c.args.peer) c.args.broadcast.now.contacts) c.args.peer c.args.changes.now c.in-Some.change c.requires.changes (sym c.in-Some.is ∙ c.contact_change.ensures)).1

pub returns-in-Some-clause-after : goal.returns-in-Some-clause-after
returns-in-Some-clause-after c =
    let v = c.args.broadcast.now in
    let found = found_deeds (has_joined (node_word c.args.peer) v.contacts) c.args.peer c.args.changes.now c.in-Some.change c.requires.changes (sym c.in-Some.is ∙ c.contact_change.ensures) in
    subst (λ ds. OnOk c.follow_change.result (c.follow_change.new.broadcast ≡ after_deeds ds v)) found.0 c.follow_change.ensures.after

pub returns-in-Some-clause-frames : goal.returns-in-Some-clause-frames
returns-in-Some-clause-frames c =
    let v = c.args.broadcast.now in
    let found = found_deeds (has_joined (node_word c.args.peer) v.contacts) c.args.peer c.args.changes.now c.in-Some.change c.requires.changes (sym c.in-Some.is ∙ c.contact_change.ensures) in
    subst (λ ds. OnOk c.follow_change.result (Adds c.args.out.now c.follow_change.new.out (deeds_frames ds v))) found.0 c.follow_change.ensures.frames

pub returns-in-None-clause-after : goal.returns-in-None-clause-after
returns-in-None-clause-after c = ap (λ ds. after_deeds ds c.args.broadcast.now) (sym (none_deeds c.args.peer c.args.changes.now (sym c.in-None.is ∙ c.contact_change.ensures)))

pub returns-in-None-clause-frames : goal.returns-in-None-clause-frames
returns-in-None-clause-frames c =
    subst (λ ds. Adds c.args.out.now c.args.out.now (deeds_frames ds c.args.broadcast.now)) (sym (none_deeds c.args.peer c.args.changes.now (sym c.in-None.is ∙ c.contact_change.ensures))) (gains_none c.args.out.now)
