use Rattle.std.proofs.Common.{◌≡◌, ◌∙◌, ◌++◌, ap, subst, sym}
use Rattle.tipc_outside.specs.Frames.{Adds, Gains}
use Rattle.tipc_broadcast.specs.Deeds.{after_deeds, deeds_frames}
use Rattle.tipc_pair.specs.Courses.{made_in}
use Rattle.tipc_node.specs.Casting.{casting_in, contact_deeds}
use Rattle.tipc_node.specs.Neighbours.{course_of}
use Rattle.tipc_node.specs.Nodes.{change_entries}
use Rattle.tipc_node.proofs.turns.Parts.{did_part}
use Rattle.tipc_node.proofs.neighbours.part_of_one.Goals as goal

pub returns : goal.returns
returns c =
    let d = c.args.upkeep in
    let number = c.args.number in
    let v = c.args.broadcast.now in
    let old = c.args.event.now in
    let event = c.follow.new.event in
    let changes = c.in_ok-changes.changes in
    record {
      part = did_part d number v c.args.neighbour.now c.in_ok-after.after c.take_part.new.self c.shown-shown.result changes old _ (record {
        copied = c.in_ok-after.ensures;
        shows_is = c.shown-shown.ensures;
        after = c.in_ok-changes.ensures.after;
        changes_are = c.in_ok-changes.ensures.changes;
        entries =
            c.note_changes.ensures.entries ∙ ap (λ cs. c.reserve.new.self.items ++ change_entries number cs) c.as_slice-2.ensures
            ∙ ap (λ es. es ++ change_entries number changes) c.in_ok-reserve.ensures.items
            ∙ ap (λ inside. inside.items ++ change_entries number changes) c.follow.ensures.inside;
        frames = subst (λ b. Gains old.out b (made_in (course_of d c.shown-shown.result c.in_ok-after.after))) (sym c.follow.ensures.out) c.in_ok-changes.ensures.frames;
        casting = subst (λ cs. casting_in d v event.broadcast ≡ after_deeds (contact_deeds number cs) (casting_in d v old.broadcast)) c.as_slice.ensures c.in_ok-follow.ensures.casting;
        casts = subst (λ cs. Adds old.casts event.casts (deeds_frames (contact_deeds number cs) (casting_in d v old.broadcast))) c.as_slice.ensures c.in_ok-follow.ensures.casts;
      });
    }
