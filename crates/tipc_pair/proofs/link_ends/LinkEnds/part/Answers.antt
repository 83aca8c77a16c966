use Rattle.std.proofs.Common.{◌≡◌, false, sym, subst}
use Rattle.std.specs.List.{flat_map}
use Rattle.std.proofs.lemmas.Grind.{flat_map-append}
use Rattle.tipc_outside.specs.Frames.{AddsFirst}
use Rattle.tipc_outside.proofs.Adding.{first_more}
use Rattle.tipc_link_fsm.specs.Table.{is_last}
use Rattle.tipc_link.specs.Links.{reset_frames}
use Rattle.tipc_pair.specs.Courses.{LeavingState}
use Rattle.tipc_pair.specs.Facing.{PairEnds, made_of}
use Rattle.tipc_pair.proofs.Followings.{parted_kept}
use Rattle.tipc_pair.proofs.link_ends.LinkEnds.part.Goals as goal

pub invariant_of-self : goal.invariant_of-self
invariant_of-self c =
    let going : is_last c.self.inside.numbers.own ≡ false = subst (λ (v : PairEnds). is_last v.contact ≡ false) (sym c.self.view_is) c.requires in
    parted_kept _ c.next_number-own.result c.args.seen c.part_end.new.link c.part_end-2.new.link _ c.self.invariant going c.next_number-own.ensures c.part_end.ensures.after c.part_end-2.ensures.after

pub returns-clause-frames : goal.returns-clause-frames
returns-clause-frames c =
    let near = made_of c.part_end.new.link in
    let far = made_of c.part_end-2.new.link in
    subst (AddsFirst c.args.event.now.out c.part_end-2.new.out) (sym (flat_map-append reset_frames near far))
    (first_more c.args.event.now.out c.part_end.new.out c.part_end-2.new.out (flat_map reset_frames near) (flat_map reset_frames far)
    (subst (λ (l : LeavingState). AddsFirst l.out c.part_end.new.out (flat_map reset_frames near)) c.event.view_is c.part_end.ensures.frames) c.part_end-2.ensures.frames)
