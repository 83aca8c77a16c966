use Rattle.std.proofs.Common.{◌<◌, Some, None, length, sym, ap, subst, ◌∙◌, arith}
use Rattle.std.specs.Prelude.{slice_index_or, slice_set}
use Rattle.tipc_outside.specs.Frames.{Adds}
use Rattle.tipc_node.specs.declared.neighbours.Neighbour.{Neighbour}
use Rattle.tipc_node.specs.CastHearings.{answered_for, cast_course, cast_frames}
use Rattle.tipc_node.specs.Drafts.{DraftState}
use Rattle.tipc_node.specs.Neighbours.{with_pair}
use Rattle.tipc_node.proofs.work.Drafting.{draft_of}
use Rattle.tipc_node.proofs.work.Hearings.{same_neighbour}
use Rattle.tipc_node.proofs.work.Wayfaring.{read_at}
use Rattle.tipc_node.proofs.drafts.Draft.follow_cast.Goals as goal

pub returns-clause-answered : goal.returns-clause-answered
returns-clause-answered c = λ by y told was.
    let w = c.self.inside in
    let xs = w.neighbours.items in
    let d = c.args.due.now in
    let v = c.args.broadcast.now in
    let peer = c.requires.peer in
    let wide = c.self.invariant.1.wide in
    let within : d.peer < length xs = omega (arith, peer, wide) in
    let here = read_at xs d.peer c.index_mut.result.now c.in-Some.neighbour within c.index_mut.ensures.value c.in-Some.is in
    let same = same_neighbour c.in-Some.neighbour y (sym here ∙ ap (λ (z : DraftState). slice_index_or z.work.neighbours d.peer None) c.self.view_is ∙ was) in
    ap (λ (n : Neighbour). draft_of (slice_set xs d.peer (Some n)) w.sockets w.inside.items w.copies.items w.out) (c.commit_cast.ensures.answered by told ∙ ap (λ (n : Neighbour). with_pair n (cast_course v d by n).pair) same)
    ∙ ap (λ (z : DraftState). record z { work = answered_for v d by z.work y }) c.self.view_is

pub returns-clause-frames : goal.returns-clause-frames
returns-clause-frames c = λ by y told was.
    let xs = c.self.inside.neighbours.items in
    let d = c.args.due.now in
    let peer = c.requires.peer in
    let wide = c.self.invariant.1.wide in
    let within : d.peer < length xs = omega (arith, peer, wide) in
    let here = read_at xs d.peer c.index_mut.result.now c.in-Some.neighbour within c.index_mut.ensures.value c.in-Some.is in
    let same = same_neighbour c.in-Some.neighbour y (sym here ∙ ap (λ (z : DraftState). slice_index_or z.work.neighbours d.peer None) c.self.view_is ∙ was) in
    subst (λ (n : Neighbour). Adds c.args.out.now c.commit_cast.new.out (cast_frames c.args.broadcast.now d by n)) same (c.commit_cast.ensures.frames by told)
