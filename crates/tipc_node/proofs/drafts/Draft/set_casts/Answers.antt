use Rattle.std.proofs.Common.{◌<◌, Some, None, length, sym, ap, ◌∙◌, arith}
use Rattle.std.specs.Prelude.{slice_index_or, slice_set}
use Rattle.tipc_node.specs.declared.neighbours.Neighbour.{Neighbour}
use Rattle.tipc_node.specs.CastHearings.{with_joining}
use Rattle.tipc_node.specs.Drafts.{DraftState}
use Rattle.tipc_node.specs.Neighbours.{with_casts}
use Rattle.tipc_node.proofs.work.Drafting.{draft_of}
use Rattle.tipc_node.proofs.work.Hearings.{same_neighbour}
use Rattle.tipc_node.proofs.work.Wayfaring.{read_at}
use Rattle.tipc_node.proofs.drafts.Draft.set_casts.Goals as goal

pub returns : goal.returns
returns c = λ x was.
    let w = c.self.inside in
    let xs = w.neighbours.items in
    let peer = c.requires.peer in
    let wide = c.self.invariant.1.wide in
    let within : c.args.peer < length xs = omega (arith, peer, wide) in
    let here = read_at xs c.args.peer c.index_mut.result.now c.in-Some.neighbour within c.index_mut.ensures.value c.in-Some.is in
    let same = same_neighbour c.in-Some.neighbour x (sym here ∙ ap (λ (z : DraftState). slice_index_or z.work.neighbours c.args.peer None) c.self.view_is ∙ was) in
    ap (λ (n : Neighbour). draft_of (slice_set xs c.args.peer (Some (with_casts n c.args.casts))) w.sockets w.inside.items w.copies.items w.out) same
    ∙ ap (λ (z : DraftState). record z { work = with_joining z.work c.args.peer x c.args.casts }) c.self.view_is
