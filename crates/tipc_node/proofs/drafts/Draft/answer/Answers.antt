use Rattle.std.proofs.Common.{◌<◌, Some, None, length, sym, ap, subst, ◌∙◌, arith}
use Rattle.std.specs.Prelude.{slice_index_or, slice_set}
use Rattle.tipc_outside.specs.Frames.{Adds}
use Rattle.tipc_node.specs.declared.neighbours.Neighbour.{Neighbour}
use Rattle.tipc_node.specs.Arrivals.{with_answer}
use Rattle.tipc_node.specs.Drafts.{DraftState}
use Rattle.tipc_node.specs.Neighbours.{answered_neighbour, answering}
use Rattle.tipc_node.specs.Works.{work_of}
use Rattle.tipc_node.proofs.work.Drafting.{start_changed, start_kept}
use Rattle.tipc_node.proofs.work.Hearings.{same_neighbour}
use Rattle.tipc_node.proofs.work.Wayfaring.{read_at}
use Rattle.tipc_node.proofs.drafts.Draft.answer.Goals as goal

pub returns-clause-start : goal.returns-clause-start
returns-clause-start c =
    let w = c.self.inside in
    start_changed c.args.self.now w.neighbours.items c.as_slice.result.now w.copies.items c.keep.new.copies.items w.sockets w.inside.items w.inside.items w.out c.answer.new.out c.args.peer (Some c.answer.new.self)
    c.self.view_is c.as_slice.ensures.value c.in_ok-keep.ensures.kept c.keep.ensures.same

pub returns-in_err-keep-clause-start : goal.returns-in_err-keep-clause-start
returns-in_err-keep-clause-start c =
    let w = c.self.inside in
    start_kept c.args.self.now w.neighbours.items c.as_slice.result.now w.copies.items c.keep.new.copies.items w.sockets w.inside.items w.inside.items w.out w.out c.self.view_is c.as_slice.ensures.value c.keep.ensures.same

pub returns-clause-answered : goal.returns-clause-answered
returns-clause-answered c = λ y was.
    let w = c.self.inside in
    let xs = w.neighbours.items in
    let peer = c.requires.peer in
    let wide = c.self.invariant.1.wide in
    let within : c.args.peer < length xs = omega (arith, peer, wide) in
    let x = c.in-Some.neighbour in
    let here = read_at xs c.args.peer c.index_mut.result.now x within c.index_mut.ensures.value c.in-Some.is in
    let same = same_neighbour x y (sym here ∙ ap (λ (z : DraftState). slice_index_or z.work.neighbours c.args.peer None) c.self.view_is ∙ was) in (
      ap (λ (n : Neighbour). work_of (slice_set xs c.args.peer (Some n)) w.sockets w.inside.items) (c.answer.ensures.after ∙ ap (answered_neighbour c.args.bearer c.args.asks c.args.shown) same)
          ∙ ap (λ (z : DraftState). with_answer z.work c.args.peer c.args.bearer c.args.asks c.args.shown y) c.self.view_is,
      subst (λ (z : DraftState). Adds z.out c.answer.new.out (answering c.args.bearer c.args.asks c.args.shown y).states) c.self.view_is
          (subst (λ (n : Neighbour). Adds w.out c.answer.new.out (answering c.args.bearer c.args.asks c.args.shown n).states) same c.answer.ensures.frames),
    )
