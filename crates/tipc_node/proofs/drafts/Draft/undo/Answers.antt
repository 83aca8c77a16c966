use Rattle.std.proofs.Common.{List, Option, None, ap, length, ◌∙◌}
use Rattle.std.specs.Prelude.{slice_index_or}
use Rattle.tipc_node.specs.declared.neighbours.Neighbour.{Neighbour}
use Rattle.tipc_node.specs.Drafts.{start_of}
use Rattle.tipc_node.proofs.work.Restoring.{restored_first, restored_wide}
use Rattle.tipc_node.proofs.drafts.Draft.undo.Goals as goal

pub invariant_of-self : goal.invariant_of-self
invariant_of-self c =
    let w = c.self.inside in
    let t = c.self.invariant.1 in
    let back = c.restore.ensures.neighbours in (
      c.self.invariant.0,
      record {
        wide = ap (λ (xs : List (Option Neighbour)). length xs) back ∙ restored_wide w.copies.items w.neighbours.items ∙ t.wide;
        copied = c.restore.ensures.wide;
        nobody = ap (λ (xs : List (Option Neighbour)). slice_index_or xs 0 None) back ∙ restored_first w.copies.items w.neighbours.items t.uncopied t.nobody;
        uncopied = c.restore.ensures.nobody 0;
      },
    )

pub returns-clause-start : goal.returns-clause-start
returns-clause-start c = ap (λ xs. (xs, c.self.inside.sockets.own)) c.restore.ensures.neighbours ∙ ap start_of c.self.view_is
