use Rattle.std.proofs.Common.{ℕ, List, Option, None, ap, sym, ◌∙◌}
use Rattle.std.specs.Prelude.{slice_index_or}
use Rattle.tipc_node.specs.declared.neighbours.Neighbour.{Neighbour}
use Rattle.tipc_node.specs.Drafts.{DraftState, own_of}
use Rattle.tipc_node.proofs.drafts.Draft.take_back.Goals as goal

pub invariant_of-self : goal.invariant_of-self
invariant_of-self c =
    (c.requires ∙ sym (ap (λ (start : List (Option Neighbour) × ℕ). start.1) c.undo.ensures.start) ∙ sym (ap own_of c.self.view_is) ∙ c.self.invariant.0, c.self.invariant.1)

pub returns-clause-start : goal.returns-clause-start
returns-clause-start c =
    ap (λ word. (c.self.inside.neighbours.items, word)) (c.requires ∙ sym (ap (λ (start : List (Option Neighbour) × ℕ). start.1) c.undo.ensures.start))
    ∙ ap (λ (z : DraftState). (z.work.neighbours, own_of c.undo.new.self)) c.self.view_is ∙ c.undo.ensures.start

pub returns-clause-idle : goal.returns-clause-idle
returns-clause-idle c =
    let idle = c.undo.ensures.idle in record {
      inside = ap (λ (z : DraftState). z.work.inside) c.self.view_is ∙ idle.inside;
      copies = λ k. ap (λ (z : DraftState). slice_index_or z.copies k None) c.self.view_is ∙ idle.copies k;
      out = ap (λ (z : DraftState). z.out) c.self.view_is ∙ idle.out;
    }
