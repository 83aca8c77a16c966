use Rattle.std.proofs.Common.{◌≤◌, [], ◌∷◌, ap, subst, sym, ◌∙◌}
use Rattle.tipc_outside.specs.Frames.{Adds, is_lost}
use Rattle.tipc_outside.specs.declared.outgoing.Outgoing.{Outgoing}
use Rattle.tipc_outside.proofs.Boxes.{boxed, put_last}
use Rattle.tipc_outside.proofs.outgoing.Outbox.push.Goals as goal

pub returns : goal.returns
returns c =
    let s = c.self.inside in
    let frame : Outgoing = record { bearer = c.args.bearer; to = c.args.to; frame = c.args.frame } in
    subst (λ o. Adds o (boxed c.push.new.self.items s.first s.first_lost s.lost) (frame ∷ [])) c.self.view_is
    (put_last s.frames.items c.push.new.self.items s.first s.first_lost s.lost frame (subst (λ n. s.first ≤ n) s.frames.ok.0 c.self.invariant)
    (ap is_lost c.self.view_is ∙ (sym c.lost.ensures ∙ c.if-lost.false)) c.in-Ok.ensures.items)
