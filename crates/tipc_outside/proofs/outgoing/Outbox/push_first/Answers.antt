use Rattle.std.proofs.Common.{◌≤◌, ◌+◌, [], ◌∷◌, subst}
use Rattle.tipc_outside.specs.Frames.{AddsFirst}
use Rattle.tipc_outside.specs.declared.outgoing.Outgoing.{Outgoing}
use Rattle.tipc_outside.proofs.Boxes.{boxed, put_first}
use Rattle.tipc_outside.proofs.outgoing.Outbox.push_first.Goals as goal

pub returns : goal.returns
returns c =
    let s = c.self.inside in
    let frame : Outgoing = record { bearer = c.args.bearer; to = c.args.to; frame = c.args.frame } in
    subst (λ o. AddsFirst o (boxed c.insert.new.self.items (s.first + 1) s.first_lost s.lost) (frame ∷ [])) c.self.view_is
    (put_first s.frames.items c.insert.new.self.items s.first s.first_lost s.lost frame (subst (λ n. s.first ≤ n) s.frames.ok.0 c.self.invariant) c.if-self.false c.in-Ok.ensures.items)
