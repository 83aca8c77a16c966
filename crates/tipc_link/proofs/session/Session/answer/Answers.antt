use Rattle.std.proofs.Common.{◌≡◌, true, false, sym, subst, ◌∙◌}
use Rattle.tipc_outside.specs.Frames.{Adds, Out}
use Rattle.tipc_link.specs.Sessions.{answer_frames, is_due, with_broadcast}
use Rattle.tipc_link.proofs.Answering.{due_frames, undue_frames}
use Rattle.tipc_link.proofs.session.Session.answer.Goals as goal
use Rattle.tipc_link.proofs.session.Session.answer.Goals.{then-is_due, else-is_due}

pub returns-clause-frames : goal.returns-clause-frames
returns-clause-frames c =
    let e = c.args.self.now in
    let taken = c.args.broadcasts in
    let asks = c.args.asks in
    let shown = c.args.shown in
    elim c.if-is_due.branch [
      | then-is_due w ↦
          let due : is_due (with_broadcast e taken asks) ≡ true = sym c.is_due.ensures ∙ w.if-is_due.true in
          subst (λ (b : Out). Adds c.args.out.now b (answer_frames (with_broadcast e taken asks) shown)) (sym w.out-is) (due_frames e taken asks shown _ _ due w.tell.ensures.frames)
      | else-is_due w ↦
          let undue : is_due (with_broadcast e taken asks) ≡ false = sym c.is_due.ensures ∙ w.if-is_due.false in
          subst (λ (b : Out). Adds c.args.out.now b (answer_frames (with_broadcast e taken asks) shown)) (sym w.out-is) (undue_frames e taken asks shown _ undue)
    ]
