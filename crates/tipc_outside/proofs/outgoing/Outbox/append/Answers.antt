use Rattle.std.proofs.Common.{subst, sym, ◌∙◌}
use Rattle.tipc_outside.specs.Frames.{Adds}
use Rattle.tipc_outside.proofs.Boxes.{sent_lost}
use Rattle.tipc_outside.proofs.outgoing.Outbox.append.Goals as goal

pub returns-then-lost : goal.returns-then-lost
returns-then-lost c = λ made gains.
    sent_lost c.args.self.now c.push_all.new.self c.mark_lost.new.self c.args.event made (subst (Adds c.args.self.now c.push_all.new.self) c.into_frames.ensures c.push_all.ensures) gains
    (sym c.lost-lost.ensures ∙ c.if-lost.true) c.mark_lost.ensures
