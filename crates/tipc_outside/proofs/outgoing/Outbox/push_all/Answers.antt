use Rattle.std.proofs.Common.{[], ◌∷◌}
use Rattle.tipc_outside.proofs.Adding.{adds_more}
use Rattle.tipc_outside.proofs.outgoing.Outbox.push_all.Goals as goal

pub loop-frame-preserved : goal.loop-frame-preserved
loop-frame-preserved c =
    adds_more c.args.self.now c.loop-frame.self c.push.new.self c.loop-frame.yielded (c.in-Some.frame ∷ []) c.loop-frame.invariant c.push.ensures
