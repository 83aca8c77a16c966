use Rattle.tipc_world.proofs.Continuing.{continues_more}
use Rattle.tipc_world.proofs.settling.deliver_both.Goals as goal

pub returns-clause-continues : goal.returns-clause-continues
returns-clause-continues g c = continues_more c.args.world.now c.deliver_on.new.world c.deliver_on-2.new.world c.deliver_on.ensures.continues c.deliver_on-2.ensures.continues
