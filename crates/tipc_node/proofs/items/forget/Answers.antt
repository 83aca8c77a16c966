use Rattle.tipc_sockets.proofs.Learning.{forgot_is}
use Rattle.tipc_node.proofs.items.forget.Goals as goal

pub returns-in-Ok-clause-after : goal.returns-in-Ok-clause-after
returns-in-Ok-clause-after c = forgot_is c.args.from.word c.args.key c.args.sockets.now c.withdraw.new.self c.in-Ok.publication c.in-Ok.ensures.ok c.in-Ok.ensures.after
