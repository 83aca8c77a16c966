use Rattle.std.proofs.Common.{◌∙◌}
use Rattle.std.proofs.lemmas.Result.{IfOk-weaker}
use Rattle.tipc_sockets.proofs.Learning.{learn_fits}
use Rattle.tipc_node.proofs.items.apply_item.Goals as goal

pub returns-else-withdrawal-clause-told : goal.returns-else-withdrawal-clause-told
returns-else-withdrawal-clause-told c =
    IfOk-weaker c.learn.result _ _
    (λ told is. is ∙ learn_fits c.args.from.word c.args.withdrawal c.args.sockets.now.names c.args.item.now c.in-Some.publication c.if-withdrawal.false c.in-Some.ensures.told) c.learn.ensures.told
