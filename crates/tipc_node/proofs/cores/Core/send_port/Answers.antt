use Rattle.std.proofs.Common.{ap, rules, sym, ◌∙◌}
use Rattle.tipc_node.specs.Messages.{direct}
use Rattle.tipc_node.specs.Nodes.{NodeState}
use Rattle.tipc_node.proofs.work.Posted.{port_answered, port_refused}
use Rattle.tipc_node.proofs.cores.Core.send_port.Goals as goal

pub returns-in-Some-clause-ok : goal.returns-in-Some-clause-ok
returns-in-Some-clause-ok c =
    port_refused c.refuse.result c.args.self.now c.refuse.new.self c.args.by c.args.port c.args.to c.args.importance c.args.body c.args.out.now c.in-Some.why _ (sym c.sender_refusal.ensures ∙ c.in-Some.is) c.port_note-note.ensures c.refuse.ensures.ok

pub returns-clause-ok : goal.returns-clause-ok
returns-clause-ok c =
    let n = c.args.self.now in
    port_answered n c.send_to.new.self c.args.by c.args.port c.args.to c.args.importance c.args.body c.args.out.now c.send_to.new.out _ _ _ c.in_ok-refused.refused c.unwrap_or.result (sym c.sender_refusal.ensures ∙ c.in_default.is)
    (search rules) (c.direct-m.ensures.value ∙ ap (λ (z : NodeState). direct z.own c.args.port c.args.to c.args.importance c.args.body) c.self.view_is) c.limit-most.ensures c.in_ok-refused.ensures.sends (sym c.unwrap_or.ensures)
