use Rattle.std.proofs.Common.{ap, rules, sym, ◌∙◌}
use Rattle.tipc_node.specs.Messages.{multicast}
use Rattle.tipc_node.specs.Nodes.{NodeState}
use Rattle.tipc_node.proofs.work.Multicasts.{cast_answered, cast_refused, span_of}
use Rattle.tipc_node.proofs.cores.Core.multicast.Goals as goal

pub returns-in-Some-clause-ok : goal.returns-in-Some-clause-ok
returns-in-Some-clause-ok c =
    let a = c.args in
    cast_refused c.refuse.result a.self.now c.refuse.new.self a.by a.port a.kind a.lower a.upper a.importance a.body a.out.now c.in-Some.why _ (sym c.in_ok-refused.ensures.why ∙ c.in-Some.is) c.multicast_note-note.ensures c.refuse.ensures.ok

pub returns-clause-ok : goal.returns-clause-ok
returns-clause-ok c =
    let a = c.args in
    let n = a.self.now in
    cast_answered n c.spread.new.self a.by a.port a.kind a.lower a.upper a.importance a.body a.out.now c.spread.new.out _ _ c.in_ok-refused.goes_out (sym c.in_ok-refused.ensures.why ∙ c.in_default.is) (search rules)
    (c.multicast-m.ensures.value ∙ ap (λ (z : NodeState). multicast z.own a.port (span_of a.kind a.lower a.upper) a.importance a.body) c.self.view_is) (c.in_ok-refused.ensures.out c.in_default.is) c.in_ok-spread.ensures.ok
