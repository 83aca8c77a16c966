use Rattle.std.proofs.Common.{subst, sym}
use Rattle.tipc_world.specs.Events.{CanHappen}
use Rattle.tipc_world.specs.States.{is_there}
use Rattle.tipc_sim.specs.Nodes.{CanBeDone}
use Rattle.tipc_sim.proofs.MessageLaws.{bursts_line, repeats_line, stays}
use Rattle.tipc_world.proofs.Continuing.{continues_same}
use Rattle.tipc_sim.proofs.lines.converse.Goals as goal

pub repeat_on-requires-clause-can : goal.repeat_on-requires-clause-can
repeat_on-requires-clause-can g c =
    let can = subst (CanBeDone (is_there c.args.world.now.state)) c.in-Repeat.is c.requires.can in
    (can.0, can.1)

pub returns-in_ok-tell-in_default : goal.returns-in_ok-tell-in_default
returns-in_ok-tell-in_default g c =
    let d = c.in_default in
    record {
      comes = stays c.args.line c.args.notes.now c.args.world.now.state c.in_ok-tell-in_default.field-0 d.not-Repeat d.not-Drain d.not-Burst c.in_ok-tell-in_default.ensures;
      continues = continues_same c.args.world.now;
    }

pub returns-in-Repeat-clause-comes : goal.returns-in-Repeat-clause-comes
returns-in-Repeat-clause-comes g c =
    let r = c.in-Repeat in
    repeats_line c.args.line r.times r.node r.call c.args.notes.now c.args.world.now.state c.repeat_on.new.world.state c.repeat_on.result r.is
    (c.repeat_on.ensures.comes c.args.notes.now)

pub returns-in-Burst-clause-comes : goal.returns-in-Burst-clause-comes
returns-in-Burst-clause-comes g c =
    let b = c.in-Burst in
    bursts_line c.args.line b.node b.port b.to_node b.to_port b.times b.body c.new-at.result c.low_message-message.result c.args.notes.now c.args.world.now.state c.burst_on.new.world.state _ b.is c.new-at.ensures
    c.low_message-message.ensures c.burst_on.ensures.comes
