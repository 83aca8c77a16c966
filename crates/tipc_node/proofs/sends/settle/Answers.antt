use Rattle.std.proofs.Common.{Some, sym, ◌∙◌}
use Rattle.tipc_node.proofs.work.Homing.{met_size, met_stays, settles_twice}
use Rattle.tipc_node.proofs.work.Refusals.{one_at_error}
use Rattle.tipc_node.proofs.sends.settle.Goals as goal

pub returns-in_err-meet-clause-err : goal.returns-in_err-meet-clause-err
returns-in_err-meet-clause-err c =
    one_at_error c.from_residual-in_err-meet.result
    (c.in_err-meet.ensures.err.0 ∙ met_stays c.args.neighbours.now c.args.sockets.now c.meet.new.sockets c.args.inside.now.items c.meet.new.inside.items c.args.m c.in-Some.back
    (record { back_is = sym c.in-Some.is ∙ c.in_ok-back.ensures.back; sockets = c.in_ok-back.ensures.sockets; entries = c.in_ok-back.ensures.entries }))

pub returns-clause-settles : goal.returns-clause-settles
returns-clause-settles c =
    settles_twice c.args.sockets.now.own c.args.neighbours.now c.args.sockets.now c.meet.new.sockets c.meet-2.new.sockets c.args.inside.now.items c.meet.new.inside.items c.meet-2.new.inside.items c.args.m c.in-Some.back c.in_ok-meet.field-0 c.requires.origin
    (record { back_is = sym c.in-Some.is ∙ c.in_ok-back.ensures.back; sockets = c.in_ok-back.ensures.sockets; entries = c.in_ok-back.ensures.entries })
    (record { back_is = c.in_ok-meet.ensures.back; sockets = c.in_ok-meet.ensures.sockets; entries = c.in_ok-meet.ensures.entries })

pub returns-clause-light : goal.returns-clause-light
returns-clause-light c =
    (met_size c.args.neighbours.now c.meet.new.sockets c.meet-2.new.sockets c.meet.new.inside.items c.meet-2.new.inside.items c.in-Some.back c.in_ok-meet.field-0
    (record { back_is = c.in_ok-meet.ensures.back; sockets = c.in_ok-meet.ensures.sockets; entries = c.in_ok-meet.ensures.entries })).1
    ∙ (met_size c.args.neighbours.now c.args.sockets.now c.meet.new.sockets c.args.inside.now.items c.meet.new.inside.items c.args.m (Some c.in-Some.back)
    (record { back_is = sym c.in-Some.is ∙ c.in_ok-back.ensures.back; sockets = c.in_ok-back.ensures.sockets; entries = c.in_ok-back.ensures.entries })).1
