use Rattle.std.proofs.Common.{ap, sym, ◌∙◌}
use Rattle.tipc_broadcast.specs.Casting.{accepting}
use Rattle.tipc_broadcast.specs.Deeds.{after_deeds}
use Rattle.tipc_node.specs.Multicasts.{multicast_deeds}
use Rattle.tipc_node.proofs.multicasts.cast.Goals as goal

pub returns-in-Ok-clause-after : goal.returns-in-Ok-clause-after
returns-in-Ok-clause-after c =
    let v = c.args.broadcast.now in
    c.in-Ok.ensures.ok.1 ∙ ap (accepting v) c.in_ok-pieces.ensures.value ∙ ap (λ b. after_deeds (multicast_deeds b c.args.own.word c.args.m.now) v) (sym c.if-not-goes_out.false)
