use Rattle.std.proofs.Common.{◌≡◌, ◌++◌, append-nil, sym, ap, ◌∙◌, arith}
use Rattle.tipc_node.proofs.work.Multicasts.{cast_below, cast_next}
use Rattle.tipc_node.proofs.multicasts.accept_for_all.Goals as goal

pub loop-peer-init : goal.loop-peer-init
loop-peer-init c = (sym (append-nil c.args.inside.now.items), omega arith, omega arith)

pub loop-peer-preserved : goal.loop-peer-preserved
loop-peer-preserved c =
    let i = c.loop-peer.invariant in
    let some = i.1 in
    let test = c.loop-peer-test.true in (
      cast_next c.args.neighbours.now c.args.m.now c.loop-peer.peer c.args.inside.now.items c.loop-peer.inside.items c.accept_for.new.inside.items some i.0 c.in_ok-accept_for.ensures,
      omega (arith, some),
      omega (arith, test),
    )

pub returns : goal.returns
returns c =
    let i = c.loop-peer.invariant in
    let test = c.loop-peer-test.false in
    let most = i.2 in
    let last : c.loop-peer.peer ≡ 33 = omega (arith, test, most) in
    i.0 ∙ ap (λ number. c.args.inside.now.items ++ cast_below c.args.neighbours.now c.args.m.now number) last
