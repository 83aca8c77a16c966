use Rattle.std.proofs.Common.{◌≡◌, ap, arith, length, rules, true}
use Rattle.tipc_node_lock.specs.Locks.{is_one_per_caller}
use Rattle.tipc_sim.proofs.LiveNodeLaws.{comes_out, locks_more, taken_all, taken_more}
use Rattle.tipc_sim.proofs.live.nodes.take_out.Goals as goal

pub unreachable-requires-in-Err : goal.unreachable-requires-in-Err
unreachable-requires-in-Err g c =
    let one : is_one_per_caller c.in-Some-pop_front.lock.own c.in-Some-pop_front.lock.callers c.in-Some.passes.items ≡ true =
    comes_out (λ v. v.items) c.args.locks.items _ _ c.in-Some-pop_front.lock c.loop-passes.nodes.items _ _ c.in-Some.passes _ c.requires c.loop-passes.invariant.0
    c.in-Some.ensures.items c.loop-passes.invariant.1 c.in-Some-pop_front.ensures.items in
    let none = c.in-Err.ensures.back.0 in
    absurd cc

pub loop-passes-preserved : goal.loop-passes-preserved
loop-passes-preserved g c =
    let some = ap length c.in-Some.ensures.items in
    let locks = ap length c.in-Some-pop_front.ensures.items in
    let same = c.loop-passes.invariant.2 in (
      taken_more (λ v. v.items) c.loop-passes.nodes.items _ c.in-Ok.node _ _ c.in-Some.passes _ c.loop-passes.invariant.0 c.in-Some.ensures.items c.in_ok-push-in-Ok.ensures.items c.in-Ok.ensures.passes,
      locks_more c.args.locks.items c.loop-passes.nodes.items _ _ _ c.in-Ok.node c.in-Some-pop_front.lock c.loop-passes.invariant.1 c.in-Some-pop_front.ensures.items c.in_ok-push-in-Ok.ensures.items,
      omega (arith, some, locks, same),
    )

pub returns : goal.returns
returns g c =
    let none : length c.loop-passes.waiting.items ≡ 0 = search rules in
    taken_all (λ v. v.items) c.loop-passes.nodes.items c.loop-passes.waiting.items _ c.loop-passes.invariant.0 none
