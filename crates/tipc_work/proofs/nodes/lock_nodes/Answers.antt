use Rattle.std.proofs.Common.{◌≡◌, ◌+◌, ◌∙◌, arith, rules, ap, length, map}
use Rattle.tipc_work.proofs.Locking.{lock_is, locks_more, nodes_done, passes_more, seats_wait, turns_are}
use Rattle.tipc_work.proofs.nodes.lock_nodes.Goals as goal

pub take_seats-requires-clause-count : goal.take_seats-requires-clause-count
take_seats-requires-clause-count g c =
    let callers = c.from-callers.ensures in
    let left = c.loop-chooser.invariant.0 in
    let some = ap length c.in-Some.ensures.items in
    let room =
    seats_wait (length c.loop-chooser.waiting.items) c.loop-chooser.node c.args.plan.now.nodes (c.args.plan.now.callers + 1) c.loop-chooser.invariant.5
    (omega (arith, left, some)) in
    omega (arith, callers, room)

pub loop-chooser-preserved : goal.loop-chooser-preserved
loop-chooser-preserved g c =
    let callers = c.from-callers.ensures in
    let number : c.from-callers.result + 1 ≡ c.args.plan.now.callers + 1 = omega (arith, callers) in
    let left = c.loop-chooser.invariant.0 in
    let some = ap length c.in-Some.ensures.items in
    let all = c.loop-chooser.invariant.5 in
    let waiting = c.in_ok-seats.ensures.left.1 in (
      omega (arith, left, some),
      turns_are _ _ _ _ c.loop-chooser.invariant.1 c.pop_front.ensures.items c.in-Some.is,
      c.in_ok-push.ensures.items
          ∙ locks_more c.args.plan.now _ _ _ _ c.loop-chooser.invariant.2 (lock_is c.args.plan.now _ _ _ _ _ c.in_ok-lock.ensures.lock c.node.ensures number),
      ap (map (λ v. v.items)) c.in_ok-push-2.ensures.items
          ∙ passes_more (λ v. v.items) c.args.plan.now _ _ _ _ _ _ _ c.loop-chooser.invariant.3 c.in_ok-lock.ensures.passes c.node.ensures c.in_ok-seats.ensures.taken number,
      c.in_ok-seats.ensures.left.0,
      omega (arith, all, waiting, callers),
    )

pub returns-clause-can : goal.returns-clause-can
returns-clause-can g c =
    let none : length c.loop-chooser.choosers.items ≡ 0 = search rules in
    let left = c.loop-chooser.invariant.0 in
    nodes_done c.args.plan.now _ _ _ c.loop-chooser.node c.requires.plan c.loop-chooser.invariant.2 c.loop-chooser.invariant.3 (omega (arith, none, left))
