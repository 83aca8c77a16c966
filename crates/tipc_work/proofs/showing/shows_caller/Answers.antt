use Rattle.std.proofs.Common.{◌≡◌, ◌≤◌, arith, drop, length, rules, subst, sym}
use Rattle.tipc_types.specs.declared.node_calls.EventNote.TheVariants.{Socket}
use Rattle.tipc_work.specs.Plans.{named_send, port_made, publishing}
use Rattle.tipc_work.specs.Showing.{AreSends}
use Rattle.tipc_work.specs.Shown.{calls_made}
use Rattle.tipc_work.proofs.ShowingLaws.{caller_parts, caller_whole}
use Rattle.tipc_work.proofs.showing.shows_caller.Goals as goal

pub returns : goal.returns
returns c =
    let few = c.if-made-lt2.false in
    let two : 2 ≤ length c.args.made.now = omega (arith, few) in
    let socket : c.index-made-0.result.call ≡ Socket = search rules in
    let publication : c.index-made-1.result.call ≡ publishing c.args.node c.args.caller (port_made c.index-made-0.result.answer) = search rules in
    let sends = subst (λ port. AreSends (named_send c.args.plan.now c.args.node c.args.caller port) 0 c.args.plan.now.messages (calls_made (drop 2 c.args.made.now))) c.port_made-port.ensures in (
      λ on. caller_whole c.args.plan.now c.args.node c.args.caller c.args.made.now c.index-made-0.result c.index-made-1.result two c.index-made-0.is c.index-made-1.is socket publication
          (sends (subst (λ xs. AreSends (named_send c.args.plan.now c.args.node c.args.caller c.port_made-port.result) 0 c.args.plan.now.messages (calls_made xs)) c.behind.ensures (c.in_ok-shown.ensures.0 on))),
      λ s.
          let parts = caller_parts c.args.plan.now c.args.node c.args.caller c.args.made.now c.index-made-0.result c.index-made-1.result two c.index-made-0.is c.index-made-1.is s in
          c.in_ok-shown.ensures.1 (subst (λ xs. AreSends (named_send c.args.plan.now c.args.node c.args.caller c.port_made-port.result) 0 c.args.plan.now.messages (calls_made xs)) (sym c.behind.ensures)
          (subst (λ port. AreSends (named_send c.args.plan.now c.args.node c.args.caller port) 0 c.args.plan.now.messages (calls_made (drop 2 c.args.made.now))) (sym c.port_made-port.ensures) parts.2)),
    )
