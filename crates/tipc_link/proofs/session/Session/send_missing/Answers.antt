use Rattle.std.proofs.Common.{◌∙◌, sym}
use Rattle.tipc_link.proofs.Repeating.{repeating-done, repeating-pass, repeating-send, repeating-start}
use Rattle.tipc_link.proofs.session.Session.send_missing.Goals as goal
use Rattle.tipc_link.proofs.session.Session.send_missing.Goals.{then-is_behind, else-is_behind}

pub loop-kept-init : goal.loop-kept-init
loop-kept-init c = repeating-start _ _ _ _

pub loop-kept-preserved : goal.loop-kept-preserved
loop-kept-preserved c =
    let items = c.unacked-kept-items.ensures.kept in
    elim c.if-is_behind.branch [
      | then-is_behind w ↦
          let missing = sym c.is_behind.ensures ∙ w.if-is_behind.true in
          let sent = rw (w.as_slice-packet.ensures) at w.send_packet.ensures in
          rw (w.out-is, w.any-is) (repeating-send _ _ _ _ _ _ _ _ c.kept-item.result _ items c.loop-kept-test.true c.kept-item.is missing sent c.loop-kept.invariant)
      | else-is_behind w ↦
          let other = sym c.is_behind.ensures ∙ w.if-is_behind.false in
          rw (w.out-is, w.any-is) (repeating-pass _ _ _ _ _ _ _ c.kept-item.result _ items c.loop-kept-test.true c.kept-item.is other c.loop-kept.invariant)
    ]

pub returns-clause-after : goal.returns-clause-after
returns-clause-after c = (repeating-done _ _ _ _ _ _ _ _ c.unacked-kept-items.ensures.kept c.loop-kept-test.false c.loop-kept.invariant).0

pub returns-clause-frames : goal.returns-clause-frames
returns-clause-frames c = (repeating-done _ _ _ _ _ _ _ _ c.unacked-kept-items.ensures.kept c.loop-kept-test.false c.loop-kept.invariant).1
