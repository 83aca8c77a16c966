use Rattle.std.proofs.Common.{◌++◌, ap, ◌∙◌, List}
use Rattle.tipc_reassembly.specs.declared.opening.Opened.{Opened}
use Rattle.tipc_reassembly.specs.Opening.{none}
use Rattle.tipc_reassembly.proofs.Packets.{next_taken}
use Rattle.tipc_reassembly.proofs.opening.Reassembly.open_each.Goals as goal

pub loop-packet-init : goal.loop-packet-init
loop-packet-init c = rw c.new-opened.ensures.items none

pub loop-packet-preserved : goal.loop-packet-preserved
loop-packet-preserved c =
    let pushed = c.in_ok-append.ensures.items ∙ ap (λ (xs : List Opened). c.loop-packet.opened.items ++ xs) c.in_ok-more.ensures in
    next_taken _ _ _ _ _ _ _ _ _ c.loop-packet-test.true c.packet-item.is pushed c.loop-packet.invariant c.in_ok-open_one.ensures.ok
