use Rattle.std.specs.Prelude.{codes}
use Rattle.std.proofs.Common.{ap, ◌∙◌}
use Rattle.tipc_dissect.specs.Lines.{shown_line}
use Rattle.tipc_dissect.specs.Packets.{item_line}
use Rattle.tipc_dissect.proofs.Appending.{line_put}
use Rattle.tipc_dissect.proofs.packets.put_items.Goals as goal

pub loop-index-preserved : goal.loop-index-preserved
loop-index-preserved c =
    line_put (item_line c.args.indent.now c.args.rest.now) c.loop-index.index c.args.into.now.items c.loop-index.into.items c.put_line.new.into.items _
    c.loop-index.invariant c.in_ok-put_line.ensures
    (ap (shown_line c.args.indent.now (codes "item")) (c.as_slice.ensures.value ∙ c.in_ok-item.ensures))
