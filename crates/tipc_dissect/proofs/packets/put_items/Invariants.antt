use Rattle.std.proofs.Common.{◌≡◌, ◌++◌}
use Rattle.std.specs.List.{flat_map, range_with_len}
use Rattle.tipc_dissect.specs.Packets.{item_line}
use Rattle.tipc_dissect.proofs.packets.put_items.Given as goal

abbrev pub invariant-loop-index : goal.invariant-loop-index
invariant-loop-index l = l.into.items ≡ l.fn.into.items ++ flat_map (item_line l.indent l.rest) (range_with_len 0 l.index)
