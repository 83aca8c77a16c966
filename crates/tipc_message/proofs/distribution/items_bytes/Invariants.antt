use Rattle.std.proofs.Common.{◌≡◌, take}
use Rattle.std.specs.List.{flat_map, All}
use Rattle.tipc_message.specs.ItemWords.{item_bytes, IsInWords}
use Rattle.tipc_message.proofs.distribution.items_bytes.Given as goal

abbrev pub invariant-loop-item : goal.invariant-loop-item
invariant-loop-item l = record {
  bytes : l.bytes.items ≡ flat_map item_bytes (take l.item-index l.items);
  words : All IsInWords (take l.item-index l.items);
}
