use Rattle.std.proofs.Common.{◌≡◌, map}
use Rattle.std.specs.List.{range_with_len}
use Rattle.tipc_message.specs.ItemWords.{item_at}
use Rattle.tipc_message.proofs.distribution.items_of.Given as goal

abbrev pub invariant-loop-index : goal.invariant-loop-index
invariant-loop-index l = l.items ≡ map (λ index. item_at index l.bytes) (range_with_len 0 l.index)
