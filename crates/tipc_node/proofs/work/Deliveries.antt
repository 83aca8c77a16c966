-- The deliveries of an arrival, one after the other.
use Rattle.std.proofs.Common.{◌≡◌, ◌+◌, ◌≤◌, ℕ, List, take, sum_by}
use Rattle.tipc_journal.specs.declared.entries.Entry.{Entry}
use Rattle.tipc_journal.specs.Room.{entry_bytes, free_message_bytes}
use Rattle.tipc_node.specs.declared.frames.Delivery.{Delivery}
use Rattle.tipc_node.specs.Nodes.{taken_count}

-- so many of the first i have a message
pub record IsCounted (ds : List Delivery) (i count : ℕ) : Type 0 where
  pub count_is : count ≡ sum_by (λ (d : Delivery). taken_count d.message) (take i ds)
  pub within : count ≤ i

-- so many message bytes are left beside the first i entries
pub record IsLeft (es : List Entry) (i left : ℕ) : Type 0 where
  pub left_is : sum_by entry_bytes (take i es) + left ≡ free_message_bytes
