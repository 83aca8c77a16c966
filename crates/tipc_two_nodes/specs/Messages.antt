-- The messages that one of two nodes puts in a contact, over two links, and those that the other one is given.
use Rattle.std.specs.Prelude.{◌≡◌, ◌<◌, ℕ, All, List, [], Some, length, map, slice_get, take}
use Rattle.std.specs.List.{flat_map}
use Rattle.tipc_bundle.specs.Bundles.{IsInner}
use Rattle.tipc_fragments.specs.Joining.{Joining}
use Rattle.tipc_fragments.specs.Streams.{items_of}
use Rattle.tipc_reassembly.specs.Slots.{HasOpened, IsSlot, Slot, slot_bytes, slot_items}
use Rattle.tipc_paired.specs.Views.{View}
use Rattle.tipc_two_nodes.specs.Carriages.{Carriage, IsPresent}

-- These messages were put in a contact and these were given of it, and this message is begun: the packets that were put
-- are made of slots, one for each, which hold what is sent of the messages; and those that were taken were opened.
pub record AreMessages (c : Carriage) (put given : List (List ℕ)) (begun : Joining) : Type 0 where
  pub messages : (k : ℕ) (m : List ℕ) → slice_get put k ≡ Some m → IsInner m
  pub slots : List Slot
  pub sound : All IsSlot slots
  pub bytes : map slot_bytes slots ≡ c.traffic.put
  pub whole : flat_map slot_items slots ≡ flat_map items_of put
  pub opened : HasOpened (flat_map slot_items (take (length c.state.delivered) slots)) given begun

-- The same, where y is the node that is given them, and keeps this message as begun while the contact lasts.
pub record IsTalk (y : View) (own theirs : ℕ) (c : Carriage) (put given : List (List ℕ))
    (begun : Joining) : Type 0 where
  pub last : Joining
  pub are : AreMessages c put given last
  pub now : IsPresent y own theirs → last ≡ begun

-- The messages from x to y in each contact, the own number of x first in what it put, and that of y in what it was
-- given; and the message that is begun of what y took.
pub record Talks (x y : View) (carriage : ℕ → ℕ → Carriage) (put given : ℕ → ℕ → List (List ℕ))
    (begun : Joining) : Type 0 where
  pub each : (own theirs : ℕ) → IsTalk y theirs own (carriage own theirs) (put own theirs) (given theirs own) begun
  -- none was put under a number that x doesn't have yet
  pub none : (own theirs : ℕ) → x.node.contact < own → (put own theirs ≡ []) × (given theirs own ≡ [])
