-- What a sender puts into numbered packets, and what comes out of them.
use Rattle.std.specs.Prelude.{◌≡◌, ℕ, ◌<◌, ◌≤◌, ◌^◌, All, List, [], ◌∷◌, ◌++◌, length, map}
use Rattle.std.specs.List.{flat_map}
use Rattle.tipc_types.specs.Prefixes.{IsPrefixOf}
use Rattle.tipc_types.specs.declared.packet_lists.Taken.{Taken}
use Rattle.tipc_types.specs.Limits.{most_packet_bytes}
use Rattle.tipc_header.specs.Spelling.{spelling}
use Rattle.tipc_fragments.specs.Cutting.{fragment_fields, Piece}
use Rattle.tipc_fragments.specs.Joining.{answer_of, fresh, Joining}
use Rattle.tipc_fragments.specs.Laws.{arrived}
use Rattle.tipc_fragments.specs.Streams.{CameItem, Item, item_after, item_after_all, item_answers, items_in, items_of, Part, Single}
use Rattle.tipc_bundle.specs.Bundles.{IsInner, joined}
use Rattle.tipc_reassembly.specs.declared.opening.Opened.{Opened}
use Rattle.tipc_reassembly.specs.declared.opening.Opened.TheVariants.{Whole, Passed}
use Rattle.tipc_reassembly.specs.Opening.{brought_by, joined_members}

-- what is put into one numbered packet: whole packets, one as it is and several as their bundle, or a fragment
pub data Slot : Type 0 where
  Group : (packets : List (List ℕ)) → Slot
  Fragment : (piece : Piece) → Slot

-- the packet as it waits to be sent
abbrev pub slot_bytes : Slot → List ℕ
slot_bytes (Group packets) = joined packets
slot_bytes (Fragment piece) = spelling (fragment_fields piece)

-- what is sent in it
abbrev pub slot_items : Slot → List Item
slot_items (Group packets) = map Single packets
slot_items (Fragment piece) = Part piece ∷ []

-- whole packets that can be sent as one
pub record IsGroup (packets : List (List ℕ)) : Type 0 where
  pub some : 0 < length packets
  pub inner : All IsInner packets
  pub within : length (joined packets) ≤ most_packet_bytes

-- a fragment that can be sent
pub record IsCut (piece : Piece) : Type 0 where
  pub first : 1 ≤ piece.number
  pub number : piece.number < 2 ^ 16
  pub some : 1 ≤ length piece.bytes
  pub most : length piece.bytes ≤ 1412

-- a packet that can be sent
abbrev pub IsSlot : Slot → Type 0
IsSlot (Group packets) = IsGroup packets
IsSlot (Fragment piece) = IsCut piece

-- what came in a packet, by the arrival of its frame
abbrev pub came_by : ℕ → Slot → List CameItem
came_by by slot = map (λ item. (item, by)) (slot_items slot)

-- what came in packets that were taken
abbrev pub came_of : List Slot → List Taken → List CameItem
came_of [] taken = []
came_of (slot ∷ slots) [] = []
came_of (slot ∷ slots) (packet ∷ taken) = came_by packet.by slot ++ came_of slots taken

-- what an item brings
abbrev pub item_brings : Joining → Item → ℕ → List Opened
item_brings s (Single message) by = brought_by by message ∷ []
item_brings s (Part piece) by = joined_members (answer_of s piece by)

-- what items bring that come one after the other
abbrev pub items_bring : Joining → List CameItem → List Opened
items_bring s [] = []
items_bring s (c ∷ came) = item_brings s c.0 c.1 ++ items_bring (item_after s c.0 c.1) came

-- These came, and brought this.
pub record BringsItems (s : Joining) (came : List CameItem) (opened : List Opened) (last : Joining) : Type 0 where
  pub opened_is : opened ≡ items_bring s came
  pub left : last ≡ item_after_all s came

-- ---- the packets that are whole

-- what was opened gave a packet, and wasn't passed over
abbrev pub IsWholePacket : Opened → Type 0
IsWholePacket (Whole packet by) = Unit {0}
IsWholePacket (Passed place) = ⊥

-- the packet that was opened, if it wasn't passed over
abbrev pub whole_in : Opened → List (List ℕ)
whole_in (Whole packet by) = packet ∷ []
whole_in (Passed place) = []

-- the packets that were opened, in order, without those that were passed over
abbrev pub packets_in : List Opened → List (List ℕ)
packets_in opened = flat_map whole_in opened

-- What is made of a front of what is sent of these messages: every packet is whole, and they are a front of the
-- messages. Where everything came they are the messages, and none is begun.
pub record OpensFront (messages : List (List ℕ)) (items : List Item) (opened : List Opened) (last : Joining) : Type 0 where
  pub whole : All IsWholePacket opened
  pub front : IsPrefixOf (packets_in opened) messages
  pub every : items ≡ flat_map items_of messages → (packets_in opened ≡ messages) × (last ≡ fresh)

-- These items came from the begin on; they gave these messages, and have begun this.
pub record HasOpened (items : List Item) (given : List (List ℕ)) (begun : Joining) : Type 0 where
  pub came : List CameItem
  pub items_is : items_in came ≡ items
  pub given_is : map (λ a. a.0) (arrived (item_answers fresh came)) ≡ given
  pub left : item_after_all fresh came ≡ begun
