-- Items as the bytes of a packet: five words for each, one item behind the other.
use Rattle.std.specs.Prelude.{ℕ, ◌+◌, ◌*◌, ◌/◌, ◌<◌, ◌^◌, List, [], ◌∷◌, length, map}
use Rattle.std.specs.List.{flat_map, range_with_len, All}
use Rattle.tipc_types.specs.declared.message_forms.Item.{Item}
use Rattle.tipc_header.specs.Reading.{word_at}
use Rattle.tipc_header.specs.Spelling.{words}

-- an item as bytes
abbrev pub item_bytes : Item → List ℕ
item_bytes item = words (item.kind ∷ item.lower ∷ item.upper ∷ item.port ∷ item.key ∷ [])

-- items as bytes
unfoldable pub items_bytes : List Item → List ℕ
items_bytes items = flat_map item_bytes items

-- the item of this index in bytes
abbrev pub item_at : ℕ → List ℕ → Item
item_at index b = record {
  kind = word_at (5 * index) b;
  lower = word_at (5 * index + 1) b;
  upper = word_at (5 * index + 2) b;
  port = word_at (5 * index + 3) b;
  key = word_at (5 * index + 4) b;
}

-- the items in bytes: as many as there are whole ones
unfoldable pub items_of : List ℕ → List Item
items_of b = map (λ index. item_at index b) (range_with_len 0 (length b / 20))

-- an item whose fields are words
pub record IsInWords (item : Item) : Type 0 where
  pub kind : item.kind < 2 ^ 32
  pub lower : item.lower < 2 ^ 32
  pub upper : item.upper < 2 ^ 32
  pub port : item.port < 2 ^ 32
  pub key : item.key < 2 ^ 32

-- items whose fields are words
abbrev pub AreInWords : List Item → Type 0
AreInWords items = All IsInWords items
