-- Item messages: what a node tells its peers of its publications.
use Rattle.std.specs.Prelude.{◌≡◌, ◌≤◌, ◌<◌, ℕ, ◌+◌, Bool, false, List, [], ◌∷◌, Some, length, map, slice_get, if◌then◌else◌}
use Rattle.std.specs.List.{flat_map}
use Rattle.tipc_types.specs.declared.message_forms.Item.{Item}
use Rattle.tipc_types.specs.declared.message_forms.Message.{Message}
use Rattle.tipc_types.specs.declared.message_forms.Message.TheVariants.{Items, Payload}
use Rattle.tipc_types.specs.declared.services.Publication.{Publication}
use Rattle.tipc_journal.specs.Names.{cluster_part, is_clusterwide}

-- how many items a message has at most
abbrev pub most_items : ℕ
most_items = 70

-- a publication as an item: its node is that of the message, and its scope doesn't travel
abbrev pub item_of : Publication → Item
item_of p =
    record { kind = p.range.kind; lower = p.range.lower; upper = p.range.upper; port = p.at.port; key = p.key }

-- what a message tells of a publication: nothing where it isn't seen in the cluster
abbrev pub items_for : Publication → List Item
items_for p = if is_clusterwide p.scope then item_of p ∷ [] else []

-- the items of a message; a user's message has none
abbrev pub items_in : Message → List Item
items_in (Items withdrawal items) = items
items_in (Payload importance form from to kind lower upper code droppable body) = []

-- a message of publications, with that many items at most
abbrev pub IsTelling : Message → Type 0
IsTelling (Items withdrawal items) = (withdrawal ≡ false) × (1 ≤ length items) × (length items ≤ most_items)
IsTelling (Payload importance form from to kind lower upper code droppable body) = ⊥

-- The messages with which a contact begins: they tell of the live publications that are seen in the cluster, in the
-- order of publishing, and each but the last one is full.
pub record IsBulk (live : List Publication) (messages : List Message) : Type 0 where
  pub whole : flat_map items_in messages ≡ map item_of (cluster_part live)
  pub each : (k : ℕ) (m : Message) → slice_get messages k ≡ Some m → IsTelling m
  pub full : (k : ℕ) (m : Message) → slice_get messages k ≡ Some m → k + 1 < length messages →
      length (items_in m) ≡ most_items

-- what a node tells each peer of a publication, or of its withdrawal: one message, or none where it isn't seen in the
-- cluster
abbrev pub telling : Bool → Publication → List Message
telling withdrawal p = if is_clusterwide p.scope then Items withdrawal (item_of p ∷ []) ∷ [] else []

-- what a node tells each peer of these publications, or of their withdrawals, in order
abbrev pub tellings : Bool → List Publication → List Message
tellings withdrawal ps = flat_map (telling withdrawal) ps
