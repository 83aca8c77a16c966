-- What a member is given, told in messages: the packets that it took in a contact, joined.
use Rattle.std.specs.Prelude.{◌≡◌, ℕ, All, List, map}
use Rattle.std.specs.List.{flat_map}
use Rattle.tipc_types.specs.Prefixes.{IsPrefixOf}
use Rattle.tipc_types.specs.declared.packet_lists.Taken.{Taken}
use Rattle.tipc_fragments.specs.Joining.{fresh, Joining}
use Rattle.tipc_fragments.specs.Streams.{items_of}
use Rattle.tipc_bundle.specs.Bundles.{IsInner}
use Rattle.tipc_reassembly.specs.declared.opening.Opened.{Opened}
use Rattle.tipc_reassembly.specs.Opening.{BringsAll}
use Rattle.tipc_reassembly.specs.Slots.{IsSlot, IsWholePacket, packets_in, slot_bytes, slot_items, Slot}
use Rattle.tipc_casters.specs.Sights.{CasterSight, IsCast, MemberSight}

-- these packets are what is sent of these messages: each message in a packet of its own or in fragments, in order
pub record ArePiecesOf (messages packets : List (List ℕ)) : Type 0 where
  pub inner : All IsInner messages
  pub slots : List Slot
  pub sound : All IsSlot slots
  pub packets_are : packets ≡ map slot_bytes slots
  pub whole : flat_map slot_items slots ≡ flat_map items_of messages

-- What comes of the packets that were given in a contact: each is a whole message, and they are a front of the messages. Where all were given,
-- they are the messages, and none is begun.
pub record OpensMessages (messages put given : List (List ℕ)) (opened : List Opened) (last : Joining) : Type 0 where
  pub whole : All IsWholePacket opened
  pub front : IsPrefixOf (packets_in opened) messages
  pub every : given ≡ put → (packets_in opened ≡ messages) × (last ≡ fresh)

-- so it is for each member and each of its contacts, past ones too
abbrev pub GivesMessages : Type 0
GivesMessages = (a : CasterSight) (ms : ℕ → MemberSight) → IsCast a ms → (m c : ℕ) (messages : List (List ℕ)) (taken : List Taken)
    (opened : List Opened) (last : Joining)
    → ArePiecesOf messages (a.put m c) → map (λ (t : Taken). t.packet) taken ≡ (ms m).given c → BringsAll fresh taken opened last
    → OpensMessages messages (a.put m c) ((ms m).given c) opened last
