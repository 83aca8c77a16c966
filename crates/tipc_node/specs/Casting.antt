-- What a node's events make of its broadcast link: peers join it and leave it as contacts begin and end, and a STATE that is taken is read.
use Rattle.std.specs.Prelude.{◌≡◌, ◌/◌, ℕ, Bool, true, false, List, [], ◌∷◌, ◌++◌, Option, Some, None, filter, is_some, option_map, unwrap_or}
use Rattle.std.specs.List.{flat_map}
use Rattle.tipc_types.specs.Address.{node_word}
use Rattle.tipc_types.specs.declared.link_words.BroadcastState.{BroadcastState}
use Rattle.tipc_header.specs.declared.packet.Header.{Header}
use Rattle.tipc_header.specs.declared.packet.Header.TheVariants as header
use Rattle.tipc_header.specs.declared.packet.State.{State}
use Rattle.tipc_broadcast.specs.declared.contacts.Contact.{Contact}
use Rattle.tipc_broadcast.specs.Casting.{Casting}
use Rattle.tipc_broadcast.specs.Contacts.{shows_more_to}
use Rattle.tipc_broadcast.specs.Deeds.{CastDeed, after_deeds}
use Rattle.tipc_broadcast.specs.Deeds.CastDeed.{bears, joins, leaves, states}
use Rattle.tipc_pair.specs.declared.changes.PairOutcome.{PairOutcome}
use Rattle.tipc_pair.specs.declared.transitions.Transition.{Transition}
use Rattle.tipc_pair.specs.declared.transitions.Transition.TheVariants.{ContactDown, ContactUp}
use Rattle.tipc_pair.specs.Contacts.{is_of_contact}
use Rattle.tipc_pair.specs.Facing.{PairEnds, contact_between}
use Rattle.tipc_pair.specs.PairTurns.{Opening}
use Rattle.tipc_pair.specs.PairTurns.Opening.{hears}
use Rattle.tipc_node.specs.declared.neighbours.Upkeep.{Upkeep}
use Rattle.tipc_node.specs.declared.neighbours.Upkeep.TheVariants as upkeep

-- ---- contacts

-- the boot number in a contact number: its upper 32 bits
abbrev pub boot_of_contact : ℕ → ℕ
boot_of_contact contact = contact / 4294967296

-- a peer joins as the contact with it begins, in the boot that it has in the contact, and leaves as it ends
abbrev pub deed_of : ℕ → Transition → List CastDeed
deed_of peer (ContactUp contact) = joins (node_word peer) (boot_of_contact contact.1) ∷ []
deed_of peer (ContactDown contact gone shown) = leaves (node_word peer) ∷ []
deed_of peer other = []

-- what the changes of the links to a peer, and of the contact with it, make of the broadcast link
abbrev pub contact_deeds : ℕ → List Transition → List CastDeed
contact_deeds peer changes = flat_map (deed_of peer) changes

-- where there was contact or not, it begins or ends once at most
abbrev pub IsContactChange : Bool → List Transition → Type 0
IsContactChange joined [] = Unit {0}
IsContactChange joined (ContactUp contact ∷ []) = joined ≡ false
IsContactChange joined (ContactDown contact gone shown ∷ []) = joined ≡ true
IsContactChange joined other = ⊥

-- whether there is contact then
abbrev pub is_joined_by : Bool → List Transition → Bool
is_joined_by joined [] = joined
is_joined_by joined (ContactUp contact ∷ changes) = true
is_joined_by joined (ContactDown contact gone shown ∷ changes) = false
is_joined_by joined (other ∷ changes) = joined

-- ---- a STATE

-- what a STATE tells of broadcast
abbrev pub broadcast_in : State → BroadcastState
broadcast_in said = record {
  acknowledged = said.broadcast_acknowledgement;
  next = said.broadcast_next;
  start = said.broadcast_start;
  gap = said.broadcast_gap;
  in_step = said.in_step;
}

-- what an arrival tells of broadcast: that is told by a STATE that the links took
abbrev pub stated_in : Header → PairOutcome → Option BroadcastState
stated_in (header.State said) (PairOutcome.Took opened) = Some (broadcast_in said)
stated_in said given = None

-- the same of what happened first at the pair to a peer, and gave this
abbrev pub stated_by : Opening → PairOutcome → Option BroadcastState
stated_by (hears bearer es er p by shown) given = stated_in p.header given
stated_by other given = None

-- the STATE of a peer is taken
abbrev pub state_deeds : ℕ → Option BroadcastState → List CastDeed
state_deeds peer None = []
state_deeds peer (Some seen) = states (node_word peer) seen ∷ []

-- what an arrival from a peer makes of the broadcast link: the contact first, then the STATE
abbrev pub arrival_deeds : ℕ → List Transition → Option BroadcastState → List CastDeed
arrival_deeds peer changes stated = contact_deeds peer changes ++ state_deeds peer stated

-- whether a STATE is due since more was sent than was taken; the contact is as it is after the STATE
abbrev pub asks_of : Option BroadcastState → Option Contact → Bool
asks_of None contact = false
asks_of (Some seen) contact = shows_more_to seen.next contact

-- What an arrival from a peer can tell, where there was contact or not: the contact begins or ends once at most, and a STATE is taken only
-- where there is contact then.
pub record CanBeTold (joined : Bool) (changes : List Transition) (stated : Option BroadcastState) : Type 0 where
  pub contact : IsContactChange joined (filter is_of_contact changes)
  pub state : is_some stated ≡ true → is_joined_by joined (filter is_of_contact changes) ≡ true

-- ---- bearers

-- a bearer is mended or cut
abbrev pub bearer_deeds : Upkeep → List CastDeed
bearer_deeds (upkeep.Mend bearer) = bears bearer true ∷ []
bearer_deeds (upkeep.Cut bearer) = bears bearer false ∷ []
bearer_deeds upkeep.Tick = []

-- ---- the deeds of one event

-- whether a bearer is mended or cut by a deed, or a peer leaves
abbrev pub is_parting : CastDeed → Bool
is_parting (bears bearer is_mended) = true
is_parting (leaves peer) = true
is_parting other = false

-- ---- who is in contact

-- the boot of a peer, by the contact with it
abbrev pub met_boot : PairEnds → Option ℕ
met_boot x = option_map (λ (contact : ℕ × ℕ). boot_of_contact contact.1) (contact_between x)

-- the broadcast link of a node with this address word, in this boot, with these bearers mended
pub record IsOfNode (word number : ℕ) (bearers : Bool × Bool) (v : Casting) : Type 0 where
  pub own : v.own ≡ word
  pub boot : v.boot ≡ number
  pub mended : v.mended ≡ bearers.0 ∷ bearers.1 ∷ []

-- The broadcast link within an event that happens to all neighbours alike: as it was, but for a bearer that is mended or cut, or a copy where a
-- contact ended.
abbrev pub casting_in : Upkeep → Casting → Option Casting → Casting
casting_in d v after = unwrap_or after (after_deeds (bearer_deeds d) v)
