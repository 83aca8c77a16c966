-- Which contacts the nodes of a world entered: by them each two nodes agree on the order of their contacts.
use Rattle.std.specs.Prelude.{◌≢◌, ℕ, if◌then◌else◌, ◌==◌, List, Option, Some, None, map}
use Rattle.std.specs.List.{filter_map}
use Rattle.tipc_types.specs.declared.identity.Addr.{Addr}
use Rattle.tipc_journal.specs.declared.entries.Entry.{Entry}
use Rattle.tipc_journal.specs.declared.entries.Entry.TheVariants as entry
use Rattle.tipc_two_nodes.specs.Order.{Contact, HaveMet}
use Rattle.tipc_node.specs.Turns.{addr_of}
use Rattle.tipc_replay.specs.Skies.{AirState}
use Rattle.tipc_replay.specs.Sound.{IsNumber}
use Rattle.tipc_replay.specs.States.{MemberState, history_at}
use Rattle.tipc_replay.specs.Views.{sight_at}

-- the numbers of the contact with a peer that begins with an entry, the node's own first
abbrev pub contact_begun : Addr → Entry → Option (ℕ × ℕ)
contact_begun p (entry.ContactUp peer numbers) = if peer.word == p.word then Some numbers else None
contact_begun p other = None

-- those of all contacts with the peer that began, in order
unfoldable pub contacts_entered : List Entry → Addr → List (ℕ × ℕ)
contacts_entered entries p = filter_map (contact_begun p) entries

-- a contact by its two numbers
abbrev pub as_contact : ℕ × ℕ → Contact
as_contact numbers = record { own = numbers.0; theirs = numbers.1 }

-- the contacts that node a entered with node b, over all its boots
unfoldable pub contacts_met : List (Option MemberState) → ℕ → ℕ → List Contact
contacts_met members a b = map as_contact (contacts_entered (history_at members a) (addr_of b))

-- each two nodes talk, and so far were in these contacts
abbrev pub AreMet : List (Option MemberState) → AirState → Type 0
AreMet members air = (a b : ℕ) → IsNumber a → IsNumber b → a ≢ b
    → HaveMet (sight_at members air a b) (sight_at members air b a) (contacts_met members a b) (contacts_met members b a)
