-- What changes of a pair and packets of the peer tell of contacts.
use Rattle.std.specs.Prelude.{ℕ, Bool, true, false, List, Option, Some, None}
use Rattle.std.specs.List.{list_any}
use Rattle.tipc_header.specs.declared.packet.Header.{Header}
use Rattle.tipc_header.specs.declared.packet.Header.TheVariants as header
use Rattle.tipc_pair.specs.declared.transitions.Transition.{Transition}
use Rattle.tipc_pair.specs.declared.transitions.Transition.TheVariants.{ContactDown, ContactUp}

-- whether a contact began or ended
abbrev pub is_of_contact : Transition → Bool
is_of_contact (ContactUp contact) = true
is_of_contact (ContactDown contact states shown) = true
is_of_contact other = false

-- whether a contact began
abbrev pub is_beginning : Transition → Bool
is_beginning (ContactUp contact) = true
is_beginning other = false

-- whether a contact began by one of these changes
abbrev pub begins : List Transition → Bool
begins changes = list_any is_beginning changes

-- whether a contact ended
abbrev pub is_ending : Transition → Bool
is_ending (ContactDown contact states shown) = true
is_ending other = false

-- whether a contact ended by one of these changes
abbrev pub ends : List Transition → Bool
ends changes = list_any is_ending changes

-- the contact number that a packet shows
abbrev pub shown_contact : Header → Option ℕ
shown_contact (header.Reset said) = Some said.contact
shown_contact (header.Activate said) = Some said.contact
shown_contact other = None

-- whether a packet is a RESET, which says that its sender's link is in reset
abbrev pub is_reset : Header → Bool
is_reset (header.Reset said) = true
is_reset other = false
