-- What holds of two nodes at every moment, whatever either does and whatever it hears.
use Rattle.std.specs.Prelude.{◌≡◌, ◌≢◌, ◌<◌, ◌≤◌, ℕ, false, List, Some, None, slice_get}
use Rattle.tipc_link_fsm.specs.Table.{Fsm, is_last}
use Rattle.tipc_contact.specs.Sides.{Side, Notice, IsNoticed, boot_of}

-- A side and everything that it has said. A contact number belongs to an epoch: a link end had each of its epochs under one
-- contact number, but for the last epoch of a boot, under which no link goes up.
pub record Speaks (s : Side) (said : List Notice) : Type 0 where
  -- the contact number of an epoch on a bearer
  pub contact_of : ℕ → ℕ → ℕ
  pub now : (bearer : ℕ) (end : Fsm) → s.ends bearer ≡ Some end → is_last end.own ≡ false → contact_of bearer end.own ≡ s.own
  pub shown : (place : ℕ) (m : Notice) → slice_get said place ≡ Some m → is_last m.es ≡ false → contact_of m.bearer m.es ≡ m.contact
  -- epochs rise
  pub past : (place : ℕ) (m : Notice) (end : Fsm) → slice_get said place ≡ Some m → s.ends m.bearer ≡ Some end → m.es ≤ end.own
  pub before : (place : ℕ) (m : Notice) → slice_get said place ≡ Some m → s.ends m.bearer ≡ None → m.es < s.own
  -- they are of this boot or an earlier one, and no lower than the contact number
  pub boots : (place : ℕ) (m : Notice) → slice_get said place ≡ Some m → boot_of m.es ≤ boot_of s.own
  pub boot : (bearer : ℕ) (end : Fsm) → s.ends bearer ≡ Some end → boot_of end.own ≡ boot_of s.own
  pub some : 1 ≤ s.own
  pub order : (bearer : ℕ) (end : Fsm) → s.ends bearer ≡ Some end → s.own ≤ end.own

-- A side and everything that it has said and heard. An epoch of the peer that a link end knows was told by the peer, under the
-- contact number that is the highest seen; and so was each epoch of the peer that the side has named, under the number that was
-- the highest then.
pub record Knows (s : Side) (said heard : List Notice) : Type 0 where
  pub told : (bearer epoch : ℕ) (end : Fsm) → s.ends bearer ≡ Some end → end.peer ≡ Some epoch → IsNoticed heard bearer epoch s.seen
  pub named : (place : ℕ) (m : Notice) → slice_get said place ≡ Some m → m.er ≢ 0 → IsNoticed heard m.bearer m.er m.peer_contact

-- two sides and everything that they have said
pub record ArePeers (a : Side) (said_a : List Notice) (b : Side) (said_b : List Notice) : Type 0 where
  pub a_speaks : Speaks a said_a
  pub b_speaks : Speaks b said_b
  pub a_knows : Knows a said_a said_b
  pub b_knows : Knows b said_b said_a
