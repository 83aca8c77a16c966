-- What is promised of contacts and links: they are what the journals tell.
use Rattle.std.specs.Prelude.{◌≡◌, ℕ, List, Option, is_some}
use Rattle.tipc_journal.specs.Contacts.{contact, up_epochs}
use Rattle.tipc_node.specs.Turns.{addr_of}
use Rattle.tipc_replay.specs.States.{MemberState, contact_at, is_link_up_at, journal_now}

-- The contact in which node a is with node b is the one that its present journal tells; and the links to it that are up are those of which
-- that has a LinkUp that no LinkDown follows.
pub record IsToldOf (members : List (Option MemberState)) (a b : ℕ) : Type 0 where
  pub contact_is : contact_at members a b ≡ contact (journal_now members a) (addr_of b)
  pub links_are : (bearer : ℕ) → is_link_up_at members a b bearer ≡ is_some (up_epochs (journal_now members a) (addr_of b) bearer)
