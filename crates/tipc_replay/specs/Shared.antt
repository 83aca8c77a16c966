-- What every world keeps of the names of its nodes: each shares its own with its peers, and its past boots aren't mixed up with the
-- present one.
use Rattle.std.specs.Prelude.{◌≡◌, ◌≤◌, ℕ, List, Option, Some, None, slice_get, slice_index_or}
use Rattle.tipc_journal.specs.declared.entries.Entry.{Entry}
use Rattle.tipc_contact.specs.Sides.{boot_of}
use Rattle.tipc_node.specs.Sharing.{IsUnused, SharesNames}
use Rattle.tipc_node.specs.Telling.{IsTold}
use Rattle.tipc_replay.specs.Entered.{HasRisen}
use Rattle.tipc_replay.specs.States.{MemberState}

-- what a node's journals tell of its names and of its contacts over all its boots
pub record IsShared (m : MemberState) : Type 0 where
  pub told : IsTold m.node
  pub shares : SharesNames m.node
  -- in a boot before this one nothing was accepted or delivered under a contact number of this boot or a later one
  pub spent : (k : ℕ) (journal : List Entry) → slice_get m.past k ≡ Some journal
      → (b number : ℕ) → m.node.boot ≤ boot_of number → IsUnused journal b number
  -- over all its boots its contact numbers for each peer rose
  pub rises : (b : ℕ) → HasRisen m b

-- each node that is there keeps that
abbrev pub AreShared : List (Option MemberState) → Type 0
AreShared members = (n : ℕ) (m : MemberState) → slice_index_or members n None ≡ Some m → IsShared m
