-- What is promised of the answers of all nodes in all their boots.
use Rattle.std.specs.Prelude.{◌≡◌, ℕ, List, Option, Some}
use Rattle.tipc_types.specs.declared.identity.Addr.{Addr}
use Rattle.tipc_journal.specs.declared.entries.Entry.{Entry}
use Rattle.tipc_journal.specs.Counting.{AllAnsweredToCallers}
use Rattle.tipc_journal.specs.Fates.{AllHaveFates}
use Rattle.tipc_journal.specs.Licensed.{AllLicensed}
use Rattle.tipc_node.specs.Telling.{AllFull}
use Rattle.tipc_node.specs.Turns.{addr_of}
use Rattle.tipc_replay.specs.States.{MemberState, journal_at}

-- Each call that a node recorded in one boot has a licensed answer, each message its fate, and a congested send told the truth. Each is
-- answered to its caller.
pub record AreAnswered (own : Addr) (journal : List Entry) : Type 0 where
  pub licensed : AllLicensed own journal
  pub fates : AllHaveFates own journal
  pub full : AllFull journal
  pub callers : AllAnsweredToCallers journal

-- so it is of each node in each of its boots
abbrev pub AllAnswered : List (Option MemberState) → Type 0
AllAnswered members = (n boot : ℕ) (journal : List Entry) → journal_at members n boot ≡ Some journal → AreAnswered (addr_of n) journal
