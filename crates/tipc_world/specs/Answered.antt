-- What is promised of the calls of all nodes in all their boots: how they are counted and stamped, and where messages
-- by name go.
use Rattle.std.specs.Prelude.{◌≡◌, ◌<◌, ℕ, zero, suc, ◌+◌, ◌%◌, ◌^◌, List, Option, Some, None, length, slice_get, slice_index_or, sum_by}
use Rattle.std.specs.List.{All}
use Rattle.tipc_pick.specs.Choosing.{Choosing}
use Rattle.tipc_journal.specs.declared.entries.Entry.{Entry}
use Rattle.tipc_journal.specs.Counting.{calls_of, names_sent_before, stamps, CallsCount, StampsRise}
use Rattle.tipc_journal.specs.Licensed.{AllPicked}
use Rattle.tipc_node.specs.Turns.{addr_of}
use Rattle.tipc_replay.specs.States.{MemberState, journal_at, journals_of}

-- ---- one journal

-- The calls of each caller that stand in a journal are counted from 0, and the stamps rise.
pub record AreInOrder (journal : List Entry) : Type 0 where
  pub counted : CallsCount journal
  pub rise : StampsRise journal

-- ---- stamps

-- a stamp stands in the journal of a node in the boot of that place
pub record HasStamp (members : List (Option MemberState)) (n boot stamp : ℕ) : Type 0 where
  pub journal : List Entry
  pub there : journal_at members n boot ≡ Some journal
  pub place : ℕ
  pub stands : slice_get (stamps journal) place ≡ Some stamp

-- ---- turns

-- how many messages a node sent by name, in all its boots, in steps with a stamp below this one
abbrev pub sent_in : Option MemberState → ℕ → ℕ
sent_in None stamp = 0
sent_in (Some m) stamp = sum_by (λ journal. names_sent_before journal stamp) (journals_of m)

-- the sum over the numbers from 1 to this one
unfoldable pub sum_to : (ℕ → ℕ) → ℕ → ℕ
sum_to count zero = 0
sum_to count (suc n) = sum_to count n + count (suc n)

-- the turn of a message by name in the step of a stamp: how many all nodes sent so in steps with a stamp below it
unfoldable pub turn_at : List (Option MemberState) → ℕ → ℕ
turn_at members stamp = sum_to (λ n. sent_in (slice_index_or members n None) stamp) 32

-- ---- all journals

-- What every world keeps of the calls of all nodes. So many were recorded, and the chooser is at that turn.
pub record AreOrderly {P : Type 0} (gives : P → ℕ → ℕ → ℕ → Type 0) (members : List (Option MemberState)) (recorded : ℕ) (chooser : Choosing P) : Type 0 where
  pub numbered : (n boot : ℕ) (journal : List Entry) → journal_at members n boot ≡ Some journal → AreInOrder journal
  -- the stamps are the numbers of the calls, each of which is recorded in a journal, and in one alone
  pub stamped : (n boot : ℕ) (journal : List Entry) → journal_at members n boot ≡ Some journal → All (λ stamp. stamp < recorded) (stamps journal)
  pub every : (stamp : ℕ) → stamp < recorded → (n : ℕ) × (boot : ℕ) × HasStamp members n boot stamp
  pub once : (n boot n' boot' stamp : ℕ) → HasStamp members n boot stamp → HasStamp members n' boot' stamp → (n ≡ n') × (boot ≡ boot')
  pub picked : (n boot : ℕ) (journal : List Entry) → journal_at members n boot ≡ Some journal
      → AllPicked (gives chooser.pick) (turn_at members) (addr_of n) journal
  pub calls : (n : ℕ) (m : MemberState) → slice_index_or members n None ≡ Some m → m.calls ≡ length (calls_of m.node.journal 0)
  pub turn : turn_at members recorded % 2 ^ 64 ≡ chooser.turn
