-- The front of a journal that a replay has made again.
use Rattle.std.specs.Prelude.{◌≡◌, ◌<◌, ◌≤◌, ◌++◌, ℕ, true, List}
use Rattle.std.specs.List.{All, flat_map, list_all}
use Rattle.tipc_journal.specs.declared.entries.Entry.{Entry}
use Rattle.tipc_journal.specs.Counting.{stamps}
use Rattle.tipc_journal.specs.Steps.{NodeStep, is_inner, step_entries}

-- A journal is the front of another one, of just those steps that have a stamp below this one: behind it are whole
-- steps, none of which has.
pub record IsFrontBelow (stamp : ℕ) (journal front : List Entry) : Type 0 where
  pub rest : List NodeStep
  pub clean : list_all (λ s. list_all is_inner s.inside) rest ≡ true
  pub joined : journal ≡ front ++ flat_map step_entries rest
  pub below : All (λ s. s < stamp) (stamps front)
  pub not_below : All (λ s. stamp ≤ s.by.stamp) rest
