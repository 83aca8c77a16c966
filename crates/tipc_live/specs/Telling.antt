-- What passes tell of the calls of their callers, and what the journal of their node tells of them.
use Rattle.std.specs.Prelude.{◌≡◌, ◌⊎◌, ◌<◌, ◌≤◌, ℕ, true, false, List, Option, Some, None, length, slice_get, take}
use Rattle.std.specs.List.{All, Contains}
use Rattle.tipc_journal.specs.declared.entries.Entry.{Entry}
use Rattle.tipc_journal.specs.Room.{has_journal_room}
use Rattle.tipc_node_lock.specs.Locked.{LockedState}
use Rattle.tipc_node_lock.specs.Passes.{PassState}
use Rattle.tipc_live.specs.declared.passes.CallName.{CallName}
use Rattle.tipc_live.specs.Calls.{DifferAt, steps_by}
use Rattle.tipc_live.specs.Nodes.{locked_number}

-- what a pass tells is so: its calls are those of its caller in the journal, and where it was told that the journal is
-- full, that has no room
pub record TellsTrue (journal : List Entry) (p : PassState) : Type 0 where
  pub calls : p.made ≡ steps_by p.caller journal
  pub full : p.full ≡ true → has_journal_room journal ≡ false

-- A pass tells otherwise of the call with that number: there its calls and those of its caller in the journal differ
-- first. Or they don't differ, and it is the call behind them: the pass was told that the journal is full, which has
-- room.
abbrev pub TellsOtherwise : List Entry → PassState → ℕ → Type 0
TellsOtherwise journal p call =
    DifferAt p.made (steps_by p.caller journal) call
    ⊎ ((p.made ≡ steps_by p.caller journal) × (call ≡ length p.made) × (p.full ≡ true) × (has_journal_room journal ≡ true))

-- all passes of a node tell what is so
abbrev pub AllTellTrue : {P : Type 0} → LockedState P → Type 0
AllTellTrue n = All (TellsTrue n.node.journal) n.passes

-- a call is before another one, by caller and number, or is that one
abbrev pub IsUpTo : ℕ → ℕ → ℕ → ℕ → Type 0
IsUpTo caller call other number = (caller < other) ⊎ ((caller ≡ other) × (call ≤ number))

-- the first of two calls, where there is one already
abbrev pub IsFirstOf : Option CallName → CallName → CallName → Type 0
IsFirstOf None other first = first ≡ other
IsFirstOf (Some call) other first =
    ((first ≡ call) × IsUpTo call.caller call.call other.caller other.call)
    ⊎ ((first ≡ other) × (IsUpTo call.caller call.call other.caller other.call → ⊥))

-- of several passes one of that caller tells otherwise of that call, and none does of an earlier one, by caller and
-- number
pub record IsFirst (journal : List Entry) (passes : List PassState) (caller call : ℕ) : Type 0 where
  pub pass : PassState
  pub among : Contains passes pass
  pub caller_is : pass.caller ≡ caller
  pub otherwise : TellsOtherwise journal pass call
  pub first : (p : PassState) (number : ℕ) → Contains passes p → TellsOtherwise journal p number → IsUpTo caller call p.caller number

-- so it is at the node with that number, and of the nodes before it each pass tells what is so
pub record IsFirstTold {P : Type 0} (nodes : List (LockedState P)) (number caller call : ℕ) : Type 0 where
  pub place : ℕ
  pub node : LockedState P
  pub there : slice_get nodes place ≡ Some node
  pub number_is : locked_number node ≡ number
  pub told : IsFirst node.node.journal node.passes caller call
  pub before : All AllTellTrue (take place nodes)
