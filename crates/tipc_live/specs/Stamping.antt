-- Stamps in the journals of several nodes.
use Rattle.std.specs.Prelude.{◌+◌, ◌≤◌, ℕ, List, [], ◌∷◌, ◌++◌}
use Rattle.std.specs.List.{flat_map}
use Rattle.tipc_journal.specs.Counting.{stamps}
use Rattle.tipc_node_lock.specs.Locked.{LockedState}
use Rattle.tipc_live.specs.declared.keeping.KeptStep.{KeptStep}
use Rattle.tipc_live.specs.Keeping.{FirstTwice, kept_in, uses_in}

-- the steps of all nodes, node by node, of which the first is at that place
abbrev pub kept_from : {P : Type 0} → ℕ → List (LockedState P) → List KeptStep
kept_from place [] = []
kept_from place (n ∷ ns) = kept_in place n.node.journal ++ kept_from (place + 1) ns

-- the stamps of all steps, node by node
unfoldable pub all_stamps : {P : Type 0} → List (LockedState P) → List ℕ
all_stamps nodes = flat_map (λ n. stamps n.node.journal) nodes

-- each stamp stands in one step at most
abbrev pub AreStampedOnce : {P : Type 0} → List (LockedState P) → Type 0
AreStampedOnce nodes = (stamp : ℕ) → uses_in (all_stamps nodes) stamp ≤ 1

-- this stamp stands in two steps, and each below it in one at most
abbrev pub IsFirstTwice : {P : Type 0} → List (LockedState P) → ℕ → Type 0
IsFirstTwice nodes stamp = FirstTwice (all_stamps nodes) stamp
