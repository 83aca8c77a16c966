-- When a node is valid, and how its journal grows, whatever arrives.
use Rattle.std.specs.Prelude.{◌≡◌, List, ◌++◌}
use Rattle.tipc_journal.specs.declared.entries.Entry.{Entry}
use Rattle.tipc_journal.specs.Counting.{AllAnsweredToCallers}
use Rattle.tipc_journal.specs.Fates.{AllHaveFates}
use Rattle.tipc_journal.specs.Licensed.{AllLicensed}
use Rattle.tipc_journal.specs.Steps.{IsInside, IsWhole, NodeStep, step_entries}
use Rattle.tipc_node.specs.Nodes.{NodeState}
use Rattle.tipc_node.specs.Works.{addr_of_word}

-- a node is valid: its journal is whole steps, each licensed and answered to its caller, in which each message has its fate
pub record IsValid (n : NodeState) : Type 0 where
  pub whole : IsWhole n.journal
  pub licensed : AllLicensed (addr_of_word n.own) n.journal
  pub answered : AllAnsweredToCallers n.journal
  pub fates : AllHaveFates (addr_of_word n.own) n.journal

-- its journal grew by one whole step
abbrev pub GrewByStep : List Entry → List Entry → Type 0
GrewByStep before after = (s : NodeStep) × IsInside s.inside × (after ≡ before ++ step_entries s)
