-- What an event needs in a world, and what it counts for there.
use Rattle.std.specs.Prelude.{Bool}
use Rattle.tipc_node.specs.declared.steps.NodeFault.{NodeFault}
use Rattle.tipc_node.specs.declared.steps.NodeFault.TheVariants.{JournalFull, NoMemory}
use Rattle.tipc_replay.specs.declared.events.WorldEvent.{WorldEvent}
use Rattle.tipc_replay.specs.Calls.{counts_at, is_call_at, CanHappenAt}
use Rattle.tipc_world.specs.declared.faults.Limit.TheVariants as limit
use Rattle.tipc_world.specs.declared.faults.WorldFault.{WorldFault}
use Rattle.tipc_world.specs.declared.faults.WorldFault.TheVariants as fault
use Rattle.tipc_world.specs.States.{WorldState}

-- an event may happen in a world
abbrev pub CanHappen : WorldState → WorldEvent → Type 0
CanHappen w event = CanHappenAt w.members event

-- whether it counts as an event in a world
abbrev pub counts : WorldState → WorldEvent → Bool
counts w event = counts_at w.members w.air event

-- whether it is a call that is recorded in a world
abbrev pub is_call : WorldState → WorldEvent → Bool
is_call w event = is_call_at w.members w.air event

-- a fault of a node as the world tells it
abbrev pub fault_of : NodeFault → WorldFault
fault_of JournalFull = fault.Limit limit.Journal
fault_of NoMemory = fault.NoMemory
