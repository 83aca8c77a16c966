use Rattle.tipc_topology.proofs.Keeping.{none_due, tick_is_ends}
use Rattle.tipc_topology.proofs.laws.a_tick_ends_and_passes.Goals as goal

pub returns : goal.returns
returns c = record { parts = tick_is_ends; ended = none_due }
