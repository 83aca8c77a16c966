use Rattle.tipc_world.proofs.laws.what_a_tick_sends_arrives.Goals as goal
use Rattle.tipc_world.proofs.rounds.RoundLaws.{tick_brings_first, tick_brings_second}

pub returns-clause-first : goal.returns-clause-first
returns-clause-first c = tick_brings_first

pub returns-clause-second : goal.returns-clause-second
returns-clause-second c = tick_brings_second
