use Rattle.tipc_settling.proofs.Acknowledging.{few_are_numbered, turns_acknowledge_no_more}
use Rattle.tipc_settling.proofs.AirFresh.{acked_is_numbered, air_acknowledges_numbered}
use Rattle.tipc_settling.proofs.stillness.at_most_a_window_is_numbered_more.Goals as goal

pub returns-clause-begins : goal.returns-clause-begins
returns-clause-begins c = acked_is_numbered

pub returns-clause-air : goal.returns-clause-air
returns-clause-air c = air_acknowledges_numbered

pub returns-clause-turns : goal.returns-clause-turns
returns-clause-turns c = turns_acknowledge_no_more

pub returns-clause-few : goal.returns-clause-few
returns-clause-few c = few_are_numbered
