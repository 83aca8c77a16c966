use Rattle.tipc_settling.proofs.Rows.{activates, numbers, passing_ticks, releases, resets, traffic, tunnels}
use Rattle.tipc_settling.proofs.stillness.what_shows_the_present_is_harmless.Goals as goal

pub returns-clause-resets : goal.returns-clause-resets
returns-clause-resets c = resets

pub returns-clause-activates : goal.returns-clause-activates
returns-clause-activates c = activates

pub returns-clause-traffic : goal.returns-clause-traffic
returns-clause-traffic c = traffic

pub returns-clause-ticks : goal.returns-clause-ticks
returns-clause-ticks c = passing_ticks

pub returns-clause-tunnels : goal.returns-clause-tunnels
returns-clause-tunnels c = tunnels

pub returns-clause-releases : goal.returns-clause-releases
returns-clause-releases c = releases

pub returns-clause-numbers : goal.returns-clause-numbers
returns-clause-numbers c = numbers
