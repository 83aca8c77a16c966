use Rattle.tipc_pair.proofs.turns.Causes.{cuts_tell, duplicates_tell, meets_tell, numbers_are_noted, numbers_tell, releases_tell, resets_tell, ticks_tell, tunnels_tell}
use Rattle.tipc_pair.proofs.laws.what_goes_down_has_a_cause.Goals as goal

pub returns-clause-cuts : goal.returns-clause-cuts
returns-clause-cuts c = cuts_tell

pub returns-clause-ticks : goal.returns-clause-ticks
returns-clause-ticks c = ticks_tell

pub returns-clause-resets : goal.returns-clause-resets
returns-clause-resets c = resets_tell

pub returns-clause-tunnels : goal.returns-clause-tunnels
returns-clause-tunnels c = tunnels_tell

pub returns-clause-duplicates : goal.returns-clause-duplicates
returns-clause-duplicates c = duplicates_tell

pub returns-clause-numbers : goal.returns-clause-numbers
returns-clause-numbers c = numbers_tell

pub returns-clause-noted : goal.returns-clause-noted
returns-clause-noted c = numbers_are_noted

pub returns-clause-releases : goal.returns-clause-releases
returns-clause-releases c = releases_tell

pub returns-clause-meets : goal.returns-clause-meets
returns-clause-meets c = meets_tell
