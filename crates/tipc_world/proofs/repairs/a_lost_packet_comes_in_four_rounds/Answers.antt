use Rattle.tipc_world.proofs.repairs.a_lost_packet_comes_in_four_rounds.Goals as goal
use Rattle.tipc_world.proofs.rounds.Releasing.{four_rounds_release, round_brings}
use Rattle.tipc_world.proofs.rounds.Windows.{windows_are_released}

pub returns-clause-round : goal.returns-clause-round
returns-clause-round c = round_brings

pub returns-clause-release : goal.returns-clause-release
returns-clause-release c = four_rounds_release

pub returns-clause-window : goal.returns-clause-window
returns-clause-window c = windows_are_released
