use Rattle.tipc_world.proofs.repairs.a_lost_broadcast_comes_in_four_rounds.Goals as goal
use Rattle.tipc_world.proofs.casts.Releasing.{cast_windows_are_released, four_rounds_release_casts, round_casts}

pub returns-clause-round : goal.returns-clause-round
returns-clause-round c = round_casts

pub returns-clause-release : goal.returns-clause-release
returns-clause-release c = four_rounds_release_casts

pub returns-clause-window : goal.returns-clause-window
returns-clause-window c = cast_windows_are_released
