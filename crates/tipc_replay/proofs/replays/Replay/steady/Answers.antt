use Rattle.std.proofs.Common.{subst}
use Rattle.tipc_replay.specs.States.{ReplayState}
use Rattle.tipc_replay.specs.Steady.{IsSteady}
use Rattle.tipc_replay.proofs.replays.Replay.steady.Goals as goal

pub returns : goal.returns
returns c =
    subst (λ (r : ReplayState). IsSteady r.members r.air) c.self.view_is c.self.invariant
