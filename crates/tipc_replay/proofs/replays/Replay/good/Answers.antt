use Rattle.std.proofs.Common.{subst}
use Rattle.tipc_replay.specs.Replayed.{IsReplayed}
use Rattle.tipc_replay.specs.States.{ReplayState}
use Rattle.tipc_replay.proofs.Promise.{is_replayed}
use Rattle.tipc_replay.proofs.replays.Replay.good.Goals as goal

pub returns : goal.returns
returns c =
    subst (λ (r : ReplayState). IsReplayed r.members r.air) c.self.view_is (is_replayed _ _ c.self.invariant)
