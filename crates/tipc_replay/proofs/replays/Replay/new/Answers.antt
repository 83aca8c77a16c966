use Rattle.std.proofs.Common.{[], subst, sym}
use Rattle.tipc_replay.specs.Steady.{IsSteady}
use Rattle.tipc_replay.proofs.Promise.{start_steady}
use Rattle.tipc_replay.proofs.replays.Replay.new.Goals as goal

pub invariant_of-replay : goal.invariant_of-replay
invariant_of-replay c =
    subst (λ ms. IsSteady ms c.new-2.result) (sym c.new.ensures.items)
    (subst (λ air. IsSteady [] air) (sym c.new-2.ensures) start_steady)
