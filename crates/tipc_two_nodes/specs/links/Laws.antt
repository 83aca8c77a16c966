-- The laws of two nodes, one of which sends and the other one receives. Each step that either takes is
-- events of two links and their tunnels. b is the bearer of the near link.
use Rattle.std.specs.Prelude.{◌≡◌}
use Rattle.tipc_changeover.specs.Links.{State}

-- ---- what follows

-- the sender takes nothing
pub record TakesNone (s s' : State) : Type 0 where
  pub near : s'.near_record ≡ s.near_record
  pub far : s'.far_record ≡ s.far_record
  pub delivered : s'.delivered ≡ s.delivered

-- ---- steps of the sender

-- ---- steps of the receiver
