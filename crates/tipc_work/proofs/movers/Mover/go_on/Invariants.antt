use Rattle.std.proofs.Common.{◌≡◌, ◌*◌}
use Rattle.tipc_node_lock.specs.Locks.{IsPassOf}
use Rattle.tipc_work.specs.Called.{DrawsFor}
use Rattle.tipc_work.specs.Moved.{CarriesOn}
use Rattle.tipc_work.proofs.movers.Mover.go_on.Given as goal

-- the turns before
abbrev pub invariant-loop : goal.invariant-loop
invariant-loop g l =
    CarriesOn g.B.Bearer.tried g.B.Bearer.given g.B.Bearer.faults l.fn.self l.self
    × DrawsFor (3 * l.counter) l.fn.self.pass l.self.pass
    × IsPassOf l.post.lock.now l.self.pass
    × (g.C.Clock.last l.self.clock ≡ l.self.time)
