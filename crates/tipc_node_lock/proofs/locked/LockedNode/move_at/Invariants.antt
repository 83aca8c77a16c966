use Rattle.std.proofs.Common.{◌≡◌, ◌+◌, length}
use Rattle.tipc_node.specs.Sockets.{waiting_at}
use Rattle.tipc_node_lock.specs.Advances.{Advances, IsOpenAt}
use Rattle.tipc_node_lock.proofs.locked.LockedNode.move_at.Given as goal

-- nothing stands by, and one message fewer waits for each turn
abbrev pub invariant-loop : goal.invariant-loop
invariant-loop g l =
    Advances l.index l.counter l.fn.self l.self l.fn.pass l.pass
    × IsOpenAt l.index l.port l.self
    × (length (waiting_at l.self.node.sockets l.port) + l.counter ≡ l.waiting)
