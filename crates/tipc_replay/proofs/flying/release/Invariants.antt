-- The loop that brings frames into the air.
use Rattle.std.specs.VecDeque.{deque_len}
use Rattle.tipc_replay.specs.Air.{met_in}
use Rattle.tipc_replay.proofs.frames.Released.{IsReleasing}
use Rattle.tipc_replay.proofs.flying.release.Given as goal

abbrev pub invariant-loop-outgoing : goal.invariant-loop-outgoing
invariant-loop-outgoing l = IsReleasing l.fn.air l.air (met_in l.met) l.members l.a l.fn.frames.items l.waiting.items

abbrev pub decreases-loop-outgoing : goal.decreases-loop-outgoing
decreases-loop-outgoing l = deque_len l.waiting
