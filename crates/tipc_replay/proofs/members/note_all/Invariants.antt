use Rattle.std.proofs.Common.{◌≤◌, ◌+◌, ◌*◌}
use Rattle.indexmap.specs.IndexMap.{spare}
use Rattle.tipc_replay.specs.Members.{AreNoted}
use Rattle.tipc_replay.proofs.members.note_all.Given as goal

abbrev pub invariant-loop-peer : goal.invariant-loop-peer
invariant-loop-peer l = record {
  noted : AreNoted l.fn.counts.entries l.counts.entries l.node l.peer;
  room : 66 ≤ spare l.counts + 2 * l.peer;
}
