use Rattle.std.proofs.Common.{arith}
use Rattle.tipc_replay.proofs.pairs.Counts.{noted_next}
use Rattle.tipc_replay.proofs.members.note_all.Goals as goal

pub loop-peer-preserved : goal.loop-peer-preserved
loop-peer-preserved c =
    let spare = c.note_both.ensures.spare in
    let room = c.loop-peer.invariant.room in
    record {
      noted = noted_next _ _ _ _ c.loop-peer.peer c.loop-peer.invariant.noted c.note_both.ensures.noted;
      room = omega (arith, spare, room);
    }
