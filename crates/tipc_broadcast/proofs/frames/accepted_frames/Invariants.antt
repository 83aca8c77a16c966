use Rattle.std.proofs.Common.{◌≡◌, map, take}
use Rattle.tipc_broadcast.specs.Frames.{accepted_frame}
use Rattle.tipc_broadcast.proofs.frames.accepted_frames.Given as goal

abbrev pub invariant-loop-piece : goal.invariant-loop-piece
invariant-loop-piece l = l.frames.items ≡ map (accepted_frame l.own.word l.boot l.members) (take l.piece-index l.piece-items)
