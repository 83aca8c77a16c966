use Rattle.tipc_replay.proofs.Happening.{senders_of}
use Rattle.tipc_replay.proofs.replays.Replay.counts.Goals as goal

pub find-requires-clause-senders : goal.find-requires-clause-senders
find-requires-clause-senders c = senders_of c.self.inside.members.items c.self.inside.air c.self.invariant.sound c.in-Arrive.bearer
