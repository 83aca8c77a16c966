use Rattle.tipc_pair.specs.Courses.{made_in}
use Rattle.tipc_pair.specs.PairCalls.{ticked}
use Rattle.tipc_pair.proofs.pair.Pair.tick.Goals as goal

pub returns-clause-frames : goal.returns-clause-frames
returns-clause-frames c = c.leave.ensures.frames (made_in (ticked c.args.shown c.args.self.now)) c.in_ok-event.ensures.told.made
