use Rattle.tipc_pair.specs.Courses.{made_in}
use Rattle.tipc_pair.specs.PairCalls.{at_bearer, cut_near}
use Rattle.tipc_pair.proofs.pair.Pair.cut.Goals as goal

pub returns-clause-frames : goal.returns-clause-frames
returns-clause-frames c = c.leave.ensures.frames (made_in (at_bearer c.args.bearer c.args.self.now cut_near)) c.in_ok-event.ensures.told.made
