use Rattle.tipc_two_nodes.proofs.sights.Sights.{ends, frames, front, gives, restarted, starts, turned, turns}
use Rattle.tipc_two_nodes.proofs.sights.Truth.{frames_fit, truths}
use Rattle.tipc_two_nodes.proofs.laws.two_nodes_are_seen.Goals as goal

pub returns-clause-starts : goal.returns-clause-starts
returns-clause-starts c = starts

pub returns-clause-turned : goal.returns-clause-turned
returns-clause-turned c = turned

pub returns-clause-restarts : goal.returns-clause-restarts
returns-clause-restarts c = restarted

pub returns-clause-turns : goal.returns-clause-turns
returns-clause-turns c = turns

pub returns-clause-gives : goal.returns-clause-gives
returns-clause-gives c = gives

pub returns-clause-front : goal.returns-clause-front
returns-clause-front c = front

pub returns-clause-ends : goal.returns-clause-ends
returns-clause-ends c = ends

pub returns-clause-frames : goal.returns-clause-frames
returns-clause-frames c = frames

pub returns-clause-truths : goal.returns-clause-truths
returns-clause-truths c = truths

pub returns-clause-fit : goal.returns-clause-fit
returns-clause-fit c = frames_fit
