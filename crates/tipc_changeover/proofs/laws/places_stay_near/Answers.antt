use Rattle.tipc_changeover.proofs.Reaching.{begins_bounded, frame_near, reached_bounded, seen_bounded, stays_bounded, tunnel_close}
use Rattle.tipc_changeover.proofs.laws.places_stay_near.Goals as goal

pub returns-clause-start : goal.returns-clause-start
returns-clause-start c = begins_bounded

pub returns-clause-each : goal.returns-clause-each
returns-clause-each c = stays_bounded

pub returns-clause-reached : goal.returns-clause-reached
returns-clause-reached c = reached_bounded

pub returns-clause-either : goal.returns-clause-either
returns-clause-either c = seen_bounded

pub returns-clause-frames : goal.returns-clause-frames
returns-clause-frames c = frame_near

pub returns-clause-tunnels : goal.returns-clause-tunnels
returns-clause-tunnels c = tunnel_close
