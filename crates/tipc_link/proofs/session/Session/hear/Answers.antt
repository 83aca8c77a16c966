use Rattle.tipc_header.specs.Spelling.{view}
use Rattle.tipc_link.specs.Sessions.{content_of}
use Rattle.tipc_link.proofs.Arrivals.{arrived_by, frames_by}
use Rattle.tipc_link.proofs.session.Session.hear.Goals as goal

pub returns-clause-after : goal.returns-clause-after
returns-clause-after c =
    let p = view c.args.packet.now in
    arrived_by _ _ _ _ _ (content_of p) c.take_in-outcome.ensures.after c.move_up.ensures.after

pub returns-clause-frames : goal.returns-clause-frames
returns-clause-frames c =
    let p = view c.args.packet.now in
    frames_by _ _ _ _ _ _ _ (content_of p) c.take_in-outcome.ensures.after c.take_in-outcome.ensures.frames c.move_up.ensures.frames
