use Rattle.std.proofs.Common.{ap, ◌∙◌}
use Rattle.tipc_header.specs.Spelling.{view}
use Rattle.tipc_link.specs.Records.{kept_for, window_of}
use Rattle.tipc_link.specs.Links.{record_of, session_of, with_fsm}
use Rattle.tipc_link.proofs.Arrivals.{hears_at}
use Rattle.tipc_link.proofs.link.Link.prepare_first.Goals as goal

pub returns-in-Some-clause-hearing : goal.returns-in-Some-clause-hearing
returns-in-Some-clause-hearing c =
    hears_at c.prepare.result (session_of (with_fsm c.args.self.now c.args.fsm.now)) (window_of c.in-Some.received.now) (view c.args.packet.now)
    (ap window_of (c.in-Some.ensures.some ∙ ap (kept_for (record_of c.args.self.now)) c.known_epoch-peer_epoch.ensures)) c.prepare.ensures.hearing

pub returns-in-None-clause-hearing : goal.returns-in-None-clause-hearing
returns-in-None-clause-hearing c =
    hears_at c.prepare-in-None-2.result (session_of (with_fsm c.args.self.now c.args.fsm.now)) (window_of c.new.result) (view c.args.packet.now)
    (ap window_of (c.new.ensures ∙ c.in-None.ensures.none ∙ ap (kept_for (record_of c.args.self.now)) c.known_epoch-peer_epoch.ensures)) c.prepare-in-None-2.ensures.hearing
