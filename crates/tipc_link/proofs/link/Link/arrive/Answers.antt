use Rattle.std.proofs.Common.{◌∙◌, ap, subst}
use Rattle.tipc_header.specs.Spelling.{view}
use Rattle.tipc_outside.specs.Frames.{Gains}
use Rattle.tipc_link_fsm.specs.Table.{Outcome}
use Rattle.tipc_link.specs.Links.{arrival_end, link_frames, link_outcome, outcome_of}
use Rattle.tipc_link.proofs.link.Link.arrive.Goals as goal

pub returns-clause-change : goal.returns-clause-change
returns-clause-change c = c.commit.ensures.change ∙ ap (λ (o : Outcome). o.change) c.in_ok-arriving.ensures.states

pub returns-clause-outcome : goal.returns-clause-outcome
returns-clause-outcome c =
    let e = c.args.self.now in
    let p = view c.args.packet.now in
    c.commit.ensures.outcome ∙ ap (λ o. link_outcome e o p c.in_ok-arriving.arriving.hearing.by) c.in_ok-arriving.ensures.states
    ∙ ap (link_outcome e (outcome_of e.fsm p.header c.args.sender_epoch c.args.receiver_epoch c.args.held) p) c.in_ok-arriving.ensures.by

pub returns-clause-after : goal.returns-clause-after
returns-clause-after c =
    let e = c.args.self.now in
    let p = view c.args.packet.now in
    c.commit.ensures.after ∙ ap (λ o. arrival_end e o p c.in_ok-arriving.arriving.hearing.by) c.in_ok-arriving.ensures.states
    ∙ ap (arrival_end e (outcome_of e.fsm p.header c.args.sender_epoch c.args.receiver_epoch c.args.held) p) c.in_ok-arriving.ensures.by

pub returns-clause-frames : goal.returns-clause-frames
returns-clause-frames c =
    let e = c.args.self.now in
    let p = view c.args.packet.now in
    subst (λ by. Gains c.args.out.now c.commit.new.out (link_frames e (outcome_of e.fsm p.header c.args.sender_epoch c.args.receiver_epoch c.args.held) p by c.args.shown)) c.in_ok-arriving.ensures.by
    (subst (λ o. Gains c.args.out.now c.commit.new.out (link_frames e o p c.in_ok-arriving.arriving.hearing.by c.args.shown)) c.in_ok-arriving.ensures.states c.commit.ensures.frames)
