use Rattle.std.proofs.Common.{◌∙◌, ap, subst}
use Rattle.tipc_outside.specs.Frames.{Adds}
use Rattle.tipc_link.specs.Links.{with_session}
use Rattle.tipc_link.specs.Sessions.{SessionEnd, flush_frames, flushed}
use Rattle.tipc_pair.proofs.Putting.{put_is}
use Rattle.tipc_pair.proofs.link_changes.load.Goals as goal

pub returns-clause-after : goal.returns-clause-after
returns-clause-after c = λ s is.
    let h = c.in_ok-put.ensures.ok s is in
    h.2 ∙ ap (λ (v : SessionEnd). with_session c.args.link.now (flushed v)) (put_is s h.0 c.args.pieces c.requires.run h.1)

pub returns-clause-frames : goal.returns-clause-frames
returns-clause-frames c = λ s is.
    let h = c.in_ok-put.ensures.ok s is in
    subst (λ (v : SessionEnd). Adds c.args.out.now c.put.new.out (flush_frames v)) (put_is s h.0 c.args.pieces c.requires.run h.1) h.3
