use Rattle.std.proofs.Common.{ap, ◌∙◌, subst}
use Rattle.std.specs.Prelude.{All}
use Rattle.tipc_outside.specs.Frames.{Adds}
use Rattle.tipc_broadcast.specs.Casting.{Casting, flush_frames, flushed, kept_for}
use Rattle.tipc_broadcast.specs.Frames.{IsShort}
use Rattle.tipc_broadcast.proofs.broadcast.Broadcast.send.Goals as goal

pub returns-clause-ok : goal.returns-clause-ok
unfolding flushed
returns-clause-ok c =
    let ok = c.in_ok-accept.ensures.ok in (
      ok.0,
      c.keep_for_peers.ensures ∙ ap (λ (v : Casting). kept_for v.contacts v) (c.flush.ensures.after ∙ ap flushed ok.1),
      subst (λ (v : Casting). Adds c.args.out.now c.flush.new.out (flush_frames v)) ok.1 c.flush.ensures.frames,
    )

pub returns-clause-short : goal.returns-clause-short
returns-clause-short c = subst (λ (v : Casting). All IsShort (flush_frames v)) c.in_ok-accept.ensures.ok.1 c.flush.ensures.short
