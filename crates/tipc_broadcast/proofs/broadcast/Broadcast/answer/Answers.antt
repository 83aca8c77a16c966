use Rattle.std.proofs.Common.{◌++◌, ap, ◌∙◌, subst}
use Rattle.std.proofs.lemmas.List.Elements.{All-append}
use Rattle.std.specs.Prelude.{All}
use Rattle.tipc_outside.proofs.Adding.{adds_more}
use Rattle.tipc_outside.specs.Frames.{Adds}
use Rattle.tipc_broadcast.specs.Casting.{Casting, flush_frames, repeat_frames, settled}
use Rattle.tipc_broadcast.specs.Frames.{IsShort}
use Rattle.tipc_broadcast.proofs.broadcast.Broadcast.answer.Goals as goal

pub returns-clause-frames : goal.returns-clause-frames
returns-clause-frames c =
    let is = c.release.ensures ∙ ap settled c.credit.ensures in
    subst (λ (v : Casting). Adds c.args.out.now c.flush.new.out (repeat_frames v c.args.acknowledgement c.args.gap ++ flush_frames v)) is (adds_more _ _ _ _ _ c.repeat.ensures.frames c.flush.ensures.frames)

pub returns-clause-short : goal.returns-clause-short
returns-clause-short c =
    let is = c.release.ensures ∙ ap settled c.credit.ensures in
    subst (λ (v : Casting). All IsShort (repeat_frames v c.args.acknowledgement c.args.gap ++ flush_frames v)) is (All-append IsShort _ _ c.repeat.ensures.short c.flush.ensures.short)
