use Rattle.std.proofs.Common.{subst}
use Rattle.std.specs.Prelude.{All}
use Rattle.tipc_broadcast.specs.Casting.{Casting, repeat_frames}
use Rattle.tipc_broadcast.specs.Frames.{IsShort}
use Rattle.tipc_broadcast.proofs.Casts.{kept_long}
use Rattle.tipc_broadcast.proofs.Shortness.{repeat-short}
use Rattle.tipc_broadcast.proofs.broadcast.Broadcast.unacked.Goals as goal

pub returns-clause-long : goal.returns-clause-long
returns-clause-long c = rw (c.unacked.ensures.kept) (kept_long _ _ c.self.invariant.unacked)

pub returns-clause-short : goal.returns-clause-short
returns-clause-short c = λ acknowledgement gap.
    let i = c.self.inside in
    let v : Casting = record { own = i.own.word; boot = i.boot; mended = i.mended; sending = i.window; contacts = i.contacts.items } in
    subst (λ (w : Casting). All IsShort (repeat_frames w acknowledgement gap)) c.self.view_is (repeat-short i.own.word v acknowledgement gap c.self.invariant)
