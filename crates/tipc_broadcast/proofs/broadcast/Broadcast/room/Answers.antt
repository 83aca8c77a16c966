use Rattle.std.proofs.Common.{subst}
use Rattle.std.specs.Prelude.{All}
use Rattle.tipc_broadcast.specs.Casting.{Casting, flush_frames}
use Rattle.tipc_broadcast.specs.Frames.{IsShort}
use Rattle.tipc_broadcast.proofs.Shortness.{flush-short}
use Rattle.tipc_broadcast.proofs.broadcast.Broadcast.room.Goals as goal

pub returns-clause-short : goal.returns-clause-short
returns-clause-short c =
    let i = c.self.inside in
    let v : Casting = record { own = i.own.word; boot = i.boot; mended = i.mended; sending = i.window; contacts = i.contacts.items } in
    subst (λ (w : Casting). All IsShort (flush_frames w)) c.self.view_is (flush-short i.own.word v c.self.invariant)
