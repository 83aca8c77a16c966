use Rattle.std.proofs.Common.{sym, ap, ◌∙◌, subst}
use Rattle.tipc_broadcast.specs.Casting.{Casting, IsCasting, settled, with_sending}
use Rattle.tipc_broadcast.proofs.Keeping.{release-keeps, release_is}
use Rattle.tipc_broadcast.proofs.broadcast.Broadcast.release.Goals as goal

pub invariant_of-self : goal.invariant_of-self
invariant_of-self c =
    let is = release_is _ _ _ _ _ _ _ _ c.numbered.ensures.window c.self.invariant c.numbered.ensures.value c.as_slice.ensures.value c.acked_by_all-position.ensures c.sequence_number.ensures c.acknowledge.ensures.after in
    subst (λ s. IsCasting c.self.inside.own.word s c.self.inside.contacts.items) (sym is) (release-keeps _ _ _ c.numbered.ensures.window c.self.invariant)

pub returns : goal.returns
unfolding settled
returns c =
    let v : Casting = record { own = c.self.inside.own.word; boot = c.self.inside.boot; mended = c.self.inside.mended; sending = c.self.inside.window; contacts = c.self.inside.contacts.items } in
    ap (with_sending v) (release_is _ _ _ _ _ _ _ _ c.numbered.ensures.window c.self.invariant c.numbered.ensures.value c.as_slice.ensures.value c.acked_by_all-position.ensures c.sequence_number.ensures c.acknowledge.ensures.after)
    ∙ ap settled c.self.view_is
