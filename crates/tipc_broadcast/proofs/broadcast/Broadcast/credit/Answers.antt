use Rattle.std.proofs.Common.{ap, ◌∙◌}
use Rattle.tipc_broadcast.specs.Contacts.{acknowledging, has_joined}
use Rattle.tipc_broadcast.specs.Casting.{Casting, credited, with_contacts}
use Rattle.tipc_broadcast.proofs.Finding.{change_is, has_place, missing_is, placed_is}
use Rattle.tipc_broadcast.proofs.Keeping.{credit-keeps}
use Rattle.tipc_broadcast.proofs.broadcast.Broadcast.credit.Goals as goal

pub invariant_of-self : goal.invariant_of-self
invariant_of-self c =
    let at = placed_is _ _ _ _ _ c.as_slice.ensures.value c.place_of.ensures c.in-Some.is in
    credit-keeps _ _ _ _ _ _ _ _ c.self.invariant at.within c.index_mut.ensures.value c.numbered-numbered.ensures.value c.acknowledge.ensures

pub unreachable-requires : goal.unreachable-requires
unreachable-requires c =
    has_place c.args.peer.word c.self.inside.contacts.items (missing_is _ _ _ _ c.as_slice.ensures.value c.place_of.ensures c.in-None.is) (ap (λ (v : Casting). has_joined c.args.peer.word v.contacts) c.self.view_is ∙ c.requires)

pub returns : goal.returns
returns c =
    let v : Casting = record { own = c.self.inside.own.word; boot = c.self.inside.boot; mended = c.self.inside.mended; sending = c.self.inside.window; contacts = c.self.inside.contacts.items } in
    let after = c.acknowledge.ensures ∙ ap (λ n. acknowledging n c.args.number c.index_mut.result.now) c.numbered-numbered.ensures.value in
    ap (with_contacts v) (change_is _ (acknowledging c.self.inside.window.numbered c.args.number) _ _ _ _ _ _ c.as_slice.ensures.value c.place_of.ensures c.in-Some.is c.index_mut.ensures.value after)
    ∙ ap (λ u. credited u c.args.peer.word c.args.number) c.self.view_is
