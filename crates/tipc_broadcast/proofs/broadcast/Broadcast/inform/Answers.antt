use Rattle.std.proofs.Common.{ap, ◌∙◌}
use Rattle.tipc_broadcast.specs.Contacts.{has_joined, told}
use Rattle.tipc_broadcast.specs.Casting.{Casting, informed, with_contacts}
use Rattle.tipc_broadcast.proofs.Finding.{change_is, has_place, missing_is, placed_is}
use Rattle.tipc_broadcast.proofs.Keeping.{tell-keeps}
use Rattle.tipc_broadcast.proofs.broadcast.Broadcast.inform.Goals as goal

pub invariant_of-self : goal.invariant_of-self
invariant_of-self c =
    let at = placed_is _ _ _ _ _ c.as_slice.ensures.value c.place_of.ensures c.in-Some.is in
    tell-keeps _ _ _ _ _ _ _ _ c.self.invariant at.within c.index_mut.ensures.value c.tell.ensures

pub unreachable-requires : goal.unreachable-requires
unreachable-requires c =
    has_place c.args.peer.word c.self.inside.contacts.items (missing_is _ _ _ _ c.as_slice.ensures.value c.place_of.ensures c.in-None.is) (ap (λ (v : Casting). has_joined c.args.peer.word v.contacts) c.self.view_is ∙ c.requires)

pub returns : goal.returns
returns c =
    let v : Casting = record { own = c.self.inside.own.word; boot = c.self.inside.boot; mended = c.self.inside.mended; sending = c.self.inside.window; contacts = c.self.inside.contacts.items } in
    ap (with_contacts v) (change_is _ (told c.args.start c.args.next) _ _ _ _ _ _ c.as_slice.ensures.value c.place_of.ensures c.in-Some.is c.index_mut.ensures.value c.tell.ensures)
    ∙ ap (λ u. informed u c.args.peer.word c.args.start c.args.next) c.self.view_is
