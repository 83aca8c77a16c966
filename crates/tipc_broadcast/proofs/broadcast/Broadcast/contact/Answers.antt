use Rattle.std.proofs.Common.{◌≡◌, Some, None, subst}
use Rattle.tipc_broadcast.specs.Contacts.{contact_with, is_with}
use Rattle.tipc_broadcast.specs.Casting.{Casting}
use Rattle.tipc_broadcast.proofs.Finding.{found_is, missing_is, not_placed, placed_is}
use Rattle.tipc_broadcast.proofs.Keeping.{free_at}
use Rattle.tipc_broadcast.proofs.broadcast.Broadcast.contact.Goals as goal

pub returns-in-Some-clause-some : goal.returns-in-Some-clause-some
returns-in-Some-clause-some c =
    subst (λ (v : Casting). contact_with c.args.peer.word v.contacts ≡ Some c.index.result.now) c.self.view_is (found_is _ _ _ _ _ _ c.as_slice.ensures.value c.place_of.ensures c.in-Some.is c.index.ensures)

pub returns-in-None-clause-none : goal.returns-in-None-clause-none
returns-in-None-clause-none c =
    subst (λ (v : Casting). contact_with c.args.peer.word v.contacts ≡ None) c.self.view_is (not_placed (is_with c.args.peer.word) c.self.inside.contacts.items (missing_is _ _ _ _ c.as_slice.ensures.value c.place_of.ensures c.in-None.is))

pub returns-in-Some-clause-free : goal.returns-in-Some-clause-free
returns-in-Some-clause-free c =
    let at = placed_is _ _ _ _ _ c.as_slice.ensures.value c.place_of.ensures c.in-Some.is in
    free_at _ _ _ _ c.index.result.now c.self.invariant at.within c.index.ensures
