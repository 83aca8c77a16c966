use Rattle.std.proofs.Common.{sym, ap, ◌∙◌}
use Rattle.tipc_broadcast.specs.Contacts.{contact_with, heard, is_with, refusal}
use Rattle.tipc_broadcast.specs.Casting.{Casting, coming_of, hearing, with_contacts}
use Rattle.tipc_broadcast.proofs.Finding.{change_is, found_is, missing_is, not_placed, placed_is, unchanged}
use Rattle.tipc_broadcast.proofs.Keeping.{arrival-keeps, free_at}
use Rattle.tipc_broadcast.proofs.broadcast.Broadcast.take.Goals as goal

pub commit-requires-clause-free : goal.commit-requires-clause-free
commit-requires-clause-free c =
    let at = placed_is _ _ _ _ _ c.as_slice.ensures.value c.place_of.ensures c.in-Some.is in
    free_at _ _ _ _ _ c.self.invariant at.within c.index_mut.ensures.value

pub commit-requires-clause-arrival : goal.commit-requires-clause-arrival
commit-requires-clause-arrival c =
    let i = c.self.inside in
    let v : Casting = record { own = i.own.word; boot = i.boot; mended = i.mended; sending = i.window; contacts = i.contacts.items } in
    let q = c.requires in
    let there = found_is _ _ _ _ _ _ c.as_slice.ensures.value c.place_of.ensures c.in-Some.is c.index_mut.ensures.value in
    (q.2, refusal v.own q.0 q.1 c.index_mut.result.now, q.3 ∙ ap (λ (u : Casting). coming_of u q.0 q.1 q.2 (contact_with c.args.peer.word u.contacts)) (sym c.self.view_is) ∙ ap (coming_of v q.0 q.1 q.2) there)

pub invariant_of-self : goal.invariant_of-self
invariant_of-self c =
    let i = c.self.inside in
    let v : Casting = record { own = i.own.word; boot = i.boot; mended = i.mended; sending = i.window; contacts = i.contacts.items } in
    let q = c.requires in
    let at = placed_is _ _ _ _ _ c.as_slice.ensures.value c.place_of.ensures c.in-Some.is in
    let there = found_is _ _ _ _ _ _ c.as_slice.ensures.value c.place_of.ensures c.in-Some.is c.index_mut.ensures.value in
    let is = c.commit.ensures q.2 (refusal v.own q.0 q.1 c.index_mut.result.now) (q.3 ∙ ap (λ (u : Casting). coming_of u q.0 q.1 q.2 (contact_with c.args.peer.word u.contacts)) (sym c.self.view_is) ∙ ap (coming_of v q.0 q.1 q.2) there) in
    arrival-keeps _ _ _ _ q.2 _ _ _ c.self.invariant at.within c.index_mut.ensures.value is

pub returns-in-Some : goal.returns-in-Some
returns-in-Some c = λ boot members t told.
    let i = c.self.inside in
    let v : Casting = record { own = i.own.word; boot = i.boot; mended = i.mended; sending = i.window; contacts = i.contacts.items } in
    let there = found_is _ _ _ _ _ _ c.as_slice.ensures.value c.place_of.ensures c.in-Some.is c.index_mut.ensures.value in
    let is = c.commit.ensures t (refusal v.own boot members c.index_mut.result.now) (told ∙ ap (λ (u : Casting). coming_of u boot members t (contact_with c.args.peer.word u.contacts)) (sym c.self.view_is) ∙ ap (coming_of v boot members t) there) in
    ap (with_contacts v) (change_is _ (λ d. heard t d (refusal v.own boot members d)) _ _ _ _ _ _ c.as_slice.ensures.value c.place_of.ensures c.in-Some.is c.index_mut.ensures.value is) ∙ ap (λ u. hearing u c.args.peer.word boot members t) c.self.view_is

pub returns-in-None : goal.returns-in-None
returns-in-None c = λ boot members t told.
    let i = c.self.inside in
    let v : Casting = record { own = i.own.word; boot = i.boot; mended = i.mended; sending = i.window; contacts = i.contacts.items } in
    let nobody = not_placed (is_with c.args.peer.word) i.contacts.items (missing_is _ _ _ _ c.as_slice.ensures.value c.place_of.ensures c.in-None.is) in
    sym c.self.view_is ∙ ap (with_contacts v) (sym (unchanged _ (λ d. heard t d (refusal v.own boot members d)) _ nobody)) ∙ ap (λ u. hearing u c.args.peer.word boot members t) c.self.view_is
