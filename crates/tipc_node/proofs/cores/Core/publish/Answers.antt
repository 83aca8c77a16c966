use Rattle.std.proofs.Common.{◌≡◌, ◌∷◌, ◌∙◌, [], None, Option, Some, ap, false, refl, sym}
use Rattle.tipc_types.specs.declared.node_calls.Answer.{Answer}
use Rattle.tipc_types.specs.declared.node_calls.EventNote.TheVariants.{Publish}
use Rattle.tipc_journal.specs.declared.entries.Entry.TheVariants.{Published}
use Rattle.tipc_name_dist.specs.Items.{telling}
use Rattle.tipc_sockets.specs.Publishing.{own_publication, published}
use Rattle.tipc_node.specs.Plans.{or_else}
use Rattle.tipc_node.specs.Sockets.{crowd_refusal, publication_refusal, published_work}
use Rattle.tipc_node.specs.Works.{work_of}
use Rattle.tipc_node.proofs.work.Announcing.{announced_as}
use Rattle.tipc_node.proofs.work.Planned.{performed, performs_refused}
use Rattle.tipc_node.proofs.cores.Core.publish.Goals as goal

pub returns-in-Some-clause-ok : goal.returns-in-Some-clause-ok
returns-in-Some-clause-ok c =
    let n = c.args.self.now in
    let a = c.args in
    let p = own_publication n.own a.port a.range a.scope a.key in
    let some : publication_refusal n.sockets a.port a.range.kind a.key ≡ Some c.in-Some.why =
    ap (λ kind. publication_refusal n.sockets a.port kind a.key) (sym c.kind.ensures) ∙ sym c.publication_refusal.ensures ∙ c.in-Some.is in
    performs_refused c.refuse.result n c.refuse.new.self a.by (Publish a.port a.range a.scope a.key) (Publish a.port a.range a.scope a.key) None a.out.now c.in-Some.why refl
    (ap (λ (o : Option Answer). or_else o (crowd_refusal n.neighbours (telling false p))) some) refl c.refuse.ensures.ok

pub announce-requires-clause-can : goal.announce-requires-clause-can
announce-requires-clause-can c =
    let a = c.args in
    ap (λ kind. publication_refusal a.self.now.sockets a.port kind a.key) (sym c.kind.ensures) ∙ sym c.publication_refusal.ensures ∙ c.in_default.is

pub returns-clause-ok : goal.returns-clause-ok
returns-clause-ok c =
    let n = c.args.self.now in
    let a = c.args in
    let p = own_publication n.own a.port a.range a.scope a.key in
    let es = c.in_ok-inside.inside.items in
    let none : publication_refusal n.sockets a.port a.range.kind a.key ≡ None =
    ap (λ kind. publication_refusal n.sockets a.port kind a.key) (sym c.kind.ensures) ∙ sym c.publication_refusal.ensures ∙ c.in_default.is in
    let published_is : c.own_publication-publication.result ≡ p = c.own_publication-publication.ensures in
    performed c.announce.result n c.announce.new.self a.by (Publish a.port a.range a.scope a.key) None a.out.now c.announce.new.out refl
    (announced_as c.announce.result n c.announce.new.self a.by (Publish a.port a.range a.scope a.key) (publication_refusal n.sockets a.port a.range.kind a.key)
    (work_of n.neighbours (published n.sockets (own_publication n.sockets.own a.port a.range a.scope a.key)) es) (published_work n a.port a.range a.scope a.key) c.as_slice.result.now (telling false p) a.out.now c.announce.new.out none
    (ap (λ word. work_of n.neighbours (published n.sockets (own_publication word a.port a.range a.scope a.key)) es) c.sound.ensures.own
    ∙ ap (work_of n.neighbours (published n.sockets p)) (c.in_ok-inside.ensures ∙ ap (λ q. Published q ∷ []) published_is))
    (c.as_slice.ensures.value ∙ c.in_ok-told.ensures.value ∙ ap (telling false) published_is)
    c.announce.ensures.ok)
