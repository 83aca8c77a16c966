use Rattle.std.proofs.Common.{◌≡◌, ℕ, List, Option, ap, subst}
use Rattle.tipc_node.specs.declared.neighbours.Neighbour.{Neighbour}
use Rattle.tipc_node.specs.CastHearings.{with_joining}
use Rattle.tipc_node.specs.Drafts.{own_of}
use Rattle.tipc_node.specs.Hearings.{AllDelivered}
use Rattle.tipc_node.specs.Works.{Work}
use Rattle.tipc_node.proofs.drafts.Draft.cast_in.Goals as goal

pub returns-clause-delivered : goal.returns-clause-delivered
returns-clause-delivered c = λ x was.
    let d = c.args.self.now in
    let peer = c.args.peer in
    let ds = c.args.deliveries.items in
    let begun = c.begin_casts.new.self in
    let last = c.deliver_all.new.self in
    let own : own_of begun ≡ own_of d = ap (λ (start : List (Option Neighbour) × ℕ). start.1) c.begin_casts.ensures.start in
    subst (λ box. AllDelivered (own_of d) peer (with_joining d.work peer x c.args.casts) ds last.work box last.out) c.begin_casts.ensures.out
    (subst (λ (w : Work). AllDelivered (own_of d) peer w ds last.work begun.out last.out) (c.in_ok-begin_casts.ensures.begun x was)
    (subst (λ word. AllDelivered word peer begun.work ds last.work begun.out last.out) own c.in_ok-deliver_all.ensures.delivered))
