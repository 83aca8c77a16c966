use Rattle.std.proofs.Common.{◌≡◌, ℕ, sym, ap, subst, ◌∙◌, List, Option}
use Rattle.tipc_outside.specs.Frames.{Out}
use Rattle.tipc_node.specs.declared.neighbours.Neighbour.{Neighbour}
use Rattle.tipc_node.specs.Drafts.{own_of}
use Rattle.tipc_node.specs.Hearings.{Settled, WentBack}
use Rattle.tipc_node.specs.Messages.{destination_of}
use Rattle.tipc_node.specs.Works.{Work, waiting_to}
use Rattle.tipc_node.proofs.work.Returning.{contact_there, on_ok, return_payload, settled_back, settled_here}
use Rattle.tipc_node.proofs.drafts.Draft.settle.Goals as goal

pub returns-in_default-clause-settled : goal.returns-in_default-clause-settled
returns-in_default-clause-settled c =
    let d = c.args.self.now in
    let met = c.in_ok-back.ensures in
    subst (λ (b : Out). Settled (own_of d) d.work c.args.m c.meet.new.self.work d.out b) (sym c.meet.ensures.out)
    (settled_here (own_of d) d.work c.args.m c.meet.new.self.work d.out (met.back ∙ c.in_default.is) met.work)

pub go_back-requires-clause-payload : goal.go_back-requires-clause-payload
go_back-requires-clause-payload c = return_payload c.args.self.now.work c.args.m c.in-Some.back (c.in_ok-back.ensures.back ∙ c.in-Some.is)

pub go_back-requires-clause-contact : goal.go_back-requires-clause-contact
go_back-requires-clause-contact c = λ away.
    let d = c.args.self.now in
    let back = c.in-Some.back in
    let met = c.in_ok-back.ensures in
    let own : own_of c.meet.new.self ≡ own_of d = ap (λ (start : List (Option Neighbour) × ℕ). start.1) c.meet.ensures.start in
    let there = contact_there d.work (own_of c.meet.new.self) c.args.m back (sym own) (met.back ∙ c.in-Some.is) away in
    (there.0, ap (λ (w : Work). waiting_to w.neighbours (destination_of back)) met.work ∙ there.1, there.2)

pub returns-clause-settled : goal.returns-clause-settled
returns-clause-settled c =
    let d = c.args.self.now in
    let e = c.meet.new.self in
    let last = c.go_back.new.self in
    let back = c.in-Some.back in
    let met = c.in_ok-back.ensures in
    let own : own_of e ≡ own_of d = ap (λ (start : List (Option Neighbour) × ℕ). start.1) c.meet.ensures.start in
    on_ok c.go_back.result
    (λ went. settled_back (own_of d) d.work e.work c.args.m back last.work d.out last.out (met.back ∙ c.in-Some.is) met.work
    (subst (λ (b : Out). WentBack (own_of d) e.work back last.work b last.out) c.meet.ensures.out (subst (λ word. WentBack word e.work back last.work e.out last.out) own went)))
    c.go_back.ensures.went
