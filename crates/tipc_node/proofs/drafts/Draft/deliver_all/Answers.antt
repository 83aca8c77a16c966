use Rattle.std.proofs.Common.{◌≡◌, ℕ, [], List, Option, ap, sym, subst, ◌∙◌, rules}
use Rattle.std.specs.List.{list_all}
use Rattle.tipc_node.specs.declared.frames.Delivery.{Delivery}
use Rattle.tipc_node.specs.declared.neighbours.Neighbour.{Neighbour}
use Rattle.tipc_node.specs.Drafts.{own_of}
use Rattle.tipc_node.specs.Hearings.{is_plain, Delivered}
use Rattle.tipc_node.specs.Nodes.{entries_in}
use Rattle.tipc_node.proofs.work.Delivering.{part_last, part_next}
use Rattle.tipc_pair.proofs.Quietly.{second_of as and_right}
use Rattle.tipc_node.proofs.drafts.Draft.deliver_all.Goals as goal

pub loop-delivery-preserved : goal.loop-delivery-preserved
loop-delivery-preserved c =
    let i = c.loop-delivery.invariant in
    let first = c.args.self.now in
    let now = c.loop-delivery.self in
    let next = c.deliver.new.self in
    let peer = c.args.peer in
    let d = c.in-Some.delivery in
    let rest = c.pop_front.new.self.items in
    let own : own_of now ≡ own_of first = ap (λ (start : List (Option Neighbour) × ℕ). start.1) i.1 in
    let delivered = subst (λ word. Delivered word peer now.work d next.work now.out next.out) own c.in_ok-deliver.ensures.delivered in (
      part_next (own_of first) peer first.work now.work next.work c.args.deliveries.items _ rest d first.out now.out next.out i.0 c.in-Some.ensures.items delivered,
      c.deliver.ensures.start ∙ i.1,
      and_right (is_plain d.entry) (list_all is_plain (entries_in rest)) (ap (λ (ds : List Delivery). list_all is_plain (entries_in ds)) (sym c.in-Some.ensures.items) ∙ i.2),
    )

pub returns-clause-delivered : goal.returns-clause-delivered
returns-clause-delivered c =
    let empty : c.loop-delivery.waiting.items ≡ [] = search rules in
    let first = c.args.self.now in
    let now = c.loop-delivery.self in
    part_last (own_of first) c.args.peer first.work now.work c.args.deliveries.items c.loop-delivery.waiting.items first.out now.out c.loop-delivery.invariant.0 empty
