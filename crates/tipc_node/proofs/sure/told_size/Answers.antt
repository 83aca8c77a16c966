use Rattle.std.proofs.Common.{◌+◌, ap, sym, ◌∙◌, arith, length, sum_by}
use Rattle.std.proofs.lemmas.List.{take_all}
use Rattle.tipc_journal.specs.Room.{entry_bytes}
use Rattle.tipc_node.specs.declared.frames.Delivery.{Delivery}
use Rattle.tipc_node.specs.Sure.{told_of_delivery}
use Rattle.tipc_node.proofs.work.Telling.{told_entries, told_weight}
use Rattle.tipc_node.proofs.sure.told_size.Goals as goal

pub returns-clause-size : goal.returns-clause-size
returns-clause-size c =
    let ds = c.args.deliveries.now in
    let all = take_all c.loop-delivery.delivery-index ds c.loop-delivery-test.false in
    c.loop-delivery.invariant.size_is ∙ (ap (λ xs. sum_by (λ (d : Delivery). length (told_of_delivery d)) xs) all ∙ sym (told_entries ds))

pub returns-clause-light : goal.returns-clause-light
returns-clause-light c =
    let ds = c.args.deliveries.now in
    let all = take_all c.loop-delivery.delivery-index ds c.loop-delivery-test.false in
    let weight = told_weight ds in
    let left = ap (λ xs. sum_by (λ (d : Delivery). entry_bytes d.entry) xs + c.loop-delivery.left) (sym all) ∙ c.loop-delivery.invariant.left_is in
    omega (arith, weight, left)
