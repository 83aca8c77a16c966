use Rattle.std.proofs.Common.{◌≡◌, [], ◌∷◌, ◌++◌, ap, sym, ◌∙◌, length, length-append, rules, arith}
use Rattle.std.specs.Prelude.{option_to_list}
use Rattle.tipc_node.specs.Drafts.{restored, with_copy}
use Rattle.tipc_node.proofs.work.Restoring.{copy_wide, restore_last, restore_next}
use Rattle.tipc_node.proofs.drafts.restore.Goals as goal

pub put_copy-requires : goal.put_copy-requires
put_copy-requires c =
    let i = c.loop-copy.invariant in
    let cs = c.pop.new.self.items in
    let wide = i.1 in
    let few = i.2 in
    let popped = ap length (c.pop.ensures.items ∙ ap (λ o. cs ++ option_to_list o) c.in-Some.is) ∙ length-append cs (c.in-Some.copy ∷ []) in
    let place = c.len.ensures ∙ c.pop.new.self.ok.0 in
    omega (arith, wide, few, popped, place)

pub loop-copy-preserved : goal.loop-copy-preserved
loop-copy-preserved c =
    let i = c.loop-copy.invariant in
    let xs = c.loop-copy.neighbours.items in
    let cs = c.pop.new.self.items in
    let copy = c.in-Some.copy in
    let few = i.2 in
    let room = i.3 in
    let capacity = c.pop.ensures.capacity in
    let all = c.pop.ensures.items ∙ ap (λ o. cs ++ option_to_list o) c.in-Some.is in
    let popped = ap length all ∙ length-append cs (copy ∷ []) in
    let place = c.len.ensures ∙ c.pop.new.self.ok.0 in (
      ap (restored cs) (c.put_copy.ensures ∙ ap (λ k. with_copy xs k copy) place) ∙ restore_next cs copy xs ∙ ap (λ zs. restored zs xs) (sym all) ∙ i.0,
      ap length c.put_copy.ensures ∙ copy_wide xs c.len.result copy ∙ i.1,
      omega (arith, few, popped),
      omega (arith, room, capacity),
    )

pub returns-clause-neighbours : goal.returns-clause-neighbours
returns-clause-neighbours c =
    let xs = c.loop-copy.neighbours.items in
    let none : c.loop-copy.copies.items ≡ [] = search rules in
    sym (restore_last xs) ∙ ap (λ zs. restored zs xs) (sym none) ∙ c.loop-copy.invariant.0
