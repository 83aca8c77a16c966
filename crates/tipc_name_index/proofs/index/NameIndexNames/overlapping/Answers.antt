use Rattle.std.proofs.Common.{List, IsPermutation, filter, ap, ap₂, subst, ◌∙◌}
use Rattle.tipc_types.specs.declared.services.Publication.{Publication}
use Rattle.tipc_types.specs.Matching.{overlaps}
use Rattle.tipc_name_index.specs.Ranges.{may_reach}
use Rattle.tipc_name_index.proofs.Indexed.{overlaps_near, looked_up}
use Rattle.tipc_name_index.proofs.index.NameIndexNames.overlapping.Goals as goal

pub returns-clause-overlap : goal.returns-clause-overlap
returns-clause-overlap c =
    let test = overlaps c.args.range in
    let near = may_reach c.args.range.kind c.args.range.upper in
    let ranges = c.self.inside.ranges.items in
    let found = c.put_in_order.new.found.items in
    let reach = ap₂ (λ kind upper. filter (may_reach kind upper) c.as_slice.result.now) c.kind.ensures c.upper.ensures.value in
    let passed = c.in_ok-found.ensures ∙ ap (filter test) (c.those_that_may_reach-near.ensures ∙ reach ∙ ap (filter near) c.as_slice.ensures.value) in
    c.from_vec.ensures ∙ looked_up test near (overlaps_near c.args.range) c.self.inside.held.items ranges c.self.inside.named.items found c.self.invariant
    (subst (λ (ps : List Publication). IsPermutation ps found) passed c.put_in_order.ensures.same) c.put_in_order.ensures.ordered
    ∙ ap (filter test) c.self.view_is
