use Rattle.std.proofs.Common.{◌≤◌, List, IsPermutation, filter, length, ap, subst, sym, ◌∙◌}
use Rattle.tipc_types.specs.declared.services.Publication.{Publication}
use Rattle.tipc_types.specs.Matching.{covers}
use Rattle.tipc_name_table.proofs.Counts.{few_found}
use Rattle.tipc_name_index.specs.Ranges.{may_reach}
use Rattle.tipc_name_index.proofs.Indexed.{covers_near, looked_up}
use Rattle.tipc_name_index.proofs.index.NameIndexNames.matches.Goals as goal

pub returns-clause-matches : goal.returns-clause-matches
returns-clause-matches c =
    let test = covers c.args.kind c.args.instance in
    let near = may_reach c.args.kind c.args.instance in
    let ranges = c.self.inside.ranges.items in
    let found = c.put_in_order.new.found.items in
    let passed = c.in_ok-found.ensures ∙ ap (filter test) (c.those_that_may_reach-near.ensures ∙ ap (filter near) c.as_slice.ensures.value) in
    c.from_vec.ensures ∙ looked_up test near (covers_near c.args.kind c.args.instance) c.self.inside.held.items ranges c.self.inside.named.items found c.self.invariant
    (subst (λ (ps : List Publication). IsPermutation ps found) passed c.put_in_order.ensures.same) c.put_in_order.ensures.ordered
    ∙ ap (filter test) c.self.view_is

pub returns-clause-few : goal.returns-clause-few
returns-clause-few c =
    let test = covers c.args.kind c.args.instance in
    subst (λ (ps : List Publication). length ps ≤ 32768) (ap (filter test) c.self.view_is ∙ sym (returns-clause-matches c)) (few_found test c.self.inside.held.items c.self.invariant.table c.self.invariant.cluster)
