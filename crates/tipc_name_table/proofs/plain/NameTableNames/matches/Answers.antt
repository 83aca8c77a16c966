use Rattle.std.proofs.Common.{◌≤◌, List, length, filter, ap, subst, sym, ◌∙◌}
use Rattle.tipc_types.specs.declared.services.Publication.{Publication}
use Rattle.tipc_types.specs.Matching.{covers}
use Rattle.tipc_name_table.proofs.Counts.{few_found}
use Rattle.tipc_name_table.proofs.plain.NameTableNames.matches.Goals as goal

pub returns-clause-few : goal.returns-clause-few
returns-clause-few c =
    let test = covers c.args.kind c.args.instance in
    let found = c.from_vec.ensures ∙ c.in_ok-covering.ensures ∙ ap (λ (ps : List Publication). filter test ps) c.as_slice.ensures.value in
    subst (λ (ps : List Publication). length ps ≤ 32768) (sym found) (few_found test c.self.inside.held.items c.self.invariant.0 c.self.invariant.1)
