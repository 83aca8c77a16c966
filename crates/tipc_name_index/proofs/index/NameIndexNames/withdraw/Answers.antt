use Rattle.std.proofs.Common.{◌≤◌, not, sym, ap, ap₂, subst, ◌∙◌}
use Rattle.std.proofs.Math.Path.{subst₃}
use Rattle.std.specs.Prelude.{find}
use Rattle.tipc_types.specs.declared.services.Publication.{Publication}
use Rattle.tipc_types.specs.Tables.{is_named, without}
use Rattle.tipc_name_index.specs.Ranges.{IsIndex}
use Rattle.tipc_name_index.proofs.Indexed.{index_kept}
use Rattle.tipc_name_index.proofs.Names.{find_same, name_found, named_there}
use Rattle.tipc_name_index.proofs.index.NameIndexNames.withdraw.Goals as goal

pub returns-in_default-clause-unknown : goal.returns-in_default-clause-unknown
returns-in_default-clause-unknown c =
    let test = is_named c.args.node.word c.args.key in
    ap (find test) (sym c.self.view_is)
    ∙ sym (find_same test c.self.inside.held.items c.self.inside.named.items c.self.invariant.alike (c.self.invariant.table.named c.args.node.word c.args.key))
    ∙ sym (c.named_in.ensures ∙ ap (find test) c.as_slice.ensures.value) ∙ c.in_default.is

pub take_out-requires-clause-there : goal.take_out-requires-clause-there
take_out-requires-clause-there c =
    let found = sym (c.named_in.ensures ∙ ap (find (is_named c.args.node.word c.args.key)) c.as_slice.ensures.value) ∙ c.in-Some.is in
    (named_there c.args.node.word c.args.key c.in-Some.p c.self.inside.held.items c.self.inside.ranges.items c.self.inside.named.items c.self.invariant.same c.self.invariant.alike
    (c.self.invariant.table.named c.args.node.word c.args.key) found).1

pub take_range_out-requires-clause-there : goal.take_range_out-requires-clause-there
take_range_out-requires-clause-there c =
    let found = sym (c.named_in.ensures ∙ ap (find (is_named c.args.node.word c.args.key)) c.as_slice.ensures.value) ∙ c.in-Some.is in
    (named_there c.args.node.word c.args.key c.in-Some.p c.self.inside.held.items c.self.inside.ranges.items c.self.inside.named.items c.self.invariant.same c.self.invariant.alike
    (c.self.invariant.table.named c.args.node.word c.args.key) found).2

pub take_range_out-requires-clause-one : goal.take_range_out-requires-clause-one
take_range_out-requires-clause-one c =
    let p = c.in-Some.p in
    subst (λ n. n ≤ 1) (c.self.invariant.same (is_named p.at.node.word p.key)) (c.self.invariant.table.named p.at.node.word p.key)

pub take_name_out-requires-clause-there : goal.take_name_out-requires-clause-there
take_name_out-requires-clause-there c =
    let found = sym (c.named_in.ensures ∙ ap (find (is_named c.args.node.word c.args.key)) c.as_slice.ensures.value) ∙ c.in-Some.is in
    (named_there c.args.node.word c.args.key c.in-Some.p c.self.inside.held.items c.self.inside.ranges.items c.self.inside.named.items c.self.invariant.same c.self.invariant.alike
    (c.self.invariant.table.named c.args.node.word c.args.key) found).3

pub take_name_out-requires-clause-one : goal.take_name_out-requires-clause-one
take_name_out-requires-clause-one c =
    let p = c.in-Some.p in
    subst (λ n. n ≤ 1) (c.self.invariant.alike (is_named p.at.node.word p.key)) (c.self.invariant.table.named p.at.node.word p.key)

pub invariant_of-self : goal.invariant_of-self
invariant_of-self c =
    let p = c.in-Some.p in
    subst₃ IsIndex (sym c.take_out.ensures) (sym c.take_range_out.ensures) (sym c.take_name_out.ensures)
    (index_kept (λ (q : Publication). not (is_named p.at.node.word p.key q)) c.self.inside.held.items c.self.inside.ranges.items c.self.inside.named.items c.self.invariant)

pub returns-clause-ok : goal.returns-clause-ok
returns-clause-ok c =
    let found = sym (c.named_in.ensures ∙ ap (find (is_named c.args.node.word c.args.key)) c.as_slice.ensures.value) ∙ c.in-Some.is in
    ap (find (is_named c.args.node.word c.args.key)) (sym c.self.view_is)
    ∙ (named_there c.args.node.word c.args.key c.in-Some.p c.self.inside.held.items c.self.inside.ranges.items c.self.inside.named.items c.self.invariant.same c.self.invariant.alike
    (c.self.invariant.table.named c.args.node.word c.args.key) found).0

pub returns-clause-after : goal.returns-clause-after
returns-clause-after c =
    let held = c.self.inside.held.items in
    let found = sym (c.named_in.ensures ∙ ap (find (is_named c.args.node.word c.args.key)) c.as_slice.ensures.value) ∙ c.in-Some.is in
    let named = name_found c.args.node.word c.args.key c.in-Some.p c.self.inside.named.items found in
    c.take_out.ensures ∙ ap₂ (λ node key. without node key held) named.0 named.1 ∙ ap (without c.args.node.word c.args.key) c.self.view_is

pub returns-clause-sound : goal.returns-clause-sound
returns-clause-sound c = (invariant_of-self c).table
