use Rattle.std.proofs.Common.{◌≡◌, cond, false, true, sym, ap, ◌∙◌}
use Rattle.std.proofs.lemmas.List.{drop_all}
use Rattle.std.specs.Prelude.{None, Some}
use Rattle.tipc_types.specs.declared.services.Publication.{Publication}
use Rattle.tipc_types.specs.Tables.{is_named}
use Rattle.tipc_name_index.proofs.Names.{found_at, found_past}
use Rattle.tipc_name_index.proofs.searches.named_in.Goals as goal

pub returns-then-at-names : goal.returns-then-at-names
returns-then-at-names c =
    let xs = c.args.names.now in
    sym (found_past c.args.node.word c.args.key xs (sym (drop_all c.name_place_for-at.result xs c.if-at-names.true) ∙ c.name_place_for-at.ensures.behind))

pub returns-then-not-is_named : goal.returns-then-not-is_named
returns-then-not-is_named c =
    let p = c.index-names-at.result in
    let test = is_named c.args.node.word c.args.key in
    let misses : test p ≡ false = sym c.is_named.ensures ∙ c.if-not-is_named.true in
    let found = found_at c.args.node.word c.args.key c.args.names.now c.name_place_for-at.result p c.requires c.name_place_for-at.ensures.behind c.if-at-names.false in
    sym (found ∙ ap (λ (q : Publication). cond (test q) (Some q) None) (sym c.index-names-at.is) ∙ ap (λ b. cond b (Some p) None) misses)

pub returns : goal.returns
returns c =
    let p = c.index-names-at.result in
    let test = is_named c.args.node.word c.args.key in
    let passes : test p ≡ true = sym c.is_named.ensures ∙ c.if-not-is_named.false in
    let found = found_at c.args.node.word c.args.key c.args.names.now c.name_place_for-at.result p c.requires c.name_place_for-at.ensures.behind c.if-at-names.false in
    sym (found ∙ ap (λ (q : Publication). cond (test q) (Some q) None) (sym c.index-names-at.is) ∙ ap (λ b. cond b (Some p) None) passes)
