use Rattle.std.proofs.Common.{◌≡◌, List, ◌∷◌, drop, filter, length, not, sym, subst, ap, ◌∙◌, arith}
use Rattle.std.specs.Ordering.{is_lt}
use Rattle.tipc_types.specs.declared.services.Publication.{Publication}
use Rattle.tipc_types.specs.Tables.{is_named}
use Rattle.tipc_name_index.specs.Ranges.{name_cmp}
use Rattle.tipc_name_index.proofs.Order.{behind_itself, one_less, stands_there}
use Rattle.tipc_name_index.proofs.Places.{names_total}
use Rattle.tipc_name_index.proofs.Same.{named_itself}
use Rattle.tipc_name_index.proofs.changes.take_name_out.Goals as goal

pub remove-requires : goal.remove-requires
remove-requires c =
    let p = c.args.p.now in
    let ps = c.args.names.now.items in
    let there = behind_itself name_cmp names_total p ps c.requires.ordered c.requires.there in
    let behind : drop c.name_place_for-at.result ps ≡ p ∷ there.0 = subst (λ (qs : List Publication). drop c.name_place_for-at.result qs ≡ p ∷ there.0) c.as_slice.ensures.value (c.name_place_for-at.ensures.behind ∙ subst (λ (qs : List Publication). filter (λ q. not (is_lt (name_cmp q p))) qs ≡ p ∷ there.0) (sym c.as_slice.ensures.value) there.1) in
    let within = stands_there p ps there.0 c.name_place_for-at.result behind in
    omega (arith, within, ap length c.as_slice.ensures.value, c.as_slice.ensures.len)

pub returns : goal.returns
returns c =
    let p = c.args.p.now in
    let ps = c.args.names.now.items in
    let there = behind_itself name_cmp names_total p ps c.requires.ordered c.requires.there in
    let behind : drop c.name_place_for-at.result ps ≡ p ∷ there.0 = subst (λ (qs : List Publication). drop c.name_place_for-at.result qs ≡ p ∷ there.0) c.as_slice.ensures.value (c.name_place_for-at.ensures.behind ∙ subst (λ (qs : List Publication). filter (λ q. not (is_lt (name_cmp q p))) qs ≡ p ∷ there.0) (sym c.as_slice.ensures.value) there.1) in
    c.remove.ensures.items ∙ one_less (is_named p.at.node.word p.key) p ps there.0 c.name_place_for-at.result behind (named_itself p) c.requires.one
