use Rattle.std.proofs.Common.{◌≡◌, ◌-◌, drop, filter, length, not, take, ap, subst, sym, ◌∙◌, rules}
use Rattle.std.specs.Prelude.{nat_le, nat_lt}
use Rattle.std.specs.List.Sorted.{IsStrictlySortedBy}
use Rattle.std.proofs.lemmas.List.{take_rest}
use Rattle.std.proofs.lemmas.List.Kept.{IsStrictlySortedBy-filter}
use Rattle.std.proofs.lemmas.List.Sorted.{IsPartitionPoint-from_clause}
use Rattle.tipc_types.specs.declared.services.Publication.{Publication}
use Rattle.tipc_types.specs.Tables.{is_of, place_cmp}
use Rattle.tipc_name_index.proofs.Order.{filters_join, partitioned, split_at}
use Rattle.tipc_name_index.proofs.Places.{below_node, node_between, upto_node}
use Rattle.tipc_name_index.proofs.searches.those_of.Goals as goal

pub returns : goal.returns
returns c =
    let xs = c.args.held.now in
    let first = c.partition_point-first.result in
    let below = λ (p : Publication). nat_lt p.at.node.word c.args.node.word in
    let upto = λ (p : Publication). nat_le p.at.node.word c.args.node.word in
    let whole = partitioned place_cmp below (below_node c.args.node.word) xs c.requires in
    let start = IsPartitionPoint-from_clause below xs first c.partition_point-first.ensures.partitioned whole (λ a r q k. search rules) in
    let from = take (length xs - first) (drop first xs) in
    let rest : from ≡ filter (λ p. not (below p)) xs = take_rest xs first ∙ (split_at below xs first c.partition_point-first.ensures.bound start).1 in
    let ordered = subst (IsStrictlySortedBy place_cmp) (sym rest) (IsStrictlySortedBy-filter place_cmp (λ p. not (below p)) xs c.requires) in
    let part = partitioned place_cmp upto (upto_node c.args.node.word) from ordered in
    let point = IsPartitionPoint-from_clause upto from c.partition_point-count.result c.partition_point-count.ensures.partitioned part (λ a r q k. search rules) in
    (split_at upto from c.partition_point-count.result c.partition_point-count.ensures.bound point).0
    ∙ ap (filter upto) rest ∙ filters_join (λ p. not (below p)) upto (is_of c.args.node.word) (node_between c.args.node.word) xs
