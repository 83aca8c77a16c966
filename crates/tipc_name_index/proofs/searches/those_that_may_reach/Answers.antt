use Rattle.std.proofs.Common.{◌≡◌, ◌-◌, drop, filter, length, not, take, ap, subst, sym, ◌∙◌, rules}
use Rattle.std.specs.Prelude.{nat_lt}
use Rattle.std.specs.List.Sorted.{IsStrictlySortedBy}
use Rattle.std.proofs.lemmas.List.{take_rest}
use Rattle.std.proofs.lemmas.List.Kept.{IsStrictlySortedBy-filter}
use Rattle.std.proofs.lemmas.List.Sorted.{IsPartitionPoint-from_clause}
use Rattle.tipc_types.specs.declared.services.Publication.{Publication}
use Rattle.tipc_name_index.specs.Ranges.{may_reach, range_cmp}
use Rattle.tipc_name_index.proofs.Order.{filters_join, partitioned, split_at}
use Rattle.tipc_name_index.proofs.Places.{below_kind, reach_between, upto_lower, upto as is_upto}
use Rattle.tipc_name_index.proofs.searches.those_that_may_reach.Goals as goal

pub returns : goal.returns
returns c =
    let xs = c.args.ranges.now in
    let first = c.partition_point-first.result in
    let below = λ (p : Publication). nat_lt p.range.kind c.args.kind in
    let upto = λ (p : Publication). is_upto c.args.kind c.args.instance p in
    let whole = partitioned range_cmp below (below_kind c.args.kind) xs c.requires in
    let start = IsPartitionPoint-from_clause below xs first c.partition_point-first.ensures.partitioned whole (λ a r q k. search rules) in
    let from = take (length xs - first) (drop first xs) in
    let rest : from ≡ filter (λ p. not (below p)) xs = take_rest xs first ∙ (split_at below xs first c.partition_point-first.ensures.bound start).1 in
    let ordered = subst (IsStrictlySortedBy range_cmp) (sym rest) (IsStrictlySortedBy-filter range_cmp (λ p. not (below p)) xs c.requires) in
    let part = partitioned range_cmp upto (upto_lower c.args.kind c.args.instance) from ordered in
    let point = IsPartitionPoint-from_clause upto from c.partition_point-count.result c.partition_point-count.ensures.partitioned part (λ a r q k. search rules) in
    (split_at upto from c.partition_point-count.result c.partition_point-count.ensures.bound point).0
    ∙ ap (filter upto) rest ∙ filters_join (λ p. not (below p)) upto (may_reach c.args.kind c.args.instance) (reach_between c.args.kind c.args.instance) xs
