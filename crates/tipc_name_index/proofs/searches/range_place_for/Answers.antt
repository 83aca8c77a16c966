use Rattle.std.proofs.Common.{rules}
use Rattle.std.proofs.lemmas.List.Sorted.{IsPartitionPoint-from_clause}
use Rattle.tipc_name_index.proofs.Order.{before_rises, partitioned, split_at}
use Rattle.tipc_name_index.proofs.Places.{ranges_total}
use Rattle.tipc_name_index.specs.Ranges.{begins_before, range_cmp}
use Rattle.tipc_name_index.proofs.searches.range_place_for.Goals as goal

pub returns-clause-before : goal.returns-clause-before
returns-clause-before c =
    let p = c.args.p.now in
    let xs = c.args.ranges.now in
    let parted = partitioned range_cmp (λ q. begins_before q p) (λ x y. before_rises range_cmp ranges_total x y p) xs c.requires in
    let point = IsPartitionPoint-from_clause (λ q. begins_before q p) xs _ c.partition_point.ensures.partitioned parted (λ a r q k. search rules) in
    (split_at (λ q. begins_before q p) xs _ c.partition_point.ensures.bound point).0

pub returns-clause-behind : goal.returns-clause-behind
returns-clause-behind c =
    let p = c.args.p.now in
    let xs = c.args.ranges.now in
    let parted = partitioned range_cmp (λ q. begins_before q p) (λ x y. before_rises range_cmp ranges_total x y p) xs c.requires in
    let point = IsPartitionPoint-from_clause (λ q. begins_before q p) xs _ c.partition_point.ensures.partitioned parted (λ a r q k. search rules) in
    (split_at (λ q. begins_before q p) xs _ c.partition_point.ensures.bound point).1
