use Rattle.std.proofs.Common.{rules}
use Rattle.std.proofs.lemmas.List.Sorted.{IsPartitionPoint-from_clause}
use Rattle.tipc_name_index.proofs.Order.{before_rises, partitioned, split_at}
use Rattle.tipc_name_index.proofs.Places.{places_total}
use Rattle.tipc_types.specs.Tables.{place_cmp, stands_before}
use Rattle.tipc_name_index.proofs.searches.place_for.Goals as goal

pub returns-clause-before : goal.returns-clause-before
returns-clause-before c =
    let p = c.args.p.now in
    let xs = c.args.held.now in
    let parted = partitioned place_cmp (λ q. stands_before q p) (λ x y. before_rises place_cmp places_total x y p) xs c.requires in
    let point = IsPartitionPoint-from_clause (λ q. stands_before q p) xs _ c.partition_point.ensures.partitioned parted (λ a r q k. search rules) in
    (split_at (λ q. stands_before q p) xs _ c.partition_point.ensures.bound point).0

pub returns-clause-behind : goal.returns-clause-behind
returns-clause-behind c =
    let p = c.args.p.now in
    let xs = c.args.held.now in
    let parted = partitioned place_cmp (λ q. stands_before q p) (λ x y. before_rises place_cmp places_total x y p) xs c.requires in
    let point = IsPartitionPoint-from_clause (λ q. stands_before q p) xs _ c.partition_point.ensures.partitioned parted (λ a r q k. search rules) in
    (split_at (λ q. stands_before q p) xs _ c.partition_point.ensures.bound point).1
