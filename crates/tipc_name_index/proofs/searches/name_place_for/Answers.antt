use Rattle.std.proofs.Common.{◌∷◌, [], rules}
use Rattle.std.specs.Cmp.Lexicographic.{slice_cmp}
use Rattle.std.specs.Ordering.{nat_cmp}
use Rattle.std.proofs.lemmas.Cmp.{nat_list_cmp_total}
use Rattle.std.proofs.lemmas.List.Sorted.{IsPartitionPoint-from_clause}
use Rattle.tipc_name_index.proofs.Order.{before_rises, partitioned, split_at}
use Rattle.tipc_name_index.specs.Ranges.{name_before, name_cmp, name_of}
use Rattle.tipc_name_index.proofs.searches.name_place_for.Goals as goal

pub returns-clause-before : goal.returns-clause-before
returns-clause-before c =
    let test = name_before c.args.node.word c.args.key in
    let xs = c.args.names.now in
    let parted = partitioned name_cmp test (λ x y. before_rises (slice_cmp nat_cmp) nat_list_cmp_total (name_of x) (name_of y) (c.args.node.word ∷ c.args.key ∷ [])) xs c.requires in
    let point = IsPartitionPoint-from_clause test xs _ c.partition_point.ensures.partitioned parted (λ a r q k. search rules) in
    (split_at test xs _ c.partition_point.ensures.bound point).0

pub returns-clause-behind : goal.returns-clause-behind
returns-clause-behind c =
    let test = name_before c.args.node.word c.args.key in
    let xs = c.args.names.now in
    let parted = partitioned name_cmp test (λ x y. before_rises (slice_cmp nat_cmp) nat_list_cmp_total (name_of x) (name_of y) (c.args.node.word ∷ c.args.key ∷ [])) xs c.requires in
    let point = IsPartitionPoint-from_clause test xs _ c.partition_point.ensures.partitioned parted (λ a r q k. search rules) in
    (split_at test xs _ c.partition_point.ensures.bound point).1
