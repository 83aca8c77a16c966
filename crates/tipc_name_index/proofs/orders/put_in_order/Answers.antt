use Rattle.std.proofs.Common.{◌≡◌, rules}
use Rattle.std.proofs.lemmas.Fn.{always_returns_same}
use Rattle.std.proofs.lemmas.List.Sorted.{ranks_by}
use Rattle.std.proofs.lemmas.Cmp.{nat_list_cmp_total}
use Rattle.std.specs.Ordering.{is_lt}
use Rattle.tipc_types.specs.Tables.{place_of, stands_before}
use Rattle.tipc_name_index.proofs.orders.put_in_order.Goals as goal

pub returns-clause-ordered : goal.returns-clause-ordered
returns-clause-ordered c =
    c.sort_unstable_by.ensures.sorted stands_before (ranks_by nat_list_cmp_total place_of)
    (always_returns_same _ (λ a r. is_lt r ≡ stands_before a.0.now a.1.0.now) _ (λ a r f' k. search rules))
