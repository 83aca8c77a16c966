use Rattle.std.proofs.Common.{rules}
use Rattle.std.proofs.lemmas.List.Sorted.{IsNonDecreasingBy-from_sort_by_key}
use Rattle.tipc_live.specs.Keeping.{stamp_of}
use Rattle.tipc_live.proofs.merging.steps_by_stamp.Goals as goal

pub returns-clause-order : goal.returns-clause-order
returns-clause-order g c = IsNonDecreasingBy-from_sort_by_key stamp_of _ c.in_ok-sort_by_key.ensures.sorted (λ a r q k. search rules)
