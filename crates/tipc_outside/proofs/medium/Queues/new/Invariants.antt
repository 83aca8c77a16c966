-- While queues are made, so many are there, and nothing waits in them.
use Rattle.std.proofs.Common.{◌≡◌, [], vec_len}
use Rattle.std.specs.List.{All}
use Rattle.tipc_outside.proofs.medium.Queues.new.Given as goal

abbrev pub invariant-loop : goal.invariant-loop
invariant-loop l = (vec_len l.queues ≡ l.counter) × All (λ frames. frames ≡ []) l.queues.items
