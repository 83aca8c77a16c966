use Rattle.std.proofs.Common.{◌≡◌}
use Rattle.tipc_sockets.proofs.Learning.{IsApplying}
use Rattle.tipc_node.proofs.items.apply_items.Given as goal

-- those before the place are applied and told
abbrev pub invariant-loop-place : goal.invariant-loop-place
invariant-loop-place l =
    IsApplying l.from.word l.withdrawal l.items l.fn.sockets l.sockets l.fn.inside.items l.inside.items l.place × (l.sockets.own ≡ l.fn.sockets.own)
