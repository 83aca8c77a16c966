use Rattle.std.proofs.Common.{◌≡◌, ◌&&◌, not, take, filter}
use Rattle.tipc_types.specs.Tables.{is_of}
use Rattle.tipc_sockets.specs.Publishing.{is_key_at}
use Rattle.tipc_sockets.proofs.publishing.withdraw_those_at.Given as goal

abbrev pub invariant-loop-p : goal.invariant-loop-p
invariant-loop-p g l = g.N.Names.table l.names ≡ filter (λ p. not (is_of l.own.word p && is_key_at l.port (take l.p-index l.live) p)) (g.N.Names.table l.fn.names)
