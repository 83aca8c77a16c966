use Rattle.std.specs.List.{All}
use Rattle.std.proofs.Common.{take}
use Rattle.tipc_live.specs.Telling.{AllTellTrue}
use Rattle.tipc_live.proofs.passes.first_told.Given as goal

abbrev pub invariant-loop-node : goal.invariant-loop-node
invariant-loop-node g l = All AllTellTrue (take l.node l.nodes)
