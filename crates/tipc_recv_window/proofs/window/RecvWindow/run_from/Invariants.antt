use Rattle.std.proofs.Common.{◌≡◌, ◌++◌, ◌∷◌, drop}
use Rattle.tipc_recv_window.specs.Receiving.{run_of}
use Rattle.tipc_recv_window.proofs.window.RecvWindow.run_from.Given as goal

abbrev pub invariant-loop-place : goal.invariant-loop-place
invariant-loop-place l = l.run ++ run_of (drop l.place l.self-inside.held.items) ≡ l.fn.first ∷ run_of (drop 1 l.self-inside.held.items)
