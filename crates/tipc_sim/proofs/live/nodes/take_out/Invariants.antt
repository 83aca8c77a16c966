use Rattle.std.proofs.Common.{◌≡◌, ◌++◌, drop, length, map}
use Rattle.tipc_sim.proofs.live.nodes.take_out.Given as goal

-- the passes of the nodes before, and the passes and locks that wait for the others
abbrev pub invariant-loop-passes : goal.invariant-loop-passes
invariant-loop-passes g l =
    (map (λ n. n.passes) l.nodes.items ++ map (λ v. v.items) l.waiting.items ≡ map (λ v. v.items) l.fn.passes.items)
    × (drop (length l.nodes.items) l.fn.locks.items ≡ l.locks.items)
    × (length l.locks.items ≡ length l.waiting.items)

abbrev pub decreases-loop-passes : goal.decreases-loop-passes
decreases-loop-passes g l = length l.waiting.items
