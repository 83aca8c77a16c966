use Rattle.std.specs.List.{range_with_len}
use Rattle.std.proofs.Common.{◌≡◌, ◌*◌, ◌++◌, length, map}
use Rattle.tipc_work.specs.Worked.{bearers_of}
use Rattle.tipc_work.proofs.runs.crews_of.Given as goal

-- the crews before, and what waits for the others
abbrev pub invariant-loop-passes : goal.invariant-loop-passes
invariant-loop-passes g l =
    (map (λ c. c.passes) l.crews.items ++ l.waiting.items ≡ l.fn.passes.items)
    × (bearers_of (map (λ c. (c.first, c.second)) l.crews.items) ++ l.bearers.items ≡ l.fn.bearers.items)
    × (map (λ c. c.place) l.crews.items ≡ range_with_len 0 (length l.crews.items))
    × (length l.bearers.items ≡ 2 * length l.waiting.items)
    × (length l.clocks.items ≡ length l.waiting.items)

abbrev pub decreases-loop-passes : goal.decreases-loop-passes
decreases-loop-passes g l = length l.waiting.items
