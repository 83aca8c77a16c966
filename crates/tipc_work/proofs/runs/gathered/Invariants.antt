use Rattle.std.specs.List.{list_any}
use Rattle.std.proofs.Common.{◌≡◌, map}
use Rattle.tipc_work.specs.Worked.{bearers_of}
use Rattle.tipc_work.proofs.runs.gathered.Given as goal

-- what is left of the crews before
abbrev pub invariant-loop-crew : goal.invariant-loop-crew
invariant-loop-crew g l =
    (l.passes.items ≡ map (λ c. c.passes) l.yielded)
    × (l.bearers.items ≡ bearers_of (map (λ c. (c.first, c.second)) l.yielded))
    × (l.failed ≡ list_any (λ c. c.failed) l.yielded)
