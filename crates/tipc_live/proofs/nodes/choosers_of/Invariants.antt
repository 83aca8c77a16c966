use Rattle.std.proofs.Common.{◌≡◌, map, replicate, take}
use Rattle.tipc_live.proofs.nodes.choosers_of.Given as goal

abbrev pub invariant-loop-locked : goal.invariant-loop-locked
invariant-loop-locked g l =
    (map (λ c. c.pick.now) l.choosers.items ≡ map (λ n. n.chooser.pick) (take l.locked-index l.nodes))
    × (map (λ c. c.turn) l.choosers.items ≡ replicate l.locked-index 0)
