use Rattle.std.proofs.Common.{◌≡◌, ◌+◌, length, take, fold}
use Rattle.tipc_topology.specs.Watchers.{added, blank}
use Rattle.tipc_topology.proofs.watch.Watch.new.Given as goal

-- it was told of those before; there is room for those behind, and for the changes
abbrev pub invariant-loop-p : goal.invariant-loop-p
invariant-loop-p l =
    (l.watch ≡ fold added (blank l.fn.number l.fn.asked (length l.there + l.room)) (take l.p-index l.there))
    × (l.watch.room + l.p-index ≡ length l.there + l.room)
