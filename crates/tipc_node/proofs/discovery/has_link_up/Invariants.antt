use Rattle.std.proofs.Common.{◌≡◌, take, false}
use Rattle.tipc_node.specs.Discovery.{has_link_up}
use Rattle.tipc_node.proofs.discovery.has_link_up.Given as goal

-- none of those so far has a link up
abbrev pub invariant-loop-place : goal.invariant-loop-place
invariant-loop-place l = has_link_up l.bearer (take l.place-index l.neighbours) ≡ false
