-- The packets that are under way in a world: as a total over its nodes, and what a world without any is.
use Rattle.std.proofs.Common.{◌≡◌, ◌+◌, ℕ, List, [], ◌∷◌, Option, Some, None, sum_by, refl, arith}
use Rattle.std.proofs.lemmas.List.Sums.{sum_by-cons}
use Rattle.tipc_node.specs.Nodes.{node_load}
use Rattle.tipc_replay.specs.Readers.{unacked_in, waiting_in, world_load}
use Rattle.tipc_replay.specs.States.{MemberState, counted}
use Rattle.tipc_world.specs.declared.settling.Settled.TheVariants.{Quiet}
use Rattle.tipc_world.specs.Poised.{packets_under_way}
use Rattle.tipc_world.specs.RoundParts.{number_of_member, total_of}
use Rattle.tipc_world.specs.Settling.{settled_by}
use Rattle.tipc_world.specs.States.{WorldState}

-- the packets of a node
abbrev pub packets_at : MemberState → ℕ
packets_at m = (node_load m.node).0 + (node_load m.node).1

one_total : (o : Option MemberState) → number_of_member packets_at o ≡ unacked_in o + waiting_in o
one_total None = omega arith
one_total (Some m) = refl

list_total : (members : List (Option MemberState)) → sum_by (number_of_member packets_at) members ≡ sum_by unacked_in members + sum_by waiting_in members
list_total [] = omega arith
list_total (o ∷ os) =
    let rest = list_total os in
    let one = one_total o in
    let all = sum_by-cons (number_of_member packets_at) o os in
    let unacked = sum_by-cons unacked_in o os in
    let waiting = sum_by-cons waiting_in o os in
    omega (arith, rest, one, all, unacked, waiting)

-- they are what is under way
pub packets_are_total : (w : WorldState) → total_of packets_at w ≡ packets_under_way w
packets_are_total w = list_total w.members

-- a world without packets is quiet
pub none_is_quiet : (w : WorldState) → packets_under_way w ≡ 0 → settled_by (world_load w.members) ≡ Quiet
unfolding world_load
none_is_quiet w none =
    let unacked : sum_by unacked_in w.members ≡ 0 = omega (arith, none) in
    let waiting : sum_by waiting_in w.members ≡ 0 = omega (arith, none) in
    λ i. settled_by (counted (unacked i), counted (waiting i))
