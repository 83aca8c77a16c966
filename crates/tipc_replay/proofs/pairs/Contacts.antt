-- The contacts in which a node is, gathered by peer.
use Rattle.std.proofs.Common.{◌≡◌, ◌<◌, ℕ, List, Option, Some, None, length, option_and_then, option_map, slice_index_or, refl, ap}
use Rattle.tipc_pair.specs.Facing.{contact_between}
use Rattle.tipc_node.specs.declared.neighbours.Neighbour.{Neighbour}
use Rattle.tipc_node.specs.Turns.{pair_in}
use Rattle.tipc_replay.specs.Events.{AreSettled}
use Rattle.tipc_replay.specs.States.{MemberState, contact_at, member_at, pair_at}

-- the contacts with the numbers below this one are gathered
pub record AreGathered (members : List (Option MemberState)) (a below : ℕ) (met : List (Option (ℕ × ℕ))) : Type 0 where
  pub few : length met ≡ below
  pub each : (b : ℕ) → b < below → slice_index_or met b None ≡ contact_at members a b

-- a node is in no contact with a number beyond 32
pub no_contact : (members : List (Option MemberState)) (a b : ℕ) → AreSettled members → 32 < b → contact_at members a b ≡ None
unfolding contact_at pair_at member_at
no_contact members a b settled high = case (slice_index_or members a None) refl
  where
    case : (o : Option MemberState) → slice_index_or members a None ≡ o → option_and_then contact_between (option_and_then (λ (m : MemberState). pair_in m.node b) o) ≡ None
    case None is = refl
    case (Some m) is = ap (λ (x : Option Neighbour). option_and_then contact_between (option_map (λ (y : Neighbour). y.pair) x)) ((settled a m is).known b high)
