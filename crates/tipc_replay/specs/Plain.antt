-- What stands in the lists of every link isn't of link protocol, so that no numbered packet is read as a STATE.
use Rattle.std.specs.Prelude.{◌≡◌, ◌≤◌, ℕ, All, List, Option, Some, None, IfSome, length, slice_index_or}
use Rattle.tipc_types.specs.Limits.{most_tunnel_bytes}
use Rattle.tipc_header.specs.Reading.{user_at}
use Rattle.tipc_link.specs.Sessions.{SessionEnd}
use Rattle.tipc_pair.specs.Facing.{PairEnds}
use Rattle.tipc_node.specs.Nodes.{NodeState, pair_with}
use Rattle.tipc_replay.specs.States.{MemberState}

-- such a packet: one that isn't too long for a frame is of another user
pub record IsPlain (packet : List ℕ) : Type 0 where
  pub long : 16 ≤ length packet
  pub other : length packet ≤ most_tunnel_bytes → user_at packet ≡ 7 → ⊥

-- the lists of a session
pub record ArePlain (s : SessionEnd) : Type 0 where
  pub unacked : All IsPlain s.sending.unacked
  pub waiting : All IsPlain s.sending.waiting

abbrev pub PlainIn : Option SessionEnd → Type 0
PlainIn session = (s : SessionEnd) → session ≡ Some s → ArePlain s

-- of both ends of a pair
pub record IsPlainPair (x : PairEnds) : Type 0 where
  pub two : x.bearer ≤ 1
  pub near : IfSome x.near (λ e. PlainIn e.session)
  pub far : IfSome x.far (λ e. PlainIn e.session)

-- of a node with every peer, and of all nodes
abbrev pub HasPlainPairs : NodeState → Type 0
HasPlainPairs n = (b : ℕ) → IsPlainPair (pair_with n b)

abbrev pub AllPlain : List (Option MemberState) → Type 0
AllPlain members = (n : ℕ) (m : MemberState) → slice_index_or members n None ≡ Some m → HasPlainPairs m.node
