-- What every world keeps: how its links, journals and frames hang together.
use Rattle.std.specs.Prelude.{◌≡◌, ◌≢◌, ◌≤◌, ◌<◌, ◌^◌, ℕ, true, List, [], Option, Some, None, length, slice_get, slice_index_or}
use Rattle.tipc_types.specs.Address.{node_word}
use Rattle.tipc_types.specs.declared.message_forms.Flow.{Flow}
use Rattle.tipc_types.specs.declared.message_forms.Flow.TheVariants.{One, Zero}
use Rattle.tipc_types.specs.declared.message_forms.Message.{Message}
use Rattle.tipc_pair.specs.Facing.{PairEnds}
use Rattle.tipc_two_nodes.specs.Sights.{AreSeen}
use Rattle.tipc_replay.specs.declared.air.Sent.{Sent}
use Rattle.tipc_node.specs.Messages.{IsSendable, in_flow}
use Rattle.tipc_node.specs.Nodes.{is_frame_size}
use Rattle.tipc_replay.specs.Addressed.{IsAddressed}
use Rattle.tipc_replay.specs.Skies.{AirState, air_on}
use Rattle.tipc_replay.specs.States.{MemberState, accepted_at, delivered_at, has_member, pair_at}
use Rattle.tipc_replay.specs.Views.{sight_at}

-- the numbers of nodes are from 1 to 32
abbrev pub IsNumber : ℕ → Type 0
IsNumber n = (1 ≤ n) × (n ≤ 32)

-- a frame in the air is of one of the 32 nodes, is addressed by its kind, and has a frame's size
pub record IsAirborne (f : Sent) : Type 0 where
  pub from : ℕ
  pub from_number : IsNumber from
  pub from_is : f.from.word ≡ node_word from
  pub addressed : IsAddressed from f.frame f.to
  pub size : is_frame_size (length f.frame) ≡ true

-- a pair of node a with node b, seen from bearer 0's link
pub record IsPairOf (a b : ℕ) (x : PairEnds) : Type 0 where
  pub own : x.own ≡ node_word a
  pub peer : x.peer ≡ node_word b
  pub first : x.bearer ≡ 0

-- a frame in the air was sent by a node that is there
abbrev pub IsSentBy : List (Option MemberState) → Sent → Type 0
IsSentBy members f = (n : ℕ) × (f.from.word ≡ node_word n) × (has_member members n ≡ true)

-- a message that a node of this address may send in a flow: what is broadcast are no name items
pub record IsSaid (flow : Flow) (word : ℕ) (m : Message) : Type 0 where
  pub sendable : IsSendable word m
  pub stays : in_flow flow (Some m) ≡ Some m

-- two other nodes, and a contact of theirs, whose numbers have 64 bits
abbrev pub IsBetween : ℕ → ℕ → ℕ → ℕ → Type 0
IsBetween a b own theirs = IsNumber a × IsNumber b × (a ≢ b) × (own < 2 ^ 64) × (theirs < 2 ^ 64)

-- What every world keeps of its nodes, of each two of them, and of the frames in its air.
pub record IsSound (members : List (Option MemberState)) (air : AirState) : Type 0 where
  -- a node has a number, and its address is that of its number
  pub numbered : (n : ℕ) (m : MemberState) → slice_index_or members n None ≡ Some m
      → IsNumber n × (m.node.own ≡ node_word n)
  -- a node knows other nodes that are there
  pub apart : (a : ℕ) → pair_at members a a ≡ None
  pub known : (a b : ℕ) → (IsNumber b → slice_index_or members b None ≡ None) → pair_at members a b ≡ None
  pub between : (a b : ℕ) (x : PairEnds) → pair_at members a b ≡ Some x → IsPairOf a b x
  -- each two nodes are talking
  pub pairs : (a b : ℕ) → IsNumber a → IsNumber b → a ≢ b
      → AreSeen (sight_at members air a b) (sight_at members air b a)
  -- messages are accepted and delivered in flows Zero and Broadcast alone; the node that accepted each can send it there
  pub no_flow_one : (a b own theirs : ℕ)
      → (accepted_at members a b own theirs One ≡ []) × (delivered_at members a b own theirs One ≡ [])
  pub accepted : (a b own theirs : ℕ) (flow : Flow) (k : ℕ) (m : Message) → slice_get (accepted_at members a b own theirs flow) k ≡ Some m
      → IsSaid flow (node_word a) m
  -- and so can the node that sent one that was delivered to it alone
  pub delivered : (a b own theirs k : ℕ) (m : Message)
      → slice_get (delivered_at members a b own theirs Zero) k ≡ Some m → IsSendable (node_word b) m
  -- what concerns a number that no node has, or the node itself, is nothing
  pub nothing : (a b own theirs : ℕ) (flow : Flow) → delivered_at members a b own theirs flow ≢ [] → IsBetween a b own theirs
  pub frames : (bearer k : ℕ) (f : Sent) → slice_get (air_on bearer air) k ≡ Some f → IsAirborne f
  pub senders : (bearer k : ℕ) (f : Sent) → slice_get (air_on bearer air) k ≡ Some f → IsSentBy members f
