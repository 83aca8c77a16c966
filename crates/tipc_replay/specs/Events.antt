-- An event among nodes.
use Rattle.std.specs.Prelude.{◌≡◌, ◌≢◌, ◌≤◌, ◌<◌, ℕ, List, Option, Some, None, slice_index_or, slice_set}
use Rattle.tipc_types.specs.Address.{node_word}
use Rattle.tipc_types.specs.declared.node_calls.Answer.{Answer}
use Rattle.tipc_types.specs.declared.node_calls.By.{By}
use Rattle.tipc_outside.specs.Frames.{Out}
use Rattle.tipc_node.specs.Nodes.{neighbour_of}
use Rattle.tipc_replay.specs.declared.events.WorldEvent.{WorldEvent}
use Rattle.tipc_replay.specs.Calls.{node_of}
use Rattle.tipc_replay.specs.Effects.{Did}
use Rattle.tipc_replay.specs.Members.{IsNewcomer}
use Rattle.tipc_replay.specs.States.{MemberState}

-- an event happened at its node, whose frames are in the box; every other node is as it was
pub record DidAt (old new : List (Option MemberState)) (by : By) (event : WorldEvent) (bytes : List ℕ)
    (box box' : Out) (answered : Answer) : Type 0 where
  pub before : MemberState
  pub after : MemberState
  pub was : slice_index_or old (node_of event) None ≡ Some before
  pub new_is : new ≡ slice_set old (node_of event) (Some after)
  pub did : Did by event bytes before after box box' answered

-- a node without links and history came in under the number n, in this boot, and every other is as it was
pub record JoinsAt (old new : List (Option MemberState)) (n boot : ℕ) : Type 0 where
  pub newcomer : MemberState
  pub fresh : IsNewcomer newcomer n boot
  pub here : slice_index_or new n None ≡ Some newcomer
  pub others : (m : ℕ) → m ≢ n → slice_index_or new m None ≡ slice_index_or old m None

-- each node has a number and its address, and knows none but the 32 nodes
pub record IsSettledAt (m : MemberState) (n : ℕ) : Type 0 where
  pub from_one : 1 ≤ n
  pub to_32 : n ≤ 32
  pub own : m.node.own ≡ node_word n
  pub known : (peer : ℕ) → 32 < peer → neighbour_of m.node peer ≡ None

-- each node that is there is so
abbrev pub AreSettled : List (Option MemberState) → Type 0
AreSettled members = (n : ℕ) (m : MemberState) → slice_index_or members n None ≡ Some m → IsSettledAt m n
