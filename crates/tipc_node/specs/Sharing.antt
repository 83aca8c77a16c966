-- What a node and its peers know of one another's names: what it told a peer in their contact makes the peer hold what it has published,
-- and it holds what the peer told it.
use Rattle.std.specs.Prelude.{◌≡◌, ◌<◌, ℕ, false, List, [], Some, filter}
use Rattle.tipc_types.specs.Address.{node_word}
use Rattle.tipc_types.specs.declared.message_forms.Flow.TheVariants.{Zero}
use Rattle.tipc_types.specs.Tables.{is_of}
use Rattle.tipc_journal.specs.declared.entries.Entry.{Entry}
use Rattle.tipc_journal.specs.Contacts.{contact}
use Rattle.tipc_journal.specs.Names.{live}
use Rattle.tipc_journal.specs.Streams.{Stream, accepted, delivered}
use Rattle.tipc_name_dist.specs.Agreeing.{AreOwn}
use Rattle.tipc_name_dist.specs.Applying.{held_after}
use Rattle.tipc_pair.specs.Facing.{in_contact}
use Rattle.tipc_node.specs.Nodes.{NodeState, pair_with}
use Rattle.tipc_node.specs.Turns.{addr_of}
use Rattle.tipc_name_dist.specs.Told.{HasTold}

-- the messages of one contact with a peer: the node's own number, then the peer's
abbrev pub flow_with : ℕ → ℕ × ℕ → Stream
flow_with peer numbers = record { peer = addr_of peer; contact = numbers; flow = Zero }

-- nothing was accepted for a peer, or delivered from it, in a contact of this own number
abbrev pub IsUnused : List Entry → ℕ → ℕ → Type 0
IsUnused journal peer number = (theirs : ℕ)
    → (accepted journal (flow_with peer (number, theirs)) ≡ []) × (delivered journal (flow_with peer (number, theirs)) ≡ [])

-- so it is with a contact that is yet to begin: under a later number, and under the next one
pub record AreUnused (n : NodeState) : Type 0 where
  pub later : (b number : ℕ) → (pair_with n b).contact < number → IsUnused n.journal b number
  pub next : (b : ℕ) → in_contact (pair_with n b) ≡ false → IsUnused n.journal b (pair_with n b).contact

-- What a node told its peers of its names, and what it holds of theirs, is right in each contact that there is.
pub record SharesNames (n : NodeState) : Type 0 where
  -- its live publications are its own, each of a range that has instances
  pub own_names : AreOwn n.own (live n.journal)
  -- what it accepted for a peer in the present contact tells what it has published
  pub told : (b : ℕ) (numbers : ℕ × ℕ) → contact n.journal (addr_of b) ≡ Some numbers
      → HasTold n.own (live n.journal) (accepted n.journal (flow_with b numbers))
  -- it holds of a peer what was delivered from it in the present contact, applied
  pub holds : (b : ℕ) (numbers : ℕ × ℕ) → contact n.journal (addr_of b) ≡ Some numbers
      → filter (is_of (node_word b)) n.sockets.names ≡ held_after (node_word b) [] (delivered n.journal (flow_with b numbers))
  pub unused : AreUnused n
