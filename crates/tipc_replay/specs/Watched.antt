-- What every world keeps besides: each journal is lawful, and each link as silent as the steps of its node tell.
use Rattle.std.specs.Prelude.{◌≡◌, ℕ, All, IfSome, List, Option, Some, None, slice_index_or}
use Rattle.tipc_types.specs.declared.message_forms.Flow.TheVariants.{Broadcast, Zero}
use Rattle.tipc_reassembly.specs.Tracing.{IsBegunBy}
use Rattle.tipc_broadcast.specs.declared.contacts.Contact.{Contact}
use Rattle.tipc_journal.specs.declared.entries.Entry.{Entry}
use Rattle.tipc_journal.specs.Steps.{steps}
use Rattle.tipc_link.specs.Links.{LinkEnd}
use Rattle.tipc_node.specs.declared.neighbours.Neighbour.{Neighbour}
use Rattle.tipc_pair.specs.LinkReadings.{silence_in}
use Rattle.tipc_pair.specs.Held.{CameBy}
use Rattle.tipc_node.specs.Nodes.{NodeState, kept}
use Rattle.tipc_node.specs.Turns.{addr_of}
use Rattle.tipc_replay.specs.Causes.{HasTicked, Seen}
use Rattle.tipc_replay.specs.Lawful.{AreLawful}
use Rattle.tipc_replay.specs.Spelled.{HasBrought}
use Rattle.tipc_replay.specs.Skies.{AirState}
use Rattle.tipc_replay.specs.States.{MemberState, link_in}
use Rattle.tipc_pair.specs.Traces.{KeepsBy}

-- for each node p at least so many ticks stand in a journal as the link to p on a bearer was silent, since it was last heard there
abbrev pub AreTicked : Seen → List Entry → (ℕ → ℕ → Option LinkEnd) → Type 0
AreTicked seen journal links = (p bearer : ℕ) → HasTicked seen (steps journal) (addr_of p) bearer (silence_in (links p bearer))

-- what a node has of its peers and hasn't delivered yet was brought by frames that they sent
abbrev pub AreTraced : Seen → List (Option Neighbour) → Type 0
AreTraced seen xs = (p : ℕ) (x : Neighbour) → slice_index_or xs p None ≡ Some x
    → KeepsBy (HasBrought seen Zero (addr_of p)) x.pair

-- what a node holds of the broadcast of a peer was brought by frames that it sent to all
abbrev pub IsHeldBy : Seen → Contact → Type 0
IsHeldBy seen c = IfSome c.window (λ r. All (CameBy (HasBrought seen Broadcast c.peer)) r.held)

-- so was what it holds of each, and the message that is begun of each
pub record AreCastsTraced (seen : Seen) (n : NodeState) : Type 0 where
  pub held : All (IsHeldBy seen) n.casting.contacts
  pub begun : (b : ℕ) → IsBegunBy (HasBrought seen Broadcast (addr_of b)) (kept n b).casts

-- what is always true of a node's journals and of what it holds, by the frames that are in the air and those that arrived
pub record IsWatched (air : AirState) (m : MemberState) : Type 0 where
  pub lawful : AreLawful air m
  pub ticked : AreTicked (record { air = air; arrivals = m.arrivals }) m.node.journal (link_in m.node)
  pub traced : AreTraced (record { air = air; arrivals = m.arrivals }) m.node.neighbours
  pub casts : AreCastsTraced (record { air = air; arrivals = m.arrivals }) m.node

-- it is true of each node that is there
abbrev pub AreWatched : List (Option MemberState) → AirState → Type 0
AreWatched members air = (n : ℕ) (m : MemberState) → slice_index_or members n None ≡ Some m → IsWatched air m
