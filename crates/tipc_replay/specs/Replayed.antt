-- What is promised of nodes and the air between them, whatever happens to them.
use Rattle.std.specs.Prelude.{◌≡◌, ◌≢◌, ◌≤◌, ℕ, List, [], Option, Some, None, length, slice_get, slice_index_or}
use Rattle.std.specs.List.Sorted.{IsStrictlySortedBy}
use Rattle.std.specs.Ordering.{nat_cmp}
use Rattle.tipc_types.specs.Address.{node_word}
use Rattle.tipc_types.specs.Prefixes.{IsPrefixOf}
use Rattle.tipc_types.specs.declared.message_forms.Flow.{Flow}
use Rattle.tipc_types.specs.Limits.{most_frame_bytes}
use Rattle.tipc_casters.specs.Views.{AreCastTrue}
use Rattle.tipc_node.specs.Turns.{addr_of}
use Rattle.tipc_two_nodes.specs.Truth.{AreTrue}
use Rattle.tipc_replay.specs.declared.air.Sent.{Sent}
use Rattle.tipc_replay.specs.Addressed.{IsAddressed, IsPacketOf}
use Rattle.tipc_replay.specs.Lawful.{AreLawful, HasBegun}
use Rattle.tipc_replay.specs.Answered.{AllAnswered}
use Rattle.tipc_replay.specs.Casters.{caster_at}
use Rattle.tipc_replay.specs.Ends.{AllNameEnded, HaveLowNumbers, HaveRightEnds}
use Rattle.tipc_replay.specs.Entered.{numbers_entered}
use Rattle.tipc_replay.specs.Received.{AreReceived}
use Rattle.tipc_replay.specs.Skies.{AirState, air_on}
use Rattle.tipc_replay.specs.Sound.{IsNumber}
use Rattle.tipc_replay.specs.Spelled.{AreSpelled}
use Rattle.tipc_replay.specs.Tables.{AreTables}
use Rattle.tipc_replay.specs.Told.{IsToldOf}
use Rattle.tipc_replay.specs.States.{MemberState, accepted_at, delivered_at, history_at}
use Rattle.tipc_replay.specs.Views.{sight_at}

-- A frame is true: one of the 32 nodes sent it, it is addressed by its kind, it has at most 1,516 bytes, and it is a packet of its sender under an
-- envelope.
pub record IsTrue (f : Sent) : Type 0 where
  pub a : ℕ
  pub number : IsNumber a
  pub from_is : f.from.word ≡ node_word a
  pub addressed : IsAddressed a f.frame f.to
  pub size : length f.frame ≤ most_frame_bytes
  pub said : IsPacketOf a f.frame

-- What is always true of nodes and the air between them: the promises of this project that speak of no chooser and of no count of stamps, one
-- each.
pub record IsReplayed (members : List (Option MemberState)) (air : AirState) : Type 0 where
  -- A node has a number from 1 to 32, and its address is that of its number.
  pub numbered : (n : ℕ) (m : MemberState) → slice_index_or members n None ≡ Some m → IsNumber n × (m.node.own ≡ node_word n)
  -- For all nodes a and b, each contact and each flow: what was ever delivered at b from a is a prefix of what a ever accepted for b.
  pub prefix : (a b a_number b_number : ℕ) (flow : Flow) →
      IsPrefixOf (delivered_at members b a b_number a_number flow) (accepted_at members a b a_number b_number flow)
  -- Where anything was delivered in a contact, both nodes entered it: a contact that only one side entered has nothing delivered.
  pub entered : (a b a_number b_number : ℕ) (flow : Flow) → delivered_at members b a b_number a_number flow ≢ [] →
      HasBegun (history_at members a) (record { word = node_word b }) (a_number, b_number)
      × HasBegun (history_at members b) (record { word = node_word a }) (b_number, a_number)
  -- For each node and each other one: over all its boots the numbers under which it entered contacts with it rise, so none was entered twice.
  pub fresh : (a b : ℕ) → IsStrictlySortedBy nat_cmp (numbers_entered (history_at members a) (addr_of b))
  -- For each node, in all its boots: each frame that arrived there is in the air, and was for that node.
  pub received : AreReceived members air
  -- For each node, in all its boots: each message that was delivered is spelled by frames that arrived there in that step or before, and
  -- that the peer sent: in flow Broadcast to all, and in any other one to that node.
  pub spelled : (n : ℕ) (m : MemberState) → slice_index_or members n None ≡ Some m → AreSpelled air m
  -- Every frame in the air is true.
  pub frames : (bearer k : ℕ) (f : Sent) → slice_get (air_on bearer air) k ≡ Some f → IsTrue f
  -- What the STATEs and numbered packets between any two nodes say of the contact whose numbers stand beside them is so: there are packets
  -- that the two numbered, by bearer and session, and for each contact and direction one list of slots, which have what was accepted, and
  -- of which the first so many were taken and gave what was delivered; what such a packet carries was numbered in its session, whose packets
  -- hold slots of the list in order or are tunnel packets; and what it acknowledges holds slots that were taken.
  pub truth : (a b : ℕ) → IsNumber a → IsNumber b → a ≢ b
      → AreTrue (sight_at members air a b) (sight_at members air b a)
  -- What each node accepted for broadcast are packets, in each boot one list: those for a node in a contact are of the messages that were accepted for
  -- it there in flow Broadcast. And each broadcast frame of the node in the air brings one of them, for just the nodes for which it was accepted.
  pub casts : (a : ℕ) → IsNumber a → AreCastTrue (caster_at members air a)
  -- For each node and each of its boots: each link that went down shows its cause, each contact that ended stands where no link is up, and
  -- messages are accepted and delivered in the contact in which the node is.
  pub lawful : (n : ℕ) (m : MemberState) → slice_index_or members n None ≡ Some m → AreLawful air m
  -- For all nodes a and b, the contact of a with b and its links to b that are up are those that the present journal of a tells.
  pub told : (a b : ℕ) → IsToldOf members a b
  -- Nodes whose name items are all delivered hold one another's live publications that are seen in the cluster.
  pub tables : AreTables members
  -- For each node and each of its boots: each call has a licensed answer, and each message its fate. A message by name went to one of the
  -- matches.
  pub answered : AllAnswered members
  -- The link ends of each node are right: none was silent for more than 4 ticks, or up on a cut bearer, and no contact number or epoch is further above
  -- the first one of the boot than the journal has entries.
  pub ends : HaveRightEnds members
  -- The counts in the contact numbers and the epochs of each node are below 4,000,000,000, whatever has happened.
  pub low : HaveLowNumbers members
  -- An original tunnel packet that waits or is unacknowledged at a node names a session that is over: its epoch is below the own epoch of the link end
  -- on the bearer that it names.
  pub originals : AllNameEnded members
