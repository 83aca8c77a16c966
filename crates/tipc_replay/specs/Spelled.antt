-- Which arrivals spell a message that was delivered, over bytes and the grammar alone.
use Rattle.std.specs.Prelude.{◌≡◌, ◌≤◌, ℕ, List, Some, slice_get}
use Rattle.tipc_types.specs.declared.identity.Addr.{Addr}
use Rattle.tipc_types.specs.declared.identity.To.{To}
use Rattle.tipc_types.specs.declared.identity.To.TheVariants as to
use Rattle.tipc_types.specs.declared.message_forms.Flow.{Flow}
use Rattle.tipc_types.specs.declared.message_forms.Flow.TheVariants.{Broadcast}
use Rattle.tipc_types.specs.declared.message_forms.Message.{Message}
use Rattle.tipc_types.specs.declared.node_calls.EventNote.TheVariants as event
use Rattle.tipc_journal.specs.declared.entries.Entry.{Entry}
use Rattle.tipc_journal.specs.declared.entries.Entry.TheVariants as entry
use Rattle.tipc_journal.specs.Steps.{steps, NodeStep, PlacedStep}
use Rattle.tipc_header.specs.Frames.{frame_of}
use Rattle.tipc_header.specs.Grammar.{Fits}
use Rattle.tipc_header.specs.Spelling.{Fields, spelling}
use Rattle.tipc_link.specs.Sessions.{as_waiting}
use Rattle.tipc_pair.specs.PairArrivals.{IsTunnelOf, restored}
use Rattle.tipc_reassembly.specs.Tracing.{IsTraced}
use Rattle.tipc_tunnel.specs.Tunnels.{Tunnelled}
use Rattle.tipc_node.specs.Messages.{bytes_of}
use Rattle.tipc_replay.specs.declared.air.Sent.{Sent}
use Rattle.tipc_replay.specs.Causes.{arrived_frame, Seen}
use Rattle.tipc_replay.specs.Skies.{AirState}
use Rattle.tipc_replay.specs.States.{MemberState, journals_of}

-- What a packet brings: itself, as it waited before it was numbered; and, where it is a tunnel packet, the packet inside, as that waited
-- on its own link.
pub data Brings (packet : Fields) : List ℕ → Type 0 where
  itself : Brings packet (spelling (as_waiting packet))
  inside : (t : Tunnelled) → IsTunnelOf (spelling (as_waiting packet)) t → Brings packet (restored t.inner)

-- what a message of this flow came in was sent for: a broadcast for all, and any other for one node
abbrev pub IsSentIn : Flow → To → Type 0
IsSentIn Broadcast t = t ≡ to.All
IsSentIn flow t = (address : Addr) × (t ≡ to.Node address)

-- The arrival of that number at the node was of a frame that the peer sent, for whom the flow asks, which brought this packet.
pub record HasBrought (seen : Seen) (flow : Flow) (peer : Addr) (by : ℕ) (bytes : List ℕ) : Type 0 where
  pub bearer : ℕ
  pub frame : Sent
  pub arrived : arrived_frame seen bearer by ≡ Some frame
  pub from : frame.from.word ≡ peer.word
  pub sent : IsSentIn flow frame.to
  pub es : ℕ
  pub er : ℕ
  pub packet : Fields
  pub fits : Fits packet
  pub frame_is : frame.frame ≡ frame_of es er (spelling packet)
  pub brings : Brings packet bytes

-- the arrival of that number was in this step, or before it
pub record IsBy (s : NodeStep) (by : ℕ) : Type 0 where
  pub bearer : ℕ
  pub number : ℕ
  pub event_is : s.event ≡ event.Arrive bearer number
  pub until : by ≤ number

-- These arrivals, in order, spell a message of a flow as the peer sends it: its packet came alone or in a bundle by the one, or its fragments came by all of them. They
-- were in this step or before it, of frames that the peer sent.
abbrev pub IsSpelled : Seen → NodeStep → Flow → Addr → Message → List ℕ → Type 0
IsSpelled seen s flow peer message by = IsTraced (λ number packet. HasBrought seen flow peer number packet × IsBy s number) (bytes_of peer.word message) by

-- each message that was delivered at a node, in all its boots, is spelled by the arrivals that stand beside it
abbrev pub AreSpelled : AirState → MemberState → Type 0
AreSpelled air m =
    (k : ℕ) (journal : List Entry) → slice_get (journals_of m) k ≡ Some journal
    → (i : ℕ) (s : PlacedStep) → slice_get (steps journal) i ≡ Some s
    → (place : ℕ) (peer : Addr) (numbers : ℕ × ℕ) (flow : Flow) (message : Message) (by : List ℕ)
    → slice_get s.step.inside place ≡ Some (entry.Delivered peer numbers flow message by)
    → IsSpelled (record { air = air; arrivals = m.arrivals }) s.step flow peer message by
