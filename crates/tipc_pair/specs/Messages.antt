-- What a pair makes of messages: the packets in which one is sent, and what an arrival gives and leaves begun.
use Rattle.std.specs.Prelude.{◌≡◌, ℕ, true, List, [], ◌∷◌, length, nat_le, if◌then◌else◌, None}
use Rattle.tipc_types.specs.declared.link_words.Why.{Why}
use Rattle.tipc_types.specs.declared.packet_lists.Taken.{Taken}
use Rattle.tipc_types.specs.Limits.{most_packet_bytes}
use Rattle.tipc_header.specs.Frames.{sent_as}
use Rattle.tipc_header.specs.Grammar.{Fits}
use Rattle.tipc_header.specs.Spelling.{Fields, spelling}
use Rattle.tipc_bundle.specs.Bundles.{may_stand_inside}
use Rattle.tipc_fragments.specs.Cutting.{packets_of}
use Rattle.tipc_fragments.specs.Joining.{Joining}
use Rattle.tipc_recv_window.specs.declared.outcomes.LinkOutcome.{LinkOutcome}
use Rattle.tipc_reassembly.specs.declared.opening.Opened.{Opened}
use Rattle.tipc_reassembly.specs.Opening.{BringsAll}
use Rattle.tipc_pair.specs.declared.changes.PairOutcome.{PairOutcome}
use Rattle.tipc_header.specs.Faults.{fault_of}
use Rattle.tipc_reassembly.specs.declared.opening.Opened.TheVariants.{Whole, Passed}

-- ---- what an arrival gives

-- what is given of what a link made of an arrival, and the message that is begun then
pub data OpensTo (begun : Joining) : LinkOutcome → PairOutcome → Joining → Type 0 where
  took : {taken : List Taken} {opened : List Opened} {last : Joining} → BringsAll begun taken opened last → OpensTo begun (LinkOutcome.Took taken) (PairOutcome.Took opened) last
  deferred : OpensTo begun LinkOutcome.Deferred PairOutcome.Deferred begun
  ignored : {reason : Why} → OpensTo begun (LinkOutcome.Ignored reason) (PairOutcome.Ignored reason) begun

-- what came of the packets that were taken
abbrev pub opened_in : PairOutcome → List Opened
opened_in (PairOutcome.Took opened) = opened
opened_in other = []

-- a whole packet breaks no rule of the header
abbrev pub HasNoFault : Opened → Type 0
HasNoFault (Whole packet by) = fault_of packet ≡ None
HasNoFault (Passed place) = Unit {0}

-- ---- messages

-- a message's packet as it waits to be sent by this node: payload, or name items
pub record IsMessage (own : ℕ) (bytes : List ℕ) : Type 0 where
  pub packet : Fields
  pub spelled : bytes ≡ spelling packet
  pub fits : Fits packet
  pub waits : packet ≡ sent_as 0 0 own packet
  pub inside : may_stand_inside packet.header ≡ true

-- the packets in which a message is sent: its own, or its fragments
unfoldable pub pieces_for : List ℕ → List (List ℕ)
pieces_for message = if nat_le (length message) most_packet_bytes then message ∷ [] else packets_of message
