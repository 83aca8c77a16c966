-- The receiving records of a node's two link ends, and how they stand for a state of two links and their tunnels.
use Rattle.std.specs.Prelude.{◌≡◌, ◌<◌, ◌≤◌, ◌⊎◌, ℕ, ◌+◌, ◌-◌, ◌++◌, Bool, true, false, List, Option, Some, None, length, map, slice_get, slice_index_or, take, []}
use Rattle.tipc_types.specs.declared.packet_lists.Taken.{Taken}
use Rattle.tipc_link.specs.Direction.{IsReceiver}
use Rattle.tipc_link.specs.Links.{LinkEnd, record_of}
use Rattle.tipc_link.specs.Records.{Received, is_tunnel}
use Rattle.tipc_pair.specs.Facing.{PairEnds}
use Rattle.tipc_pair.specs.PairArrivals.{with_bytes}
use Rattle.tipc_changeover.specs.Links.{Bearer, Receiver, State}
use Rattle.tipc_changeover.specs.Events.{after_next}
use Rattle.tipc_types.specs.Position.{number_of}
use Rattle.tipc_two_nodes.specs.links.Following.{ReceiverFollows}
use Rattle.tipc_two_nodes.specs.links.Packets.{AreFor, IsFor}
use Rattle.tipc_two_nodes.specs.links.Sending.{beside}
use Rattle.tipc_two_nodes.specs.links.Traffic.{Lines, Traffic}

-- the records of both ends, seen from one of them
pub record Records : Type 0 where
  pub near : Option Received
  pub far : Option Received

-- the receiving record of an end; none where no end was made
abbrev pub record_at : Option LinkEnd → Option Received
record_at None = None
record_at (Some e) = record_of e

-- the receiving records of both ends of a pair
abbrev pub records_of : PairEnds → Records
records_of y = record { near = record_at y.near; far = record_at y.far }

-- A record of a session of the sender's: so many of its packets were taken, and some of those behind them are held.
-- None of these is a tunnel packet, and each has bytes.
pub record IsSessionRecord (l : Lines) (a : Received) (r : Receiver) : Type 0 where
  pub begun : 1 ≤ r.session
  pub epoch : l.first + r.session ≡ a.epoch + 1
  pub taken : r.taken ≡ a.taken
  pub holds : IsReceiver a.held a.taken (l.line r.session)
  pub plain : (d : ℕ) (t : Taken) → slice_index_or a.held d None ≡ Some t
      → (is_tunnel t.packet ≡ false) × (1 ≤ length t.packet)

-- there is no record, or it is of an older contact, or of a session of this one
abbrev pub IsRecordFor : Lines → Option Received → Receiver → Type 0
IsRecordFor l None r = r.session ≡ 0
IsRecordFor l (Some a) r = ((a.epoch < l.first) × (r.session ≡ 0)) ⊎ IsSessionRecord l a r

-- the packets that were put and numbered stand for the slots of a state, where the near link is on this bearer
pub record AreLines (bearer : ℕ) (t : Traffic) (s : State) : Type 0 where
  pub put : length t.put ≡ s.put
  pub near : (session : ℕ) → AreFor (IsFor t.put (beside bearer) t.far) (s.near.line session) (t.near.line session)
  pub far : (session : ℕ) → AreFor (IsFor t.put bearer t.near) (s.far.line session) (t.far.line session)

-- The records of the receiver, which took these packets in the contact, stand for the records of a state; and the
-- packets taken are the first ones that were put.
pub record ReceiveFor (y : Records) (t : Traffic) (taken : List (List ℕ)) (s : State) : Type 0 where
  pub near : IsRecordFor t.near y.near s.near_record
  pub far : IsRecordFor t.far y.far s.far_record
  pub first_ones : take (length s.delivered) t.put ≡ taken

-- the bytes of packets that were taken; a placeholder has none
abbrev pub bytes_in : List Taken → List (List ℕ)
bytes_in taken = map (λ (t : Taken). t.packet) (with_bytes taken)

-- packets stand in the line behind those that were taken
abbrev pub StandBehind : List (List ℕ) → ℕ → List (List ℕ) → Type 0
StandBehind line taken packets = (k : ℕ) (packet : List ℕ) → slice_get packets k ≡ Some packet
    → slice_get line (taken + k) ≡ Some packet

-- ---- a tunnel packet

-- what the packet inside is against the one at the place of which a tunnel packet speaks: that packet, or nothing for
-- a placeholder
pub record IsInside (line : List (List ℕ)) (place : ℕ) (full : Bool) (u : Taken) : Type 0 where
  pub number : u.number ≡ number_of place
  pub whole : (packet : List ℕ) → full ≡ true → slice_get line (place - 1) ≡ Some packet
      → (u.packet ≡ packet) × (1 ≤ length packet)
  pub empty : full ≡ false → u.packet ≡ []

-- A tunnel packet was taken at the near link, and the far record became this one: with what the packet inside frees
-- there, these packets were taken.
pub record TookTunnel (b : Bearer) (bearer : ℕ) (t : Traffic) (s : State) (far : Received)
    (freed : List Taken) : Type 0 where
  pub state : State
  pub takes : ReceiverFollows b s state
  pub lines : AreLines bearer t state
  pub near_is : state.near_record ≡ after_next s.near_record
  pub far_is : IsSessionRecord t.far far state.far_record
  pub longer : take (length state.delivered) t.put ≡ take (length s.delivered) t.put ++ bytes_in freed

-- ---- what follows

-- the near record became this one
pub record Recorded (b : Bearer) (bearer : ℕ) (t : Traffic) (s : State) (near : Received) : Type 0 where
  pub state : State
  pub takes : ReceiverFollows b s state
  pub lines : AreLines bearer t state
  pub near_is : IsSessionRecord t.near near state.near_record
  pub far_is : state.far_record ≡ s.far_record
  pub delivered : state.delivered ≡ s.delivered

-- so many more places were taken at the near link, and these packets
pub record TookMore (b : Bearer) (bearer : ℕ) (t : Traffic) (s : State) (count : ℕ)
    (packets : List (List ℕ)) : Type 0 where
  pub state : State
  pub takes : ReceiverFollows b s state
  pub lines : AreLines bearer t state
  pub near_is : state.near_record ≡ record { session = s.near_record.session; taken = s.near_record.taken + count }
  pub far_is : state.far_record ≡ s.far_record
  pub longer : take (length state.delivered) t.put ≡ take (length s.delivered) t.put ++ packets

-- ---- all packets that a link took

-- packets that the near link took are the next ones of a session; those behind the first are no tunnel packets, and
-- each that is none has bytes
pub record AreNext (line : List (List ℕ)) (before : ℕ) (taken : List Taken) : Type 0 where
  pub stand : StandBehind line before (map (λ (u : Taken). u.packet) taken)
  pub bytes : (k : ℕ) (u : Taken) → slice_get taken k ≡ Some u → is_tunnel u.packet ≡ false → 1 ≤ length u.packet
  pub plain : (k : ℕ) (u : Taken) → slice_get taken k ≡ Some u → 1 ≤ k → is_tunnel u.packet ≡ false

-- so many packets were taken at the near link, the far one has this record then, and these packets are to be opened
pub record TookAll (b : Bearer) (bearer : ℕ) (t : Traffic) (s : State) (count : ℕ) (far : Option Received)
    (carried : List Taken) : Type 0 where
  pub state : State
  pub takes : ReceiverFollows b s state
  pub lines : AreLines bearer t state
  pub near_is : state.near_record ≡ record { session = s.near_record.session; taken = s.near_record.taken + count }
  pub far_is : IsRecordFor t.far far state.far_record
  pub longer : take (length state.delivered) t.put ≡ take (length s.delivered) t.put ++ bytes_in carried
