-- The receiving record of a link end: what was received of the peer under one of its epochs. It outlives the session in which that came.
use Rattle.std.specs.Prelude.{ℕ, ◌+◌, ◌-◌, Bool, true, false, List, [], ◌∷◌, Option, Some, None, is_none, length, drop, nat_lt, ◌==◌, ◌&&◌, if◌then◌else◌}
use Rattle.tipc_types.specs.Position.{number_of}
use Rattle.tipc_types.specs.declared.link_words.Why.TheVariants as why
use Rattle.tipc_types.specs.declared.packet_lists.Taken.{Taken}
use Rattle.tipc_types.specs.Limits.{window_size}
use Rattle.tipc_header.specs.declared.packet.Header.{Header}
use Rattle.tipc_header.specs.declared.packet.Header.TheVariants as header
use Rattle.tipc_header.specs.Faults.{fault_of}
use Rattle.tipc_header.specs.Reading.{fields_at}
use Rattle.tipc_recv_window.specs.declared.outcomes.LinkOutcome.{LinkOutcome}
use Rattle.tipc_recv_window.specs.Receiving.{Receiving, drained, past_wanted, run_of, with_packet}

-- the receiving record of a link end, as contracts see it
pub record Received : Type 0 where
  -- the peer's epoch
  pub epoch : ℕ
  -- how many packets of the peer were taken, and what is held of those behind them
  pub taken : ℕ
  pub held : List (Option Taken)
  -- the position that the next packet of the peer will have, as far as the peer has shown
  pub shown : ℕ

-- a new record
abbrev pub unheard : ℕ → Received
unheard epoch = record { epoch = epoch; taken = 0; held = []; shown = 1 }

-- what tunnel packets brought before there was a session: none of it is held, and the peer has shown nothing
pub record Early : Type 0 where
  pub epoch : ℕ
  pub taken : ℕ

-- what is kept of a record that was made before there was a session
abbrev pub early_of : Received → Early
early_of r = record { epoch = r.epoch; taken = r.taken }

-- what tunnel packets brought before there was a session, as a record
abbrev pub early_record : Early → Received
early_record a = record { epoch = a.epoch; taken = a.taken; held = []; shown = 1 }

-- its receive window
abbrev pub window_of : Received → Receiving
window_of r = record { wanted = r.taken + 1; held = r.held }

-- the record whose window takes what a packet frees, or holds it
abbrev pub with_coming : Received → Taken → Received
with_coming r t =
    let w = drained (with_packet (window_of r) t) in
    record { epoch = r.epoch; taken = w.wanted - 1; held = w.held; shown = r.shown }

-- a link that goes up keeps the record of the peer's epoch, and makes a new one where it has none of that epoch
abbrev pub kept_for : Option Received → ℕ → Received
kept_for None epoch = unheard epoch
kept_for (Some r) epoch = if r.epoch == epoch then r else unheard epoch

-- ---- tunnel packets on their own link

-- whether this is the header of a tunnel packet
abbrev pub is_changeover : Header → Bool
is_changeover (header.Changeover c) = true
is_changeover _ = false

-- whether the bytes are a tunnel packet
unfoldable pub is_tunnel : List ℕ → Bool
is_tunnel packet = is_none (fault_of packet) && is_changeover (fields_at packet).header

-- a tunnel packet that isn't the wanted one: it doesn't wait for those before it
unfoldable pub is_early_tunnel : Receiving → Taken → Bool
is_early_tunnel w t = is_tunnel t.packet && nat_lt 0 (past_wanted w t.number)

-- how far a packet stands from the wanted one: a tunnel packet that isn't wanted counts as one that lies behind the window
unfoldable pub standing : Receiving → Taken → ℕ
standing w t = if is_early_tunnel w t then window_size else past_wanted w t.number

-- ---- packets that come through the other link

-- a tunnel packet names an epoch of the peer: where that is above the record's, and where there is no record, a new one is made
abbrev pub named : Option Received → ℕ → Received
named None epoch = unheard epoch
named (Some r) epoch = if nat_lt r.epoch epoch then unheard epoch else r

-- a packet of this epoch is the wanted one
unfoldable pub is_next : Received → ℕ → Taken → Bool
is_next r epoch t = (epoch == r.epoch) && (t.number == number_of (r.taken + 1))

-- what can be taken with the wanted packet: it, and those behind it that are held
abbrev pub freed : Received → Taken → List Taken
freed r t = t ∷ run_of (drop 1 r.held)

-- all of them were taken
abbrev pub advanced_by : Received → Taken → Received
advanced_by r t = record { epoch = r.epoch; taken = r.taken + length (freed r t); held = drop (length (freed r t)) r.held; shown = r.shown }

-- the record after a packet of this epoch, and what that brings: it is taken where it is the wanted one, and is old else
abbrev pub tunnelled : Received → ℕ → Taken → Received
tunnelled r epoch t = if is_next r epoch t then advanced_by r t else r

-- what the arrival of a packet that comes through the other link answers
abbrev pub tunnelled_outcome : Received → ℕ → Taken → LinkOutcome
tunnelled_outcome r epoch t = if is_next r epoch t then LinkOutcome.Took (freed r t) else LinkOutcome.Ignored why.Old

-- the bytes of an inner packet; a placeholder has none
abbrev pub bytes_of : Option (List ℕ) → List ℕ
bytes_of None = []
bytes_of (Some packet) = packet
