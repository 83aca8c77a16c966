-- A receiving record outlives the session of its sender: what it has of the packets that were numbered in that session, while both ends
-- are up and once the sender's link fell, when the last of them come through the other link.
use Rattle.std.specs.Prelude.{◌≡◌, ℕ, ◌+◌, ◌-◌, ◌<◌, ◌≤◌, List, Some, length, map, take, drop, slice_get}
use Rattle.tipc_types.specs.Position.{number_of}
use Rattle.tipc_types.specs.declared.packet_lists.Taken.{Taken}
use Rattle.tipc_types.specs.Limits.{most_age, window_size}
use Rattle.tipc_recv_window.specs.declared.outcomes.LinkOutcome.{LinkOutcome}
use Rattle.tipc_link.specs.Records.{Received, kept_for, named, tunnelled, tunnelled_outcome}
use Rattle.tipc_link.specs.Sessions.{SessionEnd, brought, receiving_record, took}
use Rattle.tipc_link.specs.Direction.{IsCarried, IsReceiver}
use Rattle.tipc_link.specs.Laws.{AreJoined, Side}

-- The record is of the session in which these packets were numbered: it holds some of them, each at its place behind those that were taken,
-- and but for 50 packets all were taken.
pub record IsOf (r : Received) (line : List (List ℕ)) : Type 0 where
  pub receiver : IsReceiver r.held r.taken line
  pub within : r.taken ≤ length line
  pub near : length line ≤ r.taken + window_size

-- a packet, or a placeholder, of one of the last 50 packets that were numbered
pub record IsLate (line : List (List ℕ)) (t : Taken) : Type 0 where
  pub position : ℕ
  pub positive : 1 ≤ position
  pub number_is : t.number ≡ number_of position
  pub sent : position ≤ length line
  pub recent : length line < position + window_size

-- the record of an end that is joined with the sender
abbrev pub JoinedAreOf : Type 0
JoinedAreOf = (a b : Side) → AreJoined a b → IsOf (receiving_record b.end) a.line

-- it stays so when a packet comes through the other link, or a placeholder, or a packet of an older session
abbrev pub TunnelsStayOf : Type 0
TunnelsStayOf = (r : Received) (line : List (List ℕ)) (epoch : ℕ) (t : Taken) → IsOf r line → epoch ≤ r.epoch → IsLate line t
    → IsOf (tunnelled (named (Some r) epoch) epoch t) line

-- and what is taken then are the next packets of the session, in order
abbrev pub TunnelsTakeNext : Type 0
TunnelsTakeNext = (r : Received) (line : List (List ℕ)) (epoch : ℕ) (t : Taken) (due : List Taken) → IsOf r line → epoch ≤ r.epoch
    → (l : IsLate line t) → slice_get line (l.position - 1) ≡ Some t.packet → tunnelled_outcome (named (Some r) epoch) epoch t ≡ LinkOutcome.Took due
    → take (length due) (drop r.taken line) ≡ map (λ (u : Taken). u.packet) due

-- and when a frame of the session that isn't too old arrives itself
abbrev pub FramesStayOf : Type 0
FramesStayOf = (e : SessionEnd) (line : List (List ℕ)) (numbered number by : ℕ) (packet : List ℕ) → IsOf (receiving_record e) line
    → numbered ≤ length line → length line ≤ numbered + most_age → IsCarried line numbered number packet
    → IsOf (receiving_record (took e (brought number packet by))) line

-- a link that goes up under the record's own epoch keeps it
abbrev pub OwnEpochKeeps : Type 0
OwnEpochKeeps = (r : Received) → kept_for (Some r) r.epoch ≡ r

-- no tunnel packet takes a record back to a lower epoch
abbrev pub NamesNeverLower : Type 0
NamesNeverLower = (r : Received) (epoch : ℕ) → r.epoch ≤ (named (Some r) epoch).epoch
