-- Laws of the send window, for callers.
use Rattle.std.specs.Prelude.{◌≡◌, ℕ, ◌+◌, ◌-◌, ◌<◌, ◌≤◌, ◌^◌, List, ◌++◌, length, drop, slice_get, Some}
use Rattle.tipc_types.specs.Position.{number_of}
use Rattle.tipc_send_window.specs.Sending.{acked_of, acknowledged, IsSending, kept_of, moved, offered, released, Sending}

-- the number of a position that was numbered, at most 32,000 before the last one, releases just the packets up to it
abbrev pub AcknowledgesByPosition : Type 0
AcknowledgesByPosition = (s : Sending) (position : ℕ)
    → IsSending s → position ≤ s.numbered → s.numbered ≤ position + 32000
    → acknowledged s (number_of position) ≡ released s (position - acked_of s)

-- a number that no unacknowledged packet has releases none
abbrev pub OthersReleaseNothing : Type 0
OthersReleaseNothing = (s : Sending) (number : ℕ)
    → IsSending s → number < 2 ^ 16
    → ((position : ℕ) → acked_of s < position → position ≤ s.numbered → number_of position ≡ number → ⊥)
    → acknowledged s number ≡ s

-- the packets that are neither acknowledged nor taken back, in order
abbrev pub queue_of : Sending → List (List ℕ)
queue_of s = s.unacked ++ s.waiting

-- what is offered stands behind the queue, numbering moves nothing in it, and an acknowledgement takes its first
-- packets
pub record KeepsOrder : Type 0 where
  pub offer : (s : Sending) (pieces : List (List ℕ)) → queue_of (offered s pieces) ≡ queue_of s ++ pieces
  pub due : (s : Sending) → queue_of (moved s) ≡ queue_of s
  pub acknowledge : (s : Sending) (n : ℕ) → n ≤ length s.unacked → queue_of (released s n) ≡ drop n (queue_of s)

-- which number each unacknowledged packet has: that of its position
abbrev pub ShowsNumbers : Type 0
ShowsNumbers = (s : Sending) (i : ℕ) (packet : List ℕ)
    → slice_get s.unacked i ≡ Some packet
    → slice_get (kept_of s) i ≡ Some (record { number = number_of (acked_of s + i + 1); packet = packet })
