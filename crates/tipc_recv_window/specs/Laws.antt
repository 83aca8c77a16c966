-- Laws of the receive window, for callers.
use Rattle.std.specs.Prelude.{◌≡◌, ◌≢◌, ℕ, ◌+◌, ◌-◌, ◌<◌, ◌≤◌, ◌↔◌, Some, None}
use Rattle.tipc_types.specs.Position.{number_of}
use Rattle.tipc_types.specs.declared.packet_lists.Taken.{Taken}
use Rattle.tipc_types.specs.Limits.{window_size}
use Rattle.tipc_recv_window.specs.declared.outcomes.Place.TheVariants.{InOrder, Deferred, Old}
use Rattle.tipc_recv_window.specs.Receiving.{advanced, arrived_at, held_at, IsReceiving, next_of, past_wanted, place_at, Receiving}

-- two positions at most 32,000 apart that have the same number of 16 bits are the same
abbrev pub NumbersTellPositions : Type 0
NumbersTellPositions = (p q : ℕ) → p ≤ q + 32000 → q ≤ p + 32000 → number_of p ≡ number_of q → p ≡ q

-- what a packet of a position does at a window that wants another
pub record ArrivesByPosition (r : Receiving) (wanted position : ℕ) (packet : Taken) : Type 0 where
  pub place : wanted ≤ position → place_at r (past_wanted r (number_of position)) ≡ place_at r (position - wanted)
  pub after : wanted ≤ position → arrived_at r (past_wanted r (number_of position)) packet ≡ arrived_at r (position - wanted) packet
  pub behind : position < wanted → place_at r (past_wanted r (number_of position)) ≡ Old
  pub unchanged : position < wanted → arrived_at r (past_wanted r (number_of position)) packet ≡ r

-- A packet within 32,000 positions of the wanted one does what the distance of the positions says. The window may count
-- from elsewhere, as long as it wants the same number.
abbrev pub AllArriveByPosition : Type 0
AllArriveByPosition = (r : Receiving) (wanted position : ℕ) (packet : Taken)
    → number_of wanted ≡ number_of r.wanted → position ≤ wanted + 32000 → wanted ≤ position + 32000
    → ArrivesByPosition r wanted position packet

-- the answer to a packet of a position at a window that wants another
pub record AnswersByPosition (r : Receiving) (wanted position : ℕ) : Type 0 where
  pub in_order : (place_at r (past_wanted r (number_of position)) ≡ InOrder)
      ↔ ((position ≡ wanted) × (held_at r 0 ≡ None))
  pub deferred : (place_at r (past_wanted r (number_of position)) ≡ Deferred)
      ↔ ((wanted < position) × (position < wanted + window_size) × (held_at r (position - wanted) ≡ None))

-- A packet within 32,000 positions of the wanted one is answered by the distance of the positions. The window may count
-- from elsewhere, as long as it wants the same number.
abbrev pub AllAnswersByPosition : Type 0
AllAnswersByPosition = (r : Receiving) (wanted position : ℕ)
    → number_of wanted ≡ number_of r.wanted → position ≤ wanted + 32000 → wanted ≤ position + 32000
    → AnswersByPosition r wanted position

-- how packets are held by their distance from the wanted one, and how they come nearer
pub record HoldsByPosition : Type 0 where
  -- a packet that isn't old is held at its distance
  pub arrival : (r : Receiving) (d : ℕ) (packet : Taken) → (place_at r d ≡ Old → ⊥) → held_at (arrived_at r d packet) d ≡ Some packet
  -- the others stay
  pub others : (r : Receiving) (d k : ℕ) (packet : Taken) → k ≢ d → held_at (arrived_at r d packet) k ≡ held_at r k
  -- an old packet changes nothing
  pub old : (r : Receiving) (d : ℕ) (packet : Taken) → place_at r d ≡ Old → arrived_at r d packet ≡ r
  -- an arrival never moves the window
  pub stays : (r : Receiving) (d : ℕ) (packet : Taken) → (arrived_at r d packet).wanted ≡ r.wanted
  -- when the wanted packet was taken, the others are one nearer
  pub taken : (r : Receiving) (d : ℕ) → held_at (advanced r) d ≡ held_at r (d + 1)
  -- the packet that is taken has the number of the wanted position
  pub number : (r : Receiving) (packet : Taken) → IsReceiving r → next_of r ≡ Some packet → packet.number ≡ number_of r.wanted
