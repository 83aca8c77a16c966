-- The receive window: packets that came before their turn, at their places behind the next number.
use Rattle.std.specs.Prelude.{◌≡◌, ℕ, ◌+◌, ◌-◌, ◌<◌, ◌≤◌, ◌^◌, ◌&&◌, ◌==◌, Bool, not, List, [], ◌∷◌, ◌++◌, length, drop, replicate, slice_index_or, slice_set, Option, Some, None, is_some, count_by, position, unwrap_or, nat_le, nat_lt, if◌then◌else◌}
use Rattle.tipc_types.specs.Position.{distance_of, number_of}
use Rattle.tipc_types.specs.declared.packet_lists.Taken.{Taken}
use Rattle.tipc_types.specs.declared.link_words.Why.TheVariants as why
use Rattle.tipc_types.specs.Limits.{window_size}
use Rattle.tipc_recv_window.specs.declared.outcomes.LinkOutcome.{LinkOutcome}
use Rattle.tipc_recv_window.specs.declared.outcomes.Place.{Place}
use Rattle.tipc_recv_window.specs.declared.outcomes.Place.TheVariants.{InOrder, Deferred, Old}

-- The receiving side of one direction of a link: the position of the packet that is wanted, and what is held of it
-- and of the packets behind it. What stands at place d is the packet d behind the wanted one.
pub record Receiving : Type 0 where
  pub wanted : ℕ
  pub held : List (Option Taken)

-- nothing is held yet
abbrev pub fresh : ℕ → Receiving
fresh wanted = record { wanted = wanted; held = [] }

-- the packet held at a distance from the wanted one
abbrev pub held_at : Receiving → ℕ → Option Taken
held_at r d = slice_index_or r.held d None

-- what is true of every receive window: a packet is held at the distance that its number tells
pub record IsReceiving (r : Receiving) : Type 0 where
  pub window : length r.held ≤ window_size
  pub counted : r.wanted + length r.held ≤ 2 ^ 62
  pub numbers : (d : ℕ) (packet : Taken) → held_at r d ≡ Some packet → packet.number ≡ number_of (r.wanted + d)

-- whether a packet at a distance is to be held: the wanted one and the next 49 are, unless they are held already
abbrev pub is_new : Receiving → ℕ → Bool
is_new r d = nat_lt d window_size && not (is_some (held_at r d))

-- the receiving rule
abbrev pub place_at : Receiving → ℕ → Place
place_at r d = if is_new r d then (if d == 0 then InOrder else Deferred) else Old

-- the list with a place filled; places that it didn't have are made empty
abbrev pub filled : List (Option Taken) → ℕ → Taken → List (Option Taken)
filled held d packet = slice_set (held ++ replicate (d + 1 - length held) None) d (Some packet)

-- after a packet at a distance: it is held, unless it is old
abbrev pub arrived_at : Receiving → ℕ → Taken → Receiving
arrived_at r d packet = if is_new r d then record { wanted = r.wanted; held = filled r.held d packet } else r

-- how far a number lies past the wanted one
abbrev pub past_wanted : Receiving → ℕ → ℕ
past_wanted r number = distance_of (number_of r.wanted) number

-- the wanted packet, if it is held
abbrev pub next_of : Receiving → Option Taken
next_of r = held_at r 0

-- after the wanted packet was taken: the next one is wanted
abbrev pub advanced : Receiving → Receiving
advanced r = record { wanted = r.wanted + 1; held = drop 1 r.held }

-- the wanted packet is taken, if it is held
abbrev pub after_take : Receiving → Receiving
after_take r = if is_some (next_of r) then advanced r else r

-- how many packets are held behind the wanted one
abbrev pub deferred_count : Receiving → ℕ
deferred_count r = count_by (λ packet. is_some packet) (drop 1 r.held)

-- the distance from the wanted packet to the first that is held, and 0 where none is
abbrev pub gap_of : Receiving → ℕ
gap_of r = unwrap_or (position (λ packet. is_some packet) r.held) 0

-- the packets that are held from the wanted one on, up to the first that isn't
abbrev pub run_of : List (Option Taken) → List Taken
run_of [] = []
run_of (None ∷ held) = []
run_of (Some packet ∷ held) = packet ∷ run_of held

-- after all of them were taken
abbrev pub drained : Receiving → Receiving
drained r = record { wanted = r.wanted + length (run_of r.held); held = drop (length (run_of r.held)) r.held }

-- ---- what the peer shows of what it sent

-- how far a next number is ahead of the wanted one: 0 where it is more than 32,767 ahead, and so behind
unfoldable pub ahead : Receiving → ℕ → ℕ
ahead r number = if nat_le (past_wanted r number) 32767 then past_wanted r number else 0

-- a next number is 1 to 50 past the wanted one: the peer has sent more than was taken
abbrev pub shows_more : Receiving → ℕ → Bool
shows_more r number = nat_lt 0 (past_wanted r number) && nat_le (past_wanted r number) window_size

-- how many packets are missing where none is held: up to the next position shown, as far as a window reaches
abbrev pub missing : Receiving → ℕ → ℕ
missing r shown = if nat_le (shown - r.wanted) window_size then shown - r.wanted else 0

-- how many packets are missing: up to the first that is held, or up to the next position shown
unfoldable pub gap_to : Receiving → ℕ → ℕ
gap_to r shown = if gap_of r == 0 then missing r shown else gap_of r

-- ---- an arrival

-- a packet that was brought by this arrival
abbrev pub brought : ℕ → List ℕ → ℕ → Taken
brought number packet by = record { number = number; packet = packet; by = by }

-- what an arrival answers at a place, where these packets can be taken then
abbrev pub outcome_at : Place → List Taken → LinkOutcome
outcome_at InOrder due = LinkOutcome.Took due
outcome_at Deferred due = LinkOutcome.Deferred
outcome_at Old due = LinkOutcome.Ignored why.Old

-- ---- an arrival that is told before anything is changed

-- the window with a packet
abbrev pub with_packet : Receiving → Taken → Receiving
with_packet r packet = arrived_at r (past_wanted r packet.number) packet

-- the packet, where it is to be held behind the wanted one
abbrev pub deferred_at : Place → Taken → Option Taken
deferred_at Deferred packet = Some packet
deferred_at other packet = None

-- what a packet will make of a window that wants this position: where it stands, whether it is to be held behind the wanted one, and
-- how many packets can be taken then
pub record Coming : Type 0 where
  pub wanted : ℕ
  pub place : Place
  pub held : Option Taken
  pub count : ℕ

-- what this packet will make of a window
abbrev pub coming : Receiving → Taken → Coming
coming r packet = record {
  wanted = r.wanted;
  place = place_at r (past_wanted r packet.number);
  held = deferred_at (place_at r (past_wanted r packet.number)) packet;
  count = length (run_of (with_packet r packet).held);
}

-- positions behind the wanted one have 62 bits, at most a window's packets are taken, and the packet that is to be held stands alone
-- in room for a window
pub record HasRoom (wanted : ℕ) (held : List (Option Taken)) (count capacity : ℕ) : Type 0 where
  pub counted : wanted + window_size ≤ 2 ^ 62
  pub few : count ≤ window_size
  pub alone : length held ≤ 1
  pub wide : 0 < length held → window_size ≤ capacity
