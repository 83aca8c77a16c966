-- The send window: packets that aren't acknowledged, and packets that wait for room.
use Rattle.std.specs.Prelude.{◌≡◌, ℕ, ◌+◌, ◌-◌, ◌<◌, ◌≤◌, ◌^◌, List, [], ◌∷◌, ◌++◌, length, min, take, drop, map, nat_le, if◌then◌else◌}
use Rattle.tipc_types.specs.Position.{distance_of, number_of}
use Rattle.tipc_types.specs.declared.packet_lists.Kept.{Kept}
use Rattle.tipc_types.specs.Limits.{window_size}

-- The sending side of one direction of a link: how many packets were numbered so far, the last of them that are
-- unacknowledged, and those behind them that wait without a number, each list in order. A packet is its bytes.
pub record Sending : Type 0 where
  pub numbered : ℕ
  pub unacked : List (List ℕ)
  pub waiting : List (List ℕ)

-- nothing was numbered, and nothing waits
abbrev pub fresh : Sending
fresh = record { numbered = 0; unacked = []; waiting = [] }

-- the position of the last packet that was acknowledged
abbrev pub acked_of : Sending → ℕ
acked_of s = s.numbered - length s.unacked

-- what is true of every send window
pub record IsSending (s : Sending) : Type 0 where
  pub window : length s.unacked ≤ window_size
  pub numbered : length s.unacked ≤ s.numbered
  pub counted : s.numbered + length s.waiting ≤ 2 ^ 62

-- more packets wait
abbrev pub offered : Sending → List (List ℕ) → Sending
offered s pieces = record { numbered = s.numbered; unacked = s.unacked; waiting = s.waiting ++ pieces }

-- the first packet that waits is numbered
abbrev pub moved : Sending → Sending
moved s = record { numbered = s.numbered + 1; unacked = s.unacked ++ take 1 s.waiting; waiting = drop 1 s.waiting }

-- the first n waiting packets are numbered
abbrev pub advanced : ℕ → Sending → Sending
advanced n s = record { numbered = s.numbered + n; unacked = s.unacked ++ take n s.waiting; waiting = drop n s.waiting }

-- how many of the waiting packets the window has room for
abbrev pub room : Sending → ℕ
room s = min (window_size - length s.unacked) (length s.waiting)

-- the first n of the unacknowledged packets are acknowledged
abbrev pub released : Sending → ℕ → Sending
released s n = record { numbered = s.numbered; unacked = drop n s.unacked; waiting = s.waiting }

-- how many packets a number acknowledges: all up to the one with that number, and none where no unacknowledged
-- packet has it
unfoldable pub release_count : Sending → ℕ → ℕ
release_count s number = (
    let past = distance_of (number_of (acked_of s)) number in
    if nat_le past (length s.unacked) then past else 0
    )

-- after an acknowledgement of this number
abbrev pub acknowledged : Sending → ℕ → Sending
acknowledged s number = released s (release_count s number)

-- the last packet that waits is another one
abbrev pub swapped : Sending → List ℕ → Sending
swapped s packet = record { numbered = s.numbered; unacked = s.unacked; waiting = take (length s.waiting - 1) s.waiting ++ packet ∷ [] }

-- nothing waits
abbrev pub without_waiting : Sending → Sending
without_waiting s = record { numbered = s.numbered; unacked = s.unacked; waiting = [] }

-- all packets are given up; those that wait were never numbered
abbrev pub emptied : Sending → Sending
emptied s = record { numbered = s.numbered; unacked = []; waiting = [] }

-- all is given up, and the numbers that the waiting packets would have had are passed over
abbrev pub passed_over : Sending → Sending
passed_over s = record { numbered = s.numbered + length s.waiting; unacked = []; waiting = [] }

-- packets beside their numbers, the first of them behind the position `before`
abbrev pub kept_after : ℕ → List (List ℕ) → List Kept
kept_after before [] = []
kept_after before (packet ∷ packets) = record { number = number_of (before + 1); packet = packet } ∷ kept_after (before + 1) packets

-- the unacknowledged packets beside their numbers
abbrev pub kept_of : Sending → List Kept
kept_of s = kept_after (acked_of s) s.unacked

-- the packets without their numbers
abbrev pub packets_of : List Kept → List (List ℕ)
packets_of kept = map (λ k. k.packet) kept

-- What the fields of a window keep: of `count` packets in `stored` the first `released` are acknowledged, which are
-- no more than the others, and as soon as a packet waits, there is room for a full window of those behind them.
pub record IsStored (numbered released count capacity waiting : ℕ) (stored : List Kept) : Type 0 where
  pub half : released + released ≤ count
  pub window : count ≤ released + window_size
  pub begun : count ≤ numbered + released
  pub bounded : numbered + waiting ≤ 2 ^ 62
  pub few : waiting < 2 ^ 32
  pub room : 0 < waiting → 100 ≤ capacity
  pub numbers : drop released stored ≡ kept_after (numbered + released - count) (packets_of (drop released stored))
