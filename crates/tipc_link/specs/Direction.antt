-- One direction of a link in one session: its sending end, its receiving end, and every packet that was numbered; and a frame
-- of that direction, at any time after it was sent.
use Rattle.std.specs.Prelude.{◌≡◌, ℕ, Bool, ◌+◌, ◌-◌, ◌<◌, ◌≤◌, List, Some, Option, None, length, drop, slice_get, slice_index_or}
use Rattle.tipc_types.specs.Position.{number_of}
use Rattle.tipc_send_window.specs.Sending.{Sending, acked_of}
use Rattle.tipc_types.specs.declared.packet_lists.Taken.{Taken}
use Rattle.tipc_types.specs.Limits.{most_age, window_size}
use Rattle.tipc_link.specs.Sessions.{Content, Carries, Shows}

-- what the sender s has, how many packets the receiver took, and the packets that were numbered, in order
pub record IsDirection (s : Sending) (taken : ℕ) (line : List (List ℕ)) : Type 0 where
  pub window : length s.unacked ≤ window_size
  pub below : length s.unacked ≤ s.numbered
  pub count : length line ≡ s.numbered
  pub kept : drop (acked_of s) line ≡ s.unacked
  pub acked_taken : acked_of s ≤ taken
  pub taken_numbered : taken ≤ s.numbered

-- what a receiver holds that took so many packets: not the next one, and others that were numbered, each at its place
pub record IsReceiver (held : List (Option Taken)) (taken : ℕ) (line : List (List ℕ)) : Type 0 where
  pub window : length held ≤ window_size
  pub wants : slice_index_or held 0 None ≡ None
  pub holds : (d : ℕ) (t : Taken) → slice_index_or held d None ≡ Some t → slice_get line (taken + d) ≡ Some t.packet

-- what a frame brings, and how many packets each end had numbered when it was sent
pub record Flight : Type 0 where
  pub acknowledgement : ℕ
  pub content : Content
  pub numbered : ℕ
  pub peer_numbered : ℕ

-- the frame of the packet at a position, and of a STATE, by an end that has taken and numbered so many packets
abbrev pub packet_flight : ℕ → ℕ → ℕ → ℕ → List ℕ → Flight
packet_flight taken numbered peer_numbered position packet =
    record { acknowledgement = number_of taken; content = Carries (number_of position) packet; numbered = numbered; peer_numbered = peer_numbered }

-- the frame of a STATE by an end that has taken and numbered so many packets: it shows the end's next number, and how
-- many packets it misses
abbrev pub state_flight : ℕ → ℕ → ℕ → ℕ → Bool → Flight
state_flight taken numbered peer_numbered gap probe =
    record { acknowledgement = number_of taken; content = Shows (number_of (numbered + 1)) gap probe; numbered = numbered; peer_numbered = peer_numbered }

-- neither end has numbered more than 30,000 packets since the frame was sent
pub record IsFresh (numbered peer_numbered : ℕ) (f : Flight) : Type 0 where
  pub own : numbered ≤ f.numbered + most_age
  pub peer : peer_numbered ≤ f.peer_numbered + most_age

-- the packet under this number was numbered so, and it was among the last 50 that were numbered when the frame was sent
pub record IsCarried (line : List (List ℕ)) (numbered number : ℕ) (packet : List ℕ) : Type 0 where
  pub position : ℕ
  pub positive : 1 ≤ position
  pub number_is : number ≡ number_of position
  pub recent : numbered < position + window_size
  pub sent : position ≤ numbered
  pub packet_is : slice_get line (position - 1) ≡ Some packet

-- a frame whose sender has numbered and taken so many packets, and whose receiver has numbered so many: what it
-- acknowledges was taken by its sender, and what it carries was numbered
pub record IsFlight (numbered taken peer_numbered : ℕ) (line : List (List ℕ)) (f : Flight) : Type 0 where
  pub told : ℕ
  pub told_is : f.acknowledgement ≡ number_of told
  pub told_taken : told ≤ taken
  pub told_recent : f.peer_numbered ≤ told + window_size
  pub so_far : f.numbered ≤ numbered
  pub peer_so_far : f.peer_numbered ≤ peer_numbered
  pub carried : (number : ℕ) (packet : List ℕ) → f.content ≡ Carries number packet → IsCarried line f.numbered number packet
