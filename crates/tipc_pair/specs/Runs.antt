-- Runs of tunnel packets: the unacknowledged packets of one link of a pair as they travel on its other link.
use Rattle.std.specs.Prelude.{◌≡◌, ◌≤◌, ℕ, true, List, [], ◌∷◌, ◌++◌, filter, length, map, not, if◌then◌else◌}
use Rattle.tipc_types.specs.declared.link_words.OldSession.{OldSession}
use Rattle.tipc_types.specs.declared.packet_lists.Kept.{Kept}
use Rattle.tipc_types.specs.Limits.{most_packet_bytes}
use Rattle.tipc_header.specs.declared.packet.ChangeoverType.{ChangeoverType}
use Rattle.tipc_header.specs.declared.packet.ChangeoverType.TheVariants.{Duplicate, Original}
use Rattle.tipc_header.specs.declared.packet.Header.{Header}
use Rattle.tipc_header.specs.declared.packet.Header.TheVariants as header
use Rattle.tipc_header.specs.Frames.{sent_as}
use Rattle.tipc_header.specs.Reading.{fields_at}
use Rattle.tipc_header.specs.Spelling.{Fields, spelling}
use Rattle.tipc_tunnel.specs.Tunnels.{IsTunnellable, IsTunnel, Tunnelled, numbered, tunnel_packet}
use Rattle.tipc_send_window.specs.Sending.{kept_of}
use Rattle.tipc_link.specs.Records.{is_tunnel}
use Rattle.tipc_link.specs.Sessions.{IsWaiting, SessionEnd}

-- the previous node that a packet shows once this node sent it: a bundle or a fragment names its node only then
abbrev pub previous_sent : ℕ → Header → ℕ → ℕ
previous_sent own (header.Bundler bundle) previous = own
previous_sent own (header.Fragmenter fragment) previous = own
previous_sent own _ previous = previous

-- the packet as it names its node once this node sent it; its acknowledgement and number stay
abbrev pub as_sent : ℕ → Fields → Fields
as_sent own p = sent_as p.acknowledgement p.sequence (previous_sent own p.header p.previous) p

-- a packet that shows its sender
unfoldable pub shown_by : ℕ → List ℕ → List ℕ
shown_by own packet = spelling (as_sent own (fields_at packet))

-- The packet inside a tunnel packet is under its own number, and shows its sender. A tunnel packet isn't wrapped again: a
-- placeholder, which carries nothing, stands for it.
abbrev pub inner_of : ℕ → Kept → List ℕ
inner_of own k = if is_tunnel k.packet then [] else numbered k.number (shown_by own k.packet)

-- the tunnel packet of an unacknowledged packet of this node, in a run of so many
abbrev pub wrapped : ChangeoverType → OldSession → ℕ → ℕ → Kept → List ℕ
wrapped kind old own count k =
    spelling (tunnel_packet (record { kind = kind; old = old; count = count; number = k.number; inner = inner_of own k }))

-- a run of none is one tunnel packet, which carries nothing
abbrev pub marker : ChangeoverType → OldSession → List ℕ
marker kind old = spelling (tunnel_packet (record { kind = kind; old = old; count = 0; number = 0; inner = [] }))

-- the run of a session's unacknowledged packets, in order, which this node sent
unfoldable pub run_of : ChangeoverType → OldSession → ℕ → List Kept → List (List ℕ)
run_of kind old own [] = marker kind old ∷ []
run_of kind old own (first ∷ others) = map (wrapped kind old own (length (first ∷ others))) (first ∷ others)

-- the session in which they have their numbers
abbrev pub old_of : SessionEnd → OldSession
old_of s = record { bearer = s.bearer; epoch = s.epoch }

-- What a link that went down leaves to the other link: originals of its unacknowledged packets, and behind them the packets that
-- waited, as they are. Waiting tunnel packets are dropped, since the other link has their originals.
abbrev pub left_by : SessionEnd → List (List ℕ)
left_by s = run_of Original (old_of s) s.own (kept_of s.sending) ++ filter (λ packet. not (is_tunnel packet)) s.sending.waiting

-- What a link that takes the traffic over gets of the other one, which keeps its originals: duplicates of its unacknowledged packets, and
-- behind them the packets that waited.
abbrev pub taken_over : SessionEnd → List (List ℕ)
taken_over s = run_of Duplicate (old_of s) s.own (kept_of s.sending) ++ s.sending.waiting

-- what begins so doesn't join the last packet that waits
abbrev pub BeginsWithTunnel : List (List ℕ) → Type 0
BeginsWithTunnel [] = ⊥
BeginsWithTunnel (packet ∷ packets) = is_tunnel packet ≡ true

-- ---- what stands in the lists of a link

-- a tunnel packet that this node made
pub record IsTunnelPacket (packet : List ℕ) : Type 0 where
  pub told : Tunnelled
  pub whole : IsTunnel told
  pub spelled : packet ≡ spelling (tunnel_packet told)

-- a packet that waits or is unacknowledged may stand inside a tunnel packet, or is a tunnel packet
pub data IsListed (packet : List ℕ) : Type 0 where
  plain : IsWaiting packet → IsTunnellable packet → length packet ≤ most_packet_bytes → IsListed packet
  tunnel : IsTunnelPacket packet → IsListed packet
