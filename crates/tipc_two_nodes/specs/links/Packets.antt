-- Which packet is sent for a slot: a plain packet is one that was put, and a tunnel packet speaks of a place of the
-- other link.
use Rattle.std.specs.Prelude.{◌≡◌, ℕ, ◌-◌, ◌≤◌, Bool, true, false, not, List, [], ◌∷◌, Some, length, slice_get}
use Rattle.tipc_types.specs.Position.{number_of}
use Rattle.tipc_types.specs.declared.link_words.OldSession.{OldSession}
use Rattle.tipc_header.specs.declared.packet.ChangeoverType.{ChangeoverType}
use Rattle.tipc_types.specs.declared.packet_lists.Kept.{Kept}
use Rattle.tipc_tunnel.specs.Tunnels.{IsTunnel, Tunnelled, numbered}
use Rattle.tipc_link.specs.Records.{is_tunnel}
use Rattle.tipc_pair.specs.PairArrivals.{restored}
use Rattle.tipc_pair.specs.Runs.{inner_of, marker, shown_by, wrapped}
use Rattle.tipc_changeover.specs.Slots.{Plain, LinkSlot, Tunnel}
use Rattle.tipc_two_nodes.specs.links.Traffic.{Lines, epoch_of}

-- the plain packet that was put so many packets after the first one, and itself
pub record IsPlain (put : List (List ℕ)) (index : ℕ) (packet : List ℕ) : Type 0 where
  pub counts : 1 ≤ index
  pub there : slice_get put (index - 1) ≡ Some packet
  pub plain : is_tunnel packet ≡ false

-- what the tunnel packets tell and carry: that of a packet of this node in a run of so many, and the marker of an empty run
abbrev pub told_by_packet : ChangeoverType → OldSession → ℕ → ℕ → Kept → Tunnelled
told_by_packet kind old own count k = record { kind = kind; old = old; count = count; number = k.number; inner = inner_of own k }

-- what the marker of an empty run tells: its session alone
abbrev pub told_by_marker : ChangeoverType → OldSession → Tunnelled
told_by_marker kind old = record { kind = kind; old = old; count = 0; number = 0; inner = [] }

-- A packet makes a tunnel packet, whatever its number and its sender; and where it isn't one itself, that carries it, and gives
-- it back as it waited.
pub record MayBeIn (kind : ChangeoverType) (old : OldSession) (count : ℕ) (packet : List ℕ) : Type 0 where
  pub some : 1 ≤ count
  pub made : (own n : ℕ) → IsTunnel (told_by_packet kind old own count (record { number = number_of n; packet = packet }))
  pub bytes : is_tunnel packet ≡ false → 1 ≤ length packet
  pub back : (own n : ℕ) → is_tunnel packet ≡ false → restored (numbered (number_of n) (shown_by own packet)) ≡ packet

-- A tunnel packet that speaks of a place of this session, which has these packets: the marker of an empty run, or one
-- that wraps the packet of the place under its number. It is full where that isn't a tunnel packet itself.
pub data SpeaksOf (old : OldSession) (line : List (List ℕ)) (packet : List ℕ) : ℕ → Bool → Type 0 where
  marks : (kind : ChangeoverType) → IsTunnel (told_by_marker kind old) → packet ≡ marker kind old
      → SpeaksOf old line packet 0 true
  wraps : (kind : ChangeoverType) (own count place : ℕ) (inner : List ℕ) → 1 ≤ place
      → slice_get line (place - 1) ≡ Some inner
      → MayBeIn kind old count inner
      → packet ≡ wrapped kind old own count (record { number = number_of place; packet = inner })
      → SpeaksOf old line packet place (not (is_tunnel inner))

-- a tunnel packet that speaks of a place of a session of the other link, which is on this bearer
pub record IsCarrier (bearer : ℕ) (other : Lines) (session place : ℕ) (full : Bool) (packet : List ℕ) : Type 0 where
  pub begun : 1 ≤ session
  pub tunnel : is_tunnel packet ≡ true
  pub speaks : SpeaksOf (record { bearer = bearer; epoch = epoch_of other.first session }) (other.line session) packet
      place full

-- the packet of a slot, where these packets were put and the other link, on this bearer, has these sessions
abbrev pub IsFor : List (List ℕ) → ℕ → Lines → LinkSlot → List ℕ → Type 0
IsFor put bearer other (Plain index) packet = IsPlain put index packet
IsFor put bearer other (Tunnel session place full) packet = IsCarrier bearer other session place full packet

-- each of these packets is that of its slot
abbrev pub AreFor : (LinkSlot → List ℕ → Type 0) → List LinkSlot → List (List ℕ) → Type 0
AreFor P [] [] = Unit {0}
AreFor P [] (packet ∷ packets) = ⊥
AreFor P (slot ∷ slots) [] = ⊥
AreFor P (slot ∷ slots) (packet ∷ packets) = P slot packet × AreFor P slots packets
