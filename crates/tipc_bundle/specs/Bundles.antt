-- Bundles: several packets in one. A packet is its bytes.
use Rattle.std.specs.Prelude.{ℕ, ◌≡◌, ◌+◌, ◌-◌, ◌*◌, ◌/◌, ◌<◌, ◌^◌, Bool, true, false, List, [], ◌∷◌, ◌++◌, length, replicate}
use Rattle.std.specs.List.{All, flat_map}
use Rattle.tipc_header.specs.declared.packet.Header.{Header}
use Rattle.tipc_header.specs.declared.packet.Header.TheVariants as header
use Rattle.tipc_header.specs.Spelling.{Fields, spelling}
use Rattle.tipc_header.specs.Grammar.{Fits}

-- Payload and name items may stand inside a bundle.
abbrev pub may_stand_inside : Header → Bool
may_stand_inside (header.Payload m) = true
may_stand_inside (header.NameDistributor n) = true
may_stand_inside _ = false

-- a packet that may stand inside a bundle
pub record IsInner (bytes : List ℕ) : Type 0 where
  pub packet : Fields
  pub fits : Fits packet
  pub spelled : bytes ≡ spelling packet
  pub inside : may_stand_inside packet.header ≡ true

-- a size, rounded up to a multiple of 4
abbrev pub padded_size : ℕ → ℕ
padded_size n = (n + 3) / 4 * 4

-- a packet, and zeros up to a multiple of 4 bytes
unfoldable pub padded : List ℕ → List ℕ
padded packet = packet ++ replicate (padded_size (length packet) - length packet) 0

-- packets one behind the other, each padded
abbrev pub in_a_row : List (List ℕ) → List ℕ
in_a_row packets = flat_map padded packets

-- the bundle of so many packets that stand in these bytes, as it waits to be sent: words 1, 2 and 3 are zero
abbrev pub bundle_with : ℕ → List ℕ → Fields
bundle_with count rest = record {
  acknowledgement = 0;
  sequence = 0;
  previous = 0;
  header = header.Bundler (record { broadcast_acknowledgement = 0; count = count });
  rest = rest;
}

-- the bundle of these packets, as it waits to be sent
abbrev pub bundle_of : List (List ℕ) → Fields
bundle_of packets = bundle_with (length packets) (in_a_row packets)

-- what waits to be sent for these packets: one as it is, several as their bundle
unfoldable pub joined : List (List ℕ) → List ℕ
joined [] = []
joined (packet ∷ []) = packet
joined (first ∷ second ∷ others) = spelling (bundle_of (first ∷ second ∷ others))

-- These bytes wait to be sent for these packets. (A packet has fewer than 2^17 bytes, since its size field has 17 bits.)
pub record Carries (bytes : List ℕ) (packets : List (List ℕ)) : Type 0 where
  pub some : 0 < length packets
  pub inner : All IsInner packets
  pub joined : bytes ≡ joined packets
  pub size : length bytes < 2 ^ 17
