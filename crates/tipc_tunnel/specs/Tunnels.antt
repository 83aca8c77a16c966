-- Tunnel packets: what one tells and carries, and the packet that it is. A packet is its bytes.
use Rattle.std.specs.Prelude.{ℕ, ◌≡◌, ◌<◌, ◌≤◌, ◌^◌, ◌⊎◌, Bool, true, false, List, [], ◌∷◌, length}
use Rattle.tipc_types.specs.declared.link_words.OldSession.{OldSession}
use Rattle.tipc_types.specs.Limits.{most_packet_bytes}
use Rattle.tipc_header.specs.declared.packet.Changeover.{Changeover}
use Rattle.tipc_header.specs.declared.packet.ChangeoverType.{ChangeoverType}
use Rattle.tipc_header.specs.declared.packet.Header.{Header}
use Rattle.tipc_header.specs.declared.packet.Header.TheVariants as header
use Rattle.tipc_header.specs.Spelling.{Fields, renumbered, spelling}
use Rattle.tipc_header.specs.Reading.{fields_at}
use Rattle.tipc_header.specs.Grammar.{Fits}

-- Payload, bundles, name items and fragments may stand inside a tunnel packet.
abbrev pub may_stand_in_tunnel : Header → Bool
may_stand_in_tunnel (header.Payload m) = true
may_stand_in_tunnel (header.Bundler b) = true
may_stand_in_tunnel (header.NameDistributor n) = true
may_stand_in_tunnel (header.Fragmenter f) = true
may_stand_in_tunnel _ = false

-- a packet that may stand inside a tunnel packet
pub record IsTunnellable (bytes : List ℕ) : Type 0 where
  pub packet : Fields
  pub fits : Fits packet
  pub spelled : bytes ≡ spelling packet
  pub inside : may_stand_in_tunnel packet.header ≡ true

-- such a packet with this sequence number
pub record IsNumbered (number : ℕ) (bytes : List ℕ) : Type 0 where
  pub inner : IsTunnellable bytes
  pub sequence : inner.packet.sequence ≡ number

-- what may be put into a tunnel packet: nothing, or such a packet under any numbers
abbrev pub MayBeWrapped : List ℕ → Type 0
MayBeWrapped bytes = (bytes ≡ []) ⊎ IsTunnellable bytes

-- A run of no packets has the inner number 0 and carries nothing.
abbrev pub IsRun : ℕ → ℕ → List ℕ → Type 0
IsRun count number inner = count ≡ 0 → (number ≡ 0) × (inner ≡ [])

-- the packet under this sequence number, and nothing where there is none
unfoldable pub numbered : ℕ → List ℕ → List ℕ
numbered number [] = []
numbered number (byte ∷ bytes) =
    let packet = fields_at (byte ∷ bytes) in
    spelling (renumbered packet packet.acknowledgement number)

-- what a tunnel packet tells and carries: which kind of inner packet, the session of its number, the count of the run, that
-- number, and the inner packet's bytes or nothing
pub record Tunnelled : Type 0 where
  pub kind : ChangeoverType
  pub old : OldSession
  pub count : ℕ
  pub number : ℕ
  pub inner : List ℕ

-- the header that tells it
abbrev pub header_of : ℕ → Tunnelled → Header
header_of broadcast_acknowledgement t = header.Changeover (record {
  changeover_type = t.kind;
  broadcast_acknowledgement = broadcast_acknowledgement;
  count = t.count;
  inner_number = t.number;
  old_bearer = t.old.bearer;
  old_epoch = t.old.epoch;
})

-- what a header of changeover tells beside what follows it
abbrev pub told_by_header : Changeover → List ℕ → Tunnelled
told_by_header c inner = record {
  kind = c.changeover_type;
  old = record { bearer = c.old_bearer; epoch = c.old_epoch };
  count = c.count;
  number = c.inner_number;
  inner = inner;
}

-- The packet carries this: its header tells it, and what follows is the inner packet, under its number, or nothing.
pub record Carries (packet : Fields) (t : Tunnelled) : Type 0 where
  pub broadcast_acknowledgement : ℕ
  pub header : packet.header ≡ header_of broadcast_acknowledgement t
  pub rest : packet.rest ≡ t.inner
  pub inner : (t.inner ≡ []) ⊎ IsNumbered t.number t.inner

-- the tunnel packet as it waits to be sent: it acknowledges no broadcast, and its words 2 and 3 are zero
abbrev pub tunnel_packet : Tunnelled → Fields
tunnel_packet t = record { acknowledgement = 0; sequence = 0; previous = 0; header = header_of 0 t; rest = t.inner }

-- what may stand together in a tunnel packet
pub record IsTunnel (t : Tunnelled) : Type 0 where
  pub bearer : t.old.bearer ≤ 1
  pub epoch : t.old.epoch < 2 ^ 64
  pub count : t.count < 2 ^ 16
  pub number : t.number < 2 ^ 16
  pub run : IsRun t.count t.number t.inner
  pub inner : (t.inner ≡ []) ⊎ IsNumbered t.number t.inner
  pub size : length t.inner ≤ most_packet_bytes

-- whether a packet is one of changeover
abbrev pub is_tunnel : Header → Bool
is_tunnel (header.Changeover c) = true
is_tunnel _ = false

-- the inner number that its header tells
abbrev pub inner_number : Header → ℕ
inner_number (header.Changeover c) = c.inner_number
inner_number _ = 0
