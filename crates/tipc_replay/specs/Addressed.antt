-- For whom a frame is that a node sends, by its kind.
use Rattle.std.specs.Prelude.{◌≡◌, ◌≢◌, ◌≤◌, ◌⊎◌, ℕ, true, false, List}
use Rattle.tipc_types.specs.declared.identity.To.{To}
use Rattle.tipc_types.specs.declared.identity.To.TheVariants as to
use Rattle.tipc_header.specs.declared.frames.FrameKind.TheVariants.{Casts, Finds}
use Rattle.tipc_header.specs.Frames.{is_of_link, kind_in}
use Rattle.tipc_header.specs.Spelling.{Fields}
use Rattle.tipc_node.specs.Turns.{IsFrom, addr_of}

-- another one of the 32 nodes than a is meant
pub record IsToOther (a : ℕ) (t : To) : Type 0 where
  pub receiver : ℕ
  pub number : (1 ≤ receiver) × (receiver ≤ 32)
  pub apart : receiver ≢ a
  pub to_is : t ≡ to.Node (addr_of receiver)

-- a frame is a packet of node a under an envelope
pub record IsPacketOf (a : ℕ) (bytes : List ℕ) : Type 0 where
  pub es : ℕ
  pub er : ℕ
  pub packet : Fields
  pub is_from : IsFrom a bytes es er packet

-- A frame of node a is of a link, and for one other node; or it brings a discovery packet under a boot number, and is for one other node or for
-- all; or it brings a broadcast packet, and is for all.
pub data IsAddressed (a : ℕ) (bytes : List ℕ) (t : To) : Type 0 where
  of_a_link : is_of_link bytes ≡ true → IsToOther a t → IsAddressed a bytes t
  of_discovery : IsPacketOf a bytes → kind_in bytes ≡ Finds → is_of_link bytes ≡ false → IsToOther a t ⊎ (t ≡ to.All)
      → IsAddressed a bytes t
  of_broadcast : IsPacketOf a bytes → kind_in bytes ≡ Casts → t ≡ to.All → IsAddressed a bytes t
