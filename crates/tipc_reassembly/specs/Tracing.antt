-- Where the arrivals of a whole packet come from. `P by bytes` says that the packet came by that arrival.
use Rattle.std.specs.Prelude.{◌≡◌, ℕ, List, [], ◌∷◌, ◌++◌, zero, suc, length, map, replicate}
use Rattle.std.specs.List.{AllZip, Contains, flat_map, range_with_len}
use Rattle.tipc_types.specs.declared.packet_lists.Taken.{Taken}
use Rattle.tipc_header.specs.declared.packet.FragmentType.{FragmentType}
use Rattle.tipc_header.specs.declared.packet.FragmentType.TheVariants.{First, Middle, Last}
use Rattle.tipc_fragments.specs.Cutting.{Piece}
use Rattle.tipc_fragments.specs.Joining.{Joining}
use Rattle.tipc_bundle.specs.Splitting.{AreInside, IsBundle}
use Rattle.tipc_reassembly.specs.declared.opening.Opened.{Opened}
use Rattle.tipc_reassembly.specs.declared.opening.Opened.TheVariants.{Whole, Passed}
use Rattle.tipc_reassembly.specs.Opening.{IsFragment}

-- This fragment came by this arrival.
pub record BringsPiece (P : ℕ → List ℕ → Type 0) (piece : Piece) (by : ℕ) : Type 0 where
  pub bytes : List ℕ
  pub brought : P by bytes
  pub fragment : IsFragment bytes piece

-- These fragments came by these arrivals, in order.
abbrev pub BringPieces : (ℕ → List ℕ → Type 0) → List Piece → List ℕ → Type 0
BringPieces P pieces arrivals = AllZip (BringsPiece P) pieces arrivals

-- numbered from 1
abbrev pub AreNumbered : List Piece → Type 0
AreNumbered pieces = map (λ p. p.number) pieces ≡ range_with_len 1 (length pieces)

-- the bytes of fragments, one behind the other
abbrev pub bytes_of : List Piece → List ℕ
bytes_of pieces = flat_map (λ p. p.bytes) pieces

-- all fragments of one message: a first one, some middle ones and a last one, numbered from 1
pub record AreAll (pieces : List Piece) : Type 0 where
  pub middle : ℕ
  pub kinds : map (λ p. p.kind) pieces ≡ First ∷ (replicate middle Middle ++ Last ∷ [])
  pub numbers : AreNumbered pieces

-- A packet came alone by one arrival, or inside the bundle that came by it; or its fragments came by these arrivals.
pub data IsTraced (P : ℕ → List ℕ → Type 0) (packet : List ℕ) : List ℕ → Type 0 where
  alone : {by : ℕ} → P by packet → IsTraced P packet (by ∷ [])
  inside : {by : ℕ} {bundle : List ℕ} {packets : List (List ℕ)} → P by bundle → IsBundle bundle → AreInside packets bundle → Contains packets packet
      → IsTraced P packet (by ∷ [])
  joined : {pieces : List Piece} {arrivals : List ℕ} → BringPieces P pieces arrivals → AreAll pieces → packet ≡ bytes_of pieces → IsTraced P packet arrivals

-- a whole packet is traced
abbrev pub IsOpenedBy : (ℕ → List ℕ → Type 0) → Opened → Type 0
IsOpenedBy P (Whole packet by) = IsTraced P packet by
IsOpenedBy P (Passed place) = Unit {0}

-- the kinds of so many fragments that begin a message, and don't end it
abbrev pub begun_kinds : ℕ → List FragmentType
begun_kinds zero = []
begun_kinds (suc n) = First ∷ replicate n Middle

-- What is begun came so: by its arrivals came fragments, in order, and their bytes are those so far.
pub record IsBegunBy (P : ℕ → List ℕ → Type 0) (s : Joining) : Type 0 where
  pub pieces : List Piece
  pub brought : BringPieces P pieces s.arrivals
  pub kinds : map (λ p. p.kind) pieces ≡ begun_kinds (length pieces)
  pub numbers : AreNumbered pieces
  pub bytes : s.bytes ≡ bytes_of pieces

-- One of these packets came by this arrival.
pub record IsAmong (taken : List Taken) (by : ℕ) (bytes : List ℕ) : Type 0 where
  pub packet : Taken
  pub among : Contains taken packet
  pub by_is : packet.by ≡ by
  pub bytes_is : packet.packet ≡ bytes
