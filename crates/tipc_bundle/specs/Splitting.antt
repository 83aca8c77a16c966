-- Which packets stand in a bundle, and the first bad place of a bundle in which none do.
use Rattle.std.specs.Prelude.{ℕ, ◌≡◌, ◌≢◌, ◌+◌, ◌-◌, ◌<◌, ◌≤◌, ◌⊎◌, List, [], ◌∷◌, ◌++◌, length, drop, replicate}
use Rattle.std.specs.List.{All}
use Rattle.tipc_header.specs.declared.packet.Bundle.{Bundle}
use Rattle.tipc_header.specs.declared.packet.Header.TheVariants as header
use Rattle.tipc_header.specs.Spelling.{Fields, spelling}
use Rattle.tipc_header.specs.Grammar.{Fits}
use Rattle.tipc_header.specs.Reading.{field}
use Rattle.tipc_bundle.specs.Bundles.{IsInner, padded, padded_size, in_a_row}

-- a packet of the bundler, whatever stands inside
pub record IsBundle (bytes : List ℕ) : Type 0 where
  pub packet : Fields
  pub bundle : Bundle
  pub fits : Fits packet
  pub spelled : bytes ≡ spelling packet
  pub user : packet.header ≡ header.Bundler bundle

-- how many inner packets a bundle counts
abbrev pub count_of : List ℕ → ℕ
count_of bundle = field 4 31 16 bundle

-- the bytes behind the header of a bundle
abbrev pub rest_of : List ℕ → List ℕ
rest_of bundle = drop 40 bundle

-- These packets stand in the bundle, in this order: as many as it counts, and nothing else.
pub record AreInside (packets : List (List ℕ)) (bundle : List ℕ) : Type 0 where
  pub inner : All IsInner packets
  pub count : count_of bundle ≡ length packets
  pub rest : rest_of bundle ≡ in_a_row packets

-- No packet that may stand inside a bundle begins these bytes.
abbrev pub BeginsNone : List ℕ → Type 0
BeginsNone bytes = (packet more : List ℕ) → IsInner packet → bytes ≡ packet ++ more → ⊥

-- An inner packet begins these bytes, and at this place stands the first byte of its padding that isn't zero.
pub record IsBadlyPadded (bytes : List ℕ) (place : ℕ) : Type 0 where
  pub packet : List ℕ
  pub zeros : ℕ
  pub byte : ℕ
  pub more : List ℕ
  pub inner : IsInner packet
  pub stands : bytes ≡ packet ++ (replicate zeros 0 ++ byte ∷ more)
  pub at : place ≡ length packet + zeros
  pub within : place < padded_size (length packet)
  pub other : byte ≢ 0

-- These bytes don't begin with an inner packet and its padding: they are bad at this place.
abbrev pub BeginsBadly : List ℕ → ℕ → Type 0
BeginsBadly bytes place = (BeginsNone bytes × (place ≡ 0)) ⊎ IsBadlyPadded bytes place

-- Where so many more inner packets are to follow, these bytes are bad at this place; where none is, any byte is left over.
abbrev pub IsBad : ℕ → List ℕ → ℕ → Type 0
IsBad left bytes place = ((left ≡ 0) × (bytes ≢ []) × (place ≡ 0)) ⊎ ((0 < left) × BeginsBadly bytes place)

-- The first bad place of a bundle, from the begin of its header: inner packets stand before it, and what follows
-- them is bad there.
pub record IsFirstBad (bundle : List ℕ) (place : ℕ) : Type 0 where
  pub before : List (List ℕ)
  pub after : List ℕ
  pub offset : ℕ
  pub inner : All IsInner before
  pub counted : length before ≤ count_of bundle
  pub rest : rest_of bundle ≡ in_a_row before ++ after
  pub bad : IsBad (count_of bundle - length before) after offset
  pub at : place ≡ 40 + length (in_a_row before) + offset

-- An inner packet and its padding begin these bytes, and take so many of them.
pub record BeginsWell (bytes : List ℕ) (size : ℕ) : Type 0 where
  pub packet : List ℕ
  pub inner : IsInner packet
  pub taken : size ≡ length (padded packet)
  pub stands : bytes ≡ padded packet ++ drop size bytes
