-- What comes of packets that were taken: the packets of a bundle, the message that fragments make, or nothing.
use Rattle.std.specs.Prelude.{◌≡◌, ℕ, ◌∷◌, ◌++◌, [], Bool, true, false, List, map, if◌then◌else◌, Result, Ok, Err}
use Rattle.tipc_types.specs.declared.packet_lists.Taken.{Taken}
use Rattle.tipc_header.specs.declared.packet.Fragment.{Fragment}
use Rattle.tipc_header.specs.declared.packet.Header.{Header}
use Rattle.tipc_header.specs.declared.packet.Header.TheVariants as header
use Rattle.tipc_header.specs.Grammar.{Fits}
use Rattle.tipc_header.specs.Reading.{fields_at}
use Rattle.tipc_header.specs.Spelling.{Fields, spelling}
use Rattle.tipc_fragments.specs.declared.joining.Joined.{Joined}
use Rattle.tipc_fragments.specs.declared.joining.Joined.TheVariants as joined
use Rattle.tipc_fragments.specs.declared.joining.JoinFault.{JoinFault}
use Rattle.tipc_fragments.specs.Cutting.{Piece, piece_of}
use Rattle.tipc_fragments.specs.Joining.{after, answer_of, Joining}
use Rattle.tipc_bundle.specs.Bundles.{IsInner}
use Rattle.tipc_bundle.specs.Splitting.{AreInside, IsBundle, IsFirstBad}
use Rattle.tipc_reassembly.specs.declared.opening.Opened.{Opened}
use Rattle.tipc_reassembly.specs.declared.opening.Opened.TheVariants.{Whole, Passed}

-- a message between ports
abbrev pub is_payload : Header → Bool
is_payload (header.Payload m) = true
is_payload _ = false

-- a fragment's packet, whatever it acknowledges, and what the fragment says
pub record IsFragment (bytes : List ℕ) (piece : Piece) : Type 0 where
  pub packet : Fields
  pub fragment : Fragment
  pub fits : Fits packet
  pub spelled : bytes ≡ spelling packet
  pub user : packet.header ≡ header.Fragmenter fragment
  pub piece_is : piece ≡ piece_of fragment.fragment_type fragment.number packet.rest

-- one whole packet, which came by one arrival
abbrev pub brought_by : ℕ → List ℕ → Opened
brought_by by packet = Whole packet (by ∷ [])

-- What an answer of the joiner brings: a message that is whole, where it is payload. Another packet is passed over,
-- and so is a fault.
abbrev pub joined_members : Result Joined JoinFault → List Opened
joined_members (Ok joined.More) = []
joined_members (Ok (joined.Whole message arrivals)) = if is_payload (fields_at message).header then Whole message arrivals ∷ [] else Passed 0 ∷ []
joined_members (Err fault) = Passed 0 ∷ []

-- What one packet brings that was taken by this arrival, and the message that is begun then. A packet of payload or name
-- items comes out as it is, and so do those inside a bundle; a bundle that is bad is passed over whole. A fragment goes to
-- the joiner, and any other packet is passed over.
pub data Brings (s : Joining) (bytes : List ℕ) (by : ℕ) : List Opened → Joining → Type 0 where
  message : IsInner bytes → Brings s bytes by (brought_by by bytes ∷ []) s
  bundle : {packets : List (List ℕ)} → IsBundle bytes → AreInside packets bytes → Brings s bytes by (map (brought_by by) packets) s
  bad_bundle : {place : ℕ} → IsBundle bytes → IsFirstBad bytes place → Brings s bytes by (Passed place ∷ []) s
  fragment : {piece : Piece} → IsFragment bytes piece → Brings s bytes by (joined_members (answer_of s piece by)) (after s piece by)
  other : (IsInner bytes → ⊥) → (IsBundle bytes → ⊥) → ((piece : Piece) → IsFragment bytes piece → ⊥) → Brings s bytes by (Passed 0 ∷ []) s

-- what packets bring that are taken one after the other
pub data BringsAll : Joining → List Taken → List Opened → Joining → Type 0 where
  none : {s : Joining} → BringsAll s [] [] s
  go_on : {s between last : Joining} {packet : Taken} {packets : List Taken} {opened more : List Opened}
      → Brings s packet.packet packet.by opened between → BringsAll between packets more last → BringsAll s (packet ∷ packets) (opened ++ more) last
