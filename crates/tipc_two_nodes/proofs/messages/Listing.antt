-- The packets of a message may stand in the lists of a link.
use Rattle.std.specs.Prelude.{All, nat_le, slice_index_or}
use Rattle.std.proofs.Common.{◌≡◌, ◌≤◌, ℕ, true, false, if◌then◌else◌, List, [], ◌∷◌, length, refl, arith}
use Rattle.std.proofs.lemmas.Bool.Decides.{nat_tests}
use Rattle.std.proofs.lemmas.List.Elements.{All-map}
use Rattle.tipc_header.specs.declared.packet.Header.{Header}
use Rattle.tipc_header.specs.declared.packet.Header.TheVariants as header
use Rattle.tipc_header.specs.Spelling.{spelling}
use Rattle.tipc_bundle.specs.Bundles.{may_stand_inside as may_be_bundled, IsInner as IsBundled}
use Rattle.tipc_bundle.proofs.InnerLaws.{inner-most}
use Rattle.tipc_fragments.specs.Cutting.{Piece, fragment_fields, packets_of, pieces_of}
use Rattle.tipc_fragments.proofs.CutLaws.{length-packet, sent_fits}
use Rattle.tipc_tunnel.specs.Tunnels.{may_stand_in_tunnel}
use Rattle.tipc_reassembly.specs.Slots.{IsCut}
use Rattle.tipc_link.proofs.JoinLaws.{fragment_waits, inner_waits}
use Rattle.tipc_pair.specs.Messages.{pieces_for}
use Rattle.tipc_pair.specs.Runs.{IsListed, plain}
use Rattle.tipc_pair.proofs.Pieces.{All-one, pieces_cut}

-- what may stand in a bundle may stand in a tunnel packet
inside_too : (h : Header) → may_be_bundled h ≡ true → may_stand_in_tunnel h ≡ true
inside_too (header.Payload m) e = refl
inside_too (header.NameDistributor n) e = refl
inside_too other e = cc

message_listed : (m : List ℕ) → IsBundled m → length m ≤ 1452 → IsListed m
message_listed m inner short = plain (inner_waits m inner short) (record { packet = inner.packet; fits = inner.fits; spelled = inner.spelled; inside = inside_too inner.packet.header inner.inside }) short

piece_listed : (piece : Piece) → IsCut piece → IsListed (spelling (fragment_fields piece))
piece_listed piece cut =
    let fits = sent_fits piece 0 0 0 cut.first cut.number cut.some cut.most (omega arith) (omega arith) (omega arith) in
    let short : length (spelling (fragment_fields piece)) ≤ 1452 = omega (arith, length-packet piece, cut.most) in
    plain (fragment_waits (fragment_fields piece) (record { fragment_type = piece.kind; broadcast_acknowledgement = 0; number = piece.number }) fits refl short) (record { packet = fragment_fields piece; fits = fits; spelled = refl; inside = refl }) short

pub pieces_listed : (m : List ℕ) → IsBundled m → All IsListed (pieces_for m)
unfolding pieces_for
pieces_listed m inner = elim (nat_le (length m) 1452) as (λ t. nat_le (length m) 1452 ≡ t → All IsListed (if t then m ∷ [] else packets_of m)) [
  | true ↦ λ few. All-one IsListed m (message_listed m inner (grind (arith, nat_tests, few)))
  | false ↦ λ _. (
      let cuts = pieces_cut m (inner-most m inner) in
      All-map IsListed (λ p. spelling (fragment_fields p)) (pieces_of m) (λ k d within. piece_listed (slice_index_or (pieces_of m) k d) (cuts k d within)))
] refl
