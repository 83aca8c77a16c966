-- The packets of a multicast can be cast: its own, or its fragments.
use Rattle.std.proofs.Common.{◌≡◌, ◌<◌, ◌≤◌, ◌∙◌, ◌^◌, ℕ, Bool, true, false, if◌then◌else◌, List, [], ◌∷◌, Some, Result, Ok, length, nat_le, refl, sym, ap, subst, arith}
use Rattle.std.specs.Prelude.{All, slice_index_or}
use Rattle.std.proofs.lemmas.Bool.Decides.{nat_tests}
use Rattle.std.proofs.lemmas.List.Elements.{All-map}
use Rattle.std.proofs.lemmas.Option.{same_Some}
use Rattle.tipc_types.specs.Span.{Span}
use Rattle.tipc_types.specs.declared.message_forms.Form.TheVariants as form
use Rattle.tipc_types.specs.declared.message_forms.Importance.{Importance}
use Rattle.tipc_types.specs.declared.message_forms.Message.{Message}
use Rattle.tipc_header.specs.declared.packet.Payload.{Payload}
use Rattle.tipc_header.specs.Grammar.{Fits}
use Rattle.tipc_header.specs.Spelling.{Fields, spelling}
use Rattle.tipc_header.proofs.RoundTrip.{spelling-least}
use Rattle.tipc_journal.specs.Dues.{nowhere}
use Rattle.tipc_message.specs.Wire.{packet_of, payload_of, payload_packet}
use Rattle.tipc_fragments.specs.Cutting.{Piece, fragment_fields, packets_of, pieces_of}
use Rattle.tipc_fragments.proofs.CutLaws.{sent_fits}
use Rattle.tipc_reassembly.specs.Slots.{IsCut}
use Rattle.tipc_broadcast.specs.Pieces.{IsCastPiece}
use Rattle.tipc_pair.specs.Messages.{pieces_for}
use Rattle.tipc_pair.proofs.Pieces.{All-one, pieces_cut}
use Rattle.tipc_node.specs.Messages.{ArePieces, IsSendable, bytes_of, multicast, port_id}
use Rattle.tipc_node.proofs.work.Sendings.{IsSpelled, many_cast, one_cast, spelled_most}

-- ---- one packet

-- of a message
payload_piece : (own : ℕ) (header_is : Payload) (body : List ℕ) → Fits (payload_packet own header_is body) → IsCastPiece own (spelling (payload_packet own header_is body))
payload_piece own header_is body f = record {
  fields = payload_packet own header_is body;
  spelled = refl;
  as_it_waits = refl;
  fits = λ number small. record { acknowledgement = f.acknowledgement; sequence = small; previous = f.previous; header = f.header; numbering = tt; rest = f.rest; size = f.size };
  kind = refl;
}

-- of a fragment
fragment_piece : (own : ℕ) (piece : Piece) → own < 2 ^ 32 → IsCut piece → IsCastPiece own (spelling (fragment_fields piece))
fragment_piece own piece low cut = record {
  fields = fragment_fields piece;
  spelled = refl;
  as_it_waits = refl;
  fits = λ number small. sent_fits piece 0 number own cut.first cut.number cut.some cut.most (omega arith) small low;
  kind = refl;
}

fragment_pieces : (own : ℕ) (bytes : List ℕ) → own < 2 ^ 32 → length bytes ≤ 66044 → All (IsCastPiece own) (packets_of bytes)
fragment_pieces own bytes low most =
    let cuts = pieces_cut bytes (omega (arith, most)) in
    All-map (IsCastPiece own) (λ p. spelling (fragment_fields p)) (pieces_of bytes) (λ k d within. fragment_piece own (slice_index_or (pieces_of bytes) k d) low (cuts k d within))

-- ---- all packets

-- the packet of a multicast
abbrev many_packet : ℕ → ℕ → Span → Importance → List ℕ → Fields
many_packet own port range importance body =
    payload_packet own (payload_of importance form.Multicast (port_id own port) nowhere range.kind range.lower range.upper 0 true) body

many_spelled : (own port : ℕ) (range : Span) (importance : Importance) (body : List ℕ) → bytes_of own (multicast own port range importance body) ≡ spelling (many_packet own port range importance body)
unfolding bytes_of packet_of
many_spelled own port range importance body = refl

many_packet_is : (own port : ℕ) (range : Span) (importance : Importance) (body : List ℕ) → Some (many_packet own port range importance body) ≡ packet_of own (multicast own port range importance body)
unfolding packet_of
many_packet_is own port range importance body = refl

many_fits : (own port : ℕ) (range : Span) (importance : Importance) (body : List ℕ) → IsSendable own (multicast own port range importance body) → Fits (many_packet own port range importance body)
many_fits own port range importance body h = subst Fits (sym (same_Some _ _ (many_packet_is own port range importance body ∙ h.packet_is))) h.fits

pub cast_pieces : (own port : ℕ) (range : Span) (importance : Importance) (body : List ℕ) → IsSendable own (multicast own port range importance body)
    → ArePieces (pieces_for (bytes_of own (multicast own port range importance body))) × All (IsCastPiece own) (pieces_for (bytes_of own (multicast own port range importance body)))
unfolding pieces_for
cast_pieces own port range importance body h = by (nat_le (length bytes) 1452) refl
  where
    m : Message
    m = multicast own port range importance body

    bytes : List ℕ
    bytes = bytes_of own m

    q : Fields
    q = many_packet own port range importance body

    fits : Fits q
    fits = many_fits own port range importance body h

    is : bytes ≡ spelling q
    is = many_spelled own port range importance body

    given : IsSpelled own m bytes
    given = (h.packet, h.packet_is, h.fits, is ∙ ap spelling (same_Some _ _ (many_packet_is own port range importance body ∙ h.packet_is)), h.read)

    cut : Result (List (List ℕ)) (Unit {0})
    cut = Ok (packets_of bytes)

    by : (b : Bool) → nat_le (length bytes) 1452 ≡ b → ArePieces (if b then bytes ∷ [] else packets_of bytes) × All (IsCastPiece own) (if b then bytes ∷ [] else packets_of bytes)
    by true short = (
      one_cast bytes (bytes ∷ []) (subst (λ xs. 24 ≤ length xs) (sym is) (spelling-least q)) (let less : length bytes ≤ 1452 = grind (arith, nat_tests, short) in omega (arith, less)) refl,
      All-one (IsCastPiece own) bytes (subst (IsCastPiece own) (sym is) (payload_piece own _ body fits)),
    )
    by false long = (
      many_cast own m bytes bytes cut given refl refl,
      fragment_pieces own bytes fits.previous (spelled_most own m bytes bytes given refl),
    )
