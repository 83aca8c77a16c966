-- The packets in which a message is sent.
use Rattle.std.proofs.Common.{◌≡◌, ◌<◌, ◌≤◌, ◌+◌, ◌*◌, ℕ, true, false, List, [], ◌∷◌, Some, Result, Ok, Err, length, nat_le, refl, sym, ap, ◌∙◌, subst, arith}
use Rattle.std.specs.Prelude.{All, IfOk, slice_index_or}
use Rattle.std.proofs.lemmas.Bool.Decides.{nat_tests}
use Rattle.std.proofs.lemmas.List.{length-map}
use Rattle.std.proofs.lemmas.List.Elements.{All-map}
use Rattle.tipc_types.specs.Limits.{most_packet_bytes}
use Rattle.tipc_types.specs.declared.message_forms.Form.TheVariants as form
use Rattle.tipc_types.specs.declared.message_forms.Message.{Message}
use Rattle.tipc_types.specs.declared.message_forms.Message.TheVariants as message
use Rattle.tipc_header.specs.declared.packet.Header.{Header}
use Rattle.tipc_header.specs.declared.packet.Header.TheVariants as header
use Rattle.tipc_header.specs.Grammar.{Fits}
use Rattle.tipc_header.specs.Spelling.{Fields, size_of, spelling}
use Rattle.tipc_header.specs.Users.{header_size}
use Rattle.tipc_header.proofs.Again.{length-spelling}
use Rattle.tipc_message.specs.Wire.{items_packet, message_of, packet_of, payload_of, payload_packet}
use Rattle.tipc_bundle.specs.Bundles.{may_stand_inside}
use Rattle.tipc_tunnel.specs.Tunnels.{may_stand_in_tunnel as may_be_wrapped}
use Rattle.tipc_fragments.specs.Cutting.{Piece, fragment_fields as piece_packet, packets_of, pieces_of}
use Rattle.tipc_fragments.proofs.CutLaws.{length-packet, length-pieces_of, packets_are_short, sent_fits}
use Rattle.tipc_reassembly.specs.Slots.{IsCut}
use Rattle.tipc_link.specs.Sessions.{IsWaiting}
use Rattle.tipc_link.proofs.JoinLaws.{fragment_waits, inner_waits}
use Rattle.tipc_pair.specs.Messages.{pieces_for}
use Rattle.tipc_pair.specs.Runs.{IsListed, plain}
use Rattle.tipc_pair.proofs.Pieces.{All-one, pieces_cut}
use Rattle.tipc_node.specs.Messages.{ArePieces, IsSendable, bytes_of, spelled}

-- these bytes spell the packet of a message that a node of this address sends, and it is read again from that
abbrev pub IsSpelled : ℕ → Message → List ℕ → Type 0
IsSpelled own m bytes = (p : Fields) × (packet_of own m ≡ Some p) × Fits p × (bytes ≡ spelling p) × (message_of p ≡ Some m)

-- so it may be sent, and these are its bytes
pub sendable_by : (own : ℕ) (m : Message) (bytes : List ℕ) → IsSpelled own m bytes → IsSendable own m
sendable_by own m bytes s = record { packet = s.0; packet_is = s.1; fits = s.2; read = s.4 }

pub spelled_bytes : (own : ℕ) (m : Message) (bytes : List ℕ) → IsSpelled own m bytes → bytes ≡ bytes_of own m
unfolding bytes_of
spelled_bytes own m bytes s = s.3 ∙ sym (ap spelled s.1)

-- a packet that carries a message
abbrev IsCarrier : Fields → Type 0
IsCarrier p = (may_stand_inside p.header ≡ true) × (4 * header_size p.header ≤ 44) × (size_of p ≡ 4 * header_size p.header + length p.rest) × (length p.rest ≤ 66000)

carrier_with : (own : ℕ) (m : Message) (p : Fields) → packet_of own m ≡ Some p → Fits p → IsCarrier p
unfolding packet_of
carrier_with own (message.Payload importance form.Connected from to kind lower upper code droppable body) p is fits =
    let same : payload_packet own (payload_of importance form.Connected from to kind lower upper code droppable) body ≡ p = cc in
    subst (λ q. Fits q → IsCarrier q) same (λ f. (refl, omega arith, refl, f.rest)) fits
carrier_with own (message.Payload importance form.Multicast from to kind lower upper code droppable body) p is fits =
    let same : payload_packet own (payload_of importance form.Multicast from to kind lower upper code droppable) body ≡ p = cc in
    subst (λ q. Fits q → IsCarrier q) same (λ f. (refl, omega arith, refl, f.rest)) fits
carrier_with own (message.Payload importance form.Named from to kind lower upper code droppable body) p is fits =
    let same : payload_packet own (payload_of importance form.Named from to kind lower upper code droppable) body ≡ p = cc in
    subst (λ q. Fits q → IsCarrier q) same (λ f. (refl, omega arith, refl, f.rest)) fits
carrier_with own (message.Payload importance form.Direct from to kind lower upper code droppable body) p is fits =
    let same : payload_packet own (payload_of importance form.Direct from to kind lower upper code droppable) body ≡ p = cc in
    subst (λ q. Fits q → IsCarrier q) same (λ f. (refl, omega arith, refl, f.rest)) fits
carrier_with own (message.Items withdrawal items) p is fits =
    let same : items_packet own withdrawal items ≡ p = cc in
    subst (λ q. Fits q → IsCarrier q) same (λ f. (let most = f.rest.1 in (refl, omega arith, refl, omega (arith, most)))) fits

-- they are 66,044 at most
pub spelled_most : (own : ℕ) (m : Message) (bytes given : List ℕ) → IsSpelled own m bytes → given ≡ bytes → length given ≤ 66044
spelled_most own m bytes given s same =
    let u = carrier_with own m s.0 s.1 s.2 in
    let header = u.1 in
    let size = u.2 in
    let rest = u.3 in
    let long : length given ≡ size_of s.0 = ap length (same ∙ s.3) ∙ length-spelling s.0 in
    omega (arith, header, size, rest, long)

-- and may wait, where they are few enough for one packet
spelled_waits : (own : ℕ) (m : Message) (bytes : List ℕ) → IsSpelled own m bytes → length bytes < 1453 → IsWaiting bytes
spelled_waits own m bytes s short =
    inner_waits bytes (record { packet = s.0; fits = s.2; spelled = s.3; inside = (carrier_with own m s.0 s.1 s.2).0 }) (omega (arith, short))

-- what may stand in a bundle may stand in a tunnel packet
inside_too : (h : Header) → may_stand_inside h ≡ true → may_be_wrapped h ≡ true
inside_too (header.Payload x) is = refl
inside_too (header.NameDistributor x) is = refl
inside_too other is = absurd cc

-- and stand in the lists of a link
spelled_listed : (own : ℕ) (m : Message) (bytes : List ℕ) → IsSpelled own m bytes → length bytes < 1453 → IsListed bytes
spelled_listed own m bytes s short =
    plain (spelled_waits own m bytes s short) (record { packet = s.0; fits = s.2; spelled = s.3; inside = inside_too s.0.header (carrier_with own m s.0 s.1 s.2).0 }) (omega (arith, short))

cut_waits : (piece : Piece) → IsCut piece → IsWaiting (spelling (piece_packet piece))
cut_waits piece cut =
    fragment_waits (piece_packet piece) (record { fragment_type = piece.kind; broadcast_acknowledgement = 0; number = piece.number })
    (sent_fits piece 0 0 0 cut.first cut.number cut.some cut.most (omega arith) (omega arith) (omega arith)) refl (omega (arith, length-packet piece, cut.most))

cut_listed : (piece : Piece) → IsCut piece → IsListed (spelling (piece_packet piece))
cut_listed piece cut =
    plain (cut_waits piece cut)
    (record { packet = piece_packet piece; fits = sent_fits piece 0 0 0 cut.first cut.number cut.some cut.most (omega arith) (omega arith) (omega arith); spelled = refl; inside = refl })
    (omega (arith, length-packet piece, cut.most))

-- so may their fragments
packets_listed : (m : List ℕ) → length m ≤ 66044 → All IsListed (packets_of m)
packets_listed m short =
    let cuts = pieces_cut m (omega (arith, short)) in
    All-map IsListed (λ p. spelling (piece_packet p)) (pieces_of m) (λ k d within. cut_listed (slice_index_or (pieces_of m) k d) (cuts k d within))

alone : (bytes : List ℕ) → length bytes < 1453 → pieces_for bytes ≡ bytes ∷ []
unfolding pieces_for
alone bytes short = let is : nat_le (length bytes) 1452 ≡ true = grind (arith, nat_tests, short) in rw is refl

in_fragments : (bytes : List ℕ) → 1453 ≤ length bytes → pieces_for bytes ≡ packets_of bytes
unfolding pieces_for
in_fragments bytes long = let is : nat_le (length bytes) 1452 ≡ false = grind (arith, nat_tests, long) in rw is refl

-- the pieces are those of the message
pub one_piece : (own : ℕ) (m : Message) (bytes : List ℕ) (pieces : List (List ℕ)) → IsSpelled own m bytes → length bytes < 1453 → pieces ≡ bytes ∷ [] → pieces ≡ pieces_for (bytes_of own m)
one_piece own m bytes pieces s short is = is ∙ sym (alone bytes short) ∙ ap pieces_for (spelled_bytes own m bytes s)

pub one_listed : (own : ℕ) (m : Message) (bytes : List ℕ) (pieces : List (List ℕ)) → IsSpelled own m bytes → length bytes < 1453 → pieces ≡ bytes ∷ [] → All IsListed pieces
one_listed own m bytes pieces s short is = subst (All IsListed) (sym is) (All-one IsListed bytes (spelled_listed own m bytes s short))

pub many_pieces : {E : Type 0} (own : ℕ) (m : Message) (bytes given : List ℕ) (r : Result (List (List ℕ)) E) → IsSpelled own m bytes → given ≡ bytes → 1453 ≤ length bytes → IfOk r (λ packets. packets ≡ packets_of given)
    → IfOk r (λ packets. packets ≡ pieces_for (bytes_of own m))
many_pieces own m bytes given (Ok packets) s same long is = is ∙ ap packets_of same ∙ sym (in_fragments bytes long) ∙ ap pieces_for (spelled_bytes own m bytes s)
many_pieces own m bytes given (Err e) s same long is = tt

pub many_sendable : {E : Type 0} (own : ℕ) (m : Message) (bytes : List ℕ) (r : Result (List (List ℕ)) E) → IsSpelled own m bytes → IfOk r (λ packets. IsSendable own m)
many_sendable own m bytes (Ok packets) s = sendable_by own m bytes s
many_sendable own m bytes (Err e) s = tt

pub many_listed : {E : Type 0} (own : ℕ) (m : Message) (bytes given : List ℕ) (r : Result (List (List ℕ)) E) → IsSpelled own m bytes → given ≡ bytes → IfOk r (λ packets. packets ≡ packets_of given) → IfOk r (All IsListed)
many_listed own m bytes given (Ok packets) s same is = subst (All IsListed) (sym is) (packets_listed given (spelled_most own m bytes given s same))
many_listed own m bytes given (Err e) s same is = tt

-- ---- as a broadcast link asks of them

pub one_cast : (bytes : List ℕ) (pieces : List (List ℕ)) → 24 ≤ length bytes → length bytes < 1453 → pieces ≡ bytes ∷ [] → ArePieces pieces
one_cast bytes pieces long short is = subst ArePieces (sym is) (record {
  long = All-one (λ piece. 16 ≤ length piece) bytes (omega (arith, long));
  short = All-one (λ piece. length piece ≤ most_packet_bytes) bytes (omega (arith, short));
  few = omega arith;
})

packet_long : (piece : Piece) → 16 ≤ length (spelling (piece_packet piece))
packet_long piece = omega (arith, length-packet piece)

packets_few : (m : List ℕ) → length m ≤ 66044 → length (packets_of m) ≤ 47
packets_few m most =
    let count = length-pieces_of m in
    let same = length-map (pieces_of m) (λ p. spelling (piece_packet p)) in
    omega (arith, count, same, most)

packets_cast : (m : List ℕ) → length m ≤ 66044 → ArePieces (packets_of m)
packets_cast m most = record {
  long = All-map (λ packet. 16 ≤ length packet) (λ p. spelling (piece_packet p)) (pieces_of m) (λ k d within. packet_long (slice_index_or (pieces_of m) k d));
  short = packets_are_short m;
  few = packets_few m most;
}

pub many_cast : {E : Type 0} (own : ℕ) (m : Message) (bytes given : List ℕ) (r : Result (List (List ℕ)) E) → IsSpelled own m bytes → given ≡ bytes → IfOk r (λ packets. packets ≡ packets_of given) → IfOk r ArePieces
many_cast own m bytes given (Ok packets) s same is = subst ArePieces (sym is) (packets_cast given (spelled_most own m bytes given s same))
many_cast own m bytes given (Err e) s same is = tt
