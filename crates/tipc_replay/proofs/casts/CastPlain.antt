-- A message that is cast is no name items: such a packet is short enough to be cast whole, and then it is neither payload nor a fragment.
use Rattle.std.specs.Prelude.{All, nat_le, if◌then◌else◌}
use Rattle.std.proofs.Common.{◌≡◌, ◌<◌, ◌^◌, ◌∙◌, ℕ, Bool, true, List, [], ◌∷◌, Some, length, refl, sym, ap, subst, arith}
use Rattle.std.proofs.lemmas.Bool.Decides.{nat_tests}
use Rattle.std.proofs.lemmas.List.Elements.{All-head}
use Rattle.tipc_types.specs.declared.message_forms.Flow.TheVariants.{Broadcast}
use Rattle.tipc_types.specs.declared.message_forms.Message.{Message}
use Rattle.tipc_types.specs.declared.message_forms.Message.TheVariants.{Items, Payload}
use Rattle.tipc_types.specs.declared.message_forms.Item.{Item}
use Rattle.tipc_header.specs.declared.frames.FrameKind.TheVariants.{Casts, Links}
use Rattle.tipc_header.specs.declared.packet.Header.{Header}
use Rattle.tipc_header.specs.Frames.{kind_of}
use Rattle.tipc_header.specs.Grammar.{Fits}
use Rattle.tipc_header.specs.Reading.{fields_at}
use Rattle.tipc_header.specs.Spelling.{Fields, spelling}
use Rattle.tipc_header.proofs.Again.{again, length-spelling}
use Rattle.tipc_fragments.specs.Cutting.{packets_of}
use Rattle.tipc_message.specs.Wire.{items_packet, packet_of}
use Rattle.tipc_broadcast.specs.Casting.{Casting}
use Rattle.tipc_broadcast.specs.Contacts.{previous_before}
use Rattle.tipc_broadcast.specs.Deeds.{AreLawful, CastDeed}
use Rattle.tipc_broadcast.specs.Pieces.{IsCastPiece}
use Rattle.tipc_pair.specs.Messages.{pieces_for}
use Rattle.tipc_node.specs.Messages.{IsSendable, bytes_of, in_flow}

-- a packet that can be cast has a spelling as it waits
piece_fits : (own : ℕ) (packet : List ℕ) → (h : IsCastPiece own packet) → Fits h.fields
piece_fits own packet h =
    let number = h.fits 0 (omega arith) in
    let few : previous_before h.fields.header own < 2 ^ 32 = before h.fields.header in
    subst Fits (sym h.as_it_waits) (record { acknowledgement = omega arith; sequence = omega arith; previous = few; header = number.header; numbering = number.numbering; rest = number.rest; size = number.size })
  where
    before : (header : Header) → previous_before header own < 2 ^ 32
    before (Header.Fragmenter fragment) = omega arith
    before other = (h.fits 0 (omega arith)).previous

-- one of name items can't
no_items : (caster own : ℕ) (withdrawal : Bool) (items : List Item) → Fits (items_packet own withdrawal items) → IsCastPiece caster (spelling (items_packet own withdrawal items)) → ⊥
no_items caster own withdrawal items fits h =
    let q = items_packet own withdrawal items in
    let same : h.fields ≡ q = sym (again h.fields (piece_fits caster (spelling q) h)) ∙ ap fields_at (sym h.spelled) ∙ again q fits in
    let wrong : Links ≡ Casts = ap (λ (f : Fields). kind_of 0 f.header) (sym same) ∙ h.kind in
    cc

items_short : (own : ℕ) (withdrawal : Bool) (items : List Item) → Fits (items_packet own withdrawal items) → nat_le (length (spelling (items_packet own withdrawal items))) 1452 ≡ true
items_short own withdrawal items fits =
    let size = length-spelling (items_packet own withdrawal items) in
    let most = fits.rest.1 in
    grind (arith, nat_tests, size, most)

-- whole
items_whole : (own : ℕ) (withdrawal : Bool) (items : List Item) → Fits (items_packet own withdrawal items) → pieces_for (spelling (items_packet own withdrawal items)) ≡ spelling (items_packet own withdrawal items) ∷ []
unfolding pieces_for
items_whole own withdrawal items fits = ap (λ b. if b then spelling (items_packet own withdrawal items) ∷ [] else packets_of (spelling (items_packet own withdrawal items))) (items_short own withdrawal items fits)

items_bytes_are : (own : ℕ) (withdrawal : Bool) (items : List Item) → bytes_of own (Items withdrawal items) ≡ spelling (items_packet own withdrawal items)
unfolding bytes_of packet_of
items_bytes_are own withdrawal items = refl

items_fit : (own : ℕ) (withdrawal : Bool) (items : List Item) → IsSendable own (Items withdrawal items) → Fits (items_packet own withdrawal items)
unfolding packet_of
items_fit own withdrawal items h = (let same : items_packet own withdrawal items ≡ h.packet = (let is = h.packet_is in cc) in subst Fits (sym same) h.fits)

-- so what is cast is delivered as it was sent
pub cast_stays : (own : ℕ) (v : Casting) (m : Message) → IsSendable own m → AreLawful (CastDeed.sends (pieces_for (bytes_of own m)) ∷ []) v → in_flow Broadcast (Some m) ≡ Some m
cast_stays own v (Payload importance form from to kind lower upper code droppable body) h lawful = refl
cast_stays own v (Items withdrawal items) h lawful =
    let fits = items_fit own withdrawal items h in
    let q = spelling (items_packet own withdrawal items) in
    let one : pieces_for (bytes_of own (Items withdrawal items)) ≡ q ∷ [] = ap pieces_for (items_bytes_are own withdrawal items) ∙ items_whole own withdrawal items fits in
    let all : All (IsCastPiece v.own) (q ∷ []) = subst (All (IsCastPiece v.own)) one lawful.0.cast in
    absurd (no_items v.own own withdrawal items fits (All-head (IsCastPiece v.own) q [] all))
