-- What comes out of a packet is what a sender put into it.
use Rattle.std.proofs.Common.{◌≡◌, ℕ, ◌<◌, ◌^◌, List, [], ◌∷◌, ◌++◌, length, map, refl, sym, ap, subst, ◌∙◌, append_assoc, arith}
use Rattle.std.specs.Prelude.{All}
use Rattle.std.specs.List.{flat_map}
use Rattle.std.proofs.lemmas.List.{append-nil, map-append}
use Rattle.std.proofs.lemmas.List.Elements.{All-head, All-tail}
use Rattle.tipc_types.specs.declared.packet_lists.Taken.{Taken}
use Rattle.tipc_header.specs.Spelling.{spelling}
use Rattle.tipc_fragments.specs.Cutting.{fragment_fields, Piece}
use Rattle.tipc_fragments.specs.Joining.{answer_of, Joining}
use Rattle.tipc_fragments.specs.Streams.{CameItem, Item, item_after, item_after_all, items_in, Part}
use Rattle.tipc_fragments.proofs.CutLaws.{sent_fits}
use Rattle.tipc_bundle.specs.Bundles.{IsInner, joined}
use Rattle.tipc_bundle.specs.Splitting.{AreInside, IsBundle}
use Rattle.tipc_bundle.proofs.Bundling.{are_bundle, are_inside}
use Rattle.tipc_bundle.proofs.Places.{inside_once, inside_or_bad}
use Rattle.tipc_reassembly.specs.declared.opening.Opened.{Opened}
use Rattle.tipc_reassembly.specs.Opening.{bad_bundle, Brings, BringsAll, brought_by, bundle, fragment, go_on, IsFragment, joined_members, message, none, other}
use Rattle.tipc_reassembly.specs.Slots.{BringsItems, came_by, came_of, Fragment, Group, IsCut, IsGroup, IsSlot, item_brings, items_bring, Slot, slot_bytes, slot_items}
use Rattle.tipc_reassembly.proofs.OnePacket.{bundle_no_fragment, inner_no_bundle, inner_no_fragment, one_piece}

-- ---- items that come one after the other

pub items_bring-append : (s : Joining) (xs ys : List CameItem) → items_bring s (xs ++ ys) ≡ items_bring s xs ++ items_bring (item_after_all s xs) ys
items_bring-append s [] ys = refl
items_bring-append s (c ∷ xs) ys =
    let first = item_brings s c.0 c.1 in
    let between = item_after s c.0 c.1 in
    ap (λ (os : List Opened). first ++ os) (items_bring-append between xs ys)
    ∙ sym (append_assoc first (items_bring between xs) (items_bring (item_after_all between xs) ys))

pub after_all-append : (s : Joining) (xs ys : List CameItem) → item_after_all s (xs ++ ys) ≡ item_after_all (item_after_all s xs) ys
after_all-append s [] ys = refl
after_all-append s (c ∷ xs) ys = after_all-append (item_after s c.0 c.1) xs ys

-- one run and then another
items_then : (s between last : Joining) (xs ys : List CameItem) (opened more : List Opened)
    → BringsItems s xs opened between → BringsItems between ys more last → BringsItems s (xs ++ ys) (opened ++ more) last
items_then s between last xs ys opened more one two = record {
  opened_is = ap (λ (os : List Opened). os ++ more) one.opened_is
      ∙ ap (λ (os : List Opened). items_bring s xs ++ os) (two.opened_is ∙ ap (λ (x : Joining). items_bring x ys) one.left)
      ∙ sym (items_bring-append s xs ys);
  left = two.left ∙ ap (λ (x : Joining). item_after_all x ys) one.left ∙ sym (after_all-append s xs ys);
}

-- ---- one packet

-- a packet as it is
pub one_brings : (s : Joining) (packet : List ℕ) (by : ℕ) (opened : List Opened) (last : Joining) → IsInner packet → Brings s packet by opened last
    → BringsItems s (came_by by (Group (packet ∷ []))) opened last
one_brings s packet by opened last is (message inner) = record { opened_is = refl; left = refl }
one_brings s packet by opened last is (bundle bundled stand) = absurd (inner_no_bundle packet is bundled)
one_brings s packet by opened last is (bad_bundle bundled bad) = absurd (inner_no_bundle packet is bundled)
one_brings s packet by opened last is (fragment {piece = piece} cut) = absurd (inner_no_fragment packet piece is cut)
one_brings s packet by opened last is (other inner bundled cut) = absurd (inner is)

-- several as their bundle
singles_bring : (s : Joining) (packets : List (List ℕ)) (by : ℕ) → map (brought_by by) packets ≡ items_bring s (came_by by (Group packets))
singles_bring s [] by = refl
singles_bring s (packet ∷ packets) by = ap (λ (os : List Opened). brought_by by packet ∷ os) (singles_bring s packets by)

singles_after : (s : Joining) (packets : List (List ℕ)) (by : ℕ) → s ≡ item_after_all s (came_by by (Group packets))
singles_after s [] by = refl
singles_after s (packet ∷ packets) by = singles_after s packets by

pub bundle_brings : (s : Joining) (bytes : List ℕ) (packets : List (List ℕ)) (by : ℕ) (opened : List Opened) (last : Joining)
    → IsBundle bytes → AreInside packets bytes → Brings s bytes by opened last → BringsItems s (came_by by (Group packets)) opened last
bundle_brings s bytes packets by opened last is stand (message inner) = absurd (inner_no_bundle bytes inner is)
bundle_brings s bytes packets by opened last is stand (bundle {packets = others} bundled inside) = record {
  opened_is = ap (map (brought_by by)) (inside_once others packets bytes inside stand) ∙ singles_bring s packets by;
  left = singles_after s packets by;
}
bundle_brings s bytes packets by opened last is stand (bad_bundle {place = place} bundled bad) = absurd (inside_or_bad packets bytes place stand bad)
bundle_brings s bytes packets by opened last is stand (fragment {piece = piece} cut) = absurd (bundle_no_fragment bytes piece is cut)
bundle_brings s bytes packets by opened last is stand (other inner bundled cut) = absurd (bundled is)

group_brings : (s : Joining) (packets : List (List ℕ)) (by : ℕ) (opened : List Opened) (last : Joining) → IsGroup packets → Brings s (joined packets) by opened last
    → BringsItems s (came_by by (Group packets)) opened last
unfolding joined
group_brings s [] by opened last is brings = absurd (omega (arith, is.some))
group_brings s (packet ∷ []) by opened last is brings = one_brings s packet by opened last (All-head IsInner packet [] is.inner) brings
group_brings s (first ∷ second ∷ others) by opened last is brings =
    let packets = first ∷ second ∷ others in
    let size : length (joined packets) < 2 ^ 17 = omega (arith, is.within) in
    bundle_brings s (joined packets) packets by opened last
    (are_bundle packets is.inner (omega arith) size) (are_inside packets is.inner (omega arith) size) brings

-- a fragment
pub cut_is_fragment : (piece : Piece) → IsCut piece → IsFragment (spelling (fragment_fields piece)) piece
cut_is_fragment piece is = record {
  packet = fragment_fields piece;
  fragment = record { fragment_type = piece.kind; broadcast_acknowledgement = 0; number = piece.number };
  fits = sent_fits piece 0 0 0 is.first is.number is.some is.most (omega arith) (omega arith) (omega arith);
  spelled = refl;
  user = refl;
  piece_is = refl;
}

pub fragment_brings : (s : Joining) (bytes : List ℕ) (piece : Piece) (by : ℕ) (opened : List Opened) (last : Joining) → IsFragment bytes piece
    → Brings s bytes by opened last → BringsItems s (came_by by (Fragment piece)) opened last
fragment_brings s bytes piece by opened last is (message inner) = absurd (inner_no_fragment bytes piece inner is)
fragment_brings s bytes piece by opened last is (bundle bundled stand) = absurd (bundle_no_fragment bytes piece bundled is)
fragment_brings s bytes piece by opened last is (bad_bundle bundled bad) = absurd (bundle_no_fragment bytes piece bundled is)
fragment_brings s bytes piece by opened last is (fragment {piece = p} cut) =
    let same : p ≡ piece = one_piece bytes p piece cut is in record {
      opened_is = ap (λ (q : Piece). joined_members (answer_of s q by)) same ∙ sym (append-nil (joined_members (answer_of s piece by)));
      left = ap (λ (q : Piece). item_after s (Part q) by) same;
    }
fragment_brings s bytes piece by opened last is (other inner bundled cut) = absurd (cut piece is)

-- what is put in comes out
pub slot_brings : (slot : Slot) (s : Joining) (by : ℕ) (opened : List Opened) (last : Joining) → IsSlot slot → Brings s (slot_bytes slot) by opened last
    → BringsItems s (came_by by slot) opened last
slot_brings (Group packets) s by opened last is brings = group_brings s packets by opened last is brings
slot_brings (Fragment piece) s by opened last is brings = fragment_brings s (spelling (fragment_fields piece)) piece by opened last (cut_is_fragment piece is) brings

-- ---- packets that are taken one after the other

first_same : (packet : Taken) (packets : List Taken) (slot : Slot) (slots : List Slot)
    → map (λ t. t.packet) (packet ∷ packets) ≡ map slot_bytes (slot ∷ slots) → packet.packet ≡ slot_bytes slot
first_same packet packets slot slots same = cc

others_same : (packet : Taken) (packets : List Taken) (slot : Slot) (slots : List Slot)
    → map (λ t. t.packet) (packet ∷ packets) ≡ map slot_bytes (slot ∷ slots) → map (λ t. t.packet) packets ≡ map slot_bytes slots
others_same packet packets slot slots same = cc

pub slots_bring : (slots : List Slot) (s : Joining) (taken : List Taken) (opened : List Opened) (last : Joining) → All IsSlot slots
    → map (λ t. t.packet) taken ≡ map slot_bytes slots → BringsAll s taken opened last → BringsItems s (came_of slots taken) opened last
slots_bring [] s taken opened last are same none = record { opened_is = refl; left = refl }
slots_bring [] s taken opened last are same (go_on one rest) = absurd cc
slots_bring (slot ∷ slots) s taken opened last are same none = absurd cc
slots_bring (slot ∷ slots) s taken opened last are same (go_on {between = between} {packet = packet} {packets = packets} {opened = first} {more = more} one rest) =
    let here = subst (λ (bytes : List ℕ). Brings s bytes packet.by first between) (first_same packet packets slot slots same) one in
    items_then s between last (came_by packet.by slot) (came_of slots packets) first more
    (slot_brings slot s packet.by first between (All-head IsSlot slot slots are) here)
    (slots_bring slots between packets more last (All-tail IsSlot slot slots are) (others_same packet packets slot slots same) rest)

-- ---- which items came

items-came_by : (by : ℕ) (items : List Item) → items_in (map (λ item. (item, by)) items) ≡ items
items-came_by by [] = refl
items-came_by by (item ∷ items) = ap (λ (is : List Item). item ∷ is) (items-came_by by items)

pub items-came_of : (slots : List Slot) (taken : List Taken) → length taken ≡ length slots → items_in (came_of slots taken) ≡ flat_map slot_items slots
items-came_of [] taken same = refl
items-came_of (slot ∷ slots) [] same = absurd (omega arith)
items-came_of (slot ∷ slots) (packet ∷ taken) same =
    map-append (λ (c : CameItem). c.0) (came_by packet.by slot) (came_of slots taken)
    ∙ ap (λ (is : List Item). is ++ items_in (came_of slots taken)) (items-came_by packet.by (slot_items slot))
    ∙ ap (λ (is : List Item). slot_items slot ++ is) (items-came_of slots taken (omega arith))
