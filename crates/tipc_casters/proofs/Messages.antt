-- The packets that a member was given are joined to a front of the messages.
use Rattle.std.proofs.Common.{◌≡◌, ℕ, List, [], ◌∷◌, ◌++◌, map, refl, sym, ap, ◌∙◌, append-nil}
use Rattle.std.specs.Prelude.{All}
use Rattle.std.specs.List.{flat_map}
use Rattle.std.proofs.lemmas.List.Concat.{flat_map-append}
use Rattle.std.proofs.lemmas.List.Elements.{All-cons, All-head, All-nil, All-tail}
use Rattle.tipc_fragments.specs.Streams.{items_of}
use Rattle.tipc_reassembly.specs.Slots.{IsSlot, slot_bytes, slot_items, Slot}
use Rattle.tipc_reassembly.proofs.FrontLaws.{opens_front}
use Rattle.tipc_casters.specs.Messages.{GivesMessages}
use Rattle.tipc_casters.proofs.MemberTurns.{gives_a_prefix}

-- the slots of a front of the packets
record IsFrontOf (slots : List Slot) (front : List (List ℕ)) : Type 0 where
  first : List Slot
  rest : List Slot
  are : slots ≡ first ++ rest
  bytes : front ≡ map slot_bytes first
  sound : All IsSlot first

front_of : (slots : List Slot) (front rest : List (List ℕ)) → All IsSlot slots → map slot_bytes slots ≡ front ++ rest → IsFrontOf slots front
front_of slots [] rest sound is = record { first = []; rest = slots; are = refl; bytes = refl; sound = All-nil IsSlot }
front_of [] (x ∷ front) rest sound is = absurd (let wrong : ⊥ = cc in wrong)
front_of (s ∷ slots) (x ∷ front) rest sound is =
    let head : slot_bytes s ≡ x = cc in
    let tail : map slot_bytes slots ≡ front ++ rest = cc in
    let more = front_of slots front rest (All-tail IsSlot s slots sound) tail in
    record {
      first = s ∷ more.first;
      rest = more.rest;
      are = ap (λ (ss : List Slot). s ∷ ss) more.are;
      bytes = ap (λ (b : List ℕ). b ∷ front) (sym head) ∙ ap (λ (bs : List (List ℕ)). slot_bytes s ∷ bs) more.bytes;
      sound = All-cons IsSlot s more.first (All-head IsSlot s slots sound) more.sound;
    }

pub gives_messages : GivesMessages
gives_messages a ms h m c messages taken opened last pieces took brings =
    let given = (ms m).given c in
    let put = a.put m c in
    let prefix = gives_a_prefix a ms h m c in
    let f = front_of pieces.slots given prefix.0 pieces.sound (sym pieces.packets_are ∙ prefix.1) in
    let items = flat_map slot_items f.first in
    let within : flat_map items_of messages ≡ items ++ flat_map slot_items f.rest = sym pieces.whole ∙ (ap (flat_map slot_items) f.are ∙ flat_map-append slot_items f.first f.rest) in
    let opens = opens_front messages f.first taken opened last pieces.inner f.sound (flat_map slot_items f.rest, within) (took ∙ f.bytes) brings in
    record {
      whole = opens.whole;
      front = opens.front;
      every = λ all. (
          let everything = opens_front messages pieces.slots taken opened last pieces.inner pieces.sound ([], sym pieces.whole ∙ sym (append-nil (flat_map slot_items pieces.slots))) (took ∙ (all ∙ pieces.packets_are)) brings in
          everything.every pieces.whole);
    }
