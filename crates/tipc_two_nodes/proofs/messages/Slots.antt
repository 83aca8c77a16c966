-- What is put into the packets of a contact, one slot for each, before and after a message was put.
use Rattle.std.specs.List.{flat_map}
use Rattle.std.specs.Prelude.{All}
use Rattle.std.proofs.Common.{[], ◌++◌, ◌+◌, ◌-◌, ◌<◌, ◌^◌, ◌∙◌, ◌∷◌, ◌≡◌, ◌≤◌, List, ap, append-nil, append_assoc, arith, drop, false, if◌then◌else◌, inl, inr, length, length-append, map, nat_le, refl, slice_index_or, subst, suc, sym, take, take-append-drop, true, ℕ}
use Rattle.std.proofs.lemmas.Bool.Decides.{nat_tests}
use Rattle.std.proofs.lemmas.Grind.{flat_map-append}
use Rattle.std.proofs.lemmas.List.{length-map, map-append, take-append-le}
use Rattle.std.proofs.lemmas.List.Elements.{All-append, All-cons, All-head, All-map, All-tail}
use Rattle.tipc_types.specs.Prefixes.{IsPrefixOf}
use Rattle.tipc_header.specs.Spelling.{spelling}
use Rattle.tipc_fragments.specs.Cutting.{Piece, fragment_fields, packets_of, pieces_of}
use Rattle.tipc_fragments.specs.Streams.{Item, Part, Single, items_of}
use Rattle.tipc_bundle.specs.Bundles.{Carries as Waits, IsInner, joined}
use Rattle.tipc_bundle.specs.Splitting.{IsBundle}
use Rattle.tipc_bundle.proofs.Bundling.{are_bundle, carried_once, one_or_several}
use Rattle.tipc_bundle.proofs.InnerLaws.{inner-most}
use Rattle.tipc_reassembly.specs.Opening.{IsFragment}
use Rattle.tipc_reassembly.specs.Slots.{Fragment, Group, IsSlot, Slot, slot_bytes, slot_items}
use Rattle.tipc_reassembly.proofs.OnePacket.{bundle_no_fragment, inner_no_fragment}
use Rattle.tipc_reassembly.proofs.SlotLaws.{cut_is_fragment}
use Rattle.tipc_link.specs.Sessions.{IsPut, MayJoin, SessionEnd, joins, last_of, waits}
use Rattle.tipc_pair.specs.Messages.{pieces_for}
use Rattle.tipc_pair.proofs.Pieces.{All-one, pieces_cut}
use Rattle.tipc_two_nodes.proofs.messages.Packets.{one_piece}

-- ---- the slots of a message

-- what is put into the packets of a message
unfoldable slots_for : List ℕ → List Slot
slots_for m = if nat_le (length m) 1452 then Group (m ∷ []) ∷ [] else map Fragment (pieces_of m)

cut_bytes : (pieces : List Piece) → map slot_bytes (map Fragment pieces) ≡ map (λ p. spelling (fragment_fields p)) pieces
cut_bytes [] = refl
cut_bytes (p ∷ pieces) = ap (λ xs. spelling (fragment_fields p) ∷ xs) (cut_bytes pieces)

cut_items : (pieces : List Piece) → flat_map slot_items (map Fragment pieces) ≡ map Part pieces
cut_items [] = refl
cut_items (p ∷ pieces) = ap (λ xs. Part p ∷ xs) (cut_items pieces)

-- they are the packets in which the message is sent
slots_for-bytes : (m : List ℕ) → map slot_bytes (slots_for m) ≡ pieces_for m
unfolding slots_for pieces_for joined
slots_for-bytes m = elim (nat_le (length m) 1452) as (λ b. map slot_bytes (if b then Group (m ∷ []) ∷ [] else map Fragment (pieces_of m)) ≡ (if b then m ∷ [] else packets_of m)) [ true ↦ refl | false ↦ cut_bytes (pieces_of m) ]

-- and what is sent of it
slots_for-items : (m : List ℕ) → flat_map slot_items (slots_for m) ≡ items_of m
unfolding slots_for
slots_for-items m = elim (nat_le (length m) 1452) as (λ b. flat_map slot_items (if b then Group (m ∷ []) ∷ [] else map Fragment (pieces_of m)) ≡ (if b then Single m ∷ [] else map Part (pieces_of m))) [ true ↦ refl | false ↦ cut_items (pieces_of m) ]

-- and each of them can be opened
slots_for-sound : (m : List ℕ) → IsInner m → All IsSlot (slots_for m)
unfolding slots_for joined
slots_for-sound m h =
    elim (nat_le (length m) 1452) as (λ b. nat_le (length m) 1452 ≡ b → All IsSlot (if b then Group (m ∷ []) ∷ [] else map Fragment (pieces_of m))) [
      | true ↦ λ short. All-one IsSlot (Group (m ∷ [])) (record { some = omega arith; inner = All-one IsInner m (h); within = grind (arith, nat_tests, short) })
      | false ↦ λ long. All-map IsSlot Fragment (pieces_of m) (pieces_cut m (inner-most m (h)))
    ] refl

-- ---- the last slot

-- a list that ends with an element, and what it was made of
record EndsWith {A B : Type 0} (f : A → B) (xs : List A) (ys : List B) (y : B) : Type 0 where
  pub before : List A
  pub last : A
  pub is : xs ≡ before ++ last ∷ []
  pub before_is : map f before ≡ ys
  pub last_is : f last ≡ y

ends_with : {A B : Type 0} (f : A → B) (xs : List A) (ys : List B) (y : B) → map f xs ≡ ys ++ y ∷ [] → EndsWith f xs ys y
ends_with f [] [] y is = absurd (let none : ⊥ = cc in none)
ends_with f [] (z ∷ ys) y is = absurd (let none : ⊥ = cc in none)
ends_with f (x ∷ []) [] y is = record { before = []; last = x; is = refl; before_is = refl; last_is = (let same : f x ≡ y = cc in same) }
ends_with f (x ∷ x' ∷ xs) [] y is = absurd (let none : ⊥ = cc in none)
ends_with f (x ∷ xs) (z ∷ ys) y is =
    let first : f x ≡ z = cc in
    let later : map f xs ≡ ys ++ y ∷ [] = cc in
    let h = ends_with f xs ys y later in
    record { before = x ∷ h.before; last = h.last; is = ap (λ (zs : List _). x ∷ zs) h.is; before_is = ap (λ (zs : List _). f x ∷ zs) h.before_is ∙ ap (λ w. w ∷ ys) first; last_is = h.last_is }

-- what waits, and its last packet
waits_last : (ws : List (List ℕ)) → 0 < length ws → ws ≡ take (length ws - 1) ws ++ slice_index_or ws (length ws - 1) [] ∷ []
waits_last [] some = absurd (omega arith)
waits_last (w ∷ []) some = refl
waits_last (w ∷ v ∷ ws) some =
    let h = waits_last (v ∷ ws) (omega arith) in
    let n : length (w ∷ v ∷ ws) - 1 ≡ suc (length (v ∷ ws) - 1) = omega arith in
    ap (λ xs. w ∷ xs) h ∙ ap (λ k. take k (w ∷ v ∷ ws) ++ slice_index_or (w ∷ v ∷ ws) k [] ∷ []) (sym n)

-- ---- the slots with one more message

pub record IsMore (slots more : List Slot) (m : List ℕ) (line waiting : List (List ℕ)) : Type 0 where
  pub sound : All IsSlot more
  pub bytes : map slot_bytes more ≡ line ++ waiting
  pub items : flat_map slot_items more ≡ flat_map slot_items slots ++ items_of m
  pub front : (k : ℕ) → k ≤ length line → take k more ≡ take k slots

-- the last slot was made of these packets
last_group : (slot : Slot) (bytes : List ℕ) (packets : List (List ℕ)) → IsSlot slot → slot_bytes slot ≡ bytes → Waits bytes packets → slot ≡ Group packets
last_group (Group ps) bytes packets sound same w =
    let here : Waits bytes ps = record { some = sound.some; inner = sound.inner; joined = sym same; size = (let short = sound.within in let long = ap (λ (b : List ℕ). length b) same in omega arith) } in
    ap Group (carried_once bytes ps packets here w)
last_group (Fragment piece) bytes packets sound same w =
    let cut = cut_is_fragment piece sound in
    absurd (elim (one_or_several bytes packets w) [
      | inl one ↦ inner_no_fragment bytes piece one.0 (subst (λ b. IsFragment b piece) same cut)
      | inr several ↦ bundle_no_fragment bytes piece (subst IsBundle (sym w.joined) (are_bundle packets w.inner several.0 (subst (λ b. length b < 2 ^ 17) w.joined w.size))) (subst (λ b. IsFragment b piece) same cut)
    ])

All-last : {A : Type 0} (P : A → Type 0) (xs : List A) (x : A) → All P (xs ++ x ∷ []) → All P xs × P x
All-last P [] x h = (λ k d within. absurd (omega arith), All-head P x [] h)
All-last P (y ∷ xs) x h = let rest = All-last P xs x (All-tail P y (xs ++ x ∷ []) h) in (All-cons P y xs (All-head P y (xs ++ x ∷ []) h) rest.0, rest.1)

join_more : (slots : List Slot) (m : List ℕ) (line : List (List ℕ)) (s : SessionEnd) (packets : List (List ℕ)) → All IsSlot slots → map slot_bytes slots ≡ line ++ s.sending.waiting → IsInner m → items_of m ≡ Single m ∷ [] → MayJoin s packets m
    → (more : List Slot) × IsMore slots more m line (take (length s.sending.waiting - 1) s.sending.waiting ++ joined (packets ++ m ∷ []) ∷ [])
join_more slots m line s packets sound bytes message items may =
    let w = s.sending.waiting in
    let w0 = take (length w - 1) w in
    let split : map slot_bytes slots ≡ (line ++ w0) ++ last_of s ∷ [] = bytes ∙ ap (λ xs. line ++ xs) (waits_last w may.waits) ∙ sym (append_assoc line w0 (last_of s ∷ [])) in
    let h = ends_with slot_bytes slots (line ++ w0) (last_of s) split in
    let parts = All-last IsSlot h.before h.last (subst (All IsSlot) h.is sound) in
    let last = last_group h.last (last_of s) packets parts.1 h.last_is may.last in
    let new = Group (packets ++ m ∷ []) in
    let is_new : IsSlot new = record { some = omega (arith, length-append packets (m ∷ [])); inner = All-append IsInner packets (m ∷ []) may.last.inner (All-one IsInner m (message)); within = may.fits } in
    let long : length (line ++ w0) ≡ length h.before = ap (λ (xs : List (List ℕ)). length xs) (sym h.before_is) ∙ length-map h.before slot_bytes in (
      h.before ++ new ∷ [],
      record {
        sound = All-append IsSlot h.before (new ∷ []) parts.0 (All-one IsSlot new is_new);
        bytes = map-append slot_bytes h.before (new ∷ []) ∙ ap (λ xs. xs ++ joined (packets ++ m ∷ []) ∷ []) h.before_is ∙ append_assoc line w0 (joined (packets ++ m ∷ []) ∷ []);
        items = flat_map-append slot_items h.before (new ∷ [])
            ∙ ap (λ xs. flat_map slot_items h.before ++ xs) (append-nil (map Single (packets ++ m ∷ [])) ∙ map-append Single packets (m ∷ []))
            ∙ sym (append_assoc (flat_map slot_items h.before) (map Single packets) (Single m ∷ []))
            ∙ ap (λ xs. xs ++ Single m ∷ []) (
            ap (λ xs. flat_map slot_items h.before ++ xs) (sym (append-nil (map Single packets)))
            ∙ sym (flat_map-append slot_items h.before (Group packets ∷ []))
            ∙ ap (λ (l : Slot). flat_map slot_items (h.before ++ l ∷ [])) (sym last)
            ∙ ap (λ (ss : List Slot). flat_map slot_items ss) (sym h.is))
            ∙ ap (λ xs. flat_map slot_items slots ++ xs) (sym items);
        front = λ k few.
            let within : k ≤ length h.before = omega (arith, long, length-append line w0, few) in
            take-append-le k h.before (new ∷ []) within ∙ sym (take-append-le k h.before (h.last ∷ []) within) ∙ ap (λ ss. take k ss) (sym h.is);
      },
    )

behind_more : (slots : List Slot) (m : List ℕ) (line waiting : List (List ℕ)) → All IsSlot slots → map slot_bytes slots ≡ line ++ waiting → IsInner m → IsMore slots (slots ++ slots_for m) m line (waiting ++ pieces_for m)
behind_more slots m line waiting sound bytes message = record {
  sound = All-append IsSlot slots (slots_for m) sound (slots_for-sound m message);
  bytes = map-append slot_bytes slots (slots_for m) ∙ ap (λ xs. xs ++ map slot_bytes (slots_for m)) bytes ∙ ap (λ xs. (line ++ waiting) ++ xs) (slots_for-bytes m) ∙ append_assoc line waiting (pieces_for m);
  items = flat_map-append slot_items slots (slots_for m) ∙ ap (λ xs. flat_map slot_items slots ++ xs) (slots_for-items m);
  front = λ k few. (
      let long : length slots ≡ length line + length waiting = sym (length-map slots slot_bytes) ∙ ap (λ (xs : List (List ℕ)). length xs) bytes ∙ length-append line waiting in
      take-append-le k slots (slots_for m) (omega (arith, long, few)));
}

-- the slots after a message was put, by what then waits
pub more_slots : (slots : List Slot) (m : List ℕ) (line : List (List ℕ)) (s s' : SessionEnd) (pieces : List (List ℕ)) → pieces ≡ pieces_for m → IsPut s pieces s' → All IsSlot slots → map slot_bytes slots ≡ line ++ s.sending.waiting → IsInner m
    → (more : List Slot) × IsMore slots more m line s'.sending.waiting
more_slots slots m line s _ _ is (joins packets packet may) sound bytes message =
    let one = one_piece m packet (sym is) in
    let here : MayJoin s packets m = subst (MayJoin s packets) (sym one.0) may in
    let h = join_more slots m line s packets sound bytes message one.1 here in
    (h.0, subst (λ p. IsMore slots h.0 m line (take (length s.sending.waiting - 1) s.sending.waiting ++ joined (packets ++ p ∷ []) ∷ [])) one.0 h.1)
more_slots slots m line s _ _ is (waits pieces apart) sound bytes message =
    (slots ++ slots_for m, subst (λ ps. IsMore slots (slots ++ slots_for m) m line (s.sending.waiting ++ ps)) (sym is) (behind_more slots m line s.sending.waiting sound bytes message))

-- ---- what was taken

front_part : {A : Type 0} (xs ys zs : List A) → IsPrefixOf (xs ++ ys) zs → IsPrefixOf xs zs
front_part xs ys zs h = (ys ++ h.0, h.1 ∙ append_assoc xs ys h.0)

-- what is in the first slots is a front of what is in all
pub front_items : (n : ℕ) (slots : List Slot) (zs : List Item) → IsPrefixOf (flat_map slot_items slots) zs → IsPrefixOf (flat_map slot_items (take n slots)) zs
front_items n slots zs h =
    let parts : flat_map slot_items slots ≡ flat_map slot_items (take n slots) ++ flat_map slot_items (drop n slots) =
    ap (λ (ss : List Slot). flat_map slot_items ss) (sym (take-append-drop n slots)) ∙ flat_map-append slot_items (take n slots) (drop n slots) in
    front_part (flat_map slot_items (take n slots)) (flat_map slot_items (drop n slots)) zs (subst (λ xs. IsPrefixOf xs zs) parts h)
