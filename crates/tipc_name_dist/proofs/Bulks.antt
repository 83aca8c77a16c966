-- The messages with which a contact begins, as they are gathered.
use Rattle.std.proofs.Common.{◌≡◌, ◌≤◌, ◌<◌, ◌⊎◌, inl, inr, ℕ, ◌+◌, Bool, true, false, suc, zero, List, [], ◌∷◌, ◌++◌, Some, length, map, refl, ap, ◌∙◌, sym, subst, arith, take, ◌==◌}
use Rattle.std.specs.Prelude.{slice_get, if◌then◌else◌}
use Rattle.std.specs.List.{flat_map}
use Rattle.std.proofs.lemmas.List.{append_assoc, append-nil, length-append, take_all, take_more}
use Rattle.std.proofs.lemmas.Bool.Decides.{nat_tests}
use Rattle.std.proofs.lemmas.Grind.{flat_map-append}
use Rattle.std.proofs.Math.ListN.{get_or}
use Rattle.tipc_types.specs.declared.message_forms.Item.{Item}
use Rattle.tipc_types.specs.declared.message_forms.Message.{Message}
use Rattle.tipc_types.specs.declared.message_forms.Message.TheVariants.{Items}
use Rattle.tipc_types.specs.declared.services.Publication.{Publication}
use Rattle.tipc_journal.specs.Names.{cluster_part, is_clusterwide}
use Rattle.tipc_name_dist.specs.Items.{item_of, items_for, items_in, most_items, IsBulk, IsTelling}

-- a full message of publications
abbrev pub IsFull : Message → Type 0
IsFull m = IsTelling m × (length (items_in m) ≡ most_items)

-- Of the publications so far these messages tell, which are full, and these items, which fit into one more.
pub record IsGathering (live : List Publication) (messages : List Message) (items : List Item) : Type 0 where
  pub whole : flat_map items_in messages ++ items ≡ map item_of (cluster_part live)
  pub full : (k : ℕ) (m : Message) → slice_get messages k ≡ Some m → IsFull m
  pub few : length items < most_items

-- one more publication among those that travel
shown_more : (ps : List Publication) (p : Publication) → map item_of (cluster_part (ps ++ p ∷ [])) ≡ map item_of (cluster_part ps) ++ items_for p
shown_more [] p = one (is_clusterwide p.scope)
  where
    one : (b : Bool) → map item_of (if b then p ∷ [] else []) ≡ (if b then item_of p ∷ [] else [])
    one true = refl
    one false = refl
shown_more (q ∷ ps) p = both (is_clusterwide q.scope) (shown_more ps p)
  where
    both : (b : Bool) → map item_of (cluster_part (ps ++ p ∷ [])) ≡ map item_of (cluster_part ps) ++ items_for p
        → map item_of (if b then q ∷ cluster_part (ps ++ p ∷ []) else cluster_part (ps ++ p ∷ [])) ≡ map item_of (if b then q ∷ cluster_part ps else cluster_part ps) ++ items_for p
    both true later = ap (λ is. item_of q ∷ is) later
    both false later = later

-- what each of several messages and one more is
each_more : (P : ℕ → Message → Type 0) (ms : List Message) (m : Message) → ((k : ℕ) (x : Message) → slice_get ms k ≡ Some x → P k x) → P (length ms) m → (k : ℕ) (x : Message) → slice_get (ms ++ m ∷ []) k ≡ Some x → P k x
each_more P [] m all one zero x is = let same : m ≡ x = cc in subst (P 0) same one
each_more P [] m all one (suc k) x is = absurd (let wrong : ⊥ = cc in wrong)
each_more P (y ∷ ms) m all one zero x is = all 0 x is
each_more P (y ∷ ms) m all one (suc k) x is = each_more (λ n. P (suc n)) ms m (λ n z at. all (suc n) z at) (subst (λ n. P n m) (let same : length (y ∷ ms) ≡ suc (length ms) = refl in same) one) k x is

told_by : (messages : List Message) (items : List Item) → flat_map items_in (messages ++ Items false items ∷ []) ≡ flat_map items_in messages ++ items
told_by messages items = flat_map-append items_in messages (Items false items ∷ []) ∙ ap (λ is. flat_map items_in messages ++ is) (append-nil items)

-- ---- the loop

at_most : (p : Publication) → length (items_for p) ≤ 1
at_most p = one (is_clusterwide p.scope)
  where
    one : (b : Bool) → length (if b then item_of p ∷ [] else []) ≤ 1
    one true = omega arith
    one false = omega arith

-- one more publication, and the message is closed where it is full
pub gathering_more : (live : List Publication) (messages messages' : List Message) (items between items' : List Item) (p : Publication) → IsGathering live messages items → between ≡ items ++ items_for p
    → (length between ≡ 70 → (messages' ≡ messages ++ Items false between ∷ []) × (items' ≡ [])) → (length between < 70 → (messages' ≡ messages) × (items' ≡ between))
    → IsGathering (live ++ p ∷ []) messages' items'
gathering_more live messages messages' items between items' p h added full more =
    let few = h.few in
    let one = at_most p in
    let count : length between ≡ length items + length (items_for p) = ap length added ∙ length-append items (items_for p) in
    let whole : flat_map items_in messages ++ between ≡ map item_of (cluster_part (live ++ p ∷ [])) =
    ap (λ is. flat_map items_in messages ++ is) added ∙ sym (append_assoc (flat_map items_in messages) items (items_for p)) ∙ ap (λ is. is ++ items_for p) h.whole ∙ sym (shown_more live p) in
    elim (the_case (length between) (omega arith)) [
      | inl is ↦ (
          let f = full is in
          subst (λ ms. IsGathering (live ++ p ∷ []) ms items') (sym f.0) (subst (IsGathering (live ++ p ∷ []) (messages ++ Items false between ∷ [])) (sym f.1) (record {
            whole = append-nil _ ∙ told_by messages between ∙ whole;
            full = each_more (λ k m. IsFull m) messages (Items false between) h.full ((refl, omega (arith, is), omega (arith, is)), is);
            few = omega arith;
          })))
      | inr less ↦ (
          let m = more less in
          subst (λ ms. IsGathering (live ++ p ∷ []) ms items') (sym m.0) (subst (IsGathering (live ++ p ∷ []) messages) (sym m.1) (record { whole = whole; full = h.full; few = less })))
    ]
  where
    the_case : (n : ℕ) → n ≤ 70 → (n ≡ 70) ⊎ (n < 70)
    the_case n h = grind (arith, h)

-- the items that are left make the last message
gathered : (live : List Publication) (messages : List Message) (items : List Item) → IsGathering live messages items → 1 ≤ length items → IsBulk live (messages ++ Items false items ∷ [])
gathered live messages items h some =
    let few = h.few in record {
      whole = told_by messages items ∙ h.whole;
      each = each_more (λ k m. IsTelling m) messages (Items false items) (λ k m is. (h.full k m is).0) (refl, some, omega arith);
      full = each_more (λ k m. k + 1 < length (messages ++ Items false items ∷ []) → length (items_in m) ≡ most_items) messages (Items false items) (λ k m is before. (h.full k m is).1)
          (λ before. absurd (let count = length-append messages (Items false items ∷ []) in let wrong : ⊥ = omega (arith, count) in wrong));
    }

pub gathered_last : (live : List Publication) (messages messages' : List Message) (items : List Item) (last : Message) → IsGathering live messages items → 1 ≤ length items → last ≡ Items false items → messages' ≡ messages ++ last ∷ []
    → IsBulk live messages'
gathered_last live messages messages' items last h some is pushed =
    subst (IsBulk live) (sym (pushed ∙ ap (λ m. messages ++ m ∷ []) is)) (gathered live messages items h some)

-- or there are none left
pub gathered_all : (live : List Publication) (messages : List Message) (items : List Item) → IsGathering live messages items → items ≡ [] → IsBulk live messages
gathered_all live messages items h none = record {
  whole = sym (append-nil _) ∙ ap (λ is. flat_map items_in messages ++ is) (sym none) ∙ h.whole;
  each = λ k m is. (h.full k m is).0;
  full = λ k m is before. (h.full k m is).1;
}

-- in the loop: the next publication of all
pub gathering_next : (all : List Publication) (at : ℕ) (messages messages' : List Message) (items between items' : List Item) (p : Publication) → IsGathering (take at all) messages items → get_or all at p ≡ p → at < length all
    → between ≡ items ++ items_for p → (length between ≡ 70 → (messages' ≡ messages ++ Items false between ∷ []) × (items' ≡ [])) → (length between < 70 → (messages' ≡ messages) × (items' ≡ between))
    → IsGathering (take (at + 1) all) messages' items'
gathering_next all at messages messages' items between items' p h is within added full more =
    subst (λ those. IsGathering those messages' items') (sym (take_more all at p within ∙ ap (λ q. take at all ++ q ∷ []) is)) (gathering_more (take at all) messages messages' items between items' p h added full more)

-- no publication is left
pub gathering_past : (all : List Publication) (at : ℕ) (messages : List Message) (items : List Item) → IsGathering (take at all) messages items → length all ≤ at → IsGathering all messages items
gathering_past all at messages items h past = subst (λ those. IsGathering those messages items) (take_all at all past) h

-- whether items are left
pub is_none : (items : List Item) (b : Bool) → b ≡ (length items == 0) → b ≡ true → items ≡ []
is_none [] b is true_ = refl
is_none (i ∷ items) b is true_ = absurd (let wrong : ⊥ = grind (arith, nat_tests, is, true_) in wrong)

pub is_some_left : (items : List Item) (b : Bool) → b ≡ (length items == 0) → b ≡ false → 1 ≤ length items
is_some_left [] b is false_ = absurd (let wrong : ⊥ = grind (arith, nat_tests, is, false_) in wrong)
is_some_left (i ∷ items) b is false_ = omega arith
