-- The contact with a peer: where it stands in the list, and the list when it has changed.
use Rattle.std.proofs.Common.{◌≡◌, ℕ, suc, ◌+◌, ◌<◌, ◌==◌, Bool, true, false, not, cond, if◌then◌else◌, List, [], ◌∷◌, length, get_or, Option, Some, None, is_some, slice_get, refl, sym, ap, ◌∙◌, inl, inr, subst, arith}
use Rattle.std.specs.Prelude.{position, nat_lt, slice_set}
use Rattle.std.specs.List.{find, position_or_len}
use Rattle.std.proofs.lemmas.Bool.Decides.{nat_tests}
use Rattle.std.proofs.lemmas.List.Folds.{find_at}
use Rattle.std.proofs.lemmas.Option.{slice_get-get_or, slice_get_cases, same_Some}
use Rattle.tipc_broadcast.specs.declared.contacts.Contact.{Contact}
use Rattle.tipc_broadcast.specs.Contacts.{has_joined, is_in_step, is_with, noted_in, stepped, told, with_changed}
use Rattle.tipc_recv_window.specs.Receiving.{fresh, Receiving}

-- where the place is, and what stands there
pub record IsPlace {X : Type 0} (p : X → Bool) (xs : List X) (place : ℕ) : Type 0 where
  pub first : place ≡ position_or_len p xs
  pub within : place < length xs
  pub found : find p xs ≡ slice_get xs place

pub placed : {X : Type 0} (p : X → Bool) (xs : List X) (place : ℕ) → position p xs ≡ Some place → IsPlace p xs place
placed p xs place e =
    let k = position_or_len p xs in
    elim (slice_get_cases xs k).1 [
      | inl there ↦
          let within = there.1 in
          let test : nat_lt k (length xs) ≡ true = grind (arith, nat_tests) in
          let same : k ≡ place = same_Some _ _ (sym (ap (λ b. cond b (Some k) None) test) ∙ e) in
          record { first = sym same; within = subst (λ n. n < length xs) same within; found = find_at p xs ∙ ap (slice_get xs) same }
      | inr past ↦
          let beyond = past.0 in
          let test : nat_lt k (length xs) ≡ false = grind (arith, nat_tests) in
          let no : None ≡ Some place = sym (ap (λ b. cond b (Some k) None) test) ∙ e in
          cc
    ]

pub not_placed : {X : Type 0} (p : X → Bool) (xs : List X) → position p xs ≡ None → find p xs ≡ None
not_placed p xs e =
    let k = position_or_len p xs in
    elim (slice_get_cases xs k).1 [
      | inl there ↦
          let within = there.1 in
          let test : nat_lt k (length xs) ≡ true = grind (arith, nat_tests) in
          let no : Some k ≡ None = sym (ap (λ b. cond b (Some k) None) test) ∙ e in
          cc
      | inr past ↦ find_at p xs ∙ past.1
    ]

changed_at : (peer : ℕ) (change : Contact → Contact) (cs : List Contact) (d : Contact) → position_or_len (is_with peer) cs < length cs
    → slice_set cs (position_or_len (is_with peer) cs) (change (get_or cs (position_or_len (is_with peer) cs) d)) ≡ with_changed peer change cs
changed_at peer change [] d = λ within. absurd (omega arith)
changed_at peer change (c ∷ cs) d =
    let k = position_or_len (is_with peer) cs in
    elim (is_with peer c) as (λ b. cond (not b) (1 + k) 0 < length (c ∷ cs) → slice_set (c ∷ cs) (cond (not b) (1 + k) 0) (change (get_or (c ∷ cs) (cond (not b) (1 + k) 0) d)) ≡ (if b then change c ∷ cs else c ∷ with_changed peer change cs)) [
      | true ↦ λ within. refl
      | false ↦ λ within.
          let next : suc k ≡ 1 + k = omega arith in
          let Q : ℕ → Type 0 = λ n. slice_set (c ∷ cs) n (change (get_or (c ∷ cs) n d)) ≡ c ∷ with_changed peer change cs in
          let inside : k < length cs = omega arith in
          subst Q next (ap (λ rest. c ∷ rest) (changed_at peer change cs d inside))
    ]

-- a change at the place of the contact with a peer
pub changed : (peer : ℕ) (change : Contact → Contact) (cs : List Contact) (place : ℕ) (d : Contact) → position (is_with peer) cs ≡ Some place
    → slice_set cs place (change (get_or cs place d)) ≡ with_changed peer change cs
changed peer change cs place d e =
    let at = placed (is_with peer) cs place e in
    let within : position_or_len (is_with peer) cs < length cs = subst (λ n. n < length cs) at.first at.within in
    ap (λ n. slice_set cs n (change (get_or cs n d))) at.first ∙ changed_at peer change cs d within

-- nothing changes where the peer isn't in contact
pub unchanged : (peer : ℕ) (change : Contact → Contact) (cs : List Contact) → find (is_with peer) cs ≡ None → with_changed peer change cs ≡ cs
unchanged peer change [] = λ e. refl
unchanged peer change (c ∷ cs) =
    elim (is_with peer c) as (λ b. cond b (Some c) (find (is_with peer) cs) ≡ None → (if b then change c ∷ cs else c ∷ with_changed peer change cs) ≡ c ∷ cs) [
      | true ↦ λ e. cc
      | false ↦ λ e. ap (λ rest. c ∷ rest) (unchanged peer change cs e)
    ]

-- a peer that has joined has a place
pub has_place : (peer : ℕ) (cs : List Contact) → position (is_with peer) cs ≡ None → has_joined peer cs ≡ true → ⊥
has_place peer cs none there =
    let no : is_some (find (is_with peer) cs) ≡ false = ap is_some (not_placed (is_with peer) cs none) in
    let clash : false ≡ true = sym no ∙ there in
    cc

-- ---- as the code finds it: the place `o` in the list `xs`, where the contact was `old`

pub found_is : (peer : ℕ) (cs xs : List Contact) (place : ℕ) (o : Option ℕ) (old : Contact) → xs ≡ cs → o ≡ position (is_with peer) xs → o ≡ Some place → old ≡ get_or cs place old
    → find (is_with peer) cs ≡ Some old
found_is peer cs xs place o old same at is value =
    let place_is : position (is_with peer) cs ≡ Some place = ap (position (is_with peer)) (sym same) ∙ sym at ∙ is in
    let there = placed (is_with peer) cs place place_is in
    there.found ∙ slice_get-get_or cs place old there.within ∙ ap Some (sym value)

pub missing_is : (peer : ℕ) (cs xs : List Contact) (o : Option ℕ) → xs ≡ cs → o ≡ position (is_with peer) xs → o ≡ None → position (is_with peer) cs ≡ None
missing_is peer cs xs o same at is = ap (position (is_with peer)) (sym same) ∙ sym at ∙ is

pub change_is : (peer : ℕ) (change : Contact → Contact) (cs xs : List Contact) (place : ℕ) (o : Option ℕ) (old new : Contact) → xs ≡ cs → o ≡ position (is_with peer) xs → o ≡ Some place → old ≡ get_or cs place old → new ≡ change old
    → slice_set cs place new ≡ with_changed peer change cs
change_is peer change cs xs place o old new same at is value after =
    let place_is : position (is_with peer) cs ≡ Some place = ap (position (is_with peer)) (sym same) ∙ sym at ∙ is in
    ap (slice_set cs place) (after ∙ ap change value) ∙ changed peer change cs place old place_is

pub placed_is : (peer : ℕ) (cs xs : List Contact) (place : ℕ) (o : Option ℕ) → xs ≡ cs → o ≡ position (is_with peer) xs → o ≡ Some place → IsPlace (is_with peer) cs place
placed_is peer cs xs place o same at is = placed (is_with peer) cs place (ap (position (is_with peer)) (sym same) ∙ sym at ∙ is)

-- ---- who has joined

noted_in-peer : (next : ℕ) (c : Contact) (o : Option Receiving) → (noted_in next c o).peer ≡ c.peer
noted_in-peer next c None = refl
noted_in-peer next c (Some r) = refl

stepped-peer : (start : ℕ) (c : Contact) → (stepped start c).peer ≡ c.peer
stepped-peer start c = elim (is_in_step c) as (λ b. (if b then c else record c { window = Some (fresh start); shown = start }).peer ≡ c.peer) [
  | true ↦ refl
  | false ↦ refl
]

pub told-peer : (start next : ℕ) (c : Contact) → (told start next c).peer ≡ c.peer
told-peer start next c = noted_in-peer next (stepped start c) (stepped start c).window ∙ stepped-peer start c

-- a change of contacts that leaves their peers
pub joined_still : (peer other : ℕ) (change : Contact → Contact) → ((c : Contact) → (change c).peer ≡ c.peer) → (cs : List Contact) → has_joined other (with_changed peer change cs) ≡ has_joined other cs
joined_still peer other change same [] = refl
joined_still peer other change same (c ∷ cs) =
    elim (is_with peer c) as (λ b. has_joined other (if b then change c ∷ cs else c ∷ with_changed peer change cs) ≡ has_joined other (c ∷ cs)) [
      | true ↦
          elim (is_with other c) as (λ b. is_with other c ≡ b → has_joined other (change c ∷ cs) ≡ has_joined other (c ∷ cs)) [
            | true ↦ λ e. ap (λ a. is_some (cond (a.word == other) (Some (change c)) (find (is_with other) cs))) (same c) ∙ ap (λ b. is_some (cond b (Some (change c)) (find (is_with other) cs))) e ∙ sym (ap (λ b. is_some (cond b (Some c) (find (is_with other) cs))) e)
            | false ↦ λ e. ap (λ a. is_some (cond (a.word == other) (Some (change c)) (find (is_with other) cs))) (same c) ∙ ap (λ b. is_some (cond b (Some (change c)) (find (is_with other) cs))) e ∙ sym (ap (λ b. is_some (cond b (Some c) (find (is_with other) cs))) e)
          ] refl
      | false ↦
          elim (is_with other c) as (λ b. is_some (cond b (Some c) (find (is_with other) (with_changed peer change cs))) ≡ is_some (cond b (Some c) (find (is_with other) cs))) [
            | true ↦ refl
            | false ↦ joined_still peer other change same cs
          ]
    ]
