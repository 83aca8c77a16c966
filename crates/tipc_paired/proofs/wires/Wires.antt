-- Look-ups of a view and its wires.
use Rattle.std.specs.Prelude.{map, slice_get}
use Rattle.std.proofs.Common.{◌≡◌, ◌≢◌, ◌≤◌, ℕ, zero, suc, true, false, if◌then◌else◌, List, [], ◌∷◌, ◌++◌, Option, Some, None, length, refl, sym, ap, ◌∙◌, subst, inl, inr, append_assoc, append-nil, length-append, arith}
use Rattle.std.proofs.lemmas.Bool.{cases_eq}
use Rattle.tipc_types.specs.LinkStates.{is_up}
use Rattle.tipc_types.specs.Prefixes.{IsPrefixOf}
use Rattle.tipc_contact.proofs.Speaking.{at_other, at_same}
use Rattle.tipc_link.specs.Links.{LinkEnd}
use Rattle.tipc_link.specs.Sessions.{SessionEnd}
use Rattle.tipc_link.proofs.Directions.{Extends, Extends-append}
use Rattle.tipc_paired.specs.Deeds.{IsUp}
use Rattle.tipc_paired.specs.Views.{Node, Wire, epoch_on, put_at, session_in, session_on}

-- ---- a function with another value at one place

-- what holds of the new value, and elsewhere of the old ones, holds everywhere
pub on_put : {A : Type 0} (f : ℕ → A) (b : ℕ) (v : A) (P : ℕ → A → Type 0) → P b v → ((c : ℕ) → P c (f c)) → (c : ℕ) → P c (put_at f b v c)
on_put f b v P here others c = elim (cases_eq c b) [
  | inl same ↦ subst (P c) (sym (at_same c b v (f c) same)) (subst (λ k. P k v) (sym same) here)
  | inr other ↦ subst (P c) (sym (at_other c b v (f c) other)) (others c)
]

-- the same where the old values matter at other places alone
pub on_put_else : {A : Type 0} (f : ℕ → A) (b : ℕ) (v : A) (P : ℕ → A → Type 0) → P b v → ((c : ℕ) → c ≢ b → P c (f c)) → (c : ℕ) → P c (put_at f b v c)
on_put_else f b v P here others c = elim (cases_eq c b) [
  | inl same ↦ subst (P c) (sym (at_same c b v (f c) same)) (subst (λ k. P k v) (sym same) here)
  | inr other ↦ subst (P c) (sym (at_other c b v (f c) other)) (others c other)
]

pub put_same : {A : Type 0} (f : ℕ → A) (b : ℕ) (v : A) → put_at f b v b ≡ v
put_same f b v = at_same b b v (f b) refl

pub put_other : {A : Type 0} (f : ℕ → A) (b : ℕ) (v : A) (c : ℕ) → c ≢ b → put_at f b v c ≡ f c
put_other f b v c other = at_other c b v (f c) other

-- ---- prefixes

pub prefix_same : {A : Type 0} (xs : List A) → IsPrefixOf xs xs
prefix_same xs = ([], sym (append-nil xs))

pub prefix_append : {A : Type 0} (xs ys : List A) → IsPrefixOf xs (xs ++ ys)
prefix_append xs ys = (ys, refl)

pub prefix_trans : {A : Type 0} (xs ys zs : List A) → IsPrefixOf xs ys → IsPrefixOf ys zs → IsPrefixOf xs zs
prefix_trans xs ys zs first second = (first.0 ++ second.0, second.1 ∙ ap (λ k. k ++ second.0) first.1 ∙ append_assoc xs first.0 second.0)

pub prefix_long : {A : Type 0} (xs ys : List A) → IsPrefixOf xs ys → length xs ≤ length ys
prefix_long xs ys h = let long = length-append xs h.0 in let same = ap (λ k. length k) h.1 in omega arith

pub prefix_extends : (xs ys : List (List ℕ)) → IsPrefixOf xs ys → Extends xs ys
prefix_extends xs ys h = subst (Extends xs) (sym h.1) (Extends-append xs h.0)

pub prefix_of_none : {A : Type 0} (xs ys : List A) → IsPrefixOf xs ys → ys ≡ [] → xs ≡ []
prefix_of_none [] ys h none = refl
prefix_of_none (x ∷ xs) ys h none = absurd (let wrong : ⊥ = (let same : x ∷ (xs ++ h.0) ≡ [] = sym h.1 ∙ none in cc) in wrong)

-- ---- the session of a wire

pub same_some : {A : Type 0} (x y : A) (o : Option A) → o ≡ Some x → o ≡ Some y → x ≡ y
same_some x y o is_x is_y = cc

pub none_some : {A : Type 0} (x : A) (o : Option A) → o ≡ None → o ≡ Some x → ⊥
none_some x o is_none is_some = cc

up_in : (w : Wire) (s : SessionEnd) (end : Option LinkEnd) → w.end ≡ end → session_in end ≡ Some s → (e : LinkEnd) × IsUp w e s
up_in w s None is session = absurd (let none : ⊥ = cc in none)
up_in w s (Some e) is session =
    elim (is_up e.fsm.state) as (λ t. is_up e.fsm.state ≡ t → (if t then e.session else None) ≡ Some s → (d : LinkEnd) × IsUp w d s) [
      | true ↦ λ up there. (e, record { end_is = is; up = up; session_is = there })
      | false ↦ λ down there. absurd (let none : ⊥ = cc in none)
    ] refl session

pub is_up_of : (w : Wire) (s : SessionEnd) → session_on w ≡ Some s → (e : LinkEnd) × IsUp w e s
unfolding session_on
is_up_of w s is = up_in w s w.end refl is

pub session_of_up : (w : Wire) (e : LinkEnd) (s : SessionEnd) → IsUp w e s → session_on w ≡ Some s
unfolding session_on
session_of_up w e s h = rw (h.end_is, h.up) h.session_is

pub session_of_down : (w : Wire) (e : LinkEnd) → w.end ≡ Some e → is_up e.fsm.state ≡ false → session_on w ≡ None
unfolding session_on
session_of_down w e is down = rw (is, down) refl

pub session_of_none : (w : Wire) → w.end ≡ None → session_on w ≡ None
unfolding session_on
session_of_none w is = ap session_in is

pub epoch_of_end : (n : Node) (w : Wire) (e : LinkEnd) → w.end ≡ Some e → epoch_on n w ≡ e.fsm.own
unfolding epoch_on
epoch_of_end n w e is = rw is refl

pub epoch_of_none : (n : Node) (w : Wire) → w.end ≡ None → epoch_on n w ≡ n.contact
unfolding epoch_on
epoch_of_none n w is = rw is refl

-- what stands at a place of a list that was mapped
pub mapped_at : {A B : Type 0} (f : A → B) (xs : List A) (k : ℕ) (b : B) → slice_get (map f xs) k ≡ Some b → (a : A) × (slice_get xs k ≡ Some a) × (f a ≡ b)
mapped_at f [] k b is = absurd (let none : ⊥ = cc in none)
mapped_at f (x ∷ xs) zero b is = (x, refl, (let same : f x ≡ b = cc in same))
mapped_at f (x ∷ xs) (suc k) b is = mapped_at f xs k b is

pub map_at : {A B : Type 0} (f : A → B) (xs : List A) (k : ℕ) (a : A) → slice_get xs k ≡ Some a → slice_get (map f xs) k ≡ Some (f a)
map_at f [] k a is = absurd (let none : ⊥ = cc in none)
map_at f (x ∷ xs) zero a is = (let same : x ≡ a = cc in ap (λ z. Some (f z)) same)
map_at f (x ∷ xs) (suc k) a is = map_at f xs k a is
