-- A derived test of two values of an enum tells whether they are the same, where it does so at each variant.
use Rattle.std.proofs.Common.{◌≡◌, Bool, true, false, List, [], ◌∷◌, Decides, IsTrue, refl, sym, ap, subst, ◌∙◌}
use mathlib.Core.Logic.{◌⊎◌, inl, inr}
use mathlib.Core.Bool.{true≢false, ◌&&◌}
use denote.Struct.Field.{Field}
use denote.Struct.Values.{Values}
use denote.Enum.Declared.{Record, Choice}
use denote.Enum.Compared.{Each, by}

-- a test tells whether two values are the same
abbrev pub Tells : {A : Type 0} → (A → A → Bool) → Type 0
Tells {A} E = (x y : A) → Decides (E x y) (x ≡ y)

-- ---- the fields of a variant: none, the last one, and one before others

pub none : Tells {A = Unit {0}} (λ x y. true)
none x y = (λ e. refl, λ e. refl)

pub last : {A : Type 0} {E : A → A → Bool} → Tells E → Tells {A = A × Unit {0}} (λ x y. E x.0 y.0)
last e x y = (λ h i. ((e x.0 y.0).0 h i, tt), λ h. (e x.0 y.0).1 (ap (λ z. z.0) h))

and_tells : (r s : Bool) {P Q : Type 0} → Decides r P → Decides s Q → Decides (r && s) (P × Q)
and_tells true true p q = (λ e. (p.0 refl, q.0 refl), λ e. refl)
and_tells true false p q = (λ e. absurd (true≢false (sym e)), λ h. q.1 h.1)
and_tells false s p q = (λ e. absurd (true≢false (sym e)), λ h. p.1 h.0)

infixr 7 ◌⊗◌
pub ◌⊗◌ : {A B : Type 0} {E : A → A → Bool} {F : B → B → Bool} → Tells E → Tells F → Tells {A = A × B} (λ x y. E x.0 y.0 && F x.1 y.1)
◌⊗◌ {A} {B} {E} {F} e f x y =
    let both = and_tells (E x.0 y.0) (F x.1 y.1) (e x.0 y.0) (f x.1 y.1) in
    (λ h i. ((both.0 h).0 i, (both.0 h).1 i), λ h. both.1 (ap (λ z. z.0) h, ap (λ z. z.1) h))

-- ---- the variants

-- the test at each variant
abbrev pub each_of : {D : Type 0} → (D → D → Bool) → (Fss : List (List Field)) → (Choice Fss → D) → Each Bool Fss
each_of E [] make = tt
each_of E (Fs ∷ Fss) make = ((λ x y. E (make (inl x)) (make (inl y))), each_of E Fss (λ c. make (inr c)))

-- it tells at each of them whether two values are the same
abbrev pub EachTells : {D : Type 0} → (D → D → Bool) → (Fss : List (List Field)) → (Choice Fss → D) → Type 0
EachTells E [] make = Unit {0}
EachTells E (Fs ∷ Fss) make = Tells {A = Values Fs} (λ x y. E (make (inl x)) (make (inl y))) × EachTells E Fss (λ c. make (inr c))

-- a variant before the others
infixr 5 ◌▸◌
abbrev pub ◌▸◌ : {A B : Type 0} → A → B → A × B
one ▸ others = (one, others)

abbrev IsLeft : {A B : Type 0} → A ⊎ B → Type 0
IsLeft (inl x) = Unit {0}
IsLeft (inr y) = ⊥

abbrev left_or : {A B : Type 0} → A → A ⊎ B → A
left_or a (inl x) = x
left_or a (inr y) = a

abbrev right_or : {A B : Type 0} → B → A ⊎ B → B
right_or b (inl x) = b
right_or b (inr y) = y

choices_tell : {D : Type 0} (E : D → D → Bool) (Fss : List (List Field)) (make : Choice Fss → D) → EachTells E Fss make
    → Tells {A = Choice Fss} (by false false Fss (each_of E Fss make))
choices_tell E [] make all c d = absurd c
choices_tell E (Fs ∷ Fss) make all (inl x) (inl y) = (λ e. ap inl ((all.0 x y).0 e), λ e. (all.0 x y).1 (ap (left_or x) e))
choices_tell E (Fs ∷ Fss) make all (inl x) (inr d) = (λ e. absurd (true≢false (sym e)), λ e. absurd (subst IsLeft e tt))
choices_tell E (Fs ∷ Fss) make all (inr c) (inl y) = (λ e. absurd (true≢false (sym e)), λ e. absurd (subst IsLeft (sym e) tt))
choices_tell E (Fs ∷ Fss) make all (inr c) (inr d) =
    let told = choices_tell E Fss (λ k. make (inr k)) all.1 c d in
    (λ e. ap inr (told.0 e), λ e. told.1 (ap (right_or c) e))

-- a test that goes by the variants tells it of all values
pub enum_tells : (N : Record) (E : N.D → N.D → Bool)
    → ((a b : N.D) → E a b ≡ by false false N.parts (each_of E N.parts N.make) (N.as_values a) (N.as_values b))
    → EachTells E N.parts N.make → Tells E
enum_tells N E goes all a b =
    let told = choices_tell E N.parts N.make all (N.as_values a) (N.as_values b) in
    (λ e. sym (N.eta a) ∙ ap N.make (told.0 (sym (goes a b) ∙ e)) ∙ N.eta b, λ e. goes a b ∙ told.1 (ap N.as_values e))

-- what such a test answered
pub told_by : {A : Type 0} {E : A → A → Bool} → Tells E → (x y : A) (r : Bool) → r ≡ E x y → (IsTrue r → x ≡ y) × (x ≡ y → IsTrue r)
told_by {A} {E} tells x y r e = subst (λ b. (IsTrue b → x ≡ y) × (x ≡ y → IsTrue b)) (sym e) (tells x y)
