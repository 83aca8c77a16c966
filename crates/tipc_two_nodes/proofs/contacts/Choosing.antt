-- What is kept by contact, where it is another thing in one of them.
use Rattle.std.proofs.Common.{◌≡◌, ◌==◌, ◌&&◌, ℕ, true, false, if◌then◌else◌, refl, sym, ◌∙◌, subst, inl, inr}
use Rattle.std.proofs.lemmas.Bool.{and_parts, cases_Bool, eqb-true, true≢false}
use Rattle.tipc_pair.proofs.turns.CourseMoves.{itself as same_test}
use Rattle.tipc_two_nodes.specs.Steps.{ChangedAt}

unfoldable pub with_one : {A : Type 0} → (ℕ → ℕ → A) → ℕ → ℕ → A → ℕ → ℕ → A
with_one f own theirs c k l = if (k == own) && (l == theirs) then c else f k l

both_same : (k own l theirs : ℕ) → k ≡ own → l ≡ theirs → ((k == own) && (l == theirs)) ≡ true
both_same k own l theirs one two = rw (one, two, same_test own, same_test theirs) refl

-- what holds of the new one, and elsewhere of the old ones, holds in each contact
pub on_one : {A : Type 0} (f : ℕ → ℕ → A) (own theirs : ℕ) (c : A) (P : ℕ → ℕ → A → Type 0) → P own theirs c → ((k l : ℕ) → (k ≡ own → l ≡ theirs → ⊥) → P k l (f k l)) → (k l : ℕ) → P k l (with_one f own theirs c k l)
unfolding with_one
on_one f own theirs c P here others k l = elim ((k == own) && (l == theirs)) as (λ b. ((k == own) && (l == theirs)) ≡ b → P k l (if b then c else f k l)) [
  | true ↦ λ both. (let parts = and_parts (k == own) (l == theirs) both in subst (λ i. P i l c) (sym (eqb-true k own parts.0)) (subst (λ i. P own i c) (sym (eqb-true l theirs parts.1)) here))
  | false ↦ λ other. others k l (λ one two. true≢false (sym (both_same k own l theirs one two) ∙ other))
] refl

pub one_changed : {A : Type 0} (f : ℕ → ℕ → A) (own theirs : ℕ) (c : A) → ChangedAt f (with_one f own theirs c) own theirs c
unfolding with_one
one_changed f own theirs c = record {
  here = (let test = both_same own own theirs theirs refl refl in rw test refl);
  others = λ k l differ. elim ((k == own) && (l == theirs)) as (λ b. ((k == own) && (l == theirs)) ≡ b → (if b then c else f k l) ≡ f k l) [
    | true ↦ λ both. (let parts = and_parts (k == own) (l == theirs) both in absurd (differ (eqb-true k own parts.0) (eqb-true l theirs parts.1)))
    | false ↦ λ other. refl
  ] refl;
}

-- what holds of the new one, and elsewhere of the old ones, holds of what was changed in one contact
pub on_changed : {A : Type 0} (f g : ℕ → ℕ → A) (own theirs : ℕ) (c : A) (P : ℕ → ℕ → A → Type 0) → ChangedAt f g own theirs c → P own theirs c → ((k l : ℕ) → (k ≡ own → l ≡ theirs → ⊥) → P k l (f k l)) → (k l : ℕ) → P k l (g k l)
on_changed f g own theirs c P m here others k l = elim (cases_Bool ((k == own) && (l == theirs))) [
  | inl both ↦ (
      let parts = and_parts (k == own) (l == theirs) both in
      let one = eqb-true k own parts.0 in
      let two = eqb-true l theirs parts.1 in
      subst (λ i. P i l (g i l)) (sym one) (subst (λ i. P own i (g own i)) (sym two) (subst (P own theirs) (sym m.here) here)))
  | inr other ↦ (
      let differ = λ (one : k ≡ own) (two : l ≡ theirs). true≢false (sym (both_same k own l theirs one two) ∙ other) in
      subst (P k l) (sym (m.others k l differ)) (others k l differ))
]
