-- What no fault means.
use Rattle.std.proofs.Common.{◌≡◌, ℕ, Bool, true, Option, Some, None, List, [], ◌∷◌, drop, refl, sym, subst, ◌∙◌, inl, inr}
use Rattle.std.specs.List.{AllByRecursion, list_all}
use Rattle.std.specs.Option.{option_or}
use Rattle.std.specs.Prelude.{slice_index_or}
use Rattle.std.specs.Str.{bytes_eq}
use Rattle.std.proofs.lemmas.Bool.{and_parts, cases_Bool}
use Rattle.std.proofs.lemmas.Slice.Eq.{bytes_eq-Decides}
use Rattle.tipc_script.specs.declared.faults.LineWhy.{LineWhy}
use Rattle.tipc_script.specs.Splitting.{Left, first_token, behind}
use Rattle.tipc_script.specs.Grammar.{Row, row_among}
use Rattle.tipc_script.specs.Faults.{fault_among, first_fault, more_fault, end_fault}

-- the first token is there and passes the test
pub record IsTaken (test : List ℕ → Bool) (left : Left) : Type 0 where
  pub there : left.tokens ≡ first_token left ∷ (behind left).tokens
  pub passes : test (first_token left) ≡ true

taken_among : (tokens : List (List ℕ)) (test : List ℕ → Bool) (reason : LineWhy) (place end : ℕ) → fault_among tokens test reason place end ≡ None
    → (tokens ≡ slice_index_or tokens 0 [] ∷ drop 1 tokens) × (test (slice_index_or tokens 0 []) ≡ true)
taken_among [] test reason place end e = absurd cc
taken_among (token ∷ tokens) test reason place end e =
    elim (cases_Bool (test token)) [
      | inl passes ↦ (refl, passes)
      | inr fails ↦ absurd (let f : fault_among (token ∷ tokens) test reason place end ≡ Some (place, reason) = rw fails refl in cc)
    ]

pub taken : (test : List ℕ → Bool) (reason : LineWhy) (left : Left) → first_fault test reason left ≡ None → IsTaken test left
unfolding first_fault
taken test reason left e = let parts = taken_among left.tokens test reason left.place left.end e in record { there = parts.0; passes = parts.1 }

ended_among : (tokens : List (List ℕ)) (place : ℕ) → more_fault tokens place ≡ None → tokens ≡ []
ended_among [] place e = refl
ended_among (token ∷ tokens) place e = absurd cc

pub ended : (left : Left) → end_fault left ≡ None → left.tokens ≡ []
unfolding end_fault
ended left e = ended_among left.tokens left.place e

pub or_none : {A : Type 0} (o p : Option A) → option_or o p ≡ None → (o ≡ None) × (p ≡ None)
or_none None p e = (refl, e)
or_none (Some x) p e = absurd cc

-- what each row passes is a fact of each
pub each_passes : (test : Row → Bool) (rows : List Row) → list_all test rows ≡ true → AllByRecursion (λ row. test row ≡ true) rows
each_passes test [] e = tt
each_passes test (row ∷ rows) e = let parts = and_parts (test row) (list_all test rows) e in (parts.0, each_passes test rows parts.1)

-- the row that is found has the word, and a fact of each row
pub row_found : (P : Row → Type 0) (rows : List Row) (word : List ℕ) (row : Row) → AllByRecursion P rows → row_among rows word ≡ Some row → P row × (word ≡ row.word)
row_found P [] word row holds e = absurd cc
row_found P (first ∷ rows) word row holds e =
    elim (cases_Bool (bytes_eq word first.word)) [
      | inl passes ↦
          let is : first ≡ row = (let f : row_among (first ∷ rows) word ≡ Some first = rw passes refl in cc) in
          subst (λ r. P r × (word ≡ r.word)) is (holds.0, (bytes_eq-Decides word first.word).0 passes)
      | inr fails ↦ row_found P rows word row holds.1 (let f : row_among (first ∷ rows) word ≡ row_among rows word = rw fails refl in sym f ∙ e)
    ]
