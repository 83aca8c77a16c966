-- Lines that are without fault, and the nodes that they make.
use Rattle.std.proofs.Common.{◌≡◌, ℕ, ◌<◌, Bool, true, false, ◌||◌, Some, None, List, [], ◌∷◌, ◌++◌, length, take, refl, sym, ap, ◌∙◌, arith, inl, inr}
use Rattle.std.specs.Prelude.{slice_get}
use Rattle.std.specs.List.{list_any}
use Rattle.std.proofs.lemmas.Option.{slice_get_within}
use Rattle.std.proofs.lemmas.Bool.{cases_lt}
use Rattle.std.proofs.lemmas.List.{length-append, take-append-le}
use Rattle.std.proofs.lemmas.List.Folds.{list_any-append}
use Rattle.std.proofs.Math.Seq.{take-append_seam}
use Rattle.tipc_script.specs.Grammar.{asked}
use Rattle.tipc_sim.specs.Nodes.{AreSound, fault_where, made_by, makes}
use Rattle.tipc_sim.proofs.ListLaws.{get_front, get_last}

-- the same nodes give the same fault
pub fault_where_same : (f g : ℕ → Bool) (line : List ℕ) → ((n : ℕ) → f n ≡ g n) → fault_where f line ≡ fault_where g line
fault_where_same f g line same = let equal : f ≡ g = λ i n. same n i in ap (λ there. fault_where there line) equal

-- an element of a list with one more is an element of the list, or the one more
one_of : {A : Type 0} (xs : List A) (y x : A) (i : ℕ) (P : Type 0) → slice_get (xs ++ y ∷ []) i ≡ Some x → (i < length xs → slice_get xs i ≡ Some x → P) → (i ≡ length xs → y ≡ x → P) → P
one_of xs y x i P e old new =
    elim (cases_lt i (length xs)) [
      | inl lt ↦ old lt (sym (get_front xs (y ∷ []) i lt) ∙ e)
      | inr past ↦
          let within = slice_get_within (xs ++ y ∷ []) i x e in
          let last : i ≡ length xs = omega (arith, within, length-append xs (y ∷ [])) in
          new last (let there : Some y ≡ Some x = sym (get_last xs y) ∙ ap (slice_get (xs ++ y ∷ [])) (sym last) ∙ e in cc)
    ]

-- one more line without fault
pub sound_more : (lines : List (List ℕ)) (line : List ℕ) → AreSound lines → fault_where (made_by lines) line ≡ None → AreSound (lines ++ line ∷ [])
sound_more lines line sound none i other e =
    one_of lines line other i (fault_where (made_by (take i (lines ++ line ∷ []))) other ≡ None) e
    (λ lt there. ap (λ ls. fault_where (made_by ls) other) (take-append-le i lines (line ∷ []) (omega arith)) ∙ sound i other there)
    (λ last same. ap (λ ls. fault_where (made_by ls) other) (ap (λ k. take k (lines ++ line ∷ [])) last ∙ take-append_seam lines (line ∷ [])) ∙ ap (fault_where (made_by lines)) (sym same) ∙ none)

-- no line is without fault
pub sound_none : AreSound []
sound_none i line e = absurd cc

or_comm : (a b : Bool) → (a || (b || false)) ≡ (b || a)
or_comm true true = refl
or_comm true false = refl
or_comm false true = refl
or_comm false false = refl

-- the nodes that one more line makes
pub made_by_more : (lines : List (List ℕ)) (line : List ℕ) (n : ℕ) → made_by (lines ++ line ∷ []) n ≡ (makes (asked line) n || made_by lines n)
unfolding made_by
made_by_more lines line n =
    list_any-append (λ l. makes (asked l) n) lines (line ∷ []) ∙ or_comm (list_any (λ l. makes (asked l) n) lines) (makes (asked line) n)
