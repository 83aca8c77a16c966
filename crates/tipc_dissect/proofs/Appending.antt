-- Texts that are appended one after the other.
use Rattle.std.proofs.Common.{◌≡◌, ℕ, ◌+◌, List, [], ◌∷◌, ◌++◌, Result, Ok, Err, map, refl, ap, sym, ◌∙◌, append_assoc, append-nil, arith}
use Rattle.std.specs.Prelude.{OnOk}
use Rattle.std.specs.List.{flat_map, range_with_len}
use Rattle.std.proofs.lemmas.List.Concat.{flat_map-append}
use Rattle.std.proofs.lemmas.List.FromFn.{map-range_with_len_more}
use Rattle.tipc_types.specs.declared.memory.NoMemory.{NoMemory}
use Rattle.tipc_dissect.specs.Lines.{Field, field_line, fields_text}

pub fields_text-append : (indent : List ℕ) (fs gs : List Field) → fields_text indent (fs ++ gs) ≡ fields_text indent fs ++ fields_text indent gs
unfolding fields_text
fields_text-append indent fs gs = flat_map-append (field_line indent) fs gs

-- a text and one behind it
pub both_put : (old between new first second : List ℕ) → between ≡ old ++ first → new ≡ between ++ second → new ≡ old ++ (first ++ second)
both_put old between new first second one two = two ∙ ap (λ (t : List ℕ). t ++ second) one ∙ append_assoc old first second

-- fields and others behind them, where there was memory for both
pub fields_put : (r : Result (Unit {0}) NoMemory) (indent : List ℕ) (fs gs : List Field) (old between new : List ℕ) → between ≡ old ++ fields_text indent fs → OnOk r (new ≡ between ++ fields_text indent gs)
    → OnOk r (new ≡ old ++ fields_text indent (fs ++ gs))
fields_put (Ok done) indent fs gs old between new one two =
    both_put old between new (fields_text indent fs) (fields_text indent gs) one two ∙ ap (λ (t : List ℕ). old ++ t) (sym (fields_text-append indent fs gs))
fields_put (Err e) indent fs gs old between new one two = two

-- a text, one behind it, and a third behind both, which is told in other words
pub third_put : (a between last first second third same : List ℕ) → a ≡ first → between ≡ a ++ second → last ≡ between ++ third → third ≡ same → last ≡ first ++ (second ++ same)
third_put a between last first second third same is one two told =
    both_put a between last second third one two ∙ ap (λ (t : List ℕ). t ++ (second ++ third)) is ∙ ap (λ (t : List ℕ). first ++ (second ++ t)) told

-- the same put in other words
pub put_again : (r : Result (Unit {0}) NoMemory) (old new text same : List ℕ) → same ≡ text → OnOk r (new ≡ old ++ text) → OnOk r (new ≡ old ++ same)
put_again (Ok done) old new text same e put = put ∙ ap (λ (t : List ℕ). old ++ t) (sym e)
put_again (Err f) old new text same e put = put

-- ---- lines of indices

mapped_same : (ks : List ℕ) → map (λ (k : ℕ). k) ks ≡ ks
mapped_same [] = refl
mapped_same (k ∷ ks) = ap (λ (l : List ℕ). k ∷ l) (mapped_same ks)

indices_more : (n : ℕ) → range_with_len 0 (n + 1) ≡ range_with_len 0 n ++ n ∷ []
indices_more n =
    sym (mapped_same (range_with_len 0 (n + 1))) ∙ map-range_with_len_more (λ (k : ℕ). k) 0 n n (omega arith) ∙ ap (λ (ks : List ℕ). ks ++ n ∷ []) (mapped_same (range_with_len 0 n))

-- one line more, behind those of the indices before
pub line_put : (f : ℕ → List ℕ) (count : ℕ) (start old new line : List ℕ) → old ≡ start ++ flat_map f (range_with_len 0 count) → new ≡ old ++ line → line ≡ f count
    → new ≡ start ++ flat_map f (range_with_len 0 (count + 1))
line_put f count start old new line before put is =
    both_put start old new (flat_map f (range_with_len 0 count)) line before put
    ∙ ap (λ (t : List ℕ). start ++ (flat_map f (range_with_len 0 count) ++ t)) (is ∙ sym (append-nil (f count)))
    ∙ ap (λ (t : List ℕ). start ++ t) (sym (flat_map-append f (range_with_len 0 count) (count ∷ [])) ∙ ap (flat_map f) (sym (indices_more count)))
