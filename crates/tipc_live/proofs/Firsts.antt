-- The first call that one of several passes tells otherwise.
use Rattle.std.specs.List.{All, Contains}
use Rattle.std.specs.Prelude.{MatchOption, Option, Some, None, slice_get}
use Rattle.std.proofs.Common.{◌≡◌, ◌⊎◌, inl, inr, ℕ, zero, suc, ◌+◌, ◌<◌, ◌≤◌, true, false, arith, List, [], ◌∷◌, ◌++◌, get_or, length, take, refl, sym, subst, ◌∙◌, ap}
use Rattle.std.proofs.lemmas.List.{take_more}
use Rattle.std.proofs.lemmas.List.Elements.{All-push}
use Rattle.tipc_journal.specs.declared.entries.Entry.{Entry}
use Rattle.tipc_node_lock.specs.Passes.{PassState}
use Rattle.tipc_live.specs.declared.passes.CallName.{CallName}
use Rattle.tipc_live.specs.Calls.{DifferAt, steps_by}
use Rattle.tipc_live.specs.Telling.{IsFirst, IsFirstOf, IsUpTo, TellsOtherwise, TellsTrue}

-- ---- where lists differ first

get_take : {A : Type 0} (xs : List A) (k l : ℕ) → k < l → slice_get (take l xs) k ≡ slice_get xs k
get_take xs k zero less = absurd (omega (arith, less))
get_take [] k (suc l) less = refl
get_take (x ∷ xs) zero (suc l) less = refl
get_take (x ∷ xs) (suc k) (suc l) less = get_take xs k l (omega (arith, less))

not_earlier : {A : Type 0} (xs ys : List A) (k l : ℕ) → DifferAt xs ys k → DifferAt xs ys l → k < l → ⊥
not_earlier xs ys k l a b less = a.there (sym (get_take xs k l less) ∙ ap (λ zs. slice_get zs k) b.before ∙ get_take ys k l less)

differ_once : {A : Type 0} (xs ys : List A) (k l : ℕ) → DifferAt xs ys k → DifferAt xs ys l → k ≡ l
differ_once xs ys k l a b =
    let low : k < l → ⊥ = not_earlier xs ys k l a b in
    let high : l < k → ⊥ = not_earlier xs ys l k b a in
    omega (arith, low, high)

same_everywhere : {A : Type 0} (xs ys : List A) (k : ℕ) → xs ≡ ys → DifferAt xs ys k → ⊥
same_everywhere xs ys k same d = d.there (ap (λ zs. slice_get zs k) same)

-- ---- one pass

-- a pass that tells what is so tells nothing otherwise
pub not_otherwise : (journal : List Entry) (p : PassState) (call : ℕ) → TellsTrue journal p → TellsOtherwise journal p call → ⊥
not_otherwise journal p call t (inl d) = same_everywhere p.made (steps_by p.caller journal) call t.calls d
not_otherwise journal p call t (inr b) = let both : true ≡ false = sym b.3 ∙ t.full b.2 in absurd cc

-- a pass tells one call otherwise first
otherwise_once : (journal : List Entry) (p : PassState) (k l : ℕ) → TellsOtherwise journal p k → TellsOtherwise journal p l → k ≡ l
otherwise_once journal p k l (inl a) (inl b) = differ_once p.made (steps_by p.caller journal) k l a b
otherwise_once journal p k l (inl a) (inr b) = absurd (same_everywhere p.made (steps_by p.caller journal) k b.0 a)
otherwise_once journal p k l (inr a) (inl b) = absurd (same_everywhere p.made (steps_by p.caller journal) l a.0 b)
otherwise_once journal p k l (inr a) (inr b) = a.1 ∙ sym b.1

-- ---- one pass more

-- one of several and one more
contains_more : (xs : List PassState) (y p : PassState) → Contains (xs ++ y ∷ []) p → Contains xs p ⊎ (p ≡ y)
contains_more [] y p (zero, within, is) = inr (sym is)
contains_more [] y p (suc k, within, is) = absurd (omega (arith, within))
contains_more (x ∷ xs) y p (zero, within, is) = inl (0, omega arith, is)
contains_more (x ∷ xs) y p (suc k, within, is) = by (contains_more xs y p (k, omega (arith, within), is))
  where
    by : Contains xs p ⊎ (p ≡ y) → Contains (x ∷ xs) p ⊎ (p ≡ y)
    by (inl (j, inside, there)) = inl (suc j, omega (arith, inside), there)
    by (inr same) = inr same

contains_front : (xs : List PassState) (y p : PassState) → Contains xs p → Contains (xs ++ y ∷ []) p
contains_front [] y p (k, within, is) = absurd (omega (arith, within))
contains_front (x ∷ xs) y p (zero, within, is) = (0, omega arith, is)
contains_front (x ∷ xs) y p (suc k, within, is) = by (contains_front xs y p (k, omega (arith, within), is))
  where
    by : Contains (xs ++ y ∷ []) p → Contains (x ∷ (xs ++ y ∷ [])) p
    by (j, inside, there) = (suc j, omega (arith, inside), there)

contains_last : (xs : List PassState) (y : PassState) → Contains (xs ++ y ∷ []) y
contains_last [] y = (0, omega arith, refl)
contains_last (x ∷ xs) y = by (contains_last xs y)
  where
    by : Contains (xs ++ y ∷ []) y → Contains (x ∷ (xs ++ y ∷ [])) y
    by (j, inside, there) = (suc j, omega (arith, inside), there)

-- what is found among several passes: each tells what is so, or that is the first that is told otherwise
abbrev pub FoundIn : List Entry → List PassState → Option CallName → Type 0
FoundIn journal passes found = MatchOption found (All (TellsTrue journal) passes) (λ f. IsFirst journal passes f.caller f.call)

-- a pass that tells what is so
pub found_true : (journal : List Entry) (xs : List PassState) (p : PassState) (found : Option CallName) → FoundIn journal xs found → TellsTrue journal p
    → FoundIn journal (xs ++ p ∷ []) found
found_true journal xs p None all t = All-push (TellsTrue journal) xs p all t
found_true journal xs p (Some f) is t = record {
  pass = is.pass;
  among = contains_front xs p is.pass is.among;
  caller_is = is.caller_is;
  otherwise = is.otherwise;
  first = λ q number among other. by q number other (contains_more xs p q among);
}
  where
    by : (q : PassState) (number : ℕ) → TellsOtherwise journal q number → Contains xs q ⊎ (q ≡ p) → IsUpTo f.caller f.call q.caller number
    by q number other (inl among) = is.first q number among other
    by q number other (inr same) = absurd (not_otherwise journal q number (subst (TellsTrue journal) (sym same) t) other)

-- a call that isn't up to another one is behind it
behind : (c n oc on qc m : ℕ) → (IsUpTo c n oc on → ⊥) → IsUpTo c n qc m → IsUpTo oc on qc m
behind c n oc on qc m not (inl less) = inl (omega (arith, less, lower))
  where
    lower : c < oc → ⊥
    lower up = not (inl up)
behind c n oc on qc m not (inr (same, up)) = by (below oc c)
  where
    below : (a b : ℕ) → (a < b) ⊎ (b ≤ a)
    below a b = grind arith

    by : (oc < c) ⊎ (c ≤ oc) → IsUpTo oc on qc m
    by (inl less) = inl (omega (arith, less, same))
    by (inr more) = inr (omega (arith, more, same, not_above), omega (arith, up, not_same, more, not_above))
      where
        not_above : c < oc → ⊥
        not_above above = not (inl above)

        not_same : c ≡ oc → n ≤ on → ⊥
        not_same is few = not (inr (is, few))

-- a pass that tells otherwise
pub found_other : (journal : List Entry) (xs : List PassState) (p : PassState) (found : Option CallName) (call : ℕ) (first : CallName)
    → FoundIn journal xs found → TellsOtherwise journal p call → IsFirstOf found (record { caller = p.caller; call = call }) first
    → FoundIn journal (xs ++ p ∷ []) (Some first)
found_other journal xs p None call first all other is = record {
  pass = p;
  among = contains_last xs p;
  caller_is = sym (ap (λ (f : CallName). f.caller) is);
  otherwise = subst (TellsOtherwise journal p) (sym (ap (λ (f : CallName). f.call) is)) other;
  first = λ q number among told. by q number told (contains_more xs p q among);
}
  where
    by : (q : PassState) (number : ℕ) → TellsOtherwise journal q number → Contains xs q ⊎ (q ≡ p) → IsUpTo first.caller first.call q.caller number
    by q number told (inl (k, within, there)) = absurd (not_otherwise journal q number (subst (TellsTrue journal) there (all k q within)) told)
    by q number told (inr same) =
        let one = otherwise_once journal p number call (subst (λ x. TellsOtherwise journal x number) same told) other in
        let caller = ap (λ (f : CallName). f.caller) is in
        let number_is = ap (λ (f : CallName). f.call) is in
        let whose = ap (λ (x : PassState). x.caller) same in
        inr (caller ∙ sym whose, omega (arith, one, number_is))
found_other journal xs p (Some f) call first was other (inl (is, up)) = record {
  pass = was.pass;
  among = contains_front xs p was.pass was.among;
  caller_is = was.caller_is ∙ sym (ap (λ (g : CallName). g.caller) is);
  otherwise = subst (TellsOtherwise journal was.pass) (sym (ap (λ (g : CallName). g.call) is)) was.otherwise;
  first = λ q number among told. subst (λ (g : CallName). IsUpTo g.caller g.call q.caller number) (sym is) (by q number told (contains_more xs p q among));
}
  where
    by : (q : PassState) (number : ℕ) → TellsOtherwise journal q number → Contains xs q ⊎ (q ≡ p) → IsUpTo f.caller f.call q.caller number
    by q number told (inl among) = was.first q number among told
    by q number told (inr same) =
        let one = otherwise_once journal p number call (subst (λ x. TellsOtherwise journal x number) same told) other in
        subst (λ n. IsUpTo f.caller f.call q.caller n) (sym one) (subst (λ c. IsUpTo f.caller f.call c call) (sym (ap (λ (x : PassState). x.caller) same)) up)
found_other journal xs p (Some f) call first was other (inr (is, not)) = record {
  pass = p;
  among = contains_last xs p;
  caller_is = sym (ap (λ (g : CallName). g.caller) is);
  otherwise = subst (TellsOtherwise journal p) (sym (ap (λ (g : CallName). g.call) is)) other;
  first = λ q number among told. subst (λ (g : CallName). IsUpTo g.caller g.call q.caller number) (sym is) (by q number told (contains_more xs p q among));
}
  where
    by : (q : PassState) (number : ℕ) → TellsOtherwise journal q number → Contains xs q ⊎ (q ≡ p) → IsUpTo p.caller call q.caller number
    by q number told (inl among) = behind f.caller f.call p.caller call q.caller number not (was.first q number among told)
    by q number told (inr same) =
        let one = otherwise_once journal p number call (subst (λ x. TellsOtherwise journal x number) same told) other in
        inr (sym (ap (λ (x : PassState). x.caller) same), omega (arith, one))

-- ---- the next pass of a list

pub found_next_true : (journal : List Entry) (ps : List PassState) (i : ℕ) (p : PassState) (found : Option CallName) → i < length ps → p ≡ get_or ps i p
    → FoundIn journal (take i ps) found → TellsTrue journal p → FoundIn journal (take (i + 1) ps) found
found_next_true journal ps i p found within is was t =
    subst (λ xs. FoundIn journal xs found) (ap (λ x. take i ps ++ x ∷ []) is ∙ sym (take_more ps i p within)) (found_true journal (take i ps) p found was t)

pub found_next_other : (journal : List Entry) (ps : List PassState) (i : ℕ) (p : PassState) (found : Option CallName) (call : ℕ) (first : CallName)
    → i < length ps → p ≡ get_or ps i p → FoundIn journal (take i ps) found → TellsOtherwise journal p call
    → IsFirstOf found (record { caller = p.caller; call = call }) first → FoundIn journal (take (i + 1) ps) (Some first)
found_next_other journal ps i p found call first within is was other one =
    subst (λ xs. FoundIn journal xs (Some first)) (ap (λ x. take i ps ++ x ∷ []) is ∙ sym (take_more ps i p within))
    (found_other journal (take i ps) p found call first was other one)
