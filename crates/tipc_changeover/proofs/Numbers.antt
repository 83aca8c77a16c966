-- The numbers of packets, counted up.
use Rattle.std.proofs.Common.{◌≡◌, ℕ, zero, suc, ◌+◌, ◌-◌, ◌≤◌, List, [], ◌∷◌, ◌++◌, refl, ap, ◌∙◌, arith}
use Rattle.tipc_changeover.specs.Slots.{counted}

pub counted-none : (before : ℕ) → counted before 0 ≡ []
unfolding counted
counted-none before = refl

pub counted-first : (before count : ℕ) → counted before (suc count) ≡ (before + 1) ∷ counted (before + 1) count
unfolding counted
counted-first before count = refl

pub counted-append : (before count more : ℕ) → counted before (count + more) ≡ counted before count ++ counted (before + count) more
unfolding counted
counted-append before zero more =
    let same : 0 + more ≡ more = omega arith in
    let start : before + 0 ≡ before = omega arith in
    rw (same, start) refl
counted-append before (suc count) more =
    let same : suc count + more ≡ suc (count + more) = omega arith in
    let start : before + suc count ≡ before + 1 + count = omega arith in
    rw (same, start) (ap (λ rest. (before + 1) ∷ rest) (counted-append (before + 1) count more))

pub counted-more : (before count : ℕ) → counted before (count + 1) ≡ counted before count ++ (before + count + 1) ∷ []
counted-more before count = counted-append before count 1 ∙ ap (λ rest. counted before count ++ rest) (counted-first (before + count) 0 ∙ ap (λ rest. (before + count + 1) ∷ rest) (counted-none (before + count + 1)))

-- the first of those that follow
pub record First (before count i : ℕ) (rest : List ℕ) : Type 0 where
  pub some : 1 ≤ count
  pub number : i ≡ before + 1
  pub follow : rest ≡ counted (before + 1) (count - 1)

pub counted-cons : (before count i : ℕ) (rest : List ℕ) → i ∷ rest ≡ counted before count → First before count i rest
unfolding counted
counted-cons before zero i rest e = absurd (let wrong : ⊥ = cc in wrong)
counted-cons before (suc count) i rest e = record {
  some = omega arith;
  number = (let number : i ≡ before + 1 = cc in number);
  follow = (let follow : rest ≡ counted (before + 1) count = cc in let same : suc count - 1 ≡ count = omega arith in rw same follow);
}
