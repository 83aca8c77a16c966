-- How many publications a table holds: 1,024 at most of each of the 32 nodes of the cluster.
use Rattle.std.proofs.Common.{◌≡◌, ℕ, zero, suc, ◌+◌, ◌*◌, ◌≤◌, Bool, true, false, cond, List, [], ◌∷◌, length, filter, refl, ap, ◌∙◌, arith}
use Rattle.std.specs.Prelude.{count_by, nat_lt, ◌==◌}
use Rattle.std.specs.List.{AllByRecursion}
use Rattle.std.proofs.lemmas.Bool.Decides.{nat_tests}
use Rattle.std.proofs.lemmas.List.Sums.{count_by-le-length, length-filter, sum_by-cons}
use Rattle.tipc_types.specs.declared.services.Publication.{Publication}
use Rattle.tipc_types.specs.Tables.{is_of, AreOfCluster, IsTable}
use Rattle.tipc_types.proofs.Places.{none_counted}

-- whether a publication is of a node below an address word
abbrev below : ℕ → Publication → Bool
below most p = nat_lt p.at.node.word most

counted : (test : Publication → Bool) (p : Publication) (ps : List Publication) → count_by test (p ∷ ps) ≡ cond (test p) 1 0 + count_by test ps
counted test p ps = sum_by-cons (λ q. cond (test q) 1 0) p ps

one_split : (word most : ℕ) → cond (nat_lt word (most + 1)) 1 0 ≤ cond (nat_lt word most) 1 0 + cond (word == most) 1 0
one_split word most = by (nat_lt word (most + 1)) (nat_lt word most) (word == most) refl refl refl
  where
    by : (first then last : Bool) → nat_lt word (most + 1) ≡ first → nat_lt word most ≡ then → word == most ≡ last → cond first 1 0 ≤ cond then 1 0 + cond last 1 0
    by false then last f t l = omega arith
    by true true last f t l = omega arith
    by true false true f t l = omega arith
    by true false false f t l = absurd (grind (arith, nat_tests, f, t, l))

split : (most : ℕ) (ps : List Publication) → count_by (below (most + 1)) ps ≤ count_by (below most) ps + count_by (is_of most) ps
split most [] = omega arith
split most (p ∷ ps) =
    let one = one_split p.at.node.word most in
    let rest = split most ps in
    let first = counted (below (most + 1)) p ps in
    let second = counted (below most) p ps in
    let third = counted (is_of most) p ps in
    omega (arith, one, rest, first, second, third)

none_below : (ps : List Publication) → AreOfCluster ps → AllByRecursion (λ p. below 16781313 p ≡ false) ps
none_below [] all = tt
none_below (p ∷ ps) all = let least = all.0.0 in (grind (arith, nat_tests, least), none_below ps all.1)

few_below : (nodes : ℕ) (ps : List Publication) → IsTable ps → AreOfCluster ps → count_by (below (16781313 + nodes)) ps ≤ 1024 * nodes
few_below zero ps h all = let none = none_counted (below 16781313) ps (none_below ps all) in omega (arith, none)
few_below (suc nodes) ps h all =
    let others = few_below nodes ps h all in
    let few = h.few (16781313 + nodes) in
    let both = split (16781313 + nodes) ps in
    let next : 16781313 + suc nodes ≡ 16781313 + nodes + 1 = omega arith in
    let same = ap (λ (k : ℕ). count_by (below k) ps) next in
    omega (arith, others, few, both, same)

all_below : (ps : List Publication) → AreOfCluster ps → count_by (below 16781345) ps ≡ length ps
all_below [] all = refl
all_below (p ∷ ps) all =
    let most = all.0.1 in
    let is : below 16781345 p ≡ true = grind (arith, nat_tests, most) in
    let rest = all_below ps all.1 in
    let first = counted (below 16781345) p ps ∙ ap (λ (b : Bool). cond b 1 0 + count_by (below 16781345) ps) is in
    omega (arith, first, rest)

few_held : (ps : List Publication) → IsTable ps → AreOfCluster ps → length ps ≤ 32768
few_held ps h all =
    let below = few_below 32 ps h all in
    let whole = all_below ps all in
    omega (arith, below, whole)

-- so few are found in any look-up
pub few_found : (test : Publication → Bool) (ps : List Publication) → IsTable ps → AreOfCluster ps → length (filter test ps) ≤ 32768
few_found test ps h all =
    let held = few_held ps h all in
    let long = length-filter test ps in
    let some = count_by-le-length test ps in
    omega (arith, held, long, some)
