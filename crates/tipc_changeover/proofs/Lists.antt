-- Lists of slots and their places.
use Rattle.std.proofs.Common.{◌≡◌, ◌⊎◌, ℕ, zero, suc, ◌+◌, ◌≤◌, Bool, List, [], ◌∷◌, ◌++◌, Some, length, map, drop, refl, sym, ap, inl, inr, arith}
use Rattle.tipc_changeover.specs.Slots.{at, leading, plains, Plain, LinkSlot, Tunnel}

pub some_same : {A : Type 0} {a b : A} → Some a ≡ Some b → a ≡ b
some_same e = cc

-- ---- places

pub at_within : (zs : List LinkSlot) (p : ℕ) (z : LinkSlot) → at zs p ≡ Some z → (1 ≤ p) × (p ≤ length zs)
unfolding at
at_within [] p z e = absurd (let wrong : ⊥ = cc in wrong)
at_within (w ∷ zs) zero z e = absurd (let wrong : ⊥ = cc in wrong)
at_within (w ∷ zs) (suc zero) z e = omega arith
at_within (w ∷ zs) (suc (suc p)) z e = let more = at_within zs (suc p) z e in omega arith

pub at_there : (zs : List LinkSlot) (p : ℕ) → 1 ≤ p → p ≤ length zs → (z : LinkSlot) × (at zs p ≡ Some z)
unfolding at
at_there [] p low high = absurd (let wrong : ⊥ = omega arith in wrong)
at_there (w ∷ zs) zero low high = absurd (let wrong : ⊥ = omega arith in wrong)
at_there (w ∷ zs) (suc zero) low high = (w, refl)
at_there (w ∷ zs) (suc (suc p)) low high = at_there zs (suc p) (omega arith) (omega arith)

-- what stands in a front stands in the whole
pub at_front : (zs ws : List LinkSlot) (p : ℕ) (z : LinkSlot) → at zs p ≡ Some z → at (zs ++ ws) p ≡ Some z
unfolding at
at_front [] ws p z e = absurd (let wrong : ⊥ = cc in wrong)
at_front (w ∷ zs) ws zero z e = absurd (let wrong : ⊥ = cc in wrong)
at_front (w ∷ zs) ws (suc zero) z e = e
at_front (w ∷ zs) ws (suc (suc p)) z e = at_front zs ws (suc p) z e

-- what stands behind
pub at_back : (zs ws : List LinkSlot) (p : ℕ) (z : LinkSlot) → at ws p ≡ Some z → at (zs ++ ws) (length zs + p) ≡ Some z
unfolding at
at_back [] ws p z e = let same : 0 + p ≡ p = omega arith in rw same e
at_back (w ∷ zs) ws zero z e = let low = at_within ws zero z e in absurd (let wrong : ⊥ = omega arith in wrong)
at_back (w ∷ zs) ws (suc p) z e =
    let same : suc (length zs) + suc p ≡ suc (suc (length zs + p)) = omega arith in
    let inner : at (zs ++ ws) (length zs + suc p) ≡ Some z = at_back zs ws (suc p) z e in
    let moved : length zs + suc p ≡ suc (length zs + p) = omega arith in
    rw same (rw moved at inner)

-- a place of two lists is one of either
pub record Behind (zs ws : List LinkSlot) (p : ℕ) (z : LinkSlot) : Type 0 where
  pub place : ℕ
  pub there : at ws place ≡ Some z
  pub is : p ≡ length zs + place

pub at_either : (zs ws : List LinkSlot) (p : ℕ) (z : LinkSlot) → at (zs ++ ws) p ≡ Some z → (at zs p ≡ Some z) ⊎ Behind zs ws p z
unfolding at
at_either [] ws p z e = inr (record { place = p; there = e; is = omega arith })
at_either (w ∷ zs) ws zero z e = absurd (let wrong : ⊥ = cc in wrong)
at_either (w ∷ zs) ws (suc zero) z e = inl e
at_either (w ∷ zs) ws (suc (suc p)) z e = elim (at_either zs ws (suc p) z e) [
  | inl here ↦ inl here
  | inr behind ↦ inr (record { place = behind.place; there = behind.there; is = (let more = behind.is in omega arith) })
]

-- one slot is at place 1
pub at_one : (z : LinkSlot) → at (z ∷ []) 1 ≡ Some z
unfolding at
at_one z = refl

pub at_only : (w : LinkSlot) (p : ℕ) (z : LinkSlot) → at (w ∷ []) p ≡ Some z → (p ≡ 1) × (z ≡ w)
unfolding at
at_only w zero z e = absurd (let wrong : ⊥ = cc in wrong)
at_only w (suc zero) z e = (refl, some_same (sym e))
at_only w (suc (suc p)) z e = absurd (let wrong : ⊥ = cc in wrong)

pub at_none : (p : ℕ) (z : LinkSlot) → at [] p ≡ Some z → ⊥
unfolding at
at_none p z e = cc

-- what stands behind so many slots
pub at_dropped : (n : ℕ) (zs : List LinkSlot) (p : ℕ) (z : LinkSlot) → at (drop n zs) p ≡ Some z → at zs (n + p) ≡ Some z
unfolding at
at_dropped zero zs p z e = let same : 0 + p ≡ p = omega arith in rw same e
at_dropped (suc n) [] p z e = absurd (let wrong : ⊥ = at_none p z e in wrong)
at_dropped (suc n) (w ∷ zs) zero z e = let low = at_within (drop n zs) zero z e in absurd (let wrong : ⊥ = omega arith in wrong)
at_dropped (suc n) (w ∷ zs) (suc p) z e =
    let inner : at zs (n + suc p) ≡ Some z = at_dropped n zs (suc p) z e in
    let moved : n + suc p ≡ suc (n + p) = omega arith in
    let same : suc n + suc p ≡ suc (suc (n + p)) = omega arith in
    rw same (rw moved at inner)

pub at_drop : (n : ℕ) (zs : List LinkSlot) (p : ℕ) (z : LinkSlot) → at zs (n + p) ≡ Some z → 1 ≤ p → at (drop n zs) p ≡ Some z
unfolding at
at_drop zero zs p z e low = let same : 0 + p ≡ p = omega arith in rw same at e
at_drop (suc n) [] p z e low = e
at_drop (suc n) (w ∷ zs) zero z e low = absurd (let wrong : ⊥ = omega arith in wrong)
at_drop (suc n) (w ∷ zs) (suc p) z e low =
    let same : suc n + suc p ≡ suc (suc (n + p)) = omega arith in
    let moved : n + suc p ≡ suc (n + p) = omega arith in
    let inner : at zs (suc (n + p)) ≡ Some z = rw same at e in
    at_drop n zs (suc p) z (rw moved inner) (omega arith)

-- ---- plain packets

pub plains-append : (zs ws : List LinkSlot) → plains (zs ++ ws) ≡ plains zs ++ plains ws
unfolding plains
plains-append [] ws = refl
plains-append (Plain i ∷ zs) ws = ap (λ rest. i ∷ rest) (plains-append zs ws)
plains-append (Tunnel f q full ∷ zs) ws = plains-append zs ws

pub plains-nil : plains [] ≡ []
unfolding plains
plains-nil = refl

pub plains_of_plain : (i : ℕ) → plains (Plain i ∷ []) ≡ i ∷ []
unfolding plains
plains_of_plain i = refl

pub plains-plain : (i : ℕ) (zs : List LinkSlot) → plains (Plain i ∷ zs) ≡ i ∷ plains zs
unfolding plains
plains-plain i zs = refl

pub plains-tunnel : (f q : ℕ) (full : Bool) (zs : List LinkSlot) → plains (Tunnel f q full ∷ zs) ≡ plains zs
unfolding plains
plains-tunnel f q full zs = refl

pub plains-plain_slots : (is : List ℕ) → plains (map Plain is) ≡ is
unfolding plains
plains-plain_slots [] = refl
plains-plain_slots (i ∷ is) = ap (λ rest. i ∷ rest) (plains-plain_slots is)

pub plain_slots-plain : (is : List ℕ) (p f q : ℕ) (full : Bool) → at (map Plain is) p ≡ Some (Tunnel f q full) → ⊥
unfolding at
plain_slots-plain [] p f q full e = cc
plain_slots-plain (i ∷ is) zero f q full e = cc
plain_slots-plain (i ∷ is) (suc zero) f q full e = cc
plain_slots-plain (i ∷ is) (suc (suc p)) f q full e = plain_slots-plain is (suc p) f q full e

-- a list with no plain packets has none at any place
pub plains-none : (zs : List LinkSlot) (p i : ℕ) → plains zs ≡ [] → at zs p ≡ Some (Plain i) → ⊥
unfolding at plains
plains-none [] p i none e = cc
plains-none (Plain j ∷ zs) p i none e = cc
plains-none (Tunnel f q full ∷ zs) zero i none e = cc
plains-none (Tunnel f q full ∷ zs) (suc zero) i none e = cc
plains-none (Tunnel f q full ∷ zs) (suc (suc p)) i none e = plains-none zs (suc p) i none e

-- ---- what leads

pub leading-plain : (zs : List LinkSlot) (i : ℕ) → leading (zs ++ Plain i ∷ []) ≡ leading zs
unfolding leading
leading-plain [] i = refl
leading-plain (Plain j ∷ zs) i = refl
leading-plain (Tunnel f q full ∷ zs) i = ap (λ rest. Tunnel f q full ∷ rest) (leading-plain zs i)

pub leading-more : (zs ws : List LinkSlot) (p : ℕ) (z : LinkSlot) → at (leading zs) p ≡ Some z → at (leading (zs ++ ws)) p ≡ Some z
unfolding leading at
leading-more [] ws p z e = absurd (let wrong : ⊥ = cc in wrong)
leading-more (Plain j ∷ zs) ws p z e = absurd (let wrong : ⊥ = cc in wrong)
leading-more (Tunnel f q full ∷ zs) ws zero z e = absurd (let wrong : ⊥ = cc in wrong)
leading-more (Tunnel f q full ∷ zs) ws (suc zero) z e = e
leading-more (Tunnel f q full ∷ zs) ws (suc (suc p)) z e = leading-more zs ws (suc p) z e

-- a list with no plain packets leads whole
pub leading-none : (zs ws : List LinkSlot) → plains zs ≡ [] → leading (zs ++ ws) ≡ zs ++ leading ws
unfolding leading plains
leading-none [] ws none = refl
leading-none (Plain j ∷ zs) ws none = absurd (let wrong : ⊥ = cc in wrong)
leading-none (Tunnel f q full ∷ zs) ws none = ap (λ rest. Tunnel f q full ∷ rest) (leading-none zs ws none)

pub leading-tunnel : (f q : ℕ) (full : Bool) (zs : List LinkSlot) → leading (Tunnel f q full ∷ zs) ≡ Tunnel f q full ∷ leading zs
unfolding leading
leading-tunnel f q full zs = refl

pub leading-plain_first : (i : ℕ) (zs : List LinkSlot) → leading (Plain i ∷ zs) ≡ []
unfolding leading
leading-plain_first i zs = refl
