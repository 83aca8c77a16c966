-- Lists of slots with their packets.
use Rattle.std.proofs.Common.{◌≡◌, ℕ, zero, suc, ◌-◌, List, [], ◌∷◌, ◌++◌, Some, length, drop, refl, ap, subst, arith}
use Rattle.std.specs.List.{slice_get}
use Rattle.tipc_changeover.specs.Slots.{at, LinkSlot}
use Rattle.tipc_two_nodes.specs.links.Packets.{AreFor}

pub are_length : (P : LinkSlot → List ℕ → Type 0) (zs : List LinkSlot) (ps : List (List ℕ)) → AreFor P zs ps → length zs ≡ length ps
are_length P [] [] h = refl
are_length P [] (p ∷ ps) h = absurd h
are_length P (z ∷ zs) [] h = absurd h
are_length P (z ∷ zs) (p ∷ ps) h = ap suc (are_length P zs ps h.1)

pub are_append : (P : LinkSlot → List ℕ → Type 0) (zs ws : List LinkSlot) (ps qs : List (List ℕ)) → AreFor P zs ps → AreFor P ws qs → AreFor P (zs ++ ws) (ps ++ qs)
are_append P [] ws [] qs h k = k
are_append P [] ws (p ∷ ps) qs h k = absurd h
are_append P (z ∷ zs) ws [] qs h k = absurd h
are_append P (z ∷ zs) ws (p ∷ ps) qs h k = (h.0, are_append P zs ws ps qs h.1 k)

pub are_map : (P Q : LinkSlot → List ℕ → Type 0) (zs : List LinkSlot) (ps : List (List ℕ)) → ((z : LinkSlot) (p : List ℕ) → P z p → Q z p) → AreFor P zs ps → AreFor Q zs ps
are_map P Q [] [] f h = tt
are_map P Q [] (p ∷ ps) f h = absurd h
are_map P Q (z ∷ zs) [] f h = absurd h
are_map P Q (z ∷ zs) (p ∷ ps) f h = (f z p h.0, are_map P Q zs ps f h.1)

pub are_drop : (P : LinkSlot → List ℕ → Type 0) (n : ℕ) (zs : List LinkSlot) (ps : List (List ℕ)) → AreFor P zs ps → AreFor P (drop n zs) (drop n ps)
are_drop P zero zs ps h = h
are_drop P (suc n) [] [] h = tt
are_drop P (suc n) [] (p ∷ ps) h = absurd h
are_drop P (suc n) (z ∷ zs) [] h = absurd h
are_drop P (suc n) (z ∷ zs) (p ∷ ps) h = are_drop P n zs ps h.1

-- the packet at the place of a slot
pub are_at : (P : LinkSlot → List ℕ → Type 0) (zs : List LinkSlot) (ps : List (List ℕ)) (p : ℕ) (z : LinkSlot) → AreFor P zs ps → at zs p ≡ Some z → (packet : List ℕ) × (slice_get ps (p - 1) ≡ Some packet) × P z packet
unfolding at
are_at P [] [] p z h e = absurd (let wrong : ⊥ = cc in wrong)
are_at P [] (q ∷ qs) p z h e = absurd h
are_at P (w ∷ zs) [] p z h e = absurd h
are_at P (w ∷ zs) (q ∷ qs) zero z h e = absurd (let wrong : ⊥ = cc in wrong)
are_at P (w ∷ zs) (q ∷ qs) (suc zero) z h e = (q, refl, subst (λ v. P v q) (let is : w ≡ z = cc in is) h.0)
are_at P (w ∷ zs) (q ∷ qs) (suc (suc p)) z h e =
    let same : suc (suc p) - 1 ≡ suc (suc p - 1) = omega arith in
    let more = are_at P zs qs (suc p) z h.1 e in
    (more.0, rw same more.1, more.2)

-- the packets that stand in a front stand in the whole
pub front_get : {A : Type 0} (xs ys : List A) (k : ℕ) (x : A) → slice_get xs k ≡ Some x → slice_get (xs ++ ys) k ≡ Some x
front_get [] ys k x e = absurd (let wrong : ⊥ = cc in wrong)
front_get (x ∷ xs) ys zero y e = e
front_get (x ∷ xs) ys (suc k) y e = front_get xs ys k y e
