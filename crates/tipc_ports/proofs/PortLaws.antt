-- The ports that are there, as a list of numbers without two that are the same.
use Rattle.std.proofs.Common.{◌≡◌, ℕ, ◌+◌, ◌<◌, ◌≤◌, Bool, true, false, not, cond, List, [], ◌∷◌, ◌++◌, Contains, if◌then◌else◌, inl, inr, refl, sym, ap, subst, eqb-true, arith}
use Rattle.std.specs.Prelude.{nat_eq}
use Rattle.std.specs.Cmp.{nat_eq_equiv}
use Rattle.std.proofs.lemmas.Bool.Decides.{Decides-eqb, eqb_tells}
use Rattle.std.specs.List.{AllByRecursion, IsDistinct, list_any}
use Rattle.std.proofs.lemmas.List.Elements.{All-filter, All-push, recursion_from_All}
use Rattle.std.proofs.lemmas.List.Kept.{AllPairs-filter}
use Rattle.std.proofs.lemmas.List.Quantifiers.{all_pairs_push}
use Rattle.std.proofs.lemmas.Map.Made.{IsDistinct-from_AllPairs}
use Rattle.std.proofs.lemmas.Map.Views.{Contains-from_any, list_any-from_Contains}
use Rattle.indexmap.specs.IndexSet.{insert_key, remove_key}
use Rattle.tipc_ports.specs.Numbers.{port_number, without_port, ArePresent, PortTable}

-- ---- none of these numbers is this one

absent_below : (n m : ℕ) (ks : List ℕ) → AllByRecursion (λ k. k ≤ m) ks → m < n → list_any (nat_eq n) ks ≡ false
absent_below n m [] h above = refl
absent_below n m (k ∷ ks) h above =
    let other : nat_eq n k ≡ false = elim (eqb_tells n k) as (λ _. nat_eq n k ≡ false) [ inl p ↦ absurd (omega (arith, p.1, h.0, above)) | inr p ↦ p.0 ] in
    rw other (absent_below n m ks h.1 above)

pub new_port_last : (boot made n : ℕ) (ports : List ℕ) → ArePresent boot made ports → n ≡ port_number boot (made + 1) → insert_key nat_eq ports n ≡ ports ++ n ∷ []
new_port_last boot made n ports h is =
    ap (λ (b : Bool). if b then ports else ports ++ n ∷ []) (absent_below n (port_number boot made) ports (recursion_from_All _ ports h.below) (omega (arith, is)))

-- ---- a port that is closed

others_kept : (n : ℕ) (ks : List ℕ) → AllByRecursion (λ k. nat_eq n k ≡ false) ks → without_port n ks ≡ ks
others_kept n [] h = refl
others_kept n (k ∷ ks) h = rw h.0 (ap (λ (xs : List ℕ). k ∷ xs) (others_kept n ks h.1))

taken_out : (b : Bool) (k : ℕ) (ks rest kept : List ℕ) → (b ≡ true → ks ≡ kept) → rest ≡ kept → cond b ks (k ∷ rest) ≡ cond (not b) (k ∷ kept) kept
taken_out true k ks rest kept here later = here refl
taken_out false k ks rest kept here later = ap (λ (xs : List ℕ). k ∷ xs) later

removed_once : (n : ℕ) (ks : List ℕ) → IsDistinct nat_eq ks → remove_key (nat_eq n) ks ≡ without_port n ks
unfolding IsDistinct
removed_once n [] h = refl
removed_once n (k ∷ ks) h =
    taken_out (nat_eq n k) k ks (remove_key (nat_eq n) ks) (without_port n ks)
    (λ e. sym (others_kept n ks (subst (λ (i : ℕ). AllByRecursion (λ j. nat_eq i j ≡ false) ks) (sym (eqb-true _ _ e)) h.0)))
    (removed_once n ks h.1)

pub port_removed : (boot made n : ℕ) (ports : List ℕ) → ArePresent boot made ports → remove_key (nat_eq n) ports ≡ without_port n ports
port_removed boot made n ports h =
    removed_once n ports (IsDistinct-from_AllPairs Decides-eqb ports (λ i j d first last e. omega (arith, h.rising i j d first last, e)))

pub present_without : (boot made n : ℕ) (ports : List ℕ) → ArePresent boot made ports → ArePresent boot made (without_port n ports)
present_without boot made n ports h = record {
  above = All-filter _ (λ (port : ℕ). port_number boot 1 ≤ port) ports h.above;
  below = All-filter _ (λ (port : ℕ). port ≤ port_number boot made) ports h.below;
  rising = AllPairs-filter (λ (port later : ℕ). port < later) _ ports h.rising;
}

pub present_new : (boot made n : ℕ) (ports : List ℕ) → ArePresent boot made ports → n ≡ port_number boot (made + 1) → ArePresent boot (made + 1) (ports ++ n ∷ [])
present_new boot made n ports h is = record {
  above = All-push (λ (port : ℕ). port_number boot 1 ≤ port) ports n h.above (omega (arith, is));
  below = All-push (λ (port : ℕ). port ≤ port_number boot (made + 1)) ports n (λ k d within. omega (arith, h.below k d within)) (omega (arith, is));
  rising = all_pairs_push (λ (port later : ℕ). port < later) ports n h.rising (λ k d within. omega (arith, h.below k d within, is));
}

-- ---- whether a port is there

pub found_there : (n : ℕ) (ports : List ℕ) → list_any (nat_eq n) ports ≡ true → Contains ports n
found_there n ports found = Contains-from_any (λ x y e. eqb-true x y e) n ports found

pub there_found : (n : ℕ) (ports : List ℕ) → Contains ports n → list_any (nat_eq n) ports ≡ true
there_found n ports there = list_any-from_Contains nat_eq_equiv n ports there

abbrev pub table : ℕ → ℕ → List ℕ → PortTable
table boot made ports = record { boot = boot; made = made; present = ports }
