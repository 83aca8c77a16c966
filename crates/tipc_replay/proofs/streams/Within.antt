-- Messages are within contacts that began.
use Rattle.std.proofs.Common.{◌≡◌, ◌==◌, ℕ, zero, suc, Bool, true, false, List, [], ◌∷◌, ◌++◌, Option, Some, None, if◌then◌else◌, fold, slice_get, refl, ap, ◌∙◌, subst, inl, inr, eqb-true}
use Rattle.std.specs.Prelude.{◌⊎◌}
use Rattle.tipc_types.specs.declared.identity.Addr.{Addr}
use Rattle.tipc_journal.specs.declared.entries.Entry.{Entry}
use Rattle.tipc_journal.specs.declared.entries.Entry.TheVariants as entry
use Rattle.tipc_journal.specs.Contacts.{contact, contact_after}
use Rattle.tipc_journal.specs.Steps.{step_entries, NodeStep, PlacedStep}
use Rattle.tipc_replay.specs.Causes.{Seen}
use Rattle.tipc_replay.specs.Lawful.{after, HasBegun, IsLawfulEntry, IsLawfulStep, IsWithin}
use Rattle.tipc_link.proofs.Directions.{slice_get-append as get_longer}

-- an element of two lists is of one of them
pub of_either : {A : Type 0} (xs ys : List A) (k : ℕ) (x : A) → slice_get (xs ++ ys) k ≡ Some x → (slice_get xs k ≡ Some x) ⊎ ((j : ℕ) × (slice_get ys j ≡ Some x))
of_either [] ys k x there = inr (k, there)
of_either (z ∷ zs) ys zero x there = inl there
of_either (z ∷ zs) ys (suc k) x there = of_either zs ys k x there

pub of_later : {A : Type 0} (xs ys : List A) (k : ℕ) (x : A) → slice_get ys k ≡ Some x → (j : ℕ) × (slice_get (xs ++ ys) j ≡ Some x)
of_later [] ys k x there = (k, there)
of_later (z ∷ zs) ys k x there = let later = of_later zs ys k x there in (suc later.0, later.1)

-- ---- a contact began

-- an entry leaves a contact that was there, or begins it
begun_by : (p : Addr) (z : Option (ℕ × ℕ)) (e : Entry) (numbers : ℕ × ℕ) → contact_after p z e ≡ Some numbers → (z ≡ Some numbers) ⊎ (e ≡ entry.ContactUp p numbers)
begun_by p z (entry.ContactUp peer began) numbers is = case (peer.word == p.word) refl is
  where
    case : (b : Bool) → (peer.word == p.word) ≡ b → (if b then Some began else z) ≡ Some numbers → (z ≡ Some numbers) ⊎ (entry.ContactUp peer began ≡ entry.ContactUp p numbers)
    case true same is =
        let peers : peer ≡ p = ap (λ w. record { word = w }) (eqb-true peer.word p.word same) in
        let contacts : began ≡ numbers = cc in
        inr (ap (λ (a : Addr). entry.ContactUp a began) peers ∙ ap (entry.ContactUp p) contacts)
    case false other is = inl is
begun_by p z (entry.ContactDown peer ended states shown) numbers is = case (peer.word == p.word) is
  where
    case : (b : Bool) → (if b then None else z) ≡ Some numbers → (z ≡ Some numbers) ⊎ (entry.ContactDown peer ended states shown ≡ entry.ContactUp p numbers)
    case true is = absurd cc
    case false is = inl is
begun_by p z other numbers is = inl is

begun_in : (p : Addr) (z : Option (ℕ × ℕ)) (es : List Entry) (numbers : ℕ × ℕ) → fold (contact_after p) z es ≡ Some numbers → (z ≡ Some numbers) ⊎ ((k : ℕ) × (slice_get es k ≡ Some (entry.ContactUp p numbers)))
begun_in p z [] numbers is = inl is
begun_in p z (e ∷ es) numbers is = later (begun_in p (contact_after p z e) es numbers is)
  where
    first : (z ≡ Some numbers) ⊎ (e ≡ entry.ContactUp p numbers) → (z ≡ Some numbers) ⊎ ((k : ℕ) × (slice_get (e ∷ es) k ≡ Some (entry.ContactUp p numbers)))
    first (inl was) = inl was
    first (inr same) = inr (zero, ap Some same)

    later : (contact_after p z e ≡ Some numbers) ⊎ ((k : ℕ) × (slice_get es k ≡ Some (entry.ContactUp p numbers))) → (z ≡ Some numbers) ⊎ ((k : ℕ) × (slice_get (e ∷ es) k ≡ Some (entry.ContactUp p numbers)))
    later (inl was) = first (begun_by p z e numbers was)
    later (inr there) = inr (suc there.0, there.1)

has_begun : (es : List Entry) (p : Addr) (numbers : ℕ × ℕ) → contact es p ≡ Some numbers → HasBegun es p numbers
unfolding contact
has_begun es p numbers is = by (begun_in p None es numbers is)
  where
    by : ((let none : Option (ℕ × ℕ) = None in none) ≡ Some numbers) ⊎ ((k : ℕ) × (slice_get es k ≡ Some (entry.ContactUp p numbers))) → HasBegun es p numbers
    by (inl none) = absurd cc
    by (inr there) = record { place = there.0; entry_is = there.1 }

-- ---- one more step

begun_longer : (xs ys : List Entry) (p : Addr) (numbers : ℕ × ℕ) → HasBegun xs p numbers → HasBegun (xs ++ ys) p numbers
begun_longer xs ys p numbers h = record { place = h.place; entry_is = get_longer xs ys h.place (entry.ContactUp p numbers) h.entry_is }

within_longer : (xs ys : List Entry) (e : Entry) → IsWithin xs e → IsWithin (xs ++ ys) e
within_longer xs ys (entry.Accepted peer numbers flow message) h = begun_longer xs ys peer numbers h
within_longer xs ys (entry.Delivered peer numbers flow message by) h = begun_longer xs ys peer numbers h
within_longer xs ys other h = tt

-- an entry of a lawful step
lawful_within : (seen : Seen) (earlier : List PlacedStep) (s : PlacedStep) (e : Entry) → IsLawfulEntry seen earlier s e → IsWithin (after s) e
lawful_within seen earlier s (entry.Accepted peer numbers flow message) h = has_begun (after s) peer numbers h
lawful_within seen earlier s (entry.Delivered peer numbers flow message by) h = has_begun (after s) peer numbers h.0
lawful_within seen earlier s other h = tt

-- an entry of a step is its first or last one, or is inside
inside_of : (s : NodeStep) (journal : List Entry) (k : ℕ) (e : Entry) → slice_get (step_entries s) k ≡ Some e → ((j : ℕ) → slice_get s.inside j ≡ Some e → IsWithin journal e) → IsWithin journal e
inside_of s journal zero e there h = let same : entry.Step s.by s.event ≡ e = cc in subst (IsWithin journal) same tt
inside_of s journal (suc k) e there h = by (of_either s.inside (entry.Answered s.caller s.call s.answer ∷ []) k e there)
  where
    last : (j : ℕ) → slice_get (entry.Answered s.caller s.call s.answer ∷ []) j ≡ Some e → IsWithin journal e
    last zero at = let same : entry.Answered s.caller s.call s.answer ≡ e = cc in subst (IsWithin journal) same tt
    last (suc j) at = absurd cc

    by : (slice_get s.inside k ≡ Some e) ⊎ ((j : ℕ) × (slice_get (entry.Answered s.caller s.call s.answer ∷ []) j ≡ Some e)) → IsWithin journal e
    by (inl inside) = h k inside
    by (inr ends) = last ends.0 ends.1

pub within_more : (seen : Seen) (earlier : List PlacedStep) (journal : List Entry) (s : NodeStep) → ((k : ℕ) (e : Entry) → slice_get journal k ≡ Some e → IsWithin journal e) → IsLawfulStep seen earlier (record { before = journal; step = s })
    → (k : ℕ) (e : Entry) → slice_get (journal ++ step_entries s) k ≡ Some e → IsWithin (journal ++ step_entries s) e
within_more seen earlier journal s all h k e there = by (of_either journal (step_entries s) k e there)
  where
    by : (slice_get journal k ≡ Some e) ⊎ ((j : ℕ) × (slice_get (step_entries s) j ≡ Some e)) → IsWithin (journal ++ step_entries s) e
    by (inl old) = within_longer journal (step_entries s) e (all k e old)
    by (inr new) = inside_of s (journal ++ step_entries s) new.0 e new.1 (λ j inside. lawful_within seen earlier (record { before = journal; step = s }) e (h.entries j e inside))
