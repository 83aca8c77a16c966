-- What the entries of a step tell of the links to a peer, and of the contact with it.
use Rattle.std.proofs.Common.{◌≡◌, ◌==◌, ◌&&◌, ℕ, Bool, true, false, List, [], ◌∷◌, ◌++◌, Option, Some, None, filter, fold, map, refl, sym, ap, ◌∙◌, arith}
use Rattle.std.specs.Prelude.{if◌then◌else◌}
use Rattle.std.proofs.lemmas.Bool.Decides.{nat_tests}
use Rattle.std.proofs.lemmas.List.Sums.{fold-append}
use Rattle.tipc_types.specs.Address.{node_word}
use Rattle.tipc_types.specs.declared.identity.Addr.{Addr}
use Rattle.tipc_journal.specs.declared.entries.Entry.{Entry}
use Rattle.tipc_journal.specs.declared.entries.Entry.TheVariants as entry
use Rattle.tipc_journal.specs.Contacts.{contact, contact_after, epochs_after, up_epochs}
use Rattle.tipc_journal.specs.Steps.{NodeStep, step_entries}
use Rattle.tipc_journal.proofs.ContactLaws.{contact_append, up_epochs_append}
use Rattle.tipc_pair.specs.declared.transitions.Transition.{Transition}
use Rattle.tipc_pair.specs.declared.transitions.Transition.TheVariants.{ContactDown, ContactUp, LinkDown, LinkUp}
use Rattle.tipc_pair.specs.Facing.{PairEnds, contact_between}
use Rattle.tipc_node.specs.Nodes.{change_entries, change_entry}
use Rattle.tipc_pair.specs.LinkReadings.{epochs_on}
use Rattle.tipc_node.specs.Turns.{addr_of, is_change_of}
use Rattle.tipc_pair.proofs.turns.Moves.{Tells, contact_by, epochs_by}
use Rattle.tipc_pair.proofs.acts.Walks.{tested}

-- ---- the journal after a step

pub contact_step : (journal : List Entry) (s : NodeStep) (p : Addr) → contact (journal ++ step_entries s) p ≡ fold (contact_after p) (contact journal p) s.inside
contact_step journal s p = contact_append journal (step_entries s) p ∙ fold-append (contact_after p) (contact journal p) s.inside (entry.Answered s.caller s.call s.answer ∷ [])

pub epochs_step : (journal : List Entry) (s : NodeStep) (p : Addr) (bearer : ℕ) → up_epochs (journal ++ step_entries s) p bearer ≡ fold (epochs_after p bearer) (up_epochs journal p bearer) s.inside
epochs_step journal s p bearer =
    up_epochs_append journal (step_entries s) p bearer ∙ fold-append (epochs_after p bearer) (up_epochs journal p bearer) s.inside (entry.Answered s.caller s.call s.answer ∷ [])

-- ---- the entries that tell of a peer

-- a fold goes by the elements that pass a test, where it keeps what it has at all others
pub folded : {A Z : Type 0} (F : Z → A → Z) (test : A → Bool) (z : Z) (xs : List A) → ((y : Z) (x : A) → test x ≡ false → F y x ≡ y) → fold F z xs ≡ fold F z (filter test xs)
folded {A} F test z [] keeps = refl
folded {A} F test z (x ∷ xs) keeps =
    tested (λ (ys : List A). fold F (F z x) xs ≡ fold F z ys) (test x) (x ∷ filter test xs) (filter test xs) (λ passes. folded F test (F z x) xs keeps) (λ fails. ap (λ y. fold F y xs) (keeps z x fails) ∙ folded F test z xs keeps)

contact_keeps : (p : ℕ) (z : Option (ℕ × ℕ)) (e : Entry) → is_change_of p e ≡ false → contact_after (addr_of p) z e ≡ z
contact_keeps p z (entry.ContactUp peer numbers) is = ap (λ b. if b then Some numbers else z) is
contact_keeps p z (entry.ContactDown peer numbers states shown) is = ap (λ b. if b then None else z) is
contact_keeps p z other is = refl

epochs_keep : (p bearer : ℕ) (z : Option (ℕ × ℕ)) (e : Entry) → is_change_of p e ≡ false → epochs_after (addr_of p) bearer z e ≡ z
epochs_keep p bearer z (entry.LinkUp peer on own theirs) is = ap (λ b. if b && (on == bearer) then Some (own, theirs) else z) is
epochs_keep p bearer z (entry.LinkDown peer on because shown) is = ap (λ b. if b && (on == bearer) then None else z) is
epochs_keep p bearer z other is = refl

-- ---- the entries of changes

pub same_word : (n : ℕ) → (node_word n == node_word n) ≡ true
same_word n = grind (arith, nat_tests)

-- a fold over what a function makes of each goes as a fold over themselves
fold_each : {A B Z : Type 0} (F : Z → B → Z) (G : Z → A → Z) (f : A → B) → ((z : Z) (x : A) → F z (f x) ≡ G z x) → (z : Z) (xs : List A) → fold F z (map f xs) ≡ fold G z xs
fold_each F G f same z [] = refl
fold_each F G f same z (x ∷ xs) = ap (λ y. fold F y (map f xs)) (same z x) ∙ fold_each F G f same (G z x) xs

contact_one : (p : ℕ) (z : Option (ℕ × ℕ)) (t : Transition) → contact_after (addr_of p) z (change_entry p t) ≡ contact_by z t
contact_one p z (LinkUp bearer own theirs) = refl
contact_one p z (LinkDown bearer because shown) = refl
contact_one p z (ContactUp numbers) = ap (λ b. if b then Some numbers else z) (same_word p)
contact_one p z (ContactDown numbers states shown) = ap (λ b. if b then None else z) (same_word p)

epochs_one : (p bearer : ℕ) (z : Option (ℕ × ℕ)) (t : Transition) → epochs_after (addr_of p) bearer z (change_entry p t) ≡ epochs_by bearer z t
epochs_one p bearer z (LinkUp on own theirs) = ap (λ b. if b && (on == bearer) then Some (own, theirs) else z) (same_word p)
epochs_one p bearer z (LinkDown on because shown) = ap (λ b. if b && (on == bearer) then None else z) (same_word p)
epochs_one p bearer z (ContactUp numbers) = refl
epochs_one p bearer z (ContactDown numbers states shown) = refl

pub contact_goes : (p : ℕ) (z : Option (ℕ × ℕ)) (cs : List Transition) → fold (contact_after (addr_of p)) z (change_entries p cs) ≡ fold contact_by z cs
contact_goes p z cs = fold_each (contact_after (addr_of p)) contact_by (change_entry p) (contact_one p) z cs

epochs_go : (p bearer : ℕ) (z : Option (ℕ × ℕ)) (cs : List Transition) → fold (epochs_after (addr_of p) bearer) z (change_entries p cs) ≡ fold (epochs_by bearer) z cs
epochs_go p bearer z cs = fold_each (epochs_after (addr_of p) bearer) (epochs_by bearer) (change_entry p) (epochs_one p bearer) z cs

-- ---- a step that tells of changes

-- the contact after a step that tells this of the peer
pub contact_told : (journal : List Entry) (s : NodeStep) (p : ℕ) (told : List Entry) → filter (is_change_of p) s.inside ≡ told → contact (journal ++ step_entries s) (addr_of p) ≡ fold (contact_after (addr_of p)) (contact journal (addr_of p)) told
contact_told journal s p told is =
    contact_step journal s (addr_of p) ∙ folded (contact_after (addr_of p)) (is_change_of p) (contact journal (addr_of p)) s.inside (contact_keeps p)
    ∙ ap (fold (contact_after (addr_of p)) (contact journal (addr_of p))) is

pub epochs_told : (journal : List Entry) (s : NodeStep) (p bearer : ℕ) (told : List Entry) → filter (is_change_of p) s.inside ≡ told
    → up_epochs (journal ++ step_entries s) (addr_of p) bearer ≡ fold (epochs_after (addr_of p) bearer) (up_epochs journal (addr_of p) bearer) told
epochs_told journal s p bearer told is =
    epochs_step journal s (addr_of p) bearer ∙ folded (epochs_after (addr_of p) bearer) (is_change_of p) (up_epochs journal (addr_of p) bearer) s.inside (epochs_keep p bearer)
    ∙ ap (fold (epochs_after (addr_of p) bearer) (up_epochs journal (addr_of p) bearer)) is

pub contact_changed : (journal : List Entry) (s : NodeStep) (p : ℕ) (x x' : PairEnds) (cs : List Transition) → filter (is_change_of p) s.inside ≡ change_entries p cs → Tells x x' cs → contact journal (addr_of p) ≡ contact_between x
    → contact (journal ++ step_entries s) (addr_of p) ≡ contact_between x'
contact_changed journal s p x x' cs is tells was =
    contact_told journal s p (change_entries p cs) is ∙ contact_goes p (contact journal (addr_of p)) cs ∙ ap (λ z. fold contact_by z cs) was ∙ sym tells.contact

pub epochs_changed : (journal : List Entry) (s : NodeStep) (p bearer : ℕ) (x x' : PairEnds) (cs : List Transition) → filter (is_change_of p) s.inside ≡ change_entries p cs → Tells x x' cs
    → up_epochs journal (addr_of p) bearer ≡ epochs_on bearer x → up_epochs (journal ++ step_entries s) (addr_of p) bearer ≡ epochs_on bearer x'
epochs_changed journal s p bearer x x' cs is tells was =
    epochs_told journal s p bearer (change_entries p cs) is ∙ epochs_go p bearer (up_epochs journal (addr_of p) bearer) cs ∙ ap (λ z. fold (epochs_by bearer) z cs) was ∙ sym (tells.epochs bearer)
