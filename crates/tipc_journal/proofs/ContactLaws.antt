-- Contacts and links behind one more entry, and behind later ones.
use Rattle.std.proofs.Common.{◌≡◌, ℕ, List, [], ◌∷◌, ◌++◌, None, fold, refl}
use Rattle.std.proofs.lemmas.List.Sums.{fold-append}
use Rattle.tipc_types.specs.declared.identity.Addr.{Addr}
use Rattle.tipc_journal.specs.declared.entries.Entry.{Entry}
use Rattle.tipc_journal.specs.Contacts.{contact_after, contact, epochs_after, up_epochs}

-- in an empty journal there is no contact
pub contact_nil : (p : Addr) → contact [] p ≡ None
unfolding contact
contact_nil p = refl

-- one more entry begins, ends or keeps the contact, by its kind
pub contact_more : (xs : List Entry) (e : Entry) (p : Addr) → contact (xs ++ e ∷ []) p ≡ contact_after p (contact xs p) e
unfolding contact
contact_more xs e p = fold-append (contact_after p) None xs (e ∷ [])

-- in an empty journal no link is up
pub up_epochs_nil : (p : Addr) (x : ℕ) → up_epochs [] p x ≡ None
unfolding up_epochs
up_epochs_nil p x = refl

-- one more entry takes the link up, down or keeps it, by its kind
pub up_epochs_more : (xs : List Entry) (e : Entry) (p : Addr) (x : ℕ) → up_epochs (xs ++ e ∷ []) p x ≡ epochs_after p x (up_epochs xs p x) e
unfolding up_epochs
up_epochs_more xs e p x = fold-append (epochs_after p x) None xs (e ∷ [])

-- the contact after later entries
pub contact_append : (xs ys : List Entry) (p : Addr) → contact (xs ++ ys) p ≡ fold (contact_after p) (contact xs p) ys
unfolding contact
contact_append xs ys p = fold-append (contact_after p) None xs ys

-- the link after later entries
pub up_epochs_append : (xs ys : List Entry) (p : Addr) (x : ℕ) → up_epochs (xs ++ ys) p x ≡ fold (epochs_after p x) (up_epochs xs p x) ys
unfolding up_epochs
up_epochs_append xs ys p x = fold-append (epochs_after p x) None xs ys
