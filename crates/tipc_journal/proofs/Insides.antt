-- What one more entry of an unfinished step changes in what is read entry by entry.
use Rattle.std.proofs.Common.{◌≡◌, ℕ, List, [], ◌∷◌, ◌++◌, true, sym, ◌∙◌, ap, append_assoc}
use Rattle.tipc_types.specs.declared.identity.Addr.{Addr}
use Rattle.tipc_journal.specs.declared.entries.Entry.{Entry}
use Rattle.tipc_journal.specs.Contacts.{contact, contact_after, up_epochs, epochs_after}
use Rattle.tipc_journal.specs.Matches.{names, names_after}
use Rattle.tipc_journal.specs.Names.{live, live_after, learned, learned_after, is_at_home, AreAtHome}
use Rattle.tipc_journal.proofs.ContactLaws.{contact_more, up_epochs_more}
use Rattle.tipc_journal.proofs.MatchLaws.{names_more}
use Rattle.tipc_journal.proofs.NameLaws.{live_more, learned_more}

-- the entries with one more
one_behind : {R : Type 0} (F : List Entry → R) (J front : List Entry) (e : Entry) → F (J ++ (front ++ e ∷ [])) ≡ F ((J ++ front) ++ e ∷ [])
one_behind F J front e = ap F (sym (append_assoc J front (e ∷ [])))

-- the live publications
pub live_inside : (J front : List Entry) (e : Entry) → live (J ++ (front ++ e ∷ [])) ≡ live_after (live (J ++ front)) e
live_inside J front e = one_behind live J front e ∙ live_more (J ++ front) e

-- the peers' publications
pub learned_inside : (J front : List Entry) (e : Entry) → learned (J ++ (front ++ e ∷ [])) ≡ learned_after (learned (J ++ front)) e
learned_inside J front e = one_behind learned J front e ∙ learned_more (J ++ front) e

-- the table in order
pub names_inside : (own : Addr) (J front : List Entry) (e : Entry) → AreAtHome own (J ++ front) → is_at_home own e ≡ true
    → names (J ++ (front ++ e ∷ [])) ≡ names_after (names (J ++ front)) e
names_inside own J front e home here = one_behind names J front e ∙ names_more own (J ++ front) e home here

-- the contact
pub contact_inside : (J front : List Entry) (e : Entry) (p : Addr) → contact (J ++ (front ++ e ∷ [])) p ≡ contact_after p (contact (J ++ front) p) e
contact_inside J front e p = one_behind (λ w. contact w p) J front e ∙ contact_more (J ++ front) e p

-- the up link
pub up_epochs_inside : (J front : List Entry) (e : Entry) (p : Addr) (x : ℕ) → up_epochs (J ++ (front ++ e ∷ [])) p x ≡ epochs_after p x (up_epochs (J ++ front) p x) e
up_epochs_inside J front e p x = one_behind (λ w. up_epochs w p x) J front e ∙ up_epochs_more (J ++ front) e p x
