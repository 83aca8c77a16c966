-- What one more whole step changes in what is read entry by entry: as much as the entries that it made. The Step and the Answered
-- change nothing.
use Rattle.std.proofs.Common.{◌≡◌, ℕ, List, [], ◌∷◌, ◌++◌, fold, refl, sym, ◌∙◌, ap}
use Rattle.std.proofs.lemmas.List.Sums.{fold-append}
use Rattle.tipc_types.specs.declared.identity.Addr.{Addr}
use Rattle.tipc_types.specs.declared.node_calls.Answer.{Answer}
use Rattle.tipc_types.specs.declared.node_calls.By.{By}
use Rattle.tipc_types.specs.declared.node_calls.EventNote.{EventNote}
use Rattle.tipc_journal.specs.declared.entries.Entry.{Entry}
use Rattle.tipc_journal.specs.declared.entries.Entry.TheVariants.{Step, Answered}
use Rattle.tipc_journal.specs.Contacts.{contact, contact_after, up_epochs, epochs_after}
use Rattle.tipc_journal.specs.Matches.{arranged, names}
use Rattle.tipc_journal.specs.Names.{live, live_after, learned, learned_after, table}
use Rattle.tipc_journal.specs.Steps.{NodeStep, step_entries}
use Rattle.tipc_journal.proofs.ContactLaws.{contact_append, up_epochs_append}
use Rattle.tipc_journal.proofs.NameLaws.{live_append, learned_append}

-- a fold that neither a Step nor an Answered changes goes over the entries that a step made alone
pub fold_step : {R : Type 0} (after : R → Entry → R) (r : R) (s : NodeStep)
    → ((x : R) (by : By) (event : EventNote) → after x (Step by event) ≡ x)
    → ((x : R) (caller call : ℕ) (answer : Answer) → after x (Answered caller call answer) ≡ x)
    → fold after r (step_entries s) ≡ fold after r s.inside
fold_step after r s begins ends =
    ap (λ w. fold after w (s.inside ++ Answered s.caller s.call s.answer ∷ [])) (begins r s.by s.event)
    ∙ fold-append after r s.inside (Answered s.caller s.call s.answer ∷ [])
    ∙ ends (fold after r s.inside) s.caller s.call s.answer

-- the live publications after a step
pub live_step : (J : List Entry) (s : NodeStep) → live (J ++ step_entries s) ≡ live (J ++ s.inside)
live_step J s =
    live_append J (step_entries s)
    ∙ fold_step live_after (live J) s (λ x by event. refl) (λ x caller call answer. refl)
    ∙ sym (live_append J s.inside)

-- the peers' publications after a step
pub learned_step : (J : List Entry) (s : NodeStep) → learned (J ++ step_entries s) ≡ learned (J ++ s.inside)
learned_step J s =
    learned_append J (step_entries s)
    ∙ fold_step learned_after (learned J) s (λ x by event. refl) (λ x caller call answer. refl)
    ∙ sym (learned_append J s.inside)

-- the table after a step
pub table_step : (J : List Entry) (s : NodeStep) → table (J ++ step_entries s) ≡ table (J ++ s.inside)
table_step J s = ap (λ w. w ++ learned (J ++ step_entries s)) (live_step J s) ∙ ap (λ w. live (J ++ s.inside) ++ w) (learned_step J s)

-- the table in order after a step
pub names_step : (J : List Entry) (s : NodeStep) → names (J ++ step_entries s) ≡ names (J ++ s.inside)
names_step J s = ap arranged (table_step J s)

-- the contact after a step
pub contact_step : (J : List Entry) (s : NodeStep) (p : Addr) → contact (J ++ step_entries s) p ≡ contact (J ++ s.inside) p
contact_step J s p =
    contact_append J (step_entries s) p
    ∙ fold_step (contact_after p) (contact J p) s (λ x by event. refl) (λ x caller call answer. refl)
    ∙ sym (contact_append J s.inside p)

-- the up link after a step
pub up_epochs_step : (J : List Entry) (s : NodeStep) (p : Addr) (x : ℕ) → up_epochs (J ++ step_entries s) p x ≡ up_epochs (J ++ s.inside) p x
up_epochs_step J s p x =
    up_epochs_append J (step_entries s) p x
    ∙ fold_step (epochs_after p x) (up_epochs J p x) s (λ y by event. refl) (λ y caller call answer. refl)
    ∙ sym (up_epochs_append J s.inside p x)
