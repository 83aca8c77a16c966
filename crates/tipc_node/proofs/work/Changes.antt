-- What the changes of links and contacts make of the sockets.
use Rattle.std.proofs.Common.{◌≡◌, ◌<◌, ◌+◌, ℕ, Bool, true, false, List, [], ◌∷◌, ◌++◌, Option, None, Some, fold, length, refl, sym, ap, ◌∙◌, true≢false}
use Rattle.std.specs.Prelude.{◌&&◌, slice_index_or}
use Rattle.std.specs.List.{list_all}
use Rattle.std.proofs.lemmas.List.Folds.{list_all-append, list_all_at}
use Rattle.tipc_journal.specs.declared.entries.Entry.{Entry}
use Rattle.tipc_journal.specs.declared.entries.Entry.TheVariants as entry
use Rattle.tipc_pair.specs.declared.transitions.Transition.{Transition}
use Rattle.tipc_pair.specs.declared.transitions.Transition.TheVariants.{ContactDown, ContactUp, LinkDown, LinkUp}
use Rattle.tipc_sockets.specs.SocketTables.{SocketTable}
use Rattle.tipc_sockets.specs.Telling.{after_entry}
use Rattle.tipc_node.specs.Neighbours.{Done}
use Rattle.tipc_node.specs.Nodes.{change_entries, change_entry, entries_all, entries_one, is_change}

-- each of them is a change
one_change : (peer : ℕ) (change : Transition) → is_change (change_entry peer change) ≡ true
one_change peer (LinkUp bearer own_epoch peer_epoch) = refl
one_change peer (LinkDown bearer cause shown_epoch) = refl
one_change peer (ContactUp contact) = refl
one_change peer (ContactDown contact states shown) = refl

pub change_changes : (peer : ℕ) (changes : List Transition) → list_all is_change (change_entries peer changes) ≡ true
change_changes peer [] = refl
change_changes peer (change ∷ changes) = ap (λ b. b && list_all is_change (change_entries peer changes)) (one_change peer change) ∙ change_changes peer changes

one_changes : (number : ℕ) (o : Option Done) → list_all is_change (entries_one number o) ≡ true
one_changes number None = refl
one_changes number (Some x) = change_changes number x.changes

both : (es fs : List Entry) → list_all is_change es ≡ true → list_all is_change fs ≡ true → list_all is_change (es ++ fs) ≡ true
both es fs first then = list_all-append is_change es fs ∙ ap (λ b. b && list_all is_change fs) first ∙ then

pub all_changes : (number : ℕ) (os : List (Option Done)) → list_all is_change (entries_all number os) ≡ true
unfolding entries_all
all_changes number [] = refl
all_changes number (o ∷ os) = both (entries_one number o) (entries_all (number + 1) os) (one_changes number o) (all_changes (number + 1) os)

is_true : (b : Bool) → (b ≡ false → ⊥) → b ≡ true
is_true true wrong = refl
is_true false wrong = absurd (wrong refl)

-- the one at a place is a change
pub change_at : (es : List Entry) (i : ℕ) (e : Entry) → list_all is_change es ≡ true → i < length es → is_change (slice_index_or es i e) ≡ true
change_at es i e all within = is_true (is_change (slice_index_or es i e)) (λ no. true≢false (sym all ∙ list_all_at is_change es i e within no))

-- ---- whose sockets they are

-- the sockets are of the same node and have the same ports
pub record IsSameNode (s s' : SocketTable) : Type 0 where
  pub own : s'.own ≡ s.own
  pub ports : s'.ports ≡ s.ports

pub same_then : (s t u : SocketTable) → IsSameNode s t → IsSameNode t u → IsSameNode s u
same_then s t u first next = record { own = next.own ∙ first.own; ports = next.ports ∙ first.ports }

same_after : (s : SocketTable) (e : Entry) → IsSameNode s (after_entry s e)
same_after s (entry.Step by event) = record { own = refl; ports = refl }
same_after s (entry.Accepted peer contact flow message) = record { own = refl; ports = refl }
same_after s (entry.Delivered peer contact flow message by) = record { own = refl; ports = refl }
same_after s (entry.Published p) = record { own = refl; ports = refl }
same_after s (entry.Withdrawn p) = record { own = refl; ports = refl }
same_after s (entry.Learned p) = record { own = refl; ports = refl }
same_after s (entry.Forgot p) = record { own = refl; ports = refl }
same_after s (entry.LinkUp peer bearer own theirs) = record { own = refl; ports = refl }
same_after s (entry.LinkDown peer bearer cause shown) = record { own = refl; ports = refl }
same_after s (entry.ContactUp peer contact) = record { own = refl; ports = refl }
same_after s (entry.ContactDown peer contact states shown) = record { own = refl; ports = refl }
same_after s (entry.Queued ports) = record { own = refl; ports = refl }
same_after s (entry.Returned code) = record { own = refl; ports = refl }
same_after s (entry.ReturnDropped waiting) = record { own = refl; ports = refl }
same_after s (entry.Dropped place) = record { own = refl; ports = refl }
same_after s (entry.Subscribed number subscription) = record { own = refl; ports = refl }
same_after s (entry.Cancelled number) = record { own = refl; ports = refl }
same_after s (entry.TimedOut number) = record { own = refl; ports = refl }
same_after s (entry.Answered caller call answer) = record { own = refl; ports = refl }

pub same_folded : (s : SocketTable) (es : List Entry) → IsSameNode s (fold after_entry s es)
same_folded s [] = record { own = refl; ports = refl }
same_folded s (e ∷ es) =
    same_then s (after_entry s e) (fold after_entry (after_entry s e) es) (same_after s e) (same_folded (after_entry s e) es)
