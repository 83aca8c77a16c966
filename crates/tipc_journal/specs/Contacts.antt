-- Contacts and links in a journal.
use Rattle.std.specs.Prelude.{◌==◌, ◌&&◌, if◌then◌else◌, ℕ, List, Option, Some, None, fold}
use Rattle.tipc_types.specs.declared.identity.Addr.{Addr}
use Rattle.tipc_journal.specs.declared.entries.Entry.{Entry}
use Rattle.tipc_journal.specs.declared.entries.Entry.TheVariants.{ContactUp, ContactDown, LinkUp, LinkDown}

-- the contact with a peer after an entry: a ContactUp of the peer begins one, a ContactDown of it ends it
abbrev pub contact_after : Addr → Option (ℕ × ℕ) → Entry → Option (ℕ × ℕ)
contact_after p before (ContactUp peer numbers) = if peer.word == p.word then Some numbers else before
contact_after p before (ContactDown peer numbers states shown) = if peer.word == p.word then None else before
contact_after p before _ = before

-- the contact with a peer: the numbers of the last ContactUp of it that no ContactDown of it follows
unfoldable pub contact : List Entry → Addr → Option (ℕ × ℕ)
contact entries p = fold (contact_after p) None entries

-- the epochs of an up link after an entry
abbrev pub epochs_after : Addr → ℕ → Option (ℕ × ℕ) → Entry → Option (ℕ × ℕ)
epochs_after p x before (LinkUp peer bearer own theirs) =
    if (peer.word == p.word) && (bearer == x) then Some (own, theirs) else before
epochs_after p x before (LinkDown peer bearer cause shown) =
    if (peer.word == p.word) && (bearer == x) then None else before
epochs_after p x before _ = before

-- the own epoch and the peer's epoch of the link to a peer on a bearer, where it is up:
-- those of the last LinkUp of the two that no LinkDown of the two follows
unfoldable pub up_epochs : List Entry → Addr → ℕ → Option (ℕ × ℕ)
up_epochs entries p x = fold (epochs_after p x) None entries
