-- Message bytes behind one more entry, and behind later ones.
use Rattle.std.proofs.Common.{◌≡◌, ◌+◌, List, [], ◌∷◌, ◌++◌, refl, ◌∙◌, ap, sum_by, zero-add}
use Rattle.std.proofs.lemmas.List.Sums.{sum_by-append}
use Rattle.tipc_journal.specs.declared.entries.Entry.{Entry}
use Rattle.tipc_journal.specs.Room.{entry_bytes, message_bytes}

-- a journal without entries has no message bytes
pub message_bytes_nil : message_bytes [] ≡ 0
unfolding message_bytes
message_bytes_nil = refl

-- one more entry adds its message bytes
pub message_bytes_more : (xs : List Entry) (e : Entry) → message_bytes (xs ++ e ∷ []) ≡ message_bytes xs + entry_bytes e
unfolding message_bytes
message_bytes_more xs e = sum_by-append entry_bytes xs (e ∷ []) ∙ ap (λ n. sum_by entry_bytes xs + n) (zero-add (entry_bytes e))
