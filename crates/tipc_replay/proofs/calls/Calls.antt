-- The number of recorded calls of a boot.
use Rattle.std.proofs.Common.{◌≡◌, ◌≤◌, ◌<◌, ◌+◌, ◌^◌, ℕ, true, List, Option, Some, None, length, arith, refl}
use Rattle.std.specs.Prelude.{is_some}
use Rattle.std.proofs.lemmas.Bool.Decides.{nat_tests}
use Rattle.tipc_journal.specs.declared.entries.Entry.{Entry}
use Rattle.tipc_journal.specs.Room.{has_journal_room}

-- there is a number for the next call, since a journal has an entry for each and there is room for one more
pub call_fits : (entries : List Entry) (calls : ℕ) → has_journal_room entries ≡ true → calls ≤ length entries → calls + 1 < 2 ^ 64
unfolding has_journal_room
call_fits entries calls room few = grind (arith, nat_tests, room, few)

pub the_some : {A : Type 0} (o : Option A) → is_some o ≡ true → (x : A) × (o ≡ Some x)
the_some None there = absurd cc
the_some (Some x) there = (x, refl)
