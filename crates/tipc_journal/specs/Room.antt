-- The room of a journal: its limits of entries and of message bytes.
use Rattle.std.specs.Prelude.{◌+◌, ◌-◌, ◌*◌, ◌<◌, ◌≤◌, ◌⊎◌, ℕ, List, [], ◌∷◌, ◌++◌, length, max, sum_by, Bool, nat_le, nat_lt, ◌&&◌, if◌then◌else◌}
use Rattle.tipc_types.specs.declared.message_forms.Message.{Message}
use Rattle.tipc_types.specs.declared.message_forms.Message.TheVariants.{Payload, Items}
use Rattle.tipc_journal.specs.declared.entries.Entry.{Entry}
use Rattle.tipc_journal.specs.declared.entries.Entry.TheVariants.{Accepted, Delivered}

-- a journal: its entries in order, how many appends will find their memory, and for how many short steps, of three entries at most, memory is
-- kept apart
pub record JournalState : Type 0 where
  pub entries : List Entry
  pub spare : ℕ
  pub kept : ℕ

-- the journal with one more entry at the end, which took one of the places that were spare
abbrev pub appended : JournalState → Entry → JournalState
appended j entry = record j { entries = j.entries ++ entry ∷ []; spare = j.spare - 1 }

-- the journal with at least so many places spare
abbrev pub reserved : JournalState → ℕ → JournalState
reserved j places = record j { spare = max j.spare places }

-- the journal with memory kept apart for at least so many short steps
abbrev pub keeping : JournalState → ℕ → JournalState
keeping j steps = record j { kept = max j.kept steps }

-- the journal where the places of one short step became spare, if one was kept
abbrev pub with_one_released : JournalState → JournalState
with_one_released j = record j { spare = if nat_lt 0 j.kept then j.spare + 3 else j.spare; kept = j.kept - 1 }

-- a short step will find its memory, by a step that was kept or by places that are spare
abbrev pub IsReady : JournalState → Type 0
IsReady j = 3 ≤ (with_one_released j).spare

-- the bytes that a message counts for: those of its body, and 20 for each item
abbrev pub counted_bytes : Message → ℕ
counted_bytes (Payload importance form from to kind lower upper code droppable body) = length body
counted_bytes (Items withdrawal items) = 20 * length items

-- the message bytes of an entry
abbrev pub entry_bytes : Entry → ℕ
entry_bytes (Accepted peer contact flow message) = counted_bytes message
entry_bytes (Delivered peer contact flow message by) = counted_bytes message
entry_bytes _ = 0

-- the message bytes of a journal
unfoldable pub message_bytes : List Entry → ℕ
message_bytes entries = sum_by entry_bytes entries

-- the journal is at its limit of entries, or the entry would take it past its limit of message bytes
abbrev pub HasNoRoom : List Entry → Entry → Type 0
HasNoRoom entries entry = (1048576 ≤ length entries) ⊎ (67108864 < message_bytes entries + entry_bytes entry)

-- the journal is below its limit of entries, and the entry takes it to no more than its limit of message bytes
abbrev pub HasRoom : List Entry → Entry → Type 0
HasRoom entries entry = (length entries < 1048576) × (message_bytes entries + entry_bytes entry ≤ 67108864)

-- so many entries of the journal are free before a call
abbrev pub free_entries : ℕ
free_entries = 65536

-- so many message bytes of the journal are free before a call
abbrev pub free_message_bytes : ℕ
free_message_bytes = 4194304

-- as many entries and message bytes are free as a call needs
unfoldable pub has_journal_room : List Entry → Bool
has_journal_room entries = nat_le (length entries + free_entries) 1048576 && nat_le (message_bytes entries + free_message_bytes) 67108864
