-- The room of a journal for a whole step, and the journal while the step is recorded.
use Rattle.std.proofs.Common.{◌≡◌, ◌+◌, ◌-◌, ◌≤◌, ℕ, true, List, [], ◌∷◌, ◌++◌, length, ap, length-append, sum_by, arith}
use Rattle.std.proofs.lemmas.Bool.Decides.{nat_tests}
use Rattle.std.proofs.lemmas.List.Sums.{sum_by-append, sum_by-cons}
use Rattle.tipc_journal.specs.declared.entries.Entry.{Entry}
use Rattle.tipc_journal.specs.Room.{HasRoom, entry_bytes, message_bytes, free_entries, free_message_bytes, has_journal_room}

record Room (entries : List Entry) : Type 0 where
  free : length entries + free_entries ≤ 1048576
  bytes : message_bytes entries + free_message_bytes ≤ 67108864

-- what the test of a journal says
room_of : (entries : List Entry) → has_journal_room entries ≡ true → Room entries
unfolding has_journal_room
room_of entries has = record { free = grind (arith, nat_tests, has); bytes = grind (arith, nat_tests, has) }

-- the entries so far and those that wait are those before, one that begins the step, and those inside
abbrev pub IsUnder : List Entry → List Entry → List Entry → Entry → List Entry → Type 0
IsUnder now waiting old first inside = now ++ waiting ≡ old ++ first ∷ inside

-- what may be recorded in one step
pub record IsSmall (old inside : List Entry) : Type 0 where
  pub room : has_journal_room old ≡ true
  pub few : length inside ≤ free_entries - 2
  pub bytes : sum_by entry_bytes inside ≤ free_message_bytes

-- the journal has room for the first entry of the step
pub first_room : (old inside : List Entry) (first : Entry) → IsSmall old inside → entry_bytes first ≡ 0 → HasRoom old first
first_room old inside first small none =
    let room = room_of old small.room in
    let free = room.free in
    let bytes = room.bytes in
    (omega arith, omega (arith, none))

counted : (now waiting old : List Entry) (first : Entry) (inside : List Entry) → IsUnder now waiting old first inside → length now + length waiting ≡ length old + (1 + length inside)
counted now waiting old first inside under =
    let all = ap length under in
    omega (arith, all, length-append now waiting, length-append old (first ∷ inside))

weighed : (now waiting old : List Entry) (first : Entry) (inside : List Entry) → IsUnder now waiting old first inside → entry_bytes first ≡ 0 → message_bytes now + sum_by entry_bytes waiting ≡ message_bytes old + sum_by entry_bytes inside
unfolding message_bytes
weighed now waiting old first inside under none =
    let all = ap message_bytes under in
    let left = sum_by-append entry_bytes now waiting in
    let right = sum_by-append entry_bytes old (first ∷ inside) in
    let head = sum_by-cons entry_bytes first inside in
    omega (arith, all, left, right, head, none)

-- it has room for the next entry that waits
pub next_room : (now rest old : List Entry) (first next : Entry) (inside : List Entry) → IsSmall old inside → entry_bytes first ≡ 0 → IsUnder now (next ∷ rest) old first inside → HasRoom now next
next_room now rest old first next inside small none under =
    let room = room_of old small.room in
    let free = room.free in
    let most = room.bytes in
    let few = small.few in
    let bytes = small.bytes in
    let count = counted now (next ∷ rest) old first inside under in
    let weight = weighed now (next ∷ rest) old first inside under none in
    let head = sum_by-cons entry_bytes next rest in
    (omega arith, omega (arith, head))

-- it has room for the entry that ends the step
pub last_room : (now old : List Entry) (first last : Entry) (inside : List Entry) → IsSmall old inside → entry_bytes first ≡ 0 → entry_bytes last ≡ 0 → IsUnder now [] old first inside → HasRoom now last
last_room now old first last inside small none empty under =
    let room = room_of old small.room in
    let free = room.free in
    let most = room.bytes in
    let few = small.few in
    let bytes = small.bytes in
    let count = counted now [] old first inside under in
    let weight = weighed now [] old first inside under none in
    (omega arith, omega (arith, empty))

-- it has room for one more entry without message bytes, where a few of that kind were added already
pub short_room : (old now : List Entry) (next : Entry) (added : ℕ) → has_journal_room old ≡ true → added ≤ 2 → length now ≡ length old + added → message_bytes now ≡ message_bytes old → entry_bytes next ≡ 0 → HasRoom now next
short_room old now next added has few long weight none =
    let room = room_of old has in
    let free = room.free in
    let bytes = room.bytes in
    (omega (arith, long, few), omega (arith, weight, none))
