-- Deliveries whose messages wait at their ports, told one after the other while the step is recorded.
use Rattle.std.proofs.Common.{◌≡◌, ℕ, ◌+◌, ◌-◌, ◌≤◌, ◌&&◌, Bool, true, false, List, [], ◌∷◌, ◌++◌, Option, Some, None, refl, sym, ap, arith, length, length-append, take, sum_by, true≢false}
use Rattle.std.proofs.lemmas.List.Sums.{sum_by-append, sum_by-cons}
use Rattle.tipc_types.specs.declared.message_forms.Message.{Message}
use Rattle.tipc_journal.specs.Room.{entry_bytes, free_entries, free_message_bytes}
use Rattle.tipc_sockets.specs.Fates.{surely_waits, with_waiting}
use Rattle.tipc_sockets.specs.SocketTables.{SocketTable}
use Rattle.tipc_node.specs.declared.frames.Delivery.{Delivery}
use Rattle.tipc_node.specs.Sure.{are_sure, message_of, messages_in, told_in, told_of_delivery, waiting_entries, with_all_waiting}

-- so many entries tell of the first i, and so many message bytes are left beside them
pub record IsToldSoFar (ds : List Delivery) (i left size : ℕ) : Type 0 where
  pub size_is : size ≡ sum_by (λ (d : Delivery). length (told_of_delivery d)) (take i ds)
  pub few : size ≤ free_entries - 4
  pub left_is : sum_by (λ (d : Delivery). entry_bytes d.entry) (take i ds) + left ≡ free_message_bytes

pub told_entries : (ds : List Delivery) → length (told_in ds) ≡ sum_by (λ (d : Delivery). length (told_of_delivery d)) ds
told_entries [] = refl
told_entries (d ∷ ds) =
    let rest = told_entries ds in
    let head = sum_by-cons (λ (x : Delivery). length (told_of_delivery x)) d ds in
    let both = length-append (told_of_delivery d) (told_in ds) in
    omega (arith, rest, head, both)

-- what tells that a message waits has no message bytes
queued_bytes : (m : Option Message) → sum_by entry_bytes (waiting_entries m) ≡ 0
queued_bytes None = refl
queued_bytes (Some m) = refl

told_bytes : (d : Delivery) → sum_by entry_bytes (told_of_delivery d) ≡ entry_bytes d.entry
told_bytes d =
    let head = sum_by-cons entry_bytes d.entry (waiting_entries d.message) in
    let none = queued_bytes d.message in
    omega (arith, head, none)

pub told_weight : (ds : List Delivery) → sum_by entry_bytes (told_in ds) ≡ sum_by (λ (d : Delivery). entry_bytes d.entry) ds
told_weight [] = refl
told_weight (d ∷ ds) =
    let rest = told_weight ds in
    let head = sum_by-cons (λ (x : Delivery). entry_bytes x.entry) d ds in
    let both = sum_by-append entry_bytes (told_of_delivery d) (told_in ds) in
    let one = told_bytes d in
    omega (arith, rest, head, both, one)

-- ---- the messages that surely wait, the first before the others

and_both : (x y : Bool) → (x && y) ≡ true → (x ≡ true) × (y ≡ true)
and_both true y h = (refl, h)
and_both false y h = absurd (true≢false (sym h))

sure_one : (s : SocketTable) (m : Option Message) (ms : List Message) → are_sure s (message_of m ++ ms) ≡ true
    → (are_sure s (message_of m) ≡ true) × (are_sure (with_all_waiting s (message_of m)) ms ≡ true)
sure_one s None ms h = (refl, h)
sure_one s (Some m) ms h =
    let both = and_both (surely_waits s 1 m) (are_sure (with_waiting s m) ms) h in
    (ap (λ b. b && true) both.0, both.1)

pub sure_behind : (s : SocketTable) (d : Delivery) (ds : List Delivery) → are_sure s (messages_in (d ∷ ds)) ≡ true
    → (are_sure s (message_of d.message) ≡ true) × (are_sure (with_all_waiting s (message_of d.message)) (messages_in ds) ≡ true)
sure_behind s d ds h = sure_one s d.message (messages_in ds) h
