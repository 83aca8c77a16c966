-- Subscriptions in a journal, the events that each was told, and when it times out.
use Rattle.std.specs.Prelude.{◌==◌, ◌&&◌, ◌+◌, if◌then◌else◌, not, max, ℕ, Bool, false, List, [], ◌∷◌, ◌++◌, Option, Some, None, fold, filter}
use Rattle.tipc_types.specs.declared.node_calls.Event.{Event}
use Rattle.tipc_types.specs.declared.node_calls.EventNote.TheVariants.{Tick}
use Rattle.tipc_types.specs.declared.node_calls.Subscription.{Subscription}
use Rattle.tipc_types.specs.declared.services.Publication.{Publication}
use Rattle.tipc_types.specs.Watching.{in_order, is_watched, timeout_of, additions, removals}
use Rattle.tipc_journal.specs.declared.entries.Entry.{Entry}
use Rattle.tipc_journal.specs.declared.entries.Entry.TheVariants.{Step, Published, Withdrawn, Learned, Forgot, ContactDown, Subscribed, Cancelled, TimedOut}
use Rattle.tipc_journal.specs.Names.{table}
use Rattle.tipc_journal.specs.Prefixes.{each_behind}

-- what the subscription of a number asks for after an entry, while it lasts
abbrev pub watching_after : ℕ → Option Subscription → Entry → Option Subscription
watching_after n before (Subscribed number s) = if number == n then Some s else before
watching_after n before (Cancelled number) = if number == n then None else before
watching_after n before (TimedOut number) = if number == n then None else before
watching_after n before _ = before

-- what the subscription of a number asks for: that of its Subscribed without a Cancelled or a TimedOut of it after
unfoldable pub watching : List Entry → ℕ → Option Subscription
watching entries n = fold (watching_after n) None entries

-- the numbers of subscriptions after an entry
abbrev pub subscriptions_after : List ℕ → Entry → List ℕ
subscriptions_after numbers (Subscribed number s) = numbers ++ number ∷ []
subscriptions_after numbers (Cancelled number) = filter (λ n. not (n == number)) numbers
subscriptions_after numbers _ = numbers

-- the subscriptions that are there: those Subscribed without a Cancelled after them
unfoldable pub subscriptions : List Entry → List ℕ
subscriptions entries = fold subscriptions_after [] entries

-- the events of a subscriber at an entry that changes the table
abbrev pub change_events : Subscription → List Publication → Entry → List Event
change_events s there (Published p) = additions s there (p ∷ [])
change_events s there (Learned p) = additions s there (p ∷ [])
change_events s there (Withdrawn p) = removals s there (p ∷ [])
change_events s there (Forgot p) = removals s there (p ∷ [])
change_events s there (ContactDown peer numbers states shown) =
    removals s there (in_order (filter (λ p. p.at.node.word == peer.word) there))
change_events s there _ = []

-- the events of a subscription at an entry, where it lasts
abbrev pub events_at : Option Subscription → List Publication → Entry → List Event
events_at None there e = []
events_at (Some s) there e = change_events s there e

-- the timeout event of a subscription, where it lasts
abbrev pub timeout_events : Option Subscription → List Event
timeout_events None = []
timeout_events (Some s) = timeout_of s ∷ []

-- what an entry tells the subscription of a number, behind the journal before it: at its Subscribed the publications
-- that are there, as additions in order; then each change of the table; at its TimedOut the timeout
abbrev pub told_by_entry : ℕ → List Entry → Entry → List Event
told_by_entry n before (Subscribed number s) =
    if number == n then additions s [] (in_order (filter (is_watched s) (table before))) else []
told_by_entry n before (TimedOut number) = if number == n then timeout_events (watching before n) else []
told_by_entry n before e = events_at (watching before n) (table before) e

-- the transitions of a subscription, in order
unfoldable pub transitions : List Entry → ℕ → List Event
transitions entries n = each_behind (told_by_entry n) [] entries

-- the ticks since a Subscribed of a number, after an entry
abbrev pub ticks_after : ℕ → ℕ → Entry → ℕ
ticks_after n before (Subscribed number s) = if number == n then 0 else before
ticks_after n before (Step by Tick) = before + 1
ticks_after n before _ = before

-- how many ticks began since the subscription of a number was made
unfoldable pub ticks_since : List Entry → ℕ → ℕ
ticks_since entries n = fold (ticks_after n) 0 entries

-- whether so many ticks are a timeout: as many as it says and at least one; the greatest number lasts for ever
abbrev pub is_due_at : Option Subscription → ℕ → Bool
is_due_at None ticks = false
is_due_at (Some s) ticks = not (s.timeout == 4294967295) && (ticks == max s.timeout 1)

-- the subscriptions that time out in a tick behind a journal, in the order of subscribing: those that last, and whose
-- timeout is reached with this tick
abbrev pub timeouts : List Entry → List ℕ
timeouts J = filter (λ n. is_due_at (watching J n) (ticks_since J n + 1)) (subscriptions J)
