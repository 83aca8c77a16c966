-- What subscribers of a node were told is what its journal tells.
use Rattle.std.specs.Prelude.{◌≡◌, ◌==◌, ◌<◌, ◌≤◌, ◌+◌, if◌then◌else◌, max, ℕ, false, List, [], ◌++◌, Option, None, Some, map}
use Rattle.std.specs.List.{AllByRecursion}
use Rattle.tipc_types.specs.declared.node_calls.Event.{Event}
use Rattle.tipc_types.specs.declared.node_calls.Subscription.{Subscription}
use Rattle.tipc_journal.specs.declared.entries.Entry.{Entry}
use Rattle.tipc_journal.specs.Names.{table}
use Rattle.tipc_journal.specs.Refusals.{subscriptions_made}
use Rattle.tipc_journal.specs.Subscriptions.{subscriptions, ticks_since, transitions, watching}
use Rattle.tipc_topology.specs.Changing.{AreKept, Watchers}
use Rattle.tipc_topology.specs.Transitions.{Knows}
use Rattle.tipc_topology.specs.Watchers.{Watcher}

-- what a subscription that is kept asks for, while it lasts
abbrev pub asked_of : Watcher → Option Subscription
asked_of w = if w.ended then None else Some w.asked

-- So many ticks passed since a subscription was made, of which so many more are left, one at least, until it times out;
-- where it doesn't last for ever.
abbrev pub IsLeft : Subscription → ℕ → ℕ → Type 0
IsLeft s ticks left = (s.timeout == 4294967295) ≡ false → (1 ≤ left) × (left + ticks ≡ max s.timeout 1)

-- Entries, behind which these events of the subscription of a number were given, tell of it: what it asks for while it
-- lasts; its transitions are the events that were given and those that weren't taken yet; and while it lasts it knows
-- of the table, and of the ticks.
pub record IsWatcherTold (entries : List Entry) (number : ℕ) (given : List Event) (w : Watcher) : Type 0 where
  pub asked : watching entries number ≡ asked_of w
  pub events : transitions entries number ≡ given ++ w.events
  pub knows : w.ended ≡ false → Knows w.asked w (table entries)
  pub left : w.ended ≡ false → IsLeft w.asked (ticks_since entries number) w.left

-- entries tell nothing of a subscription of a number, and no event of it was given
pub record TellsNothing (entries : List Entry) (number : ℕ) (so_far : List Event) : Type 0 where
  pub asked : watching entries number ≡ None
  pub events : transitions entries number ≡ []
  pub given : so_far ≡ []

-- Entries, behind which these events were given, tell of a node's subscriptions: how many were made, the numbers of
-- those that are there, and of each what it was told; and of a number that wasn't made yet they tell nothing.
pub record AreWatchersTold (entries : List Entry) (given : ℕ → List Event) (t : Watchers) : Type 0 where
  pub kept : AreKept t
  pub made : t.made ≡ subscriptions_made entries
  pub numbers : map (λ w. w.number) t.kept ≡ subscriptions entries
  pub each : AllByRecursion (λ w. IsWatcherTold entries w.number (given w.number) w) t.kept
  pub later : (number : ℕ) → t.made < number → TellsNothing entries number (given number)
