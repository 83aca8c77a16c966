-- The subscriptions of a node: what each call makes of them.
use Rattle.std.specs.Prelude.{◌≡◌, ◌==◌, ◌+◌, ◌-◌, ◌<◌, ◌≤◌, ◌&&◌, ◌||◌, if◌then◌else◌, max, ℕ, Bool, false, true, List, [], ◌∷◌, ◌++◌, Option, None, Some, All, filter, find, fold, map, not}
use Rattle.std.specs.List.{AllPairs}
use Rattle.tipc_types.specs.declared.node_calls.Event.{Event}
use Rattle.tipc_types.specs.declared.node_calls.Subscription.{Subscription}
use Rattle.tipc_types.specs.declared.services.Publication.{Publication}
use Rattle.tipc_types.specs.Watching.{in_order, is_watched}
use Rattle.tipc_topology.specs.declared.changes.TableChange.{TableChange}
use Rattle.tipc_topology.specs.declared.changes.TableChange.TheVariants.{Added, Removed, Purged}
use Rattle.tipc_topology.specs.Watchers.{added, began, ended_now, is_due, one_less, removed, with_room, without_first, Watcher}

-- the subscriptions of a node in one boot: how many were made; of how many more additions each can be told without
-- new memory; and those that weren't cancelled, in the order of their numbers
pub record Watchers : Type 0 where
  pub made : ℕ
  pub room : ℕ
  pub kept : List Watcher

-- no subscription
abbrev pub no_watchers : Watchers
no_watchers = record { made = 0; room = 0; kept = [] }

-- whether a change is one added or removed publication
abbrev pub is_of_one : TableChange → Bool
is_of_one (Purged ps) = false
is_of_one _ = true

-- a change as it is told: a purge in the order of events
abbrev pub as_told : TableChange → TableChange
as_told (Added p) = Added p
as_told (Removed p) = Removed p
as_told (Purged ps) = Purged (in_order ps)

-- a subscription after a change whose publications go one after another
abbrev pub after_change : TableChange → Watcher → Watcher
after_change (Added p) w = added w p
after_change (Removed p) w = removed w p
after_change (Purged ps) w = fold removed w ps

-- the subscriptions with room for so many additions, or with more where they have it
unfoldable pub with_room_for : ℕ → Watchers → Watchers
with_room_for additions t =
    record { made = t.made; room = max t.room additions; kept = map (with_room (max t.room additions)) t.kept }

-- the subscriptions where each is told of an added publication, which takes a place of the room
abbrev pub with_addition : Publication → Watchers → Watchers
with_addition p t = record { made = t.made; room = t.room - 1; kept = map (λ w. added w p) t.kept }

-- the subscriptions where each is told of removed publications, one after another
abbrev pub with_loss : List Publication → Watchers → Watchers
with_loss ps t = record t { kept = map (λ w. fold removed w ps) t.kept }

-- the subscriptions after a change of the table
abbrev pub changed : TableChange → Watchers → Watchers
changed (Added p) t = with_addition p (with_room_for 1 t)
changed (Removed p) t = with_loss (p ∷ []) t
changed (Purged ps) t = with_loss (in_order ps) t

-- the subscriptions with one more, behind the others, where these publications are there
unfoldable pub subscribed : Subscription → List Publication → Watchers → Watchers
subscribed s there t =
    record {
      made = t.made + 1;
      room = t.room;
      kept = t.kept ++ began (t.made + 1) s t.room (in_order (filter (is_watched s) there)) ∷ [];
    }

-- whether a subscription has a number
abbrev pub has_number : ℕ → Watcher → Bool
has_number number w = w.number == number

-- the subscription of a number
abbrev pub of_number : Watchers → ℕ → Option Watcher
of_number t number = find (has_number number) t.kept

-- the events of a subscription that weren't taken yet
abbrev pub events_left : Option Watcher → List Event
events_left None = []
events_left (Some w) = w.events

-- the subscriptions where the first event of one was taken
abbrev pub with_event_taken : ℕ → List Watcher → List Watcher
with_event_taken number [] = []
with_event_taken number (w ∷ ws) = if has_number number w then without_first w ∷ ws else w ∷ with_event_taken number ws

-- the subscriptions without that of a number
abbrev pub without_number : ℕ → List Watcher → List Watcher
without_number number [] = []
without_number number (w ∷ ws) = if has_number number w then ws else w ∷ without_number number ws

-- whether a subscription has one of the two filters
abbrev pub is_filter : Subscription → Bool
is_filter s = (s.filter == 1) || (s.filter == 2)

-- the same with other subscriptions
abbrev pub with_kept : Watchers → List Watcher → Watchers
with_kept t kept = record t { kept = kept }

-- the subscriptions where that of a number was cancelled
abbrev pub cancelled : ℕ → Watchers → Watchers
cancelled number t = with_kept t (without_number number t.kept)

-- the subscriptions where that of a number, if it lasts, timed out
abbrev pub ended_at : ℕ → Watchers → Watchers
ended_at number t =
    with_kept t (map (λ w. if has_number number w && not w.ended then ended_now w else w) t.kept)

-- the subscriptions where a tick passed and none timed out
abbrev pub passed : Watchers → Watchers
passed t = with_kept t (map one_less t.kept)

-- the numbers of those that time out in this tick
abbrev pub due : List Watcher → List ℕ
due ws = map (λ w. w.number) (filter is_due ws)

-- What always holds of a node's subscriptions: their numbers rise and were made in this boot, and each has the room.
pub record AreKept (t : Watchers) : Type 0 where
  pub rising : AllPairs (λ (w later : Watcher). w.number < later.number) t.kept
  pub made : All (λ (w : Watcher). w.number ≤ t.made) t.kept
  pub room : All (λ (w : Watcher). w.room ≡ t.room) t.kept
