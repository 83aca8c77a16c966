-- The transitions of a subscription over the changes that it is told, and what its counts say of what is there.
use Rattle.std.specs.Prelude.{◌≡◌, ◌==◌, true, List, [], ◌∷◌, ◌++◌, false, None, count_by, filter, fold, not}
use Rattle.std.specs.Map.{lookup}
use Rattle.tipc_types.specs.declared.node_calls.Event.{Event}
use Rattle.tipc_types.specs.declared.node_calls.Subscription.{Subscription}
use Rattle.tipc_types.specs.declared.services.Publication.{Publication}
use Rattle.tipc_types.specs.Watching.{additions, in_order, is_same_name, is_same_range, is_watched, removals}
use Rattle.tipc_topology.specs.declared.changes.TableChange.{TableChange}
use Rattle.tipc_topology.specs.declared.changes.TableChange.TheVariants.{Added, Removed, Purged}
use Rattle.tipc_topology.specs.Watchers.{bounds_eq, bounds_of, count_at, Counts, Watcher}
use Rattle.tipc_topology.specs.Changing.{as_told, after_change}

-- the others where a publication is removed
abbrev pub left_by : List Publication → Publication → List Publication
left_by there p = filter (λ q. not (is_same_name p q)) there

-- the publications that are there after a change
abbrev pub there_after : List Publication → TableChange → List Publication
there_after there (Added p) = there ++ p ∷ []
there_after there (Removed p) = left_by there p
there_after there (Purged ps) = fold left_by there (in_order ps)

-- the events of a subscriber at a change of these publications
abbrev pub table_events : Subscription → List Publication → TableChange → List Event
table_events s there (Added p) = additions s there (p ∷ [])
table_events s there (Removed p) = removals s there (p ∷ [])
table_events s there (Purged ps) = removals s there (in_order ps)

-- the events of a subscriber at several changes, one after another
abbrev pub events_of_changes : Subscription → List Publication → List TableChange → List Event
events_of_changes s there [] = []
events_of_changes s there (c ∷ cs) = table_events s there c ++ events_of_changes s (there_after there c) cs

-- the transitions of a subscription: the publications that are there as additions in order, then each change
abbrev pub transitions : Subscription → List Publication → List TableChange → List Event
transitions s there cs = additions s [] (in_order (filter (is_watched s) there)) ++ events_of_changes s there cs

-- These publications are removed one after another: each is there, and no other has its name.
abbrev pub AreRemovable : List Publication → List Publication → Type 0
AreRemovable there [] = Unit {0}
AreRemovable there (p ∷ ps) = (filter (is_same_name p) there ≡ p ∷ []) × AreRemovable (left_by there p) ps

-- A change that a table can tell of: what is removed is there.
abbrev pub IsPossible : List Publication → TableChange → Type 0
IsPossible there (Added p) = Unit {0}
IsPossible there (Removed p) = AreRemovable there (p ∷ [])
IsPossible there (Purged ps) = AreRemovable there (in_order ps)

-- Each of several changes is one that a table can tell of.
abbrev pub ArePossible : List Publication → List TableChange → Type 0
ArePossible there [] = Unit {0}
ArePossible there (c ∷ cs) = IsPossible there c × ArePossible (there_after there c) cs

-- each range stands once among the counts
abbrev pub EachOnce : Counts → Type 0
EachOnce [] = Unit {0}
EachOnce (e ∷ es) = (lookup (bounds_eq e.0) es ≡ None) × EachOnce es

-- What the counts of a subscription under the service filter say: how many of those that are there have a range that
-- it watches.
pub record IsCounted (s : Subscription) (counts : Counts) (there : List Publication) : Type 0 where
  pub once : EachOnce counts
  pub counted : (p : Publication) → is_watched s p ≡ true →
      count_at counts (bounds_of p) ≡ count_by (is_same_range p) there

-- What a subscription to s knows of the publications that are there: how many of them it watches, and under the service
-- filter its counts.
pub record Knows (s : Subscription) (w : Watcher) (there : List Publication) : Type 0 where
  pub known : w.known ≡ count_by (is_watched s) there
  pub counts : (s.filter == 1) ≡ false → IsCounted s w.counts there

-- a subscription that was told of several changes, one after another
abbrev pub told_all : Watcher → List TableChange → Watcher
told_all w cs = fold (λ v c. after_change (as_told c) v) w cs
