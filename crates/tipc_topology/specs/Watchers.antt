-- A subscription that a node keeps: what it is told of the publications that it watches, and when it times out.
use Rattle.std.specs.Prelude.{◌==◌, ◌&&◌, ◌+◌, ◌-◌, if◌then◌else◌, nat_le, nat_lt, not, max, ℕ, Bool, false, true, List, [], ◌∷◌, ◌++◌, drop, fold, length, unwrap_or}
use Rattle.std.specs.Map.{lookup, remove_entry, set_value}
use Rattle.indexmap.specs.IndexMap.{insert_entry}
use Rattle.tipc_types.specs.declared.node_calls.Event.{Event}
use Rattle.tipc_types.specs.declared.node_calls.Subscription.{Subscription}
use Rattle.tipc_types.specs.declared.services.Publication.{Publication}
use Rattle.tipc_types.specs.Watching.{event_of, is_watched, timeout_of}

-- publications that are there: the bounds of each distinct range, and how many publications have it
abbrev pub Counts : Type 0
Counts = List ((ℕ × ℕ) × ℕ)

-- a subscription that is kept: its number; what was asked for; after how many more ticks it times out, and whether it
-- did; under the service filter, how many publications there are of each distinct range that it watches; how many
-- publications it knows of, those that it watches and that are there; the events that weren't taken yet; and of how
-- many more additions it can be told without new memory
pub record Watcher : Type 0 where
  pub number : ℕ
  pub asked : Subscription
  pub left : ℕ
  pub ended : Bool
  pub counts : Counts
  pub known : ℕ
  pub events : List Event
  pub room : ℕ

-- the bounds of a publication's range
abbrev pub bounds_of : Publication → ℕ × ℕ
bounds_of p = (p.range.lower, p.range.upper)

-- whether two ranges have the same bounds
abbrev pub bounds_eq : ℕ × ℕ → ℕ × ℕ → Bool
bounds_eq a b = (a.0 == b.0) && (a.1 == b.1)

-- how many publications of a range are counted
abbrev pub count_at : Counts → ℕ × ℕ → ℕ
count_at counts range = unwrap_or (lookup (bounds_eq range) counts) 0

-- how many publications are counted
abbrev pub total : Counts → ℕ
total [] = 0
total (e ∷ es) = e.1 + total es

-- the counts with one publication of a range more
abbrev pub one_more : Counts → ℕ × ℕ → Counts
one_more counts range = insert_entry bounds_eq counts range (count_at counts range + 1)

-- the counts with one publication of a range fewer; a range of which none is left isn't kept
abbrev pub one_fewer : Counts → ℕ × ℕ → Counts
one_fewer counts range =
    if nat_le (count_at counts range) 1 then remove_entry (bounds_eq range) counts
    else set_value (bounds_eq range) counts (count_at counts range - 1)

-- whether each publication has its event, and not each distinct range
abbrev pub is_per_port : Watcher → Bool
is_per_port w = w.asked.filter == 1

-- whether a publication changes anything for the subscription: it lasts, and watches the publication's range
abbrev pub concerns : Watcher → Publication → Bool
concerns w p = not w.ended && is_watched w.asked p

-- the subscription after an addition, with these counts, so many more that it knows of, and these further events
abbrev pub after_addition : Watcher → Counts → ℕ → List Event → Watcher
after_addition w counts more events =
    record w { counts = counts; known = w.known + more; events = w.events ++ events; room = w.room - 1 }

-- An added publication is told of where each is; else where it is the first of its range.
unfoldable pub added : Watcher → Publication → Watcher
added w p =
    if not (concerns w p) then after_addition w w.counts 0 []
    else (if is_per_port w then after_addition w w.counts 1 (event_of 1 w.asked p ∷ [])
    else after_addition w (one_more w.counts (bounds_of p)) 1
    (if count_at w.counts (bounds_of p) == 0 then event_of 1 w.asked p ∷ [] else []))

-- whether a removed publication changes anything for the subscription: it watches the publication, and knows of one, or
-- of one of the same range where it wants each distinct range
abbrev pub loses : Watcher → Publication → Bool
loses w p =
    concerns w p && (if is_per_port w then nat_lt 0 w.known else nat_lt 0 (count_at w.counts (bounds_of p)))

-- the subscription after it lost one that it knew of, with these counts and these further events
abbrev pub after_removal : Watcher → Counts → List Event → Watcher
after_removal w counts events = record w { counts = counts; known = w.known - 1; events = w.events ++ events }

-- A removed publication is told of where each is; else where it was the last of its range.
unfoldable pub removed : Watcher → Publication → Watcher
removed w p =
    if not (loses w p) then w
    else (if is_per_port w then after_removal w w.counts (event_of 2 w.asked p ∷ [])
    else after_removal w (one_fewer w.counts (bounds_of p))
    (if nat_le (count_at w.counts (bounds_of p)) 1 then event_of 2 w.asked p ∷ [] else []))

-- a subscription that was told of nothing yet, with room for so many additions
abbrev pub blank : ℕ → Subscription → ℕ → Watcher
blank number s room =
    record {
      number = number;
      asked = s;
      left = max s.timeout 1;
      ended = false;
      counts = [];
      known = 0;
      events = [];
      room = room;
    }

-- a new subscription: it was told of the publications that are there, and has room for so many additions more
abbrev pub began : ℕ → Subscription → ℕ → List Publication → Watcher
began number s room there = fold added (blank number s (length there + room)) there

-- whether it times out in this tick: as many as its timeout and at least one have passed; the greatest lasts for ever
abbrev pub is_due : Watcher → Bool
is_due w = not w.ended && (not (w.asked.timeout == 4294967295) && nat_le w.left 1)

-- the subscription that timed out: this is its last event
abbrev pub ended_now : Watcher → Watcher
ended_now w = record w { left = 0; ended = true; events = w.events ++ timeout_of w.asked ∷ [] }

-- the subscription with one tick less to last, where it doesn't last for ever
abbrev pub one_less : Watcher → Watcher
one_less w = record w { left = w.left - (if w.asked.timeout == 4294967295 then 0 else 1) }

-- the subscription after a tick
unfoldable pub ticked : Watcher → Watcher
ticked w = if is_due w then ended_now w else one_less w

-- the subscription with room for so many additions
abbrev pub with_room : ℕ → Watcher → Watcher
with_room room w = record w { room = room }

-- the subscription where its first event was taken
abbrev pub without_first : Watcher → Watcher
without_first w = record w { events = drop 1 w.events }
