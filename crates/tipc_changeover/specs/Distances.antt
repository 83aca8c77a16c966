-- How far apart places may lie: what lets links that send the lower 16 bits of a place tell which place is meant.
-- Each part speaks of one link's end x and its record r, and where it must of the other's end y; what holds of two
-- links has each part both ways.
use Rattle.std.specs.Prelude.{◌≡◌, ℕ, ◌+◌, ◌<◌, ◌≤◌, Bool, false, List, Some, length}
use Rattle.tipc_changeover.specs.Slots.{at, LinkSlot, Tunnel}
use Rattle.tipc_changeover.specs.Links.{slots, Past, Receiver, Sender, State, Up}
use Rattle.tipc_changeover.specs.Events.{window}

-- Window: no more than a window of a link that is up isn't acknowledged.
pub record Window (x : Sender) : Type 0 where
  pub in_flight : x.state ≡ Up → length (x.line x.session) ≤ x.acked + window

-- Near: no more than a window of the record's session, and of each later one, has a number and wasn't taken.
pub record Near (x : Sender) (r : Receiver) : Type 0 where
  pub recorded : length (x.line r.session) ≤ r.taken + window
  pub unrecorded : (e : ℕ) → r.session < e → e ≤ x.session → length (x.line e) ≤ window

-- a placeholder for a place of a session stands in the slots, no further than this
pub record HasPlaceholder (zs : List LinkSlot) (session place most : ℕ) : Type 0 where
  pub where_it_stands : ℕ
  pub there : at zs where_it_stands ≡ Some (Tunnel session place false)
  pub no_further : where_it_stands ≤ most

-- Close: of a tunnel packet that isn't past, the place of which it speaks lies less than a window behind those that
-- have a number in that session. Where its session and the one of which it speaks are both present, it lies so by its
-- own place; where just the other is present, a placeholder for the tunnel packet stands there, no further than a
-- window behind.
pub record Close (x y : Sender) (r : Receiver) : Type 0 where
  pub both_present : (p f q : ℕ) (full : Bool) → at (slots x) p ≡ Some (Tunnel f q full) → 1 ≤ q →
      (Past r x.session p → ⊥) → f ≡ y.session → length (y.line f) + p ≤ q + window
  pub target_ended : (p f q : ℕ) (full : Bool) → at (slots x) p ≡ Some (Tunnel f q full) → 1 ≤ q →
      (Past r x.session p → ⊥) → f < y.session → length (y.line f) < q + window
  pub own_ended : (e p f q : ℕ) (full : Bool) → e < x.session → at (x.line e) p ≡ Some (Tunnel f q full) → 1 ≤ q →
      (Past r e p → ⊥) → f ≡ y.session → HasPlaceholder (slots y) e p (q + window)
  pub both_ended : (e p f q : ℕ) (full : Bool) → e < x.session → at (x.line e) p ≡ Some (Tunnel f q full) → 1 ≤ q →
      (Past r e p → ⊥) → f < y.session → length (y.line f) < q + window

-- the parts of one link, towards the other
pub record Bounds (x y : Sender) (r : Receiver) : Type 0 where
  pub window_kept : Window x
  pub near : Near x r
  pub close : Close x y r

-- of both links
pub record Bounded (s : State) : Type 0 where
  pub near : Bounds s.near s.far s.near_record
  pub far : Bounds s.far s.near s.far_record
