-- What always holds of a node's subscriptions stays so by each change; and a tick in parts.
use Rattle.std.specs.Prelude.{◌==◌, ◌&&◌, nat_eq, nat_le, nat_lt, not, max, remove}
use Rattle.std.proofs.Common.{◌≡◌, ◌+◌, ◌-◌, ◌<◌, ◌∷◌, [], ℕ, Bool, true, false, List, cond, if◌then◌else◌, map, filter, fold, length, get_or, suc, zero, inl, inr, ◌⊎◌, refl, sym, ap, subst, ◌∙◌, arith}
use Rattle.std.specs.List.{AllByRecursion, AllPairs}
use Rattle.std.proofs.lemmas.Bool.Decides.{nat_tests}
use Rattle.std.proofs.lemmas.List.Elements.{recursion_from_All}
use Rattle.tipc_types.specs.declared.node_calls.Event.{Event}
use Rattle.tipc_types.specs.declared.node_calls.Subscription.{Subscription}
use Rattle.tipc_types.specs.declared.services.Publication.{Publication}
use Rattle.tipc_types.specs.Watching.{event_of, in_order, is_watched}
use Rattle.tipc_topology.specs.declared.changes.TableChange.{TableChange}
use Rattle.tipc_topology.specs.declared.changes.TableChange.TheVariants.{Added, Removed, Purged}
use Rattle.tipc_topology.specs.Watchers.{added, after_addition, after_removal, bounds_of, concerns, count_at, ended_now, is_due, is_per_port, loses, one_fewer, one_less, one_more, removed, ticked, with_room, without_first, Counts, Watcher}
use Rattle.tipc_topology.specs.Changing.{changed, due, ended_at, has_number, no_watchers, passed, subscribed, with_event_taken, with_addition, with_kept, with_loss, with_room_for, without_number, AreKept, Watchers}
use Rattle.tipc_topology.proofs.Kept.{added_takes, all_removed_keep, began_takes, kept_as, like_kept, mapped_kept, pushed_kept, removed_kept, Keeps}

-- ---- what always holds

pub none_kept : AreKept no_watchers
none_kept = record {
  rising = λ i j d before within. absurd (omega (arith, within));
  made = λ k d within. absurd (omega (arith, within));
  room = λ k d within. absurd (omega (arith, within));
}

pub loss_kept : (ps : List Publication) (t : Watchers) → AreKept t → AreKept (with_loss ps t)
loss_kept ps t h =
    mapped_kept (λ w. fold removed w ps) t.made t.room t.room t.kept (λ w has. ((all_removed_keep w ps).0, (all_removed_keep w ps).1 ∙ has)) h

pub room_kept : (n : ℕ) (t : Watchers) → AreKept t → AreKept (with_room_for n t)
unfolding with_room_for
room_kept n t h = mapped_kept (with_room (max t.room n)) t.made t.room (max t.room n) t.kept (λ w has. (refl, refl)) h

addition_kept : (p : Publication) (t : Watchers) → AreKept t → AreKept (with_addition p t)
addition_kept p t h =
    mapped_kept (λ w. added w p) t.made t.room (t.room - 1) t.kept (λ w has. ((added_takes w p).0, (added_takes w p).1 ∙ ap (λ n. n - 1) has)) h

pub changed_kept : (c : TableChange) (t : Watchers) → AreKept t → AreKept (changed c t)
changed_kept (Added p) t h = addition_kept p (with_room_for 1 t) (room_kept 1 t h)
changed_kept (Removed p) t h = loss_kept (p ∷ []) t h
changed_kept (Purged ps) t h = loss_kept (in_order ps) t h

pub subscribed_kept : (s : Subscription) (there : List Publication) (t : Watchers) → AreKept t → AreKept (subscribed s there t)
unfolding subscribed
subscribed_kept s there t h =
    let takes = began_takes (t.made + 1) s t.room (in_order (filter (is_watched s) there)) in
    pushed_kept t.made t.room t.kept _ takes.0 takes.1 h

ended_like : (number : ℕ) (b : Bool) (w : Watcher) → Keeps w (if b then ended_now w else w)
ended_like number true w = (refl, refl)
ended_like number false w = (refl, refl)

pub ended_kept : (number : ℕ) (t : Watchers) → AreKept t → AreKept (ended_at number t)
ended_kept number t h =
    mapped_kept (λ w. if has_number number w && not w.ended then ended_now w else w) t.made t.room t.room t.kept
    (λ w has. let same = ended_like number (has_number number w && not w.ended) w in (same.0, same.1 ∙ has)) h

pub passed_kept : (t : Watchers) → AreKept t → AreKept (passed t)
passed_kept t h = mapped_kept one_less t.made t.room t.room t.kept (λ w has. (refl, has)) h

taken_like : (number : ℕ) (ws : List Watcher) (i : ℕ) (d : Watcher) → Keeps (get_or ws i d) (get_or (with_event_taken number ws) i d)
taken_like number [] i d = (refl, refl)
taken_like number (w ∷ ws) i d = by (has_number number w) i (λ k. taken_like number ws k d)
  where
    by : (b : Bool) (k : ℕ) → ((j : ℕ) → Keeps (get_or ws j d) (get_or (with_event_taken number ws) j d))
        → Keeps (get_or (w ∷ ws) k d) (get_or (if b then without_first w ∷ ws else w ∷ with_event_taken number ws) k d)
    by true zero later = (refl, refl)
    by true (suc k) later = (refl, refl)
    by false zero later = (refl, refl)
    by false (suc k) later = later k

taken_length : (number : ℕ) (ws : List Watcher) → length (with_event_taken number ws) ≡ length ws
taken_length number [] = refl
taken_length number (w ∷ ws) = by (has_number number w) (taken_length number ws)
  where
    by : (b : Bool) → length (with_event_taken number ws) ≡ length ws → length (if b then without_first w ∷ ws else w ∷ with_event_taken number ws) ≡ length (w ∷ ws)
    by true later = refl
    by false later = omega (arith, later)

pub taken_kept : (number : ℕ) (t : Watchers) → AreKept t → AreKept (with_kept t (with_event_taken number t.kept))
taken_kept number t h =
    like_kept t.made t.room t.room t.kept (with_event_taken number t.kept) (taken_length number t.kept)
    (λ i d within. let same = taken_like number t.kept i d in (same.0, same.1 ∙ h.room i d within)) h

without_is : (number : ℕ) (ws : List Watcher) → (without_number number ws ≡ ws) ⊎ ((i : ℕ) × (i < length ws) × (without_number number ws ≡ remove ws i))
without_is number [] = inl refl
without_is number (w ∷ ws) = by (has_number number w) (without_is number ws)
  where
    by : (b : Bool) → (without_number number ws ≡ ws) ⊎ ((i : ℕ) × (i < length ws) × (without_number number ws ≡ remove ws i))
        → ((if b then ws else w ∷ without_number number ws) ≡ w ∷ ws) ⊎ ((i : ℕ) × (i < length (w ∷ ws)) × ((if b then ws else w ∷ without_number number ws) ≡ remove (w ∷ ws) i))
    by true later = inr (0, omega arith, refl)
    by false (inl same) = inl (ap (λ (vs : List Watcher). w ∷ vs) same)
    by false (inr at) = inr (suc at.0, omega (arith, at.1), ap (λ (vs : List Watcher). w ∷ vs) at.2)

pub cancelled_kept : (number : ℕ) (t : Watchers) → AreKept t → AreKept (with_kept t (without_number number t.kept))
cancelled_kept number t h = elim (without_is number t.kept) as (λ _. AreKept (kept_as t.made t.room (without_number number t.kept))) [
  | inl same ↦ subst (λ (ws : List Watcher). AreKept (kept_as t.made t.room ws)) (sym same) h
  | inr at ↦ subst (λ (ws : List Watcher). AreKept (kept_as t.made t.room ws)) (sym at.2) (removed_kept t.made t.room at.0 t.kept at.1 h)
]

-- ---- numbers that rise

-- each has a number below those of the ones behind it
abbrev pub AreRising : List Watcher → Type 0
AreRising [] = Unit {0}
AreRising (w ∷ ws) = AllByRecursion (λ (v : Watcher). w.number < v.number) ws × AreRising ws

pub rising_from : (ws : List Watcher) → AllPairs (λ (w later : Watcher). w.number < later.number) ws → AreRising ws
rising_from [] h = tt
rising_from (w ∷ ws) h = (
  recursion_from_All (λ (v : Watcher). w.number < v.number) ws (λ k d within. h 0 (suc k) d (omega arith) (omega (arith, within))),
  rising_from ws (λ i j d before within. h (suc i) (suc j) d (omega (arith, before)) (omega (arith, within))),
)

-- one with a lower number has another
lower_other : (n m : ℕ) → n < m → (m == n) ≡ false
lower_other n m h = grind (arith, nat_tests)

-- ---- what a change leaves

-- nothing but its counts, what it knows, its events and its room
pub record Leaves (w v : Watcher) : Type 0 where
  pub number : v.number ≡ w.number
  pub asked : v.asked ≡ w.asked
  pub left : v.left ≡ w.left
  pub ended : v.ended ≡ w.ended

leaves_itself : (w : Watcher) → Leaves w w
leaves_itself w = record { number = refl; asked = refl; left = refl; ended = refl }

leaves_then : (u v w : Watcher) → Leaves u v → Leaves v w → Leaves u w
leaves_then u v w h k = record { number = k.number ∙ h.number; asked = k.asked ∙ h.asked; left = k.left ∙ h.left; ended = k.ended ∙ h.ended }

added_choice : (b c : Bool) (w : Watcher) (counts : Counts) (one all : List Event)
    → Leaves w (if not b then after_addition w w.counts 0 [] else (if c then after_addition w w.counts 1 one else after_addition w counts 1 all))
added_choice true true w counts one all = record { number = refl; asked = refl; left = refl; ended = refl }
added_choice true false w counts one all = record { number = refl; asked = refl; left = refl; ended = refl }
added_choice false c w counts one all = record { number = refl; asked = refl; left = refl; ended = refl }

pub added_leaves : (w : Watcher) (p : Publication) → Leaves w (added w p)
unfolding added
added_leaves w p =
    added_choice (concerns w p) (is_per_port w) w (one_more w.counts (bounds_of p)) (event_of 1 w.asked p ∷ [])
    (if count_at w.counts (bounds_of p) == 0 then event_of 1 w.asked p ∷ [] else [])

removed_choice : (b c : Bool) (w : Watcher) (counts : Counts) (one all : List Event)
    → Leaves w (if not b then w else (if c then after_removal w w.counts one else after_removal w counts all))
removed_choice true true w counts one all = record { number = refl; asked = refl; left = refl; ended = refl }
removed_choice true false w counts one all = record { number = refl; asked = refl; left = refl; ended = refl }
removed_choice false c w counts one all = record { number = refl; asked = refl; left = refl; ended = refl }

removed_leaves : (w : Watcher) (p : Publication) → Leaves w (removed w p)
unfolding removed
removed_leaves w p =
    removed_choice (loses w p) (is_per_port w) w (one_fewer w.counts (bounds_of p)) (event_of 2 w.asked p ∷ [])
    (if nat_le (count_at w.counts (bounds_of p)) 1 then event_of 2 w.asked p ∷ [] else [])

pub all_removed_leave : (w : Watcher) (ps : List Publication) → Leaves w (fold removed w ps)
all_removed_leave w [] = leaves_itself w
all_removed_leave w (p ∷ ps) = leaves_then w (removed w p) (fold removed (removed w p) ps) (removed_leaves w p) (all_removed_leave (removed w p) ps)

pub all_added_leave : (w : Watcher) (ps : List Publication) → Leaves w (fold added w ps)
all_added_leave w [] = leaves_itself w
all_added_leave w (p ∷ ps) = leaves_then w (added w p) (fold added (added w p) ps) (added_leaves w p) (all_added_leave (added w p) ps)

-- ---- one that ended

-- one that ended loses nothing
removed_ended : (w : Watcher) (p : Publication) → w.ended ≡ true → removed w p ≡ w
unfolding removed
removed_ended w p over =
    let none : loses w p ≡ false = ap (λ b. (not b && is_watched w.asked p) && (if is_per_port w then nat_lt 0 w.known else nat_lt 0 (count_at w.counts (bounds_of p)))) over in
    ap (λ b. if not b then w else (if is_per_port w then after_removal w w.counts (event_of 2 w.asked p ∷ []) else after_removal w (one_fewer w.counts (bounds_of p)) (if nat_le (count_at w.counts (bounds_of p)) 1 then event_of 2 w.asked p ∷ [] else []))) none

pub all_removed_ended : (w : Watcher) (ps : List Publication) → w.ended ≡ true → fold removed w ps ≡ w
all_removed_ended w [] over = refl
all_removed_ended w (p ∷ ps) over = ap (λ (v : Watcher). fold removed v ps) (removed_ended w p over) ∙ all_removed_ended w ps over

-- and is told of no addition
pub added_ended : (w : Watcher) (p : Publication) → w.ended ≡ true → added w p ≡ after_addition w w.counts 0 []
unfolding added
added_ended w p over =
    let none : concerns w p ≡ false = ap (λ b. not b && is_watched w.asked p) over in
    ap (λ b. if not b then after_addition w w.counts 0 [] else (if is_per_port w then after_addition w w.counts 1 (event_of 1 w.asked p ∷ []) else after_addition w (one_more w.counts (bounds_of p)) 1 (if count_at w.counts (bounds_of p) == 0 then event_of 1 w.asked p ∷ [] else []))) none

-- ---- a tick in parts

abbrev end_if : ℕ → Watcher → Watcher
end_if number w = if has_number number w && not w.ended then ended_now w else w

-- one of another number stays
end_other : (number : ℕ) (w : Watcher) → (w.number == number) ≡ false → end_if number w ≡ w
end_other number w other = ap (λ b. if b && not w.ended then ended_now w else w) other

-- those that end where these numbers do, one after another
abbrev ends : List ℕ → List Watcher → List Watcher
ends numbers ws = fold (λ vs number. map (end_if number) vs) ws numbers

-- one whose number is below all of these stays first
ends_first : (w : Watcher) (numbers : List ℕ) (ws : List Watcher) → AllByRecursion (λ n. w.number < n) numbers → ends numbers (w ∷ ws) ≡ w ∷ ends numbers ws
ends_first w [] ws below = refl
ends_first w (n ∷ ns) ws below =
    let other : (w.number == n) ≡ false = lower_first w.number n below.0 in
    ap (λ (v : Watcher). ends ns (v ∷ map (end_if n) ws)) (end_other n w other) ∙ ends_first w ns (map (end_if n) ws) below.1
  where
    lower_first : (a b : ℕ) → a < b → (a == b) ≡ false
    lower_first a b h = grind (arith, nat_tests)

-- none of these has a number that is below theirs
ends_none : (n : ℕ) (ws : List Watcher) → AllByRecursion (λ (v : Watcher). n < v.number) ws → map (end_if n) ws ≡ ws
ends_none n [] above = refl
ends_none n (w ∷ ws) above =
    let here = end_other n w (lower_other n w.number above.0) in
    (λ i. here i ∷ ends_none n ws above.1 i)

due_above : (n : ℕ) (ws : List Watcher) → AllByRecursion (λ (v : Watcher). n < v.number) ws → AllByRecursion (λ m. n < m) (due ws)
due_above n [] above = tt
due_above n (w ∷ ws) above = by (is_due w) (due_above n ws above.1)
  where
    by : (b : Bool) → AllByRecursion (λ m. n < m) (due ws) → AllByRecursion (λ m. n < m) (map (λ (v : Watcher). v.number) (cond b (w ∷ filter is_due ws) (filter is_due ws)))
    by true later = (above.0, later)
    by false later = later

-- one that is due ends, another stays
abbrev end_due : Watcher → Watcher
end_due w = if is_due w then ended_now w else w

due_lasts : (a b c : Bool) → not a && (b && c) ≡ true → not a ≡ true
due_lasts true b c e = e
due_lasts false b c e = refl

ends_due : (ws : List Watcher) → AreRising ws → ends (due ws) ws ≡ map end_due ws
ends_due [] rising = refl
ends_due (w ∷ ws) rising = by (is_due w) refl (ends_due ws rising.1)
  where
    itself : (n : ℕ) → nat_eq n n ≡ true
    itself n = grind (arith, nat_tests)

    ended : is_due w ≡ true → end_if w.number w ≡ ended_now w
    ended is =
        let lasts : not w.ended ≡ true = due_lasts w.ended (not (w.asked.timeout == 4294967295)) (nat_le w.left 1) is in
        ap (λ b. if b && not w.ended then ended_now w else w) (itself w.number) ∙ ap (λ b. if b then ended_now w else w) lasts

    by : (b : Bool) → is_due w ≡ b → ends (due ws) ws ≡ map end_due ws
        → ends (map (λ (v : Watcher). v.number) (cond b (w ∷ filter is_due ws) (filter is_due ws))) (w ∷ ws) ≡ (if b then ended_now w else w) ∷ map end_due ws
    by true is later =
        (λ i. ends (due ws) (ended is i ∷ ends_none w.number ws rising.0 i))
        ∙ ends_first (ended_now w) (due ws) ws (due_above w.number ws rising.0)
        ∙ ap (λ (vs : List Watcher). ended_now w ∷ vs) later
    by false is later = ends_first w (due ws) ws (due_above w.number ws rising.0) ∙ ap (λ (vs : List Watcher). w ∷ vs) later

-- one that ended has no tick left to lose
ended_less : (w : Watcher) → one_less (ended_now w) ≡ ended_now w
ended_less w = ap (λ (n : ℕ). record { number = w.number; asked = w.asked; left = n; ended = true; counts = w.counts; known = w.known; events = (ended_now w).events; room = w.room }) (none (w.asked.timeout == 4294967295))
  where
    none : (b : Bool) → 0 - (if b then 0 else 1) ≡ 0
    none true = refl
    none false = refl

tick_parts : (w : Watcher) → one_less (end_due w) ≡ ticked w
unfolding ticked
tick_parts w = by (is_due w)
  where
    by : (b : Bool) → one_less (if b then ended_now w else w) ≡ (if b then ended_now w else one_less w)
    by true = ended_less w
    by false = refl

all_tick_parts : (ws : List Watcher) → map one_less (map end_due ws) ≡ map ticked ws
all_tick_parts [] = refl
all_tick_parts (w ∷ ws) = (λ i. tick_parts w i ∷ all_tick_parts ws i)

-- those that end one after another, beside what stays
ends_kept : (t : Watchers) (numbers : List ℕ) (ws : List Watcher)
    → fold (λ u number. ended_at number u) (with_kept t ws) numbers ≡ with_kept t (ends numbers ws)
ends_kept t [] ws = refl
ends_kept t (n ∷ ns) ws = ends_kept t ns (map (end_if n) ws)

-- In a tick those that are due end, and then it passes for all.
pub tick_is_ends : (t : Watchers) → AreKept t → passed (fold (λ u number. ended_at number u) t (due t.kept)) ≡ with_kept t (map ticked t.kept)
tick_is_ends t h =
    ap passed (ends_kept t (due t.kept) t.kept)
    ∙ ap (λ (ws : List Watcher). with_kept t (map one_less ws)) (ends_due t.kept (rising_from t.kept h.rising))
    ∙ ap (λ (ws : List Watcher). with_kept t ws) (all_tick_parts t.kept)

-- when those that are due have ended, none is due
pub none_due : (t : Watchers) → AreKept t → due (fold (λ u number. ended_at number u) t (due t.kept)).kept ≡ []
none_due t h =
    ap (λ (u : Watchers). due u.kept) (ends_kept t (due t.kept) t.kept)
    ∙ ap due (ends_due t.kept (rising_from t.kept h.rising))
    ∙ quiet t.kept
  where
    over : (w : Watcher) → is_due (end_due w) ≡ false
    over w = by (is_due w) refl
      where
        by : (b : Bool) → is_due w ≡ b → is_due (if b then ended_now w else w) ≡ false
        by true is = refl
        by false is = is

    quiet : (ws : List Watcher) → due (map end_due ws) ≡ []
    quiet [] = refl
    quiet (w ∷ ws) = ap (λ b. map (λ (v : Watcher). v.number) (cond b (end_due w ∷ filter is_due (map end_due ws)) (filter is_due (map end_due ws)))) (over w) ∙ quiet ws
