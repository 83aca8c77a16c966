-- The subscriptions of a node: one of a number, the room of each, and what always holds of them.
use Rattle.std.proofs.Common.{◌≡◌, ◌+◌, ◌-◌, ◌<◌, ◌≤◌, ◌++◌, ◌∷◌, [], ℕ, Bool, true, false, List, Some, None, cond, if◌then◌else◌, map, length, take, drop, get_or, set, refl, sym, ap, ◌∙◌, arith, filter, fold, length-append, subst, take-append-drop, suc, zero}
use Rattle.std.specs.Prelude.{◌==◌, nat_le, max, All, find, remove, position, not, slice_get}
use Rattle.std.specs.List.{AllPairs, position_or_len}
use Rattle.std.proofs.lemmas.List.{append-nil, drop_all, get_or-map, length-map, take_all}
use Rattle.std.proofs.lemmas.Bool.Decides.{nat_tests}
use Rattle.std.proofs.lemmas.List.Elements.{All-append}
use Rattle.std.proofs.lemmas.List.Folds.{find_at}
use Rattle.std.proofs.lemmas.Option.{slice_get-get_or}
use Rattle.std.proofs.lemmas.List.Kept.{AllPairs-filter}
use Rattle.std.proofs.lemmas.List.Quantifiers.{all_pairs_remove, all_pairs_push}
use Rattle.tipc_types.specs.declared.services.Publication.{Publication}
use Rattle.tipc_types.specs.declared.node_calls.Event.{Event}
use Rattle.tipc_types.specs.declared.node_calls.Subscription.{Subscription}
use Rattle.tipc_types.specs.Span.{Span}
use Rattle.tipc_types.specs.Watching.{event_of, in_order, is_watched}
use Rattle.tipc_types.specs.Matching.{overlaps}
use Rattle.tipc_topology.specs.Watchers.{added, after_addition, after_removal, began, blank, bounds_of, concerns, count_at, ended_now, is_due, is_per_port, loses, one_fewer, one_less, one_more, removed, ticked, with_room, without_first, Counts, Watcher}
use Rattle.tipc_topology.specs.Changing.{due, has_number, subscribed, with_event_taken, with_room_for, without_number, AreKept, Watchers}

-- so many made, so much room, and these kept
abbrev pub kept_as : ℕ → ℕ → List Watcher → Watchers
kept_as made room kept = record { made = made; room = room; kept = kept }

-- ---- one of a number

-- a place that was found is the first, and is within
pub found_place : (number : ℕ) (ws : List Watcher) (i : ℕ) → position (has_number number) ws ≡ Some i → (i ≡ position_or_len (has_number number) ws) × (i < length ws)
found_place number ws i e = grind (arith, nat_tests)

-- nothing stands past the end
none_past : (ws : List Watcher) (i : ℕ) → length ws ≤ i → slice_get ws i ≡ None
none_past [] i past = refl
none_past (w ∷ ws) zero past = absurd (omega (arith, past))
none_past (w ∷ ws) (suc i) past = none_past ws i (omega (arith, past))

-- what is found is the one at the place
pub found_one : (number : ℕ) (ws : List Watcher) (i : ℕ) (d : Watcher) → position (has_number number) ws ≡ Some i → find (has_number number) ws ≡ Some (get_or ws i d)
found_one number ws i d e =
    let here = found_place number ws i e in
    find_at (has_number number) ws ∙ ap (λ k. slice_get ws k) (sym here.0) ∙ slice_get-get_or ws i d here.1

-- something isn't nothing
pub some_not_none : (w : Watcher) → Some w ≡ None → ⊥
some_not_none w e = absurd cc

-- where none is found, none has the number
pub no_place : (number : ℕ) (ws : List Watcher) → position (has_number number) ws ≡ None → find (has_number number) ws ≡ None
no_place number ws e = find_at (has_number number) ws ∙ none_past ws (position_or_len (has_number number) ws) (grind (arith, nat_tests))

-- the first event of the one at the place is taken
pub taken_at : (number : ℕ) (ws : List Watcher) (d : Watcher)
    → set ws (position_or_len (has_number number) ws) (without_first (get_or ws (position_or_len (has_number number) ws) d)) ≡ with_event_taken number ws
taken_at number [] d = refl
taken_at number (w ∷ ws) d =
    elim (has_number number w) as (λ b. set (w ∷ ws) (cond (not b) (1 + position_or_len (has_number number) ws) 0)
    (without_first (get_or (w ∷ ws) (cond (not b) (1 + position_or_len (has_number number) ws) 0) d)) ≡ (if b then without_first w ∷ ws else w ∷ with_event_taken number ws)) [
      | true ↦ refl
      | false ↦ let next : 1 + position_or_len (has_number number) ws ≡ suc (position_or_len (has_number number) ws) = omega arith in rw next (ap (λ vs. w ∷ vs) (taken_at number ws d))
    ]

-- the one at the place is taken out
pub without_at : (number : ℕ) (ws : List Watcher) → position_or_len (has_number number) ws < length ws
    → remove ws (position_or_len (has_number number) ws) ≡ without_number number ws
without_at number [] within = absurd (omega (arith, within))
without_at number (w ∷ ws) within = by (has_number number w) within (without_at number ws)
  where
    by : (b : Bool) → cond (not b) (1 + position_or_len (has_number number) ws) 0 < length (w ∷ ws)
        → (position_or_len (has_number number) ws < length ws → remove ws (position_or_len (has_number number) ws) ≡ without_number number ws)
        → remove (w ∷ ws) (cond (not b) (1 + position_or_len (has_number number) ws) 0) ≡ (if b then ws else w ∷ without_number number ws)
    by true within later = refl
    by false within later = let next : 1 + position_or_len (has_number number) ws ≡ suc (position_or_len (has_number number) ws) = omega arith in rw next (ap (λ vs. w ∷ vs) (later (omega (arith, within))))

-- ---- room

-- room that is as it is
same_room : (room : ℕ) (w : Watcher) → w.room ≡ room → with_room room w ≡ w
same_room room w is = ap (λ x. with_room x w) (sym is)

-- what is true of all is true of those behind the first
behind_first : (P : Watcher → Type 0) (w : Watcher) (ws : List Watcher) → All P (w ∷ ws) → All P ws
behind_first P w ws h k d within = h (suc k) d (omega (arith, within))

-- what is true of the first and of all behind it is true of all
with_first : (P : Watcher → Type 0) (w : Watcher) (ws : List Watcher) → P w → All P ws → All P (w ∷ ws)
with_first P w ws h later zero d within = h
with_first P w ws h later (suc k) d within = later k d (omega (arith, within))

-- what is true of one is true of a list of it
single : (P : Watcher → Type 0) (w : Watcher) → P w → All P (w ∷ [])
single P w h zero d within = h
single P w h (suc k) d within = absurd (omega (arith, within))

-- what is true of all is true of those that are left
all_remove : (P : Watcher → Type 0) (ws : List Watcher) (i : ℕ) → i < length ws → All P ws → All P (remove ws i)
all_remove P [] i within h = absurd (omega (arith, within))
all_remove P (w ∷ ws) zero within h = behind_first P w ws h
all_remove P (w ∷ ws) (suc i) within h = with_first P w (remove ws i) (h 0 w (omega arith)) (all_remove P ws i (omega (arith, within)) (behind_first P w ws h))

pub all_same_room : (room : ℕ) (ws : List Watcher) → All (λ w. w.room ≡ room) ws → map (with_room room) ws ≡ ws
all_same_room room [] h = refl
all_same_room room (w ∷ ws) h =
    rw (same_room room w (h 0 w (omega arith)), all_same_room room ws (behind_first (λ w. w.room ≡ room) w ws h)) refl

-- where some got more room, and then each has no more than before, nothing is changed
pub room_restored : (room more n : ℕ) (ws : List Watcher) → All (λ w. w.room ≡ room) ws
    → map (with_room room) (map (with_room more) (take n ws) ++ drop n ws) ≡ ws
room_restored room more zero [] h = refl
room_restored room more (suc n) [] h = refl
room_restored room more zero (w ∷ ws) h = all_same_room room (w ∷ ws) h
room_restored room more (suc n) (w ∷ ws) h =
    rw (same_room room w (h 0 w (omega arith)), room_restored room more n ws (behind_first (λ w. w.room ≡ room) w ws h)) refl

-- where some got more room, each has as much as before
pub room_left : (room more n : ℕ) (ws : List Watcher) → All (λ w. w.room ≡ room) ws → room ≤ more
    → All (λ w. room ≤ w.room) (map (with_room more) (take n ws) ++ drop n ws)
room_left room more zero [] h le k d within = absurd (omega (arith, within))
room_left room more (suc n) [] h le k d within = absurd (omega (arith, within))
room_left room more zero (w ∷ ws) h le k d within = omega (arith, h k d within)
room_left room more (suc n) (w ∷ ws) h le zero d within = le
room_left room more (suc n) (w ∷ ws) h le (suc k) d within =
    room_left room more n ws (behind_first (λ w. w.room ≡ room) w ws h) le k d (omega (arith, within))

-- the number is the same, and so many places of the room are taken
abbrev pub Takes : ℕ → Watcher → Watcher → Type 0
Takes n w v = (v.number ≡ w.number) × (v.room ≡ w.room - n)

-- the number and the room are the same
abbrev pub Keeps : Watcher → Watcher → Type 0
Keeps w v = (v.number ≡ w.number) × (v.room ≡ w.room)

-- an added publication takes one place, whether it is told of or not
choice : (b c : Bool) (w : Watcher) (counts : Counts) (one all : List Event)
    → Takes 1 w (if not b then after_addition w w.counts 0 [] else (if c then after_addition w w.counts 1 one else after_addition w counts 1 all))
choice true true w counts one all = (refl, refl)
choice true false w counts one all = (refl, refl)
choice false c w counts one all = (refl, refl)

pub added_takes : (w : Watcher) (p : Publication) → Takes 1 w (added w p)
unfolding added
added_takes w p =
    choice (concerns w p) (is_per_port w) w (one_more w.counts (bounds_of p)) (event_of 1 w.asked p ∷ [])
    (if count_at w.counts (bounds_of p) == 0 then event_of 1 w.asked p ∷ [] else [])

-- a removed one takes none
choice_lost : (b c : Bool) (w : Watcher) (counts : Counts) (one all : List Event)
    → Keeps w (if not b then w else (if c then after_removal w w.counts one else after_removal w counts all))
choice_lost true true w counts one all = (refl, refl)
choice_lost true false w counts one all = (refl, refl)
choice_lost false c w counts one all = (refl, refl)

pub removed_keeps : (w : Watcher) (p : Publication) → Keeps w (removed w p)
unfolding removed
removed_keeps w p =
    choice_lost (loses w p) (is_per_port w) w (one_fewer w.counts (bounds_of p)) (event_of 2 w.asked p ∷ [])
    (if nat_le (count_at w.counts (bounds_of p)) 1 then event_of 2 w.asked p ∷ [] else [])

-- nor do several removed ones
pub all_removed_keep : (w : Watcher) (ps : List Publication) → Keeps w (fold removed w ps)
all_removed_keep w [] = (refl, refl)
all_removed_keep w (p ∷ ps) =
    let one = removed_keeps w p in
    let more = all_removed_keep (removed w p) ps in (
      more.0 ∙ one.0,
      more.1 ∙ one.1,
    )

-- several added publications take as many places
pub all_added_take : (w : Watcher) (ps : List Publication) → Takes (length ps) w (fold added w ps)
all_added_take w [] = (refl, omega arith)
all_added_take w (p ∷ ps) =
    let one = added_takes w p in
    let more = all_added_take (added w p) ps in (
      more.0 ∙ one.0,
      omega (arith, one.1, more.1),
    )

-- a tick takes none
pub ticked_keeps : (w : Watcher) → ((ticked w).number ≡ w.number) × ((ticked w).room ≡ w.room)
unfolding ticked
ticked_keeps w = (elim (is_due w) as (λ b. (if b then ended_now w else one_less w).number ≡ w.number) [ true ↦ refl | false ↦ refl ], elim (is_due w) as (λ b. (if b then ended_now w else one_less w).room ≡ w.room) [ true ↦ refl | false ↦ refl ])

-- ---- what always holds

-- it holds of subscriptions of the same numbers that have the room
pub like_kept : (made room other : ℕ) (ws vs : List Watcher) → length vs ≡ length ws
    → ((i : ℕ) (d : Watcher) → i < length ws → ((get_or vs i d).number ≡ (get_or ws i d).number) × ((get_or vs i d).room ≡ other))
    → AreKept (kept_as made room ws) → AreKept (kept_as made other vs)
like_kept made room other ws vs count like h =
    let rising = h.rising in
    let below = h.made in
    record {
      rising = λ i j d before within.
          omega (arith, (like i d (omega (arith, before, within, count))).0, (like j d (omega (arith, within, count))).0, rising i j d before (omega (arith, within, count)));
      made = λ i d within. omega (arith, (like i d (omega (arith, within, count))).0, below i d (omega (arith, within, count)));
      room = λ i d within. (like i d (omega (arith, within, count))).1;
    }

-- it holds where each is changed so that its number stays and it has the room
pub mapped_kept : (f : Watcher → Watcher) (made room other : ℕ) (ws : List Watcher)
    → ((w : Watcher) → w.room ≡ room → ((f w).number ≡ w.number) × ((f w).room ≡ other))
    → AreKept (kept_as made room ws) → AreKept (kept_as made other (map f ws))
mapped_kept f made room other ws same h =
    like_kept made room other ws (map f ws) (length-map ws f)
    (λ i d within.
    let here = get_or-map f ws i d d within in
    let each = same (get_or ws i d) (h.room i d within) in (
      ap (λ (w : Watcher). w.number) here ∙ each.0,
      ap (λ (w : Watcher). w.room) here ∙ each.1,
    ))
    h

-- and no more than 256 of them are there
pub mapped_few : (f : Watcher → Watcher) (ws vs : List Watcher) → vs ≡ map f ws → length ws ≤ 256 → length vs ≤ 256
mapped_few f ws vs is few = let count = ap (λ (us : List Watcher). length us) is ∙ length-map ws f in omega (arith, count, few)

-- it holds after one was cancelled
pub removed_kept : (made room i : ℕ) (ws : List Watcher) → i < length ws → AreKept (kept_as made room ws)
    → AreKept (kept_as made room (remove ws i))
removed_kept made room i ws within h =
    record {
      rising = all_pairs_remove (λ (w later : Watcher). w.number < later.number) ws i within h.rising;
      made = all_remove (λ (w : Watcher). w.number ≤ made) ws i within h.made;
      room = all_remove (λ (w : Watcher). w.room ≡ room) ws i within h.room;
    }

-- it holds with one more, which was made next
pub pushed_kept : (made room : ℕ) (ws : List Watcher) (w : Watcher) → w.number ≡ made + 1 → w.room ≡ room
    → AreKept (kept_as made room ws) → AreKept (kept_as (made + 1) room (ws ++ w ∷ []))
pushed_kept made room ws w next has h =
    let below = h.made in
    record {
      rising = all_pairs_push (λ (w later : Watcher). w.number < later.number) ws w h.rising (λ k d within. omega (arith, next, below k d within));
      made = All-append (λ (w : Watcher). w.number ≤ made + 1) ws (w ∷ []) (λ k d within. omega (arith, below k d within)) (single (λ (w : Watcher). w.number ≤ made + 1) w (omega (arith, next)));
      room = All-append (λ (w : Watcher). w.room ≡ room) ws (w ∷ []) h.room (single (λ (w : Watcher). w.room ≡ room) w has);
    }

-- ---- a slice that is written back

-- all of a list is written over
pub written : (n : ℕ) (ws vs : List Watcher) → length ws ≡ n → length vs ≡ n → take n (vs ++ drop (length vs) ws) ≡ vs
written n ws vs before after =
    rw (drop_all (length vs) ws (omega (arith, before, after)), append-nil vs) (take_all n vs (omega (arith, after)))

-- each is changed, and all are written over
pub mapped_written : (f : Watcher → Watcher) (n : ℕ) (ws us vs : List Watcher) → vs ≡ map f us → us ≡ ws → length us ≡ n
    → take n (vs ++ drop (length vs) ws) ≡ map f ws
mapped_written f n ws us vs is same count =
    let after = ap (λ (xs : List Watcher). length xs) is ∙ length-map us f ∙ count in
    let before = ap (λ (xs : List Watcher). length xs) (sym same) ∙ count in
    written n ws vs before after ∙ is ∙ ap (λ (xs : List Watcher). map f xs) same

-- some are changed: as many are there
pub some_changed : (f : Watcher → Watcher) (n : ℕ) (ws : List Watcher) → length (map f (take n ws) ++ drop n ws) ≡ length ws
some_changed f n ws =
    length-append (map f (take n ws)) (drop n ws)
    ∙ ap (λ m. m + length (drop n ws)) (length-map (take n ws) f)
    ∙ sym (length-append (take n ws) (drop n ws))
    ∙ ap (λ (xs : List Watcher). length xs) (take-append-drop n ws)

-- ---- room of all

-- where there is as much room, nothing is changed
pub room_enough : (n : ℕ) (t : Watchers) → AreKept t → n ≤ t.room → with_room_for n t ≡ t
unfolding with_room_for
room_enough n t h le =
    let most : max t.room n ≡ t.room = omega (arith, le) in
    rw most (ap (λ ws. kept_as t.made t.room ws) (all_same_room t.room t.kept h.room))

-- where there is less, each gets it
pub room_made : (n made room : ℕ) (ws : List Watcher) → room ≤ n → kept_as made n (map (with_room n) ws) ≡ with_room_for n (kept_as made room ws)
unfolding with_room_for
room_made n made room ws le =
    let most : max room n ≡ n = omega (arith, le) in
    rw most refl

-- some subscription
anyone : Watcher
anyone = blank 0 (record { range_kind = 0; lower = 0; upper = 0; timeout = 0; filter = 0; handle = [] }) 0

-- numbers that rise, rise among those that are due
pub due_rising : (ws : List Watcher) → AllPairs (λ (w later : Watcher). w.number < later.number) ws → AllPairs (λ (n later : ℕ). n < later) (due ws)
due_rising ws h i j d before within =
    let some = filter is_due ws in
    let later : j < length some = subst (λ (n : ℕ). j < n) (length-map some (λ (w : Watcher). w.number)) within in
    rw (get_or-map (λ (w : Watcher). w.number) some i anyone d (omega (arith, before, later)), get_or-map (λ (w : Watcher). w.number) some j anyone d later)
    (AllPairs-filter (λ (w later : Watcher). w.number < later.number) is_due ws h i j anyone before later)

-- there is room for what was asked for
pub room_for : (n : ℕ) (t : Watchers) → n ≤ (with_room_for n t).room
unfolding with_room_for
room_for n t = omega arith

-- ---- one more

-- a new subscription has its number, and the room that it was given
pub began_takes : (number : ℕ) (s : Subscription) (room : ℕ) (there : List Publication)
    → ((began number s room there).number ≡ number) × ((began number s room there).room ≡ room)
began_takes number s room there =
    let taken = all_added_take (blank number s (length there + room)) there in (
      taken.0,
      omega (arith, taken.1),
    )

-- those that share an instance with the range are those that are watched
pub watched_there : (s : Subscription) (range : Span) → range.kind ≡ s.range_kind → range.lower ≡ s.lower → range.upper ≡ s.upper
    → (ps : List Publication) → filter (overlaps range) ps ≡ filter (is_watched s) ps
watched_there s range kind lower upper ps = rw (kind, lower, upper) refl

-- with one more behind the others
pub one_subscribed : (s : Subscription) (there : List Publication) (made room : ℕ) (ws vs : List Watcher) (w : Watcher) → vs ≡ ws ++ w ∷ []
    → w ≡ began (made + 1) s room (in_order (filter (is_watched s) there)) → kept_as (made + 1) room vs ≡ subscribed s there (kept_as made room ws)
unfolding subscribed
one_subscribed s there made room ws vs w pushed is = rw (pushed, is) refl
