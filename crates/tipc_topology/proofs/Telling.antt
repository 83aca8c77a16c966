-- What a subscription is told of changes: its transitions.
use Rattle.std.specs.Prelude.{◌==◌, ◌&&◌, ◌||◌, count_by, not, unwrap_or}
use Rattle.std.proofs.Common.{◌≡◌, ◌+◌, ◌++◌, ◌∷◌, [], ℕ, Bool, true, false, List, Option, Some, cond, if◌then◌else◌, refl, sym, ap, ◌∙◌, arith, true≢false}
use Rattle.std.specs.List.{list_any}
use Rattle.std.specs.Map.{lookup}
use Rattle.std.proofs.lemmas.Bool.Decides.{nat_tests}
use Rattle.std.proofs.lemmas.List.{append-nil}
use Rattle.std.proofs.lemmas.List.Sums.{sum_by-append, sum_by-cons}
use Rattle.tipc_types.specs.declared.node_calls.Event.{Event}
use Rattle.tipc_types.specs.declared.node_calls.Subscription.{Subscription}
use Rattle.tipc_types.specs.declared.services.Publication.{Publication}
use Rattle.tipc_types.specs.Watching.{additions, event_of, is_same_range, is_watched}
use Rattle.tipc_topology.specs.Watchers.{added, after_addition, bounds_eq, bounds_of, concerns, count_at, one_more, Counts, Watcher}
use Rattle.tipc_topology.specs.Transitions.{IsCounted, Knows}
use Rattle.tipc_topology.proofs.Counts.{bounds_same, lookup_more, none_counted, once_more}

-- ---- counts

-- one that has the range of a watched one is watched
pub same_watched : (s : Subscription) (q p : Publication) → is_same_range q p ≡ true → is_watched s q ≡ true → is_watched s p ≡ true
same_watched s q p same watched = grind (arith, nat_tests)

-- one that isn't watched has another range than one that is
pub other_range : (s : Subscription) (q p : Publication) → is_watched s q ≡ true → is_watched s p ≡ false → is_same_range q p ≡ false
other_range s q p watched unwatched = grind (arith, nat_tests)

-- watched ones have the same range where they have the same bounds
pub same_bounds : (s : Subscription) (q p : Publication) → is_watched s q ≡ true → is_watched s p ≡ true
    → is_same_range q p ≡ bounds_eq (bounds_of q) (bounds_of p)
same_bounds s q p one other =
    let kinds : (q.range.kind == p.range.kind) ≡ true = grind (arith, nat_tests) in
    rw kinds refl

-- a publication has its own range
pub own_range : (p : Publication) → is_same_range p p ≡ true
own_range p = grind (arith, nat_tests)

-- one more at the end is counted where it passes
counted_last : (test : Publication → Bool) (ps : List Publication) (p : Publication) → count_by test (ps ++ p ∷ []) ≡ count_by test ps + cond (test p) 1 0
counted_last test ps p =
    sum_by-append (λ x. cond (test x) 1 0) ps (p ∷ []) ∙ rw (sum_by-cons (λ x. cond (test x) 1 0) p []) (omega arith)

-- the counts know of one more that isn't watched
counted_other : (s : Subscription) (counts : Counts) (there : List Publication) (p : Publication) → is_watched s p ≡ false
    → IsCounted s counts there → IsCounted s counts (there ++ p ∷ [])
counted_other s counts there p unwatched h =
    record {
      once = h.once;
      counted = λ q watched.
          let other = other_range s q p watched unwatched in
          h.counted q watched ∙ sym (counted_last (is_same_range q) there p ∙ rw other (omega arith));
    }

-- and of one more that is
counted_more : (s : Subscription) (counts : Counts) (there : List Publication) (p : Publication) → is_watched s p ≡ true
    → IsCounted s counts there → IsCounted s (one_more counts (bounds_of p)) (there ++ p ∷ [])
counted_more s counts there p heard h =
    let v = count_at counts (bounds_of p) + 1 in
    let at_p = h.counted p heard in
    record {
      once = once_more (bounds_of p) v counts h.once;
      counted = λ q watched.
          let now = ap (λ (o : Option ℕ). unwrap_or o 0) (lookup_more (bounds_of q) (bounds_of p) v counts) in
          let after = counted_last (is_same_range q) there p ∙ ap (λ b. count_by (is_same_range q) there + cond b 1 0) (same_bounds s q p watched heard) in
          now ∙ by q (h.counted q watched) (bounds_eq (bounds_of q) (bounds_of p)) refl ∙ sym after;
    }
  where
    by : (q : Publication) → count_at counts (bounds_of q) ≡ count_by (is_same_range q) there → (same : Bool) → bounds_eq (bounds_of q) (bounds_of p) ≡ same
        → unwrap_or (cond same (Some (count_at counts (bounds_of p) + 1)) (lookup (bounds_eq (bounds_of q)) counts)) 0
        ≡ count_by (is_same_range q) there + cond same 1 0
    by q at_q true is =
        let same = ap (λ a. count_at counts a) (bounds_same (bounds_of q) (bounds_of p) is) in
        omega (arith, same, at_q)
    by q at_q false is = at_q ∙ omega arith

-- ---- one addition

-- A subscription after some events: it asks for the same, lasts, and knows of those that are there.
pub record Tells (s : Subscription) (w v : Watcher) (told : List Event) (there : List Publication) : Type 0 where
  pub events : v.events ≡ w.events ++ told
  pub asked : v.asked ≡ s
  pub lasts : v.ended ≡ false
  pub knows : Knows s v there

-- one more is known of where it is watched
known_last : (s : Subscription) (known : ℕ) (there : List Publication) (p : Publication) (heard : Bool) → is_watched s p ≡ heard
    → known ≡ count_by (is_watched s) there → known + cond heard 1 0 ≡ count_by (is_watched s) (there ++ p ∷ [])
known_last s known there p heard here is =
    ap (λ (b : Bool). known + cond b 1 0) (sym here)
    ∙ ap (λ (n : ℕ). n + cond (is_watched s p) 1 0) is
    ∙ sym (counted_last (is_watched s) there p)

-- of one added publication it tells what is told of an addition
pub added_tells : (w : Watcher) (p : Publication) (there : List Publication) → w.ended ≡ false
    → Knows w.asked w there → Tells w.asked w (added w p) (additions w.asked there (p ∷ [])) (there ++ p ∷ [])
unfolding added
added_tells w p there lasts knows =
    let heard : concerns w p ≡ is_watched w.asked p = ap (λ b. not b && is_watched w.asked p) lasts in
    rw heard (by (is_watched w.asked p) (w.asked.filter == 1) refl refl)
  where
    by : (heard each : Bool) → is_watched w.asked p ≡ heard → (w.asked.filter == 1) ≡ each
        → Tells w.asked w
        (if not heard then after_addition w w.counts 0 []
        else (if each then after_addition w w.counts 1 (event_of 1 w.asked p ∷ [])
        else after_addition w (one_more w.counts (bounds_of p)) 1 (if count_at w.counts (bounds_of p) == 0 then event_of 1 w.asked p ∷ [] else [])))
        ((if heard && (each || not (list_any (is_same_range p) there)) then event_of 1 w.asked p ∷ [] else []) ++ [])
        (there ++ p ∷ [])
    by false each here is = record {
      events = refl;
      asked = refl;
      lasts = lasts;
      knows = record { known = known_last w.asked w.known there p false here knows.known; counts = λ e. counted_other w.asked w.counts there p here (knows.counts e) };
    }
    by true true here is = record {
      events = refl;
      asked = refl;
      lasts = lasts;
      knows = record { known = known_last w.asked w.known there p true here knows.known; counts = λ e. absurd (true≢false (sym is ∙ e)) };
    }
    by true false here is =
        let first = ap (λ n. n == 0) ((knows.counts is).counted p here) ∙ none_counted (is_same_range p) there in
        record {
          events = ap (λ (b : Bool). w.events ++ (if b then event_of 1 w.asked p ∷ [] else [])) first ∙ ap (λ (es : List Event). w.events ++ es) (sym (append-nil _));
          asked = refl;
          lasts = lasts;
          knows = record { known = known_last w.asked w.known there p true here knows.known; counts = λ e. counted_more w.asked w.counts there p here (knows.counts e) };
        }
