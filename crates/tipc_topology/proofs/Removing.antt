-- What a subscription is told where a publication is removed.
use Rattle.std.specs.Prelude.{◌==◌, ◌&&◌, ◌||◌, count_by, nat_le, nat_lt, not, unwrap_or}
use Rattle.std.proofs.Common.{◌≡◌, ◌+◌, ◌-◌, ◌≤◌, ◌++◌, ◌∷◌, [], ℕ, Bool, true, false, List, Option, Some, None, cond, if◌then◌else◌, filter, refl, sym, ap, subst, ◌∙◌, arith, true≢false}
use Rattle.std.specs.List.{list_any}
use Rattle.std.specs.Map.{lookup, remove_entry, set_value}
use Rattle.std.proofs.lemmas.Bool.Decides.{nat_tests}
use Rattle.std.proofs.lemmas.List.{append-nil}
use Rattle.std.proofs.lemmas.List.Sums.{sum_by-cons}
use Rattle.tipc_types.specs.declared.node_calls.Event.{Event}
use Rattle.tipc_types.specs.declared.node_calls.Subscription.{Subscription}
use Rattle.tipc_types.specs.declared.services.Publication.{Publication}
use Rattle.tipc_types.specs.Watching.{event_of, is_same_name, is_same_range, is_watched, removals}
use Rattle.tipc_topology.specs.Watchers.{after_removal, bounds_eq, bounds_of, count_at, loses, one_fewer, removed, Counts, Watcher}
use Rattle.tipc_topology.specs.Transitions.{left_by, IsCounted, Knows}
use Rattle.tipc_topology.proofs.Counts.{bounds_same, count_parted, lookup_fewer, lookup_more, none_counted, once_fewer, once_more, set_as_insert}
use Rattle.tipc_topology.proofs.Telling.{other_range, own_range, same_bounds, Tells}

-- all that pass are the one that is removed, where it does, and those that are left
pub counted_left : (test : Publication → Bool) (there : List Publication) (p : Publication) → filter (is_same_name p) there ≡ p ∷ []
    → count_by test there ≡ cond (test p) 1 0 + count_by test (left_by there p)
counted_left test there p alone =
    count_parted test (is_same_name p) there
    ∙ ap (λ (ps : List Publication). count_by test ps + count_by test (left_by there p)) alone
    ∙ ap (λ (n : ℕ). n + count_by test (left_by there p)) (sum_by-cons (λ x. cond (test x) 1 0) p [] ∙ omega arith)

-- the counts know of the others where one that isn't watched is removed
counted_unwatched : (s : Subscription) (counts : Counts) (there : List Publication) (p : Publication) → filter (is_same_name p) there ≡ p ∷ []
    → is_watched s p ≡ false → IsCounted s counts there → IsCounted s counts (left_by there p)
counted_unwatched s counts there p alone unwatched h =
    record {
      once = h.once;
      counted = λ q watched.
          let other = other_range s q p watched unwatched in
          let left : count_by (is_same_range q) there ≡ 0 + count_by (is_same_range q) (left_by there p) =
          counted_left (is_same_range q) there p alone ∙ ap (λ b. cond b 1 0 + count_by (is_same_range q) (left_by there p)) other in
          h.counted q watched ∙ left ∙ omega arith;
    }

-- and where one is removed that is
counted_fewer : (s : Subscription) (counts : Counts) (there : List Publication) (p : Publication) → filter (is_same_name p) there ≡ p ∷ []
    → is_watched s p ≡ true → IsCounted s counts there → IsCounted s (one_fewer counts (bounds_of p)) (left_by there p)
counted_fewer s counts there p alone heard h = by (nat_le (count_at counts (bounds_of p)) 1) refl
  where
    left : (q : Publication) → is_watched s q ≡ true → (same : Bool) → bounds_eq (bounds_of q) (bounds_of p) ≡ same
        → count_at counts (bounds_of q) ≡ cond same 1 0 + count_by (is_same_range q) (left_by there p)
    left q watched same is =
        h.counted q watched ∙ counted_left (is_same_range q) there p alone
        ∙ ap (λ b. cond b 1 0 + count_by (is_same_range q) (left_by there p)) (same_bounds s q p watched heard ∙ is)

    last : nat_le (count_at counts (bounds_of p)) 1 ≡ true → (q : Publication) → is_watched s q ≡ true → (same : Bool) → bounds_eq (bounds_of q) (bounds_of p) ≡ same
        → unwrap_or (cond same None (lookup (bounds_eq (bounds_of q)) counts)) 0 ≡ count_by (is_same_range q) (left_by there p)
    last le q watched true is =
        let here = left q watched true is in
        let same = ap (λ a. count_at counts a) (bounds_same (bounds_of q) (bounds_of p) is) in
        let most : count_at counts (bounds_of p) ≤ 1 = grind (arith, nat_tests) in
        omega (arith, here, same, most)
    last le q watched false is = let here = left q watched false is in omega (arith, here)

    later : (q : Publication) → is_watched s q ≡ true → (same : Bool) → bounds_eq (bounds_of q) (bounds_of p) ≡ same
        → unwrap_or (cond same (Some (count_at counts (bounds_of p) - 1)) (lookup (bounds_eq (bounds_of q)) counts)) 0 ≡ count_by (is_same_range q) (left_by there p)
    later q watched true is =
        let here = left q watched true is in
        let same = ap (λ a. count_at counts a) (bounds_same (bounds_of q) (bounds_of p) is) in
        omega (arith, here, same)
    later q watched false is = let here = left q watched false is in omega (arith, here)

    by : (b : Bool) → nat_le (count_at counts (bounds_of p)) 1 ≡ b
        → IsCounted s (if b then remove_entry (bounds_eq (bounds_of p)) counts else set_value (bounds_eq (bounds_of p)) counts (count_at counts (bounds_of p) - 1)) (left_by there p)
    by true le =
        record {
          once = once_fewer (bounds_of p) counts h.once;
          counted = λ q watched.
              ap (λ (o : Option ℕ). unwrap_or o 0) (lookup_fewer (bounds_of q) (bounds_of p) counts h.once)
              ∙ last le q watched (bounds_eq (bounds_of q) (bounds_of p)) refl;
        }
    by false le = subst (λ (es : Counts). IsCounted s es (left_by there p)) (sym (set_as_insert (bounds_of p) (count_at counts (bounds_of p) - 1) counts le))
        (record {
          once = once_more (bounds_of p) (count_at counts (bounds_of p) - 1) counts h.once;
          counted = λ q watched.
              ap (λ (o : Option ℕ). unwrap_or o 0) (lookup_more (bounds_of q) (bounds_of p) (count_at counts (bounds_of p) - 1) counts)
              ∙ later q watched (bounds_eq (bounds_of q) (bounds_of p)) refl;
        })

-- at most one of a range is there where none is left
last_left : (n : ℕ) → nat_le (1 + n) 1 ≡ (n == 0)
last_left n = grind (arith, nat_tests)

-- one fewer is known of where it is watched
known_left : (s : Subscription) (known : ℕ) (there : List Publication) (p : Publication) → filter (is_same_name p) there ≡ p ∷ []
    → known ≡ count_by (is_watched s) there → known ≡ cond (is_watched s p) 1 0 + count_by (is_watched s) (left_by there p)
known_left s known there p alone is = is ∙ counted_left (is_watched s) there p alone

-- of one removed publication it tells what is told of a removal
pub removed_tells : (w : Watcher) (p : Publication) (there : List Publication) → w.ended ≡ false → filter (is_same_name p) there ≡ p ∷ []
    → Knows w.asked w there → Tells w.asked w (removed w p) (removals w.asked there (p ∷ [])) (left_by there p)
unfolding removed
removed_tells w p there lasts alone knows = rw heard (by (is_watched w.asked p) (w.asked.filter == 1) refl refl)
  where
    left : ℕ
    left = count_by (is_watched w.asked) (left_by there p)

    known : w.known ≡ cond (is_watched w.asked p) 1 0 + left
    known = known_left w.asked w.known there p alone knows.known

    positive : (n m : ℕ) → n ≡ 1 + m → nat_lt 0 n ≡ true
    positive n m e = grind (arith, nat_tests)

    counted : is_watched w.asked p ≡ true → (w.asked.filter == 1) ≡ false → count_at w.counts (bounds_of p) ≡ 1 + count_by (is_same_range p) (left_by there p)
    counted here is =
        (knows.counts is).counted p here ∙ counted_left (is_same_range p) there p alone
        ∙ ap (λ b. cond b 1 0 + count_by (is_same_range p) (left_by there p)) (own_range p)

    some : (watched each : Bool) → is_watched w.asked p ≡ watched → (w.asked.filter == 1) ≡ each
        → watched && (if each then nat_lt 0 w.known else nat_lt 0 (count_at w.counts (bounds_of p))) ≡ watched
    some true true here is = positive w.known left (known ∙ ap (λ b. cond b 1 0 + left) here)
    some true false here is = positive (count_at w.counts (bounds_of p)) (count_by (is_same_range p) (left_by there p)) (counted here is)
    some false each here is = refl

    heard : loses w p ≡ is_watched w.asked p
    heard =
        ap (λ b. (not b && is_watched w.asked p) && (if w.asked.filter == 1 then nat_lt 0 w.known else nat_lt 0 (count_at w.counts (bounds_of p)))) lasts
        ∙ some (is_watched w.asked p) (w.asked.filter == 1) refl refl

    fewer : is_watched w.asked p ≡ true → w.known - 1 ≡ left
    fewer here = let all = known ∙ ap (λ b. cond b 1 0 + left) here in omega (arith, all)

    same : is_watched w.asked p ≡ false → w.known ≡ left
    same here = let all = known ∙ ap (λ b. cond b 1 0 + left) here in omega (arith, all)

    by : (heard each : Bool) → is_watched w.asked p ≡ heard → (w.asked.filter == 1) ≡ each
        → Tells w.asked w
        (if not heard then w
        else (if each then after_removal w w.counts (event_of 2 w.asked p ∷ [])
        else after_removal w (one_fewer w.counts (bounds_of p)) (if nat_le (count_at w.counts (bounds_of p)) 1 then event_of 2 w.asked p ∷ [] else [])))
        ((if heard && (each || not (list_any (is_same_range p) (left_by there p))) then event_of 2 w.asked p ∷ [] else []) ++ [])
        (left_by there p)
    by false each here is = record {
      events = sym (append-nil w.events);
      asked = refl;
      lasts = lasts;
      knows = record { known = same here; counts = λ e. counted_unwatched w.asked w.counts there p alone here (knows.counts e) };
    }
    by true true here is = record {
      events = refl;
      asked = refl;
      lasts = lasts;
      knows = record { known = fewer here; counts = λ e. absurd (true≢false (sym is ∙ e)) };
    }
    by true false here is =
        let n = count_by (is_same_range p) (left_by there p) in
        let one : count_at w.counts (bounds_of p) ≡ 1 + n = counted here is in
        let last = ap (λ m. nat_le m 1) one ∙ last_left n ∙ none_counted (is_same_range p) (left_by there p) in
        record {
          events = ap (λ (b : Bool). w.events ++ (if b then event_of 2 w.asked p ∷ [] else [])) last ∙ ap (λ (es : List Event). w.events ++ es) (sym (append-nil _));
          asked = refl;
          lasts = lasts;
          knows = record { known = fewer here; counts = λ e. counted_fewer w.asked w.counts there p alone here (knows.counts e) };
        }
