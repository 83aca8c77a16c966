-- A subscription's events over several changes are its transitions.
use Rattle.std.specs.Prelude.{count_by}
use Rattle.std.proofs.Common.{◌≡◌, ◌+◌, ◌++◌, ◌∷◌, [], ℕ, Bool, true, false, List, cond, if◌then◌else◌, filter, fold, length, refl, sym, ap, subst, ◌∙◌, arith, true≢false, append_assoc}
use Rattle.std.proofs.lemmas.List.{append-nil}
use Rattle.std.proofs.lemmas.List.Sums.{sum_by-cons}
use Rattle.tipc_types.specs.declared.node_calls.Event.{Event}
use Rattle.tipc_types.specs.declared.node_calls.Subscription.{Subscription}
use Rattle.tipc_types.specs.declared.services.Publication.{Publication}
use Rattle.tipc_types.specs.Watching.{additions, in_order, is_before, is_same_range, is_watched, placed, removals}
use Rattle.tipc_topology.specs.declared.changes.TableChange.{TableChange}
use Rattle.tipc_topology.specs.declared.changes.TableChange.TheVariants.{Added, Removed, Purged}
use Rattle.tipc_topology.specs.Watchers.{added, began, blank, removed, Watcher}
use Rattle.tipc_topology.specs.Changing.{as_told, after_change}
use Rattle.tipc_topology.specs.Transitions.{table_events, events_of_changes, left_by, there_after, told_all, transitions, AreRemovable, ArePossible, IsPossible, Knows}
use Rattle.tipc_topology.proofs.Removing.{removed_tells}
use Rattle.tipc_topology.proofs.Telling.{added_tells, same_watched, Tells}

-- ---- several publications

-- nothing is told of nothing
nothing : (s : Subscription) (w : Watcher) (there : List Publication) → w.asked ≡ s → w.ended ≡ false → Knows s w there
    → Tells s w w [] there
nothing s w there asked lasts knows = record { events = sym (append-nil w.events); asked = asked; lasts = lasts; knows = knows }

-- what is told first, and what is told then
joined : (s : Subscription) (w v u : Watcher) (first next : List Event) (there after : List Publication) → Tells s w v first there → Tells s v u next after
    → Tells s w u (first ++ next) after
joined s w v u first next there after h k =
    record {
      events = k.events ∙ ap (λ (es : List Event). es ++ next) h.events ∙ append_assoc w.events first next;
      asked = k.asked;
      lasts = k.lasts;
      knows = k.knows;
    }

-- one added publication
one_added : (s : Subscription) (w : Watcher) (p : Publication) (there : List Publication) → w.asked ≡ s → w.ended ≡ false
    → Knows s w there → Tells s w (added w p) (additions s there (p ∷ [])) (there ++ p ∷ [])
one_added s w p there asked lasts knows =
    subst (λ (a : Subscription). Knows a w there → Tells a w (added w p) (additions a there (p ∷ [])) (there ++ p ∷ []))
    asked (added_tells w p there lasts) knows

-- one removed publication
one_removed : (s : Subscription) (w : Watcher) (p : Publication) (there : List Publication) → w.asked ≡ s → w.ended ≡ false
    → AreRemovable there (p ∷ []) → Knows s w there
    → Tells s w (removed w p) (removals s there (p ∷ [])) (left_by there p)
one_removed s w p there asked lasts alone knows =
    subst (λ (a : Subscription). Knows a w there → Tells a w (removed w p) (removals a there (p ∷ [])) (left_by there p))
    asked (removed_tells w p there lasts alone.0) knows

-- several added ones
all_added : (s : Subscription) (w : Watcher) (ps there : List Publication) → w.asked ≡ s → w.ended ≡ false
    → Knows s w there → Tells s w (fold added w ps) (additions s there ps) (there ++ ps)
all_added s w [] there asked lasts knows =
    subst (λ (ps : List Publication). Tells s w w [] ps) (sym (append-nil there)) (nothing s w there asked lasts knows)
all_added s w (p ∷ ps) there asked lasts knows =
    let one = one_added s w p there asked lasts knows in
    let more = all_added s (added w p) ps (there ++ p ∷ []) one.asked one.lasts one.knows in
    subst (λ (es : List Event). Tells s w (fold added w (p ∷ ps)) (es ++ additions s (there ++ p ∷ []) ps) (there ++ p ∷ ps)) (append-nil _)
    (subst (λ (qs : List Publication). Tells s w (fold added w (p ∷ ps)) (additions s there (p ∷ []) ++ additions s (there ++ p ∷ []) ps) qs)
    (append_assoc there (p ∷ []) ps) (joined s w (added w p) (fold added (added w p) ps) _ _ _ _ one more))

-- several removed ones
all_removed : (s : Subscription) (w : Watcher) (ps there : List Publication) → w.asked ≡ s → w.ended ≡ false → AreRemovable there ps
    → Knows s w there → Tells s w (fold removed w ps) (removals s there ps) (fold left_by there ps)
all_removed s w [] there asked lasts alone knows = nothing s w there asked lasts knows
all_removed s w (p ∷ ps) there asked lasts alone knows =
    let one = one_removed s w p there asked lasts (alone.0, tt) knows in
    let more = all_removed s (removed w p) ps (left_by there p) one.asked one.lasts alone.1 one.knows in
    subst (λ (es : List Event). Tells s w (fold removed w (p ∷ ps)) (es ++ removals s (left_by there p) ps) (fold left_by there (p ∷ ps))) (append-nil _)
    (joined s w (removed w p) (fold removed (removed w p) ps) _ _ _ _ one more)

-- ---- changes

-- one change
pub change_told : (s : Subscription) (w : Watcher) (c : TableChange) (there : List Publication) → w.asked ≡ s → w.ended ≡ false → IsPossible there c
    → Knows s w there → Tells s w (after_change (as_told c) w) (table_events s there c) (there_after there c)
change_told s w (Added p) there asked lasts may knows = one_added s w p there asked lasts knows
change_told s w (Removed p) there asked lasts may knows = one_removed s w p there asked lasts may knows
change_told s w (Purged ps) there asked lasts may knows = all_removed s w (in_order ps) there asked lasts may knows

-- several changes
changes_told : (s : Subscription) (w : Watcher) (cs : List TableChange) (there : List Publication) → w.asked ≡ s → w.ended ≡ false → ArePossible there cs
    → Knows s w there → (told_all w cs).events ≡ w.events ++ events_of_changes s there cs
changes_told s w [] there asked lasts may knows = sym (append-nil w.events)
changes_told s w (c ∷ cs) there asked lasts may knows =
    let one = change_told s w c there asked lasts may.0 knows in
    changes_told s (after_change (as_told c) w) cs (there_after there c) one.asked one.lasts may.1 one.knows
    ∙ ap (λ (es : List Event). es ++ events_of_changes s (there_after there c) cs) one.events
    ∙ append_assoc w.events (table_events s there c) (events_of_changes s (there_after there c) cs)

-- ---- publications in order

-- one that is put in its place is counted
count_placed : (test : Publication → Bool) (p : Publication) (qs : List Publication) → count_by test (placed p qs) ≡ cond (test p) 1 0 + count_by test qs
count_placed test p [] = sum_by-cons (λ x. cond (test x) 1 0) p []
count_placed test p (q ∷ qs) = by (is_before q p) (count_placed test p qs)
  where
    by : (b : Bool) → count_by test (placed p qs) ≡ cond (test p) 1 0 + count_by test qs
        → count_by test (if b then q ∷ placed p qs else p ∷ q ∷ qs) ≡ cond (test p) 1 0 + count_by test (q ∷ qs)
    by true later = rw (sum_by-cons (λ x. cond (test x) 1 0) q (placed p qs), sum_by-cons (λ x. cond (test x) 1 0) q qs) (omega (arith, later))
    by false later = sum_by-cons (λ x. cond (test x) 1 0) p (q ∷ qs)

count_all_placed : (test : Publication → Bool) (ps so_far : List Publication)
    → count_by test (fold (λ sorted p. placed p sorted) so_far ps) ≡ count_by test so_far + count_by test ps
count_all_placed test [] so_far = omega arith
count_all_placed test (p ∷ ps) so_far =
    let one = count_placed test p so_far in
    let more = count_all_placed test ps (placed p so_far) in
    rw (sum_by-cons (λ x. cond (test x) 1 0) p ps) (omega (arith, one, more))

-- in order there are as many that pass
pub count_in_order : (test : Publication → Bool) (ps : List Publication) → count_by test (in_order ps) ≡ count_by test ps
unfolding in_order
count_in_order test ps = count_all_placed test ps [] ∙ omega arith

-- all that pass are among those of a kind, where each that passes is of it
count_among : (test kind : Publication → Bool) (ps : List Publication) → ((p : Publication) → test p ≡ true → kind p ≡ true)
    → count_by test (filter kind ps) ≡ count_by test ps
count_among test kind [] all = refl
count_among test kind (p ∷ ps) all = rw (sum_by-cons (λ x. cond (test x) 1 0) p ps) (by (kind p) refl (test p) refl (count_among test kind ps all))
  where
    by : (b : Bool) → kind p ≡ b → (t : Bool) → test p ≡ t → count_by test (filter kind ps) ≡ count_by test ps
        → count_by test (cond b (p ∷ filter kind ps) (filter kind ps)) ≡ cond (test p) 1 0 + count_by test ps
    by true is t here later = rw (sum_by-cons (λ x. cond (test x) 1 0) p (filter kind ps)) (omega (arith, later))
    by false is true here later = absurd (true≢false (sym (all p here) ∙ is))
    by false is false here later = later ∙ rw here (omega arith)

-- ---- from the beginning

-- what a new subscription was told, and what it knows of those that are there
pub began_told : (number : ℕ) (s : Subscription) (room : ℕ) (there : List Publication)
    → Tells s (blank number s (length (in_order (filter (is_watched s) there)) + room)) (began number s room (in_order (filter (is_watched s) there)))
    (additions s [] (in_order (filter (is_watched s) there))) there
began_told number s room there =
    let ps = in_order (filter (is_watched s) there) in
    let none : Knows s (blank number s (length ps + room)) [] = record { known = refl; counts = λ e. record { once = tt; counted = λ p watched. refl } } in
    let first = all_added s (blank number s (length ps + room)) ps [] refl refl none in
    record {
      events = first.events;
      asked = first.asked;
      lasts = first.lasts;
      knows = record {
        known =
            first.knows.known ∙ count_in_order (is_watched s) (filter (is_watched s) there)
            ∙ count_among (is_watched s) (is_watched s) there (λ q is. is);
        counts = λ e.
            let known = first.knows.counts e in
            record {
              once = known.once;
              counted = λ p watched.
                  known.counted p watched ∙ count_in_order (is_same_range p) (filter (is_watched s) there)
                  ∙ count_among (is_same_range p) (is_watched s) there (λ q same. same_watched s p q same watched);
            };
      };
    }

-- A subscription's events are its transitions, as far as none was taken.
pub transitions_told : (number : ℕ) (s : Subscription) (room : ℕ) (there : List Publication) (cs : List TableChange)
    → ArePossible there cs → (told_all (began number s room (in_order (filter (is_watched s) there))) cs).events ≡ transitions s there cs
transitions_told number s room there cs may =
    let first = began_told number s room there in
    changes_told s (began number s room (in_order (filter (is_watched s) there))) cs there first.asked first.lasts may first.knows
    ∙ ap (λ (es : List Event). es ++ events_of_changes s there cs) first.events
