-- What subscribers were told behind one more entry: the lemmas on each subscription, and on all.
use Rattle.std.specs.Prelude.{◌==◌, count_by, max}
use Rattle.std.proofs.Common.{◌≡◌, ◌+◌, ◌<◌, ◌≤◌, ◌++◌, ◌∷◌, [], ℕ, Bool, true, false, not, ◌&&◌, List, Option, Some, None, cond, if◌then◌else◌, map, filter, fold, length, refl, sym, ap, subst, ◌∙◌, arith, append_assoc, true≢false, eqb-true}
use Rattle.std.specs.List.{AllByRecursion}
use Rattle.std.proofs.lemmas.Bool.Decides.{nat_tests}
use Rattle.std.proofs.lemmas.List.{append-nil, map-append}
use Rattle.std.proofs.lemmas.List.Elements.{recursion_from_All}
use Rattle.tipc_types.specs.declared.node_calls.Event.{Event}
use Rattle.tipc_types.specs.declared.node_calls.Subscription.{Subscription}
use Rattle.tipc_types.specs.declared.services.Publication.{Publication}
use Rattle.tipc_types.specs.Watching.{additions, in_order, is_same_range, is_watched, timeout_of}
use Rattle.tipc_types.specs.Tables.{put}
use Rattle.tipc_types.proofs.Places.{count_by-put}
use Rattle.tipc_journal.specs.declared.entries.Entry.{Entry}
use Rattle.tipc_journal.specs.declared.entries.Entry.TheVariants as entry
use Rattle.tipc_journal.specs.declared.entries.Entry.TheVariants.{Published, Withdrawn, Learned, Forgot, ContactDown}
use Rattle.tipc_journal.specs.Matches.{arranged}
use Rattle.tipc_journal.specs.Names.{live, learned, live_after, learned_after, table}
use Rattle.tipc_journal.specs.Refusals.{is_subscribed, subscriptions_made}
use Rattle.tipc_journal.specs.Subscriptions.{change_events as entry_events, events_at, subscriptions, subscriptions_after, ticks_after, ticks_since, timeout_events, told_by_entry as told_at, transitions, watching, watching_after}
use Rattle.tipc_journal.proofs.CountLaws.{subscriptions_made_more}
use Rattle.tipc_journal.proofs.NameLaws.{learned_more, live_more}
use Rattle.tipc_journal.proofs.SubscriptionLaws.{subscriptions_more, ticks_since_more, transitions_more, watching_more}
use Rattle.tipc_topology.specs.declared.changes.TableChange.{TableChange}
use Rattle.tipc_topology.specs.declared.changes.TableChange.TheVariants.{Added, Removed, Purged}
use Rattle.tipc_topology.specs.Changing.{as_told, cancelled, ended_at, has_number, subscribed, after_change, with_room_for, without_number, AreKept, Watchers}
use Rattle.tipc_sockets.specs.Entries.{change_of, events_where}
use Rattle.tipc_topology.specs.Transitions.{table_events, there_after, IsPossible, Knows}
use Rattle.tipc_topology.specs.Watchers.{began, blank, ended_now, with_room, Watcher}
use Rattle.tipc_topology.proofs.Keeping.{added_ended, added_leaves, all_added_leave, all_removed_ended, all_removed_leave, cancelled_kept, ended_kept, rising_from, room_kept, subscribed_kept, AreRising, Leaves}
use Rattle.tipc_topology.proofs.Following.{began_told, change_told}
use Rattle.tipc_topology.proofs.Kept.{began_takes, kept_as}
use Rattle.tipc_topology.proofs.Telling.{Tells}
use Rattle.tipc_sockets.specs.Watched.{asked_of, AreWatchersTold, IsLeft, IsWatcherTold, TellsNothing}
use Rattle.tipc_sockets.proofs.Closing.{eq_turned}
use Rattle.tipc_sockets.proofs.Counting.{counted}
use Rattle.tipc_sockets.proofs.Keeping.{eq_itself}

-- ---- entries

-- an entry that tells of a change has its events, and another has none
pub entry_change : (s : Subscription) (there : List Publication) (e : Entry) → entry_events s there e ≡ events_where s there (change_of there e)
entry_change s there (Published p) = refl
entry_change s there (Learned p) = refl
entry_change s there (Withdrawn p) = refl
entry_change s there (Forgot p) = refl
entry_change s there (ContactDown peer numbers states shown) = refl
entry_change s there _ = refl

-- ---- lists

pub all_map : {A B : Type 0} (P : A → Type 0) (Q : B → Type 0) (f : A → B) (xs : List A) → ((x : A) → P x → Q (f x)) → AllByRecursion P xs → AllByRecursion Q (map f xs)
all_map P Q f [] each h = tt
all_map P Q f (x ∷ xs) each h = (each x h.0, all_map P Q f xs each h.1)

pub all_each : {A : Type 0} (P Q : A → Type 0) (xs : List A) → ((x : A) → P x → Q x) → AllByRecursion P xs → AllByRecursion Q xs
all_each P Q [] each h = tt
all_each P Q (x ∷ xs) each h = (each x h.0, all_each P Q xs each h.1)

pub all_both : {A : Type 0} (P Q R : A → Type 0) (xs : List A) → ((x : A) → P x → Q x → R x) → AllByRecursion P xs → AllByRecursion Q xs → AllByRecursion R xs
all_both P Q R [] each h k = tt
all_both P Q R (x ∷ xs) each h k = (each x h.0 k.0, all_both P Q R xs each h.1 k.1)

all_last : {A : Type 0} (P : A → Type 0) (xs : List A) (x : A) → AllByRecursion P xs → P x → AllByRecursion P (xs ++ x ∷ [])
all_last P [] x h here = (here, tt)
all_last P (y ∷ ys) x h here = (h.0, all_last P ys x h.1 here)

-- numbers that stay are the same numbers
pub map_numbers : (f : Watcher → Watcher) (ws : List Watcher) → ((w : Watcher) → (f w).number ≡ w.number) → map (λ (w : Watcher). w.number) (map f ws) ≡ map (λ (w : Watcher). w.number) ws
map_numbers f [] same = refl
map_numbers f (w ∷ ws) same = (λ i. same w i ∷ map_numbers f ws same i)

-- ---- what one knows

-- each test is passed by as many of these as of those
abbrev pub SameCounts : List Publication → List Publication → Type 0
SameCounts ps qs = (test : Publication → Bool) → count_by test ps ≡ count_by test qs

counted_folded : (test : Publication → Bool) (acc ps : List Publication) → count_by test (fold (λ sorted p. put p sorted) acc ps) ≡ count_by test acc + count_by test ps
counted_folded test acc [] = omega arith
counted_folded test acc (p ∷ ps) =
    let later = counted_folded test (put p acc) ps in
    let more = count_by-put test p acc in
    let parts = counted test p ps in
    omega (arith, later, more, parts)

-- in order of node, port and key there are as many that pass
pub count_by_arranged : (test : Publication → Bool) (ps : List Publication) → count_by test (arranged ps) ≡ count_by test ps
unfolding arranged
count_by_arranged test ps = counted_folded test [] ps ∙ omega arith

knows_same : (s : Subscription) (w : Watcher) (ps qs : List Publication) → SameCounts ps qs → Knows s w ps → Knows s w qs
knows_same s w ps qs same h = record {
  known = h.known ∙ same (is_watched s);
  counts = λ e. let old = h.counts e in record { once = old.once; counted = λ p watched. old.counted p watched ∙ same (is_same_range p) };
}

-- ---- entries that change the table

-- an entry that neither makes, cancels nor ends a subscription, and begins no tick
pub record IsQuiet (e : Entry) : Type 0 where
  pub keeps : (n : ℕ) (before : Option Subscription) → watching_after n before e ≡ before
  pub ticks : (n before : ℕ) → ticks_after n before e ≡ before
  pub numbers : (ns : List ℕ) → subscriptions_after ns e ≡ ns
  pub plain : is_subscribed e ≡ false
  pub tells : (n : ℕ) (before : List Entry) → told_at n before e ≡ events_at (watching before n) (table before) e

asked_lasting : (w : Watcher) → w.ended ≡ false → asked_of w ≡ Some w.asked
asked_lasting w lasts = ap (λ b. if b then None else Some w.asked) lasts

asked_over : (w : Watcher) → w.ended ≡ true → asked_of w ≡ None
asked_over w over = ap (λ b. if b then None else Some w.asked) over

same_left : (s t : Subscription) (ticks later left less : ℕ) → t ≡ s → later ≡ ticks → less ≡ left → IsLeft s ticks left → IsLeft t later less
same_left s t ticks later left less asked passed stays h =
    subst (λ (a : Subscription). IsLeft a later less) (sym asked) (subst (λ (n : ℕ). IsLeft s n less) (sym passed) (subst (λ (n : ℕ). IsLeft s ticks n) (sym stays) h))

told_leaves : (c : TableChange) (w : Watcher) → Leaves w (after_change c w)
told_leaves (Added p) w = added_leaves w p
told_leaves (Removed p) w = all_removed_leave w (p ∷ [])
told_leaves (Purged ps) w = all_removed_leave w ps

-- one that ended is told of no change
told_over : (c : TableChange) (w : Watcher) → w.ended ≡ true → (after_change c w).events ≡ w.events
told_over (Added p) w over = ap (λ (v : Watcher). v.events) (added_ended w p over) ∙ append-nil w.events
told_over (Removed p) w over = ap (λ (v : Watcher). v.events) (all_removed_ended w (p ∷ []) over)
told_over (Purged ps) w over = ap (λ (v : Watcher). v.events) (all_removed_ended w ps over)

-- what a subscription was told of a change of the table is what the entry tells
pub watcher_changed : (entries : List Entry) (e : Entry) (c : TableChange) (n : ℕ) (given : List Event) (w : Watcher) → IsQuiet e
    → change_of (table entries) e ≡ Some c → IsPossible (table entries) c → SameCounts (there_after (table entries) c) (table (entries ++ e ∷ []))
    → IsWatcherTold entries n given w → IsWatcherTold (entries ++ e ∷ []) n given (after_change (as_told c) w)
watcher_changed entries e c n given w q is may same h = by w.ended refl
  where
    v : Watcher
    v = after_change (as_told c) w

    leaves : Leaves w v
    leaves = told_leaves (as_told c) w

    asked : watching (entries ++ e ∷ []) n ≡ asked_of v
    asked =
        watching_more entries e n ∙ q.keeps n (watching entries n) ∙ h.asked
        ∙ (λ i. if sym leaves.ended i then None else Some (sym leaves.asked i))

    left : w.ended ≡ false → IsLeft v.asked (ticks_since (entries ++ e ∷ []) n) v.left
    left lasts =
        same_left w.asked v.asked (ticks_since entries n) (ticks_since (entries ++ e ∷ []) n) w.left v.left leaves.asked
        (ticks_since_more entries e n ∙ q.ticks n (ticks_since entries n)) leaves.left (h.left lasts)

    by : (b : Bool) → w.ended ≡ b → IsWatcherTold (entries ++ e ∷ []) n given v
    by false lasts =
        let tells = change_told w.asked w c (table entries) refl lasts may (h.knows lasts) in
        let news : told_at n entries e ≡ table_events w.asked (table entries) c =
        q.tells n entries
        ∙ ap (λ (o : Option Subscription). events_at o (table entries) e) (h.asked ∙ asked_lasting w lasts)
        ∙ entry_change w.asked (table entries) e
        ∙ ap (λ (o : Option TableChange). events_where w.asked (table entries) o) is in
        record {
          asked = asked;
          events =
              transitions_more entries e n
              ∙ (λ i. h.events i ++ news i)
              ∙ append_assoc given w.events (table_events w.asked (table entries) c)
              ∙ ap (λ (es : List Event). given ++ es) (sym tells.events);
          knows = λ later. subst (λ (a : Subscription). Knows a v (table (entries ++ e ∷ []))) (sym leaves.asked) (knows_same w.asked v _ _ same tells.knows);
          left = λ later. left lasts;
        }
    by true over =
        let news : told_at n entries e ≡ [] =
        q.tells n entries ∙ ap (λ (o : Option Subscription). events_at o (table entries) e) (h.asked ∙ asked_over w over) in
        record {
          asked = asked;
          events =
              transitions_more entries e n
              ∙ (λ i. h.events i ++ news i)
              ∙ append-nil (given ++ w.events)
              ∙ ap (λ (es : List Event). given ++ es) (sym (told_over (as_told c) w over));
          knows = λ later. absurd (true≢false (sym (leaves.ended ∙ over) ∙ later));
          left = λ later. absurd (true≢false (sym (leaves.ended ∙ over) ∙ later));
        }

-- ---- entries that tell a subscription nothing

-- the table and the ticks stay, and so does what this subscription asks for; it is told nothing
pub record IsSilent (entries : List Entry) (e : Entry) (n : ℕ) : Type 0 where
  pub keeps : watching_after n (watching entries n) e ≡ watching entries n
  pub tells : told_at n entries e ≡ []
  pub ticks : ticks_after n (ticks_since entries n) e ≡ ticks_since entries n
  pub own : (ps : List Publication) → live_after ps e ≡ ps
  pub theirs : (ps : List Publication) → learned_after ps e ≡ ps

same_table : (entries : List Entry) (e : Entry) → ((ps : List Publication) → live_after ps e ≡ ps) → ((ps : List Publication) → learned_after ps e ≡ ps) → table (entries ++ e ∷ []) ≡ table entries
same_table entries e own theirs = (λ i. (live_more entries e ∙ own (live entries)) i ++ (learned_more entries e ∙ theirs (learned entries)) i)

pub watcher_silent : (entries : List Entry) (e : Entry) (n : ℕ) (given : List Event) (w : Watcher) → IsSilent entries e n
    → IsWatcherTold entries n given w → IsWatcherTold (entries ++ e ∷ []) n given w
watcher_silent entries e n given w q h = record {
  asked = watching_more entries e n ∙ q.keeps ∙ h.asked;
  events = transitions_more entries e n ∙ (λ i. transitions entries n ++ q.tells i) ∙ append-nil (transitions entries n) ∙ h.events;
  knows = λ lasts. subst (λ (ps : List Publication). Knows w.asked w ps) (sym (same_table entries e q.own q.theirs)) (h.knows lasts);
  left = λ lasts. subst (λ (m : ℕ). IsLeft w.asked m w.left) (sym (ticks_since_more entries e n ∙ q.ticks)) (h.left lasts);
}

nothing_silent : (entries : List Entry) (e : Entry) (n : ℕ) (given : List Event) → watching_after n None e ≡ None → (watching entries n ≡ None → told_at n entries e ≡ [])
    → TellsNothing entries n given → TellsNothing (entries ++ e ∷ []) n given
nothing_silent entries e n given keeps quiet h = record {
  asked = watching_more entries e n ∙ ap (λ (o : Option Subscription). watching_after n o e) h.asked ∙ keeps;
  events = transitions_more entries e n ∙ (λ i. h.events i ++ quiet h.asked i);
  given = h.given;
}

-- ---- all subscriptions

-- the numbers stay, and each is told
pub told_mapped : (entries : List Entry) (given : ℕ → List Event) (t : Watchers) (f : Watcher → Watcher) (room : ℕ) (e : Entry) → AreWatchersTold entries given t
    → AreKept (kept_as t.made room (map f t.kept)) → is_subscribed e ≡ false → ((ns : List ℕ) → subscriptions_after ns e ≡ ns)
    → ((n : ℕ) → TellsNothing entries n (given n) → TellsNothing (entries ++ e ∷ []) n (given n))
    → ((w : Watcher) → IsWatcherTold entries w.number (given w.number) w → IsWatcherTold (entries ++ e ∷ []) w.number (given w.number) (f w))
    → ((w : Watcher) → (f w).number ≡ w.number) → AreWatchersTold (entries ++ e ∷ []) given (kept_as t.made room (map f t.kept))
told_mapped entries given t f room e h kept plain numbers unmade one same = record {
  kept = kept;
  made = h.made ∙ omega arith ∙ sym (subscriptions_made_more entries e ∙ ap (λ b. subscriptions_made entries + cond b 1 0) plain);
  numbers = map_numbers f t.kept same ∙ h.numbers ∙ sym (subscriptions_more entries e ∙ numbers (subscriptions entries));
  each = all_map _ _ f t.kept (λ w after_change. subst (λ (n : ℕ). IsWatcherTold (entries ++ e ∷ []) n (given n) (f w)) (sym (same w)) (one w after_change)) h.each;
  later = λ n above. unmade n (h.later n above);
}

-- an entry that changes the table
pub told_changed : (entries : List Entry) (given : ℕ → List Event) (t : Watchers) (f : Watcher → Watcher) (room : ℕ) (e : Entry) (c : TableChange)
    → AreWatchersTold entries given t → AreKept (kept_as t.made room (map f t.kept)) → ((w : Watcher) → f w ≡ after_change (as_told c) w) → IsQuiet e
    → change_of (table entries) e ≡ Some c → IsPossible (table entries) c → SameCounts (there_after (table entries) c) (table (entries ++ e ∷ []))
    → AreWatchersTold (entries ++ e ∷ []) given (kept_as t.made room (map f t.kept))
told_changed entries given t f room e c h kept told_as q is may same =
    told_mapped entries given t f room e h kept q.plain q.numbers
    (λ n. nothing_silent entries e n (given n) (q.keeps n None) (λ none. q.tells n entries ∙ ap (λ (o : Option Subscription). events_at o (table entries) e) none))
    (λ w after_change. subst (λ (v : Watcher). IsWatcherTold (entries ++ e ∷ []) w.number (given w.number) v) (sym (told_as w)) (watcher_changed entries e c w.number (given w.number) w q is may same after_change))
    (λ w. ap (λ (v : Watcher). v.number) (told_as w) ∙ (told_leaves (as_told c) w).number)

no_events : (o : Option Subscription) (there : List Publication) (e : Entry) → ((s : Subscription) → entry_events s there e ≡ []) → events_at o there e ≡ []
no_events None there e none = refl
no_events (Some s) there e none = none s

id_map : {A : Type 0} (xs : List A) → map (λ x. x) xs ≡ xs
id_map [] = refl
id_map (x ∷ xs) = ap (λ ys. x ∷ ys) (id_map xs)

-- an entry that changes neither the table nor the subscriptions
pub told_plainly : (entries : List Entry) (given : ℕ → List Event) (t : Watchers) (e : Entry) → AreWatchersTold entries given t → IsQuiet e
    → ((s : Subscription) → entry_events s (table entries) e ≡ []) → ((ps : List Publication) → live_after ps e ≡ ps) → ((ps : List Publication) → learned_after ps e ≡ ps)
    → AreWatchersTold (entries ++ e ∷ []) given t
told_plainly entries given t e h q none own theirs =
    subst (λ (ws : List Watcher). AreWatchersTold (entries ++ e ∷ []) given (kept_as t.made t.room ws)) (id_map t.kept)
    (told_mapped entries given t (λ w. w) t.room e h (subst (λ (ws : List Watcher). AreKept (kept_as t.made t.room ws)) (sym (id_map t.kept)) h.kept) q.plain q.numbers
    (λ n. nothing_silent entries e n (given n) (q.keeps n None) (λ unmade. silent n))
    (λ w after_change. watcher_silent entries e w.number (given w.number) w (record { keeps = q.keeps w.number _; tells = silent w.number; ticks = q.ticks w.number _; own = own; theirs = theirs }) after_change)
    (λ w. refl))
  where
    silent : (n : ℕ) → told_at n entries e ≡ []
    silent n = q.tells n entries ∙ no_events (watching entries n) (table entries) e none

-- more room tells nothing
pub told_roomed : (entries : List Entry) (given : ℕ → List Event) (n : ℕ) (t : Watchers) → AreWatchersTold entries given t → AreWatchersTold entries given (with_room_for n t)
unfolding with_room_for
told_roomed entries given n t h = roomed (room_kept n t h.kept)
  where
    each : (r : ℕ) (w : Watcher) (m : ℕ) (es : List Event) → IsWatcherTold entries m es w → IsWatcherTold entries m es (with_room r w)
    each r w m es told = record {
      asked = told.asked;
      events = told.events;
      knows = λ lasts. let old = told.knows lasts in record { known = old.known; counts = old.counts };
      left = told.left;
    }

    roomed : AreKept (with_room_for n t) → AreWatchersTold entries given (with_room_for n t)
    roomed kept = record {
      kept = kept;
      made = h.made;
      numbers = map_numbers (with_room (max t.room n)) t.kept (λ w. refl) ∙ h.numbers;
      each = all_map _ _ (with_room (max t.room n)) t.kept (λ w after_change. each (max t.room n) w w.number (given w.number) after_change) h.each;
      later = h.later;
    }

-- ---- a subscription is made

other_number : (n m : ℕ) → n < m → (m == n) ≡ false
other_number n m below = grind (arith, nat_tests)

-- the others are told nothing
other_subscribed : (entries : List Entry) (made n : ℕ) (asked : Subscription) → (made == n) ≡ false → IsSilent entries (entry.Subscribed made asked) n
other_subscribed entries made n asked other = record {
  keeps = ap (λ b. if b then Some asked else watching entries n) other;
  tells = ap (λ b. if b then additions asked [] (in_order (filter (is_watched asked) (table entries))) else []) other;
  ticks = ap (λ b. if b then 0 else ticks_since entries n) other;
  own = λ ps. refl;
  theirs = λ ps. refl;
}

-- a new subscription is told of what is there
new_told : (entries : List Entry) (n : ℕ) (asked : Subscription) (room : ℕ) (there : List Publication)
    → in_order (filter (is_watched asked) there) ≡ in_order (filter (is_watched asked) (table entries)) → TellsNothing entries n []
    → IsWatcherTold (entries ++ entry.Subscribed n asked ∷ []) n [] (began n asked room (in_order (filter (is_watched asked) there)))
new_told entries n asked room there order none =
    subst (λ (ps : List Publication). IsWatcherTold (entries ++ e ∷ []) n [] (began n asked room ps)) (sym order) (record {
      asked =
          watching_more entries e n
          ∙ ap (λ b. if b then Some asked else watching entries n) (eq_itself n)
          ∙ sym ((λ i. if tells.lasts i then None else Some (tells.asked i)));
      events =
          transitions_more entries e n
          ∙ (λ i. none.events i ++ (if eq_itself n i then additions asked [] ps else []))
          ∙ sym tells.events;
      knows = λ lasts. subst (λ (a : Subscription). Knows a v (table (entries ++ e ∷ []))) (sym tells.asked)
          (subst (λ (qs : List Publication). Knows asked v qs) (sym (same_table entries e (λ qs. refl) (λ qs. refl))) tells.knows);
      left = λ lasts.
          same_left asked v.asked 0 (ticks_since (entries ++ e ∷ []) n) (max asked.timeout 1) v.left tells.asked
          (ticks_since_more entries e n ∙ ap (λ b. if b then 0 else ticks_since entries n) (eq_itself n))
          (all_added_leave (blank n asked (length ps + room)) ps).left (λ limited. (omega arith, omega arith));
    })
  where
    e : Entry
    e = entry.Subscribed n asked

    ps : List Publication
    ps = in_order (filter (is_watched asked) (table entries))

    v : Watcher
    v = began n asked room ps

    tells : Tells asked (blank n asked (length ps + room)) v (additions asked [] ps) (table entries)
    tells = began_told n asked room (table entries)

pub told_subscribed : (entries : List Entry) (given : ℕ → List Event) (t : Watchers) (asked : Subscription) (there : List Publication) → AreWatchersTold entries given t
    → in_order (filter (is_watched asked) there) ≡ in_order (filter (is_watched asked) (table entries))
    → AreWatchersTold (entries ++ entry.Subscribed (t.made + 1) asked ∷ []) given (subscribed asked there t)
unfolding subscribed
told_subscribed entries given t asked there h order = more (subscribed_kept asked there t h.kept)
  where
    n : ℕ
    n = t.made + 1

    v : Watcher
    v = began n asked t.room (in_order (filter (is_watched asked) there))

    number : v.number ≡ n
    number = (began_takes n asked t.room (in_order (filter (is_watched asked) there))).0

    none : TellsNothing entries n (given n)
    none = h.later n (omega arith)

    new : IsWatcherTold (entries ++ entry.Subscribed n asked ∷ []) v.number (given v.number) v
    new =
        subst (λ (m : ℕ). IsWatcherTold (entries ++ entry.Subscribed n asked ∷ []) m (given m) v) (sym number)
        (subst (λ (es : List Event). IsWatcherTold (entries ++ entry.Subscribed n asked ∷ []) n es v) (sym none.given)
        (new_told entries n asked t.room there order (record { asked = none.asked; events = none.events; given = refl })))

    others : AllByRecursion (λ (w : Watcher). IsWatcherTold (entries ++ entry.Subscribed n asked ∷ []) w.number (given w.number) w) t.kept
    others = all_both (λ (w : Watcher). w.number ≤ t.made) (λ (w : Watcher). IsWatcherTold entries w.number (given w.number) w) _ t.kept
        (λ w below after_change. watcher_silent entries (entry.Subscribed n asked) w.number (given w.number) w (other_subscribed entries n w.number asked (other_number w.number n (omega (arith, below)))) after_change)
        (recursion_from_All (λ (w : Watcher). w.number ≤ t.made) t.kept h.kept.made) h.each

    later : (m : ℕ) → n < m → TellsNothing (entries ++ entry.Subscribed n asked ∷ []) m (given m)
    later m above =
        let other : (n == m) ≡ false = eq_turned n m ∙ other_number n m above in
        nothing_silent entries (entry.Subscribed n asked) m (given m) (ap (λ b. if b then Some asked else None) other)
        (λ unmade. (other_subscribed entries n m asked other).tells) (h.later m (omega (arith, above)))

    more : AreKept (subscribed asked there t) → AreWatchersTold (entries ++ entry.Subscribed n asked ∷ []) given (subscribed asked there t)
    more kept = record {
      kept = kept;
      made = ap (λ m. m + 1) h.made ∙ sym (subscriptions_made_more entries (entry.Subscribed n asked));
      numbers =
          map-append (λ (w : Watcher). w.number) t.kept (v ∷ [])
          ∙ (λ i. h.numbers i ++ number i ∷ [])
          ∙ sym (subscriptions_more entries (entry.Subscribed n asked));
      each = all_last _ t.kept v others new;
      later = later;
    }

-- ---- a subscription is cancelled

-- one of another number is told nothing
other_cancelled : (entries : List Entry) (number n : ℕ) → (number == n) ≡ false → IsSilent entries (entry.Cancelled number) n
other_cancelled entries number n other = record {
  keeps = ap (λ b. if b then None else watching entries n) other;
  tells = no_events (watching entries n) (table entries) (entry.Cancelled number) (λ s. refl);
  ticks = refl;
  own = λ ps. refl;
  theirs = λ ps. refl;
}

-- those that are left have other numbers
others_left : (number : ℕ) (P : Watcher → Type 0) (ws : List Watcher) → AreRising ws → AllByRecursion P ws
    → AllByRecursion (λ (w : Watcher). P w × ((number == w.number) ≡ false)) (without_number number ws)
others_left number P [] rising h = tt
others_left number P (w ∷ ws) rising h = by (has_number number w) refl (others_left number P ws rising.1 h.1)
  where
    by : (b : Bool) → has_number number w ≡ b → AllByRecursion (λ (v : Watcher). P v × ((number == v.number) ≡ false)) (without_number number ws)
        → AllByRecursion (λ (v : Watcher). P v × ((number == v.number) ≡ false)) (if b then ws else w ∷ without_number number ws)
    by true is later =
        let same : w.number ≡ number = eqb-true _ _ is in
        all_both (λ (v : Watcher). w.number < v.number) P _ ws
        (λ v above here. (here, eq_turned number v.number ∙ other_number number v.number (subst (λ (n : ℕ). n < v.number) same above))) rising.0 h.1
    by false is later = ((h.0, eq_turned number w.number ∙ is), later)

numbers_above : (number : ℕ) (ws : List Watcher) → AllByRecursion (λ (w : Watcher). number < w.number) ws
    → filter (λ n. not (n == number)) (map (λ (w : Watcher). w.number) ws) ≡ map (λ (w : Watcher). w.number) ws
numbers_above number [] above = refl
numbers_above number (w ∷ ws) above =
    let here : (w.number == number) ≡ false = other_number number w.number above.0 in
    (λ i. cond (not (here i)) (w.number ∷ numbers_above number ws above.1 i) (numbers_above number ws above.1 i))

numbers_left : (number : ℕ) (ws : List Watcher) → AreRising ws
    → map (λ (w : Watcher). w.number) (without_number number ws) ≡ filter (λ n. not (n == number)) (map (λ (w : Watcher). w.number) ws)
numbers_left number [] rising = refl
numbers_left number (w ∷ ws) rising = by (has_number number w) refl (numbers_left number ws rising.1)
  where
    by : (b : Bool) → has_number number w ≡ b → map (λ (v : Watcher). v.number) (without_number number ws) ≡ filter (λ n. not (n == number)) (map (λ (v : Watcher). v.number) ws)
        → map (λ (v : Watcher). v.number) (if b then ws else w ∷ without_number number ws)
        ≡ cond (not b) (w.number ∷ filter (λ n. not (n == number)) (map (λ (v : Watcher). v.number) ws)) (filter (λ n. not (n == number)) (map (λ (v : Watcher). v.number) ws))
    by true is later = sym (numbers_above number ws (subst (λ (n : ℕ). AllByRecursion (λ (v : Watcher). n < v.number) ws) (eqb-true w.number number is) rising.0))
    by false is later = ap (λ (ns : List ℕ). w.number ∷ ns) later

none_either : (b : Bool) → ◌≡◌ {A = Option Subscription} (if b then None else None) None
none_either true = refl
none_either false = refl

pub told_cancelled : (entries : List Entry) (given : ℕ → List Event) (t : Watchers) (number : ℕ) → AreWatchersTold entries given t
    → AreWatchersTold (entries ++ entry.Cancelled number ∷ []) given (cancelled number t)
told_cancelled entries given t number h =
    let rising = rising_from t.kept h.kept.rising in
    record {
      kept = cancelled_kept number t h.kept;
      made = h.made ∙ omega arith ∙ sym (subscriptions_made_more entries (entry.Cancelled number));
      numbers = numbers_left number t.kept rising ∙ ap (λ (ns : List ℕ). filter (λ n. not (n == number)) ns) h.numbers ∙ sym (subscriptions_more entries (entry.Cancelled number));
      each = all_each _ _ (without_number number t.kept)
          (λ w both. watcher_silent entries (entry.Cancelled number) w.number (given w.number) w (other_cancelled entries number w.number both.1) both.0)
          (others_left number (λ (w : Watcher). IsWatcherTold entries w.number (given w.number) w) t.kept rising h.each);
      later = λ n above. nothing_silent entries (entry.Cancelled number) n (given n) (none_either (number == n)) (λ unmade. no_events (watching entries n) (table entries) (entry.Cancelled number) (λ s. refl)) (h.later n above);
    }

-- ---- a subscription times out

abbrev end_if : ℕ → Watcher → Watcher
end_if number w = if has_number number w && not w.ended then ended_now w else w

other_ended : (entries : List Entry) (number n : ℕ) → (number == n) ≡ false → IsSilent entries (entry.TimedOut number) n
other_ended entries number n other = record {
  keeps = ap (λ b. if b then None else watching entries n) other;
  tells = ap (λ b. if b then timeout_events (watching entries n) else []) other;
  ticks = refl;
  own = λ ps. refl;
  theirs = λ ps. refl;
}

-- one that ended before is told nothing
twice_ended : (entries : List Entry) (number n : ℕ) → watching entries n ≡ None → IsSilent entries (entry.TimedOut number) n
twice_ended entries number n over = record {
  keeps = ap (λ (o : Option Subscription). if number == n then None else o) over ∙ none_either (number == n) ∙ sym over;
  tells = ap (λ (o : Option Subscription). if number == n then timeout_events o else []) over ∙ none (number == n);
  ticks = refl;
  own = λ ps. refl;
  theirs = λ ps. refl;
}
  where
    none : (b : Bool) → ◌≡◌ {A = List Event} (if b then [] else []) []
    none true = refl
    none false = refl

watcher_ended : (entries : List Entry) (number : ℕ) (given : List Event) (w : Watcher) → IsWatcherTold entries w.number given w
    → IsWatcherTold (entries ++ entry.TimedOut number ∷ []) w.number given (end_if number w)
watcher_ended entries number given w h = by (has_number number w) refl w.ended refl
  where
    e : Entry
    e = entry.TimedOut number

    by : (b : Bool) → has_number number w ≡ b → (c : Bool) → w.ended ≡ c → IsWatcherTold (entries ++ e ∷ []) w.number given (if b && not w.ended then ended_now w else w)
    by false is c over = watcher_silent entries e w.number given w (other_ended entries number w.number (eq_turned number w.number ∙ is)) h
    by true is true over =
        subst (λ (d : Bool). IsWatcherTold (entries ++ e ∷ []) w.number given (if not d then ended_now w else w)) (sym over)
        (watcher_silent entries e w.number given w (twice_ended entries number w.number (h.asked ∙ asked_over w over)) h)
    by true is false lasts =
        let here : (number == w.number) ≡ true = eq_turned number w.number ∙ is in
        subst (λ (d : Bool). IsWatcherTold (entries ++ e ∷ []) w.number given (if not d then ended_now w else w)) (sym lasts) (record {
          asked = watching_more entries e w.number ∙ ap (λ b. if b then None else watching entries w.number) here;
          events =
              transitions_more entries e w.number
              ∙ (λ i. h.events i ++ (if here i then timeout_events ((h.asked ∙ asked_lasting w lasts) i) else []))
              ∙ append_assoc given w.events (timeout_of w.asked ∷ []);
          knows = λ later. absurd (true≢false later);
          left = λ later. absurd (true≢false later);
        })

pub told_ended : (entries : List Entry) (given : ℕ → List Event) (t : Watchers) (number : ℕ) → AreWatchersTold entries given t
    → AreWatchersTold (entries ++ entry.TimedOut number ∷ []) given (ended_at number t)
told_ended entries given t number h =
    told_mapped entries given t (end_if number) t.room (entry.TimedOut number) h (ended_kept number t h.kept) refl (λ ns. refl)
    (λ n nothing. nothing_silent entries (entry.TimedOut number) n (given n) (none_either (number == n)) (λ unmade. (twice_ended entries number n unmade).tells) nothing)
    (λ w after_change. watcher_ended entries number (given w.number) w after_change)
    (λ w. numbered (has_number number w && not w.ended) w)
  where
    numbered : (b : Bool) (w : Watcher) → (if b then ended_now w else w).number ≡ w.number
    numbered true w = refl
    numbered false w = refl
