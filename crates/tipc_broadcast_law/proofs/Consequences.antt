-- What follows of what is always true.
use Rattle.std.proofs.Common.{◌≡◌, ℕ, ◌+◌, ◌-◌, ◌<◌, ◌≤◌, ◌==◌, Bool, true, false, cond, List, [], ◌∷◌, ◌++◌, length, take, drop, map, filter, get_or, slice_get, Some, None, refl, sym, ap, ◌∙◌, subst, length-drop, length-take, inl, inr, eqb-true, arith}
use Rattle.std.specs.Prelude.{All}
use Rattle.std.proofs.lemmas.Bool.Decides.{nat_tests}
use Rattle.std.proofs.lemmas.List.{get_or-drop, get_or-take, map-append, take-append-drop}
use Rattle.std.proofs.lemmas.List.Elements.{All-from_get_or, All-head, All-tail, filter-append}
use Rattle.std.proofs.lemmas.Option.{same_Some, slice_get-get_or}
use Rattle.tipc_types.specs.Limits.{window_size}
use Rattle.tipc_types.specs.Prefixes.{IsPrefixOf}
use Rattle.tipc_broadcast_law.specs.Groups.{Accepted, accepted_for, Caster, Group, is_contact, mark, mark_in, Member, numbered_now, packets, place, queue}
use Rattle.tipc_broadcast_law.specs.Events.{accepting_entry, IsBegin, IsNewMember, Runs}
use Rattle.tipc_broadcast_law.specs.Law.{IsGroup, Keeps}
use Rattle.tipc_broadcast_law.specs.Promises.{IsNear, ReleasesInOrder}
use Rattle.tipc_broadcast_law.proofs.CasterEvents.{run_keeps}
use Rattle.tipc_broadcast_law.proofs.MemberEvents.{place-begun, place-want}
use Rattle.tipc_broadcast_law.proofs.Places.{mark-none, same_or_not}

-- ---- the begin

begin_keeps : (a : Caster) (m : ℕ) (k : Member) → ((f : ℕ) → a.line f ≡ []) → IsNewMember k → Keeps a m k
begin_keeps a m k empty new =
    let nothing : (f c x : ℕ) → mark (a.line f) m x ≡ Some c → ⊥ = λ f c x e. mark-none m c x (subst (λ l. mark l m x ≡ Some c) (empty f) e) in
    let out_of : (c : ℕ) → k.joined ≡ Some c → ⊥ = λ c e. let clash : None ≡ Some c = sym new.joined ∙ e in cc in
    let unbegun : (c s : ℕ) → k.begun c ≡ Some s → ⊥ = λ c s e. let clash : None ≡ Some s = sym (new.begun c) ∙ e in cc in
    let unwanted : (c w : ℕ) → k.want c ≡ Some w → ⊥ = λ c w e. let clash : None ≡ Some w = sym (new.want c) ∙ e in cc in
    let away : (c : ℕ) → k.at ≡ Some c → ⊥ = λ c e. let clash : None ≡ Some c = sym new.at ∙ e in cc in
    record {
      begun_boot = λ c s e. absurd (unbegun c s e);
      begun_within = λ c s e. absurd (unbegun c s e);
      joined_boot = λ c e. absurd (out_of c e);
      joined_begun = λ c e. absurd (out_of c e);
      joined_last = λ c d s e b. absurd (out_of c e);
      want_begun = λ c w e. absurd (unwanted c w e);
      want_last = λ c w e. absurd (unwanted c w e);
      at_boot = λ c e. absurd (away c e);
      at_last = λ c e. absurd (away c e);
      starts = λ c d s x lt e boots mk. absurd (unbegun d s e);
      mark_boot = λ f c x e. absurd (nothing f c x e);
      mark_begun = λ f c x e. absurd (nothing f c x e);
      run = λ f c x y s e b low high. absurd (nothing f c x e);
      all = λ c s x e b low high. absurd (out_of c e);
      young = λ c d s e b. absurd (away c e);
      want_from = λ c w s e b. absurd (unwanted c w e);
      want_numbered = λ c w s e b lt. absurd (unwanted c w e);
      took_own = λ c w s x e b low high. absurd (unwanted c w e);
      took = λ c w s e b. absurd (unwanted c w e);
      took_none = λ c e. new.out c;
      acked_from = λ c s e b. absurd (out_of c e);
      acked_place = λ c e. absurd (out_of c e);
      numbered_near = λ c e. absurd (out_of c e);
      mark_near = λ c x e. absurd (nothing (k.boots c) c x e);
      joined_near = λ c e. absurd (out_of c e);
      place_near = λ c s e. absurd (unbegun c s e);
    }

pub begins_sound : (g : Group) → IsBegin g → IsGroup g
begins_sound g h = record {
  counted = λ f. omega (arith, h.numbered f);
  waiting = λ f. omega (arith, ap length (h.line f), h.numbered f);
  each = λ m. begin_keeps g.caster m (g.members m) h.line (h.members m);
}

-- ---- what a member takes is a front of what was accepted for it

abbrev pub is_for : ℕ → ℕ → Accepted → Bool
is_for m c a = is_contact c (a.members m)

filter-none : {X : Type 0} (p : X → Bool) (xs : List X) → All (λ x. p x ≡ false) xs → filter p xs ≡ []
filter-none p [] h = refl
filter-none p (x ∷ xs) h = ap (λ b. cond b (x ∷ filter p xs) (filter p xs)) (All-head (λ y. p y ≡ false) x xs h) ∙ filter-none p xs (All-tail (λ y. p y ≡ false) x xs h)

filter-all : {X : Type 0} (p : X → Bool) (xs : List X) → All (λ x. p x ≡ true) xs → filter p xs ≡ xs
filter-all p [] h = refl
filter-all p (x ∷ xs) h = ap (λ b. cond b (x ∷ filter p xs) (filter p xs)) (All-head (λ y. p y ≡ true) x xs h) ∙ ap (λ ys. x ∷ ys) (filter-all p xs (All-tail (λ y. p y ≡ true) x xs h))

is_for-mark : (line : List Accepted) (m c x : ℕ) (d : Accepted) → x < length line → mark line m x ≡ Some c → is_for m c (get_or line x d) ≡ true
unfolding mark
is_for-mark line m c x d within e =
    let is : (get_or line x d).members m ≡ Some c = sym (ap (mark_in m) (slice_get-get_or line x d within)) ∙ e in
    let same : (c == c) ≡ true = grind (arith, nat_tests) in
    ap (is_contact c) is ∙ same

not_for-mark : (line : List Accepted) (m c x : ℕ) (d : Accepted) → x < length line → (mark line m x ≡ Some c → ⊥) → is_for m c (get_or line x d) ≡ false
unfolding mark
not_for-mark line m c x d within never =
    let at : mark_in m (slice_get line x) ≡ (get_or line x d).members m = ap (mark_in m) (slice_get-get_or line x d within) in
    elim ((get_or line x d).members m) as (λ o. (get_or line x d).members m ≡ o → is_contact c o ≡ false) [
      | None ↦ λ is. refl
      | Some e ↦ λ is. elim (e == c) as (λ b. (e == c) ≡ b → b ≡ false) [
        | true ↦ λ t. let same : e ≡ c = eqb-true e c t in absurd (never (at ∙ is ∙ ap Some same))
        | false ↦ λ t. refl
      ] refl
    ] refl

-- those before the start aren't for the member, and those up to a place all are
pub front_is : (line : List Accepted) (m c s w : ℕ) (d : Accepted) → s ≤ w → ((x : ℕ) → mark line m x ≡ Some c → s ≤ x) → ((x : ℕ) → s ≤ x → x < w → mark line m x ≡ Some c)
    → IsPrefixOf (packets s w line) (accepted_for m c line)
unfolding packets accepted_for
front_is line m c s w d low before own =
    let p = is_for m c in
    let head = take s line in
    let middle = take (w - s) (drop s line) in
    let rest = drop (w - s) (drop s line) in
    let nobody : filter p head ≡ [] = filter-none p head (All-from_get_or (λ a. p a ≡ false) head d (λ i within.
    let size = length-take s line in
    let inside : i < length line = omega arith in
    let less : i < s = omega arith in
    subst (λ a. p a ≡ false) (sym (get_or-take s line i d less)) (not_for-mark line m c i d inside (λ e. let from = before i e in absurd (omega arith))))) in
    let everyone : filter p middle ≡ middle = filter-all p middle (All-from_get_or (λ a. p a ≡ true) middle d (λ i within.
    let size = length-take (w - s) (drop s line) in
    let left = length-drop s line in
    let less : i < w - s = omega arith in
    let inside : s + i < length line = omega arith in
    subst (λ a. p a ≡ true) (sym (get_or-take (w - s) (drop s line) i d less ∙ get_or-drop s line i d)) (is_for-mark line m c (s + i) d inside (own (s + i) (omega arith) (omega arith))))) in
    let split : filter p line ≡ middle ++ filter p rest =
    ap (filter p) (sym (take-append-drop s line)) ∙ filter-append p head (drop s line) ∙ ap (λ xs. xs ++ filter p (drop s line)) nobody
    ∙ ap (filter p) (sym (take-append-drop (w - s) (drop s line))) ∙ filter-append p middle rest ∙ ap (λ xs. xs ++ filter p rest) everyone in
    (map (λ a. a.packet) (filter p rest), ap (map (λ a. a.packet)) split ∙ map-append (λ a. a.packet) middle (filter p rest))

pub taken_front : (a : Caster) (m : ℕ) (k : Member) (c : ℕ) → Keeps a m k → IsPrefixOf (k.out c) (accepted_for m c (a.line (k.boots c)))
taken_front a m k c h = elim (k.want c) as (λ o. k.want c ≡ o → IsPrefixOf (k.out c) (accepted_for m c (a.line (k.boots c)))) [
  | None ↦ λ is. (accepted_for m c (a.line (k.boots c)), ap (λ xs. xs ++ accepted_for m c (a.line (k.boots c))) (sym (h.took_none c is)))
  | Some w ↦ λ is.
      let b = h.want_begun c w is in
      let nobody : Accepted = record { packet = []; members = λ _. None } in
      let from : (x : ℕ) → mark (a.line (k.boots c)) m x ≡ Some c → b.0 ≤ x = λ x e. let at = h.mark_begun (k.boots c) c x e in let same : at.0 ≡ b.0 = same_Some at.0 b.0 (sym at.1 ∙ b.1) in subst (λ s. s ≤ x) same at.2 in
      subst (λ xs. IsPrefixOf xs (accepted_for m c (a.line (k.boots c)))) (sym (h.took c w b.0 is b.1))
      (front_is (a.line (k.boots c)) m c b.0 w nobody (h.want_from c w b.0 is b.1) from (λ x low high. h.took_own c w b.0 x is b.1 low high))
] refl

pub takes_a_prefix : (g after : Group) → IsBegin g → Runs g after → (m c : ℕ) → IsPrefixOf ((after.members m).out c) (accepted_for m c (after.caster.line ((after.members m).boots c)))
takes_a_prefix g after start runs m c = taken_front after.caster m (after.members m) c ((run_keeps g after runs (begins_sound g start)).each m)

-- ---- the packets of one message

-- the packets of a message that are for a member
for_member : (g : Group) (message : List (List ℕ)) (m c : ℕ) (b : Bool) → is_contact c (g.members m).joined ≡ b → map (λ (a : Accepted). a.packet) (filter (is_for m c) (map (accepting_entry g) message)) ≡ cond b message []
for_member g [] m c true is = refl
for_member g [] m c false is = refl
for_member g (p ∷ ps) m c true is = rw is (ap (λ qs. p ∷ qs) (for_member g ps m c true is))
for_member g (p ∷ ps) m c false is = rw is (for_member g ps m c false is)

pub stands_together : (g : Group) (line : List Accepted) (message : List (List ℕ)) (m c : ℕ) → accepted_for m c (line ++ map (accepting_entry g) message) ≡ accepted_for m c line ++ cond (is_contact c (g.members m).joined) message []
unfolding accepted_for
stands_together g line message m c =
    let split : filter (is_for m c) (line ++ map (accepting_entry g) message) ≡ filter (is_for m c) line ++ filter (is_for m c) (map (accepting_entry g) message) = filter-append (is_for m c) line (map (accepting_entry g) message) in
    ap (map (λ (a : Accepted). a.packet)) split ∙ map-append (λ (a : Accepted). a.packet) (filter (is_for m c) line) (filter (is_for m c) (map (accepting_entry g) message))
    ∙ ap (λ qs. map (λ (a : Accepted). a.packet) (filter (is_for m c) line) ++ qs) (for_member g message m c (is_contact c (g.members m).joined) refl)

-- ---- acknowledgement and release

pub acknowledged_was_taken : (g : Group) → IsGroup g → (m c x : ℕ) → (g.members m).joined ≡ Some c → mark (g.caster.line g.caster.boot) m x ≡ Some c → x < (g.members m).acked → (w : ℕ) × ((g.members m).want c ≡ Some w) × (x < w)
acknowledged_was_taken g h m c x is marked less =
    let k = g.members m in
    let keeps = h.each m in
    let b = keeps.mark_begun g.caster.boot c x marked in
    let to = keeps.acked_place c is in
    elim (k.want c) as (λ o. k.want c ≡ o → (w : ℕ) × (k.want c ≡ Some w) × (x < w)) [
      | None ↦ λ e. let at : place k c ≡ b.0 = place-begun k c b.0 e b.1 in let low = b.2 in absurd (omega arith)
      | Some w ↦ λ e. let at : place k c ≡ w = place-want k c w e in (w, e, omega arith)
    ] refl

pub releases_in_order : (g : Group) → IsGroup g → ReleasesInOrder g
releases_in_order g h = record {
  nested = λ m x y le pending. let low = pending.2 in (pending.0, pending.1, omega arith);
  own = λ m c x is low high.
      let keeps = h.each m in
      let b = keeps.joined_begun c is in
      let from = keeps.acked_from c b.0 is b.1 in
      let counted = h.counted g.caster.boot in
      keeps.all c b.0 x is b.1 (omega arith) (omega arith);
}

pub window_of_50 : (g : Group) → IsGroup g → (m c : ℕ) → (g.members m).joined ≡ Some c → numbered_now g.caster ≤ (g.members m).acked + window_size
window_of_50 g h m c is = (h.each m).numbered_near c is

pub packets_are_near : (g : Group) → IsGroup g → (m c s x stamp : ℕ) → (g.members m).begun c ≡ Some s → mark (g.caster.line ((g.members m).boots c)) m x ≡ Some c
    → stamp < x + 1 + window_size + queue → g.caster.numbered ((g.members m).boots c) ≤ stamp + 30000
    → (x < place (g.members m) c + window_size + queue) × (place (g.members m) c ≤ x + 30542)
packets_are_near g h m c s x stamp begun marked recent fresh =
    let near = (h.each m).mark_near c x marked in
    let far = (h.each m).place_near c s begun in
    (near, omega arith)

-- a packet for the member at or behind the place that it wants is for it in its contact: it is in no older contact than the last that the
-- caster began, and what is for it in an older one lies before the start
-- the place of a member isn't before its start
start-low : (g : Group) → IsGroup g → (m c s : ℕ) → (g.members m).begun c ≡ Some s → s ≤ place (g.members m) c
start-low g h m c s begun =
    let k = g.members m in
    elim (k.want c) as (λ o. k.want c ≡ o → s ≤ place k c) [
      | None ↦ λ e. omega (arith, place-begun k c s e begun)
      | Some w ↦ λ e. let low = (h.each m).want_from c w s e begun in omega (arith, place-want k c w e, low)
    ] refl

-- a packet for the member at or behind the place that it wants is for it in its contact: it is in no older contact than the last that
-- the caster began, and what is for it in an older one lies before the start
pub all_are_near : (g : Group) → IsGroup g → (m c d s x stamp : ℕ) → (g.members m).at ≡ Some c → (g.members m).begun c ≡ Some s → mark (g.caster.line ((g.members m).boots c)) m x ≡ Some d
    → stamp < x + 1 + window_size + queue → g.caster.numbered ((g.members m).boots c) ≤ stamp + 30000 → IsNear g m c d x
all_are_near g h m c d s x stamp at begun marked recent fresh =
    let k = g.members m in
    let keeps = h.each m in
    let far = keeps.place_near c s begun in
    let from = keeps.mark_begun (k.boots c) d x marked in
    let newest = keeps.young c d from.0 at from.1 in
    let era = keeps.mark_boot (k.boots c) d x marked in
    let low : s ≤ place k c = start-low g h m c s begun in
    let behind : place k c ≤ x + 30542 = omega arith in
    elim (same_or_not d c) [
      | inl is ↦
          let near = keeps.mark_near c x (subst (λ e. mark (g.caster.line (k.boots c)) m x ≡ Some e) is marked) in
          record { ahead = near; behind = behind; own = λ le. is }
      | inr other ↦
          let older : d < c = omega (arith, newest, other) in
          let before : x < s = keeps.starts d c s x older begun era (subst (λ f. mark (g.caster.line f) m x ≡ Some d) (sym era) marked) in
          record { ahead = omega arith; behind = behind; own = λ le. absurd (omega arith) }
    ]
