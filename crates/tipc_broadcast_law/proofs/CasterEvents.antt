-- What happens at the caster keeps what is true of each member, and so does every event.
use Rattle.std.proofs.Common.{◌≡◌, ℕ, ◌+◌, ◌<◌, ◌≤◌, [], ◌∷◌, ◌++◌, length, Some, None, refl, sym, ap, ◌∙◌, subst, inl, inr, ◌⊎◌, length-append, arith}
use Rattle.std.proofs.lemmas.Bool.{cases_lt}
use Rattle.tipc_types.specs.Limits.{window_size}
use Rattle.tipc_broadcast_law.specs.Groups.{Accepted, Caster, Group, length_now, mark, Member, numbered_now, packets, place, put, queue}
use Rattle.tipc_broadcast_law.specs.Events.{booted_again, line_with, numbered_to, without_contact, accepting_entry, accepts, changes, empties, go_on, Happens, none, numbers, restarts, Runs}
use Rattle.tipc_broadcast_law.specs.Law.{Keeps, IsGroup}
use Rattle.tipc_broadcast_law.proofs.MemberEvents.{changed_keeps, ends}
use Rattle.tipc_broadcast_law.proofs.Places.{mark-cases, mark-kept, mark-new, mark-none, packets-none, packets-old, put_other, put_same, same_or_not}

-- ---- a packet is accepted

more-marks : (a : Caster) (x : Accepted) (m f c y : ℕ) → mark (put a.boot (a.line a.boot ++ x ∷ []) a.line f) m y ≡ Some c → (mark (a.line f) m y ≡ Some c) ⊎ ((f ≡ a.boot) × (y ≡ length_now a) × (x.members m ≡ Some c))
more-marks a x m f c y e = elim (same_or_not f a.boot) [
  | inl is ↦
      let here : mark (a.line a.boot ++ x ∷ []) m y ≡ Some c = subst (λ l. mark l m y ≡ Some c) (put_same a.boot (a.line a.boot ++ x ∷ []) a.line) (subst (λ g. mark (put a.boot (a.line a.boot ++ x ∷ []) a.line g) m y ≡ Some c) is e) in
      elim (mark-cases (a.line a.boot) x m c y here) [
        | inl old ↦ inl (subst (λ g. mark (a.line g) m y ≡ Some c) (sym is) old.1)
        | inr new ↦ inr (is, new.0, new.1)
      ]
  | inr never ↦ inl (subst (λ l. mark l m y ≡ Some c) (put_other a.boot (a.line a.boot ++ x ∷ []) a.line f never) e)
]

marks-stay : (a : Caster) (x : Accepted) (m f c y : ℕ) → mark (a.line f) m y ≡ Some c → mark (put a.boot (a.line a.boot ++ x ∷ []) a.line f) m y ≡ Some c
marks-stay a x m f c y e = elim (same_or_not f a.boot) [
  | inl is ↦
      let old : mark (a.line a.boot) m y ≡ Some c = subst (λ g. mark (a.line g) m y ≡ Some c) is e in
      subst (λ g. mark (put a.boot (a.line a.boot ++ x ∷ []) a.line g) m y ≡ Some c) (sym is) (subst (λ l. mark l m y ≡ Some c) (sym (put_same a.boot (a.line a.boot ++ x ∷ []) a.line)) (mark-kept (a.line a.boot) x m c y old))
  | inr never ↦ subst (λ l. mark l m y ≡ Some c) (sym (put_other a.boot (a.line a.boot ++ x ∷ []) a.line f never)) e
]

new-mark : (a : Caster) (x : Accepted) (m c : ℕ) → x.members m ≡ Some c → mark (put a.boot (a.line a.boot ++ x ∷ []) a.line a.boot) m (length_now a) ≡ Some c
new-mark a x m c e = subst (λ l. mark l m (length_now a) ≡ Some c) (sym (put_same a.boot (a.line a.boot ++ x ∷ []) a.line)) (mark-new (a.line a.boot) x m ∙ e)

length-now : (a : Caster) (x : Accepted) → length (put a.boot (a.line a.boot ++ x ∷ []) a.line a.boot) ≡ length_now a + 1
length-now a x = ap length (put_same a.boot (a.line a.boot ++ x ∷ []) a.line) ∙ length-append (a.line a.boot) (x ∷ [])

longer : (a : Caster) (x : Accepted) (f : ℕ) → length (a.line f) ≤ length (put a.boot (a.line a.boot ++ x ∷ []) a.line f)
longer a x f = elim (same_or_not f a.boot) [
  | inl is ↦ subst (λ g. length (a.line g) ≤ length (put a.boot (a.line a.boot ++ x ∷ []) a.line g)) (sym is) (omega (arith, length-now a x))
  | inr never ↦ omega (arith, ap length (put_other a.boot (a.line a.boot ++ x ∷ []) a.line f never))
]

packets-stay : (a : Caster) (x : Accepted) (f s w : ℕ) → s ≤ w → (s < w → w ≤ length (a.line f)) → packets s w (put a.boot (a.line a.boot ++ x ∷ []) a.line f) ≡ packets s w (a.line f)
packets-stay a x f s w low within = elim (same_or_not f a.boot) [
  | inl is ↦
      elim (cases_lt s w) [
        | inl less ↦
            let inside : w ≤ length_now a = subst (λ g. w ≤ length (a.line g)) is (within less) in
            ap (λ g. packets s w (put a.boot (a.line a.boot ++ x ∷ []) a.line g)) is ∙ ap (packets s w) (put_same a.boot (a.line a.boot ++ x ∷ []) a.line) ∙ packets-old s w (a.line a.boot) (x ∷ []) inside ∙ ap (λ g. packets s w (a.line g)) (sym is)
        | inr past ↦
            let same : s ≡ w = omega arith in
            ap (λ v. packets s v (put a.boot (a.line a.boot ++ x ∷ []) a.line f)) (sym same) ∙ packets-none s (put a.boot (a.line a.boot ++ x ∷ []) a.line f) ∙ sym (packets-none s (a.line f)) ∙ ap (λ v. packets s v (a.line f)) same
      ]
  | inr never ↦ ap (packets s w) (put_other a.boot (a.line a.boot ++ x ∷ []) a.line f never)
]

accepting_keeps : (a : Caster) (x : Accepted) (m : ℕ) (k : Member) → x.members m ≡ k.joined → length_now a < numbered_now a + queue → ((f : ℕ) → a.numbered f ≤ length (a.line f)) → Keeps a m k → Keeps (line_with a x) m k
accepting_keeps a x m k members room counted h =
    let now : (c : ℕ) → x.members m ≡ Some c → k.joined ≡ Some c = λ c e. sym members ∙ e in
    let before_or_new : (c s y : ℕ) → k.joined ≡ Some c → k.begun c ≡ Some s → s ≤ y → y < length_now a + 1 → mark (put a.boot (a.line a.boot ++ x ∷ []) a.line a.boot) m y ≡ Some c = λ c s y is b low high. elim (cases_lt y (length_now a)) [
      | inl before ↦ marks-stay a x m a.boot c y (h.all c s y is b low before)
      | inr from ↦ let at : length_now a ≡ y = omega arith in subst (λ z. mark (put a.boot (a.line a.boot ++ x ∷ []) a.line a.boot) m z ≡ Some c) at (new-mark a x m c (members ∙ is))
    ] in
    record {
      begun_boot = h.begun_boot;
      begun_within = λ c s e. let old = h.begun_within c s e in omega (arith, old, longer a x (k.boots c));
      joined_boot = h.joined_boot;
      joined_begun = h.joined_begun;
      joined_last = h.joined_last;
      want_begun = h.want_begun;
      want_last = h.want_last;
      at_boot = h.at_boot;
      at_last = h.at_last;
      starts = λ c d s y lt e boots mk. elim (more-marks a x m (k.boots c) c y mk) [ inl old ↦ h.starts c d s y lt e boots old | inr new ↦ let last = h.joined_last c d s (now c new.2) e in absurd (omega arith) ];
      mark_boot = λ f c y e. elim (more-marks a x m f c y e) [ inl old ↦ h.mark_boot f c y old | inr new ↦ h.joined_boot c (now c new.2) ∙ sym new.0 ];
      mark_begun = λ f c y e. elim (more-marks a x m f c y e) [ inl old ↦ h.mark_begun f c y old | inr new ↦ let b = h.joined_begun c (now c new.2) in let w = h.begun_within c b.0 b.1 in let in' : b.0 ≤ length_now a = subst (λ g. b.0 ≤ length (a.line g)) (h.joined_boot c (now c new.2)) w in let at = new.1 in (b.0, b.1, omega arith) ];
      run = λ f c y z s e b low high. elim (more-marks a x m f c y e) [ inl old ↦ marks-stay a x m f c z (h.run f c y z s old b low high) | inr new ↦ let at = new.1 in subst (λ g. mark (put a.boot (a.line a.boot ++ x ∷ []) a.line g) m z ≡ Some c) (sym new.0) (before_or_new c s z (now c new.2) b low (omega arith)) ];
      all = λ c s y is b low high. before_or_new c s y is b low (omega (arith, high, length-now a x));
      young = h.young;
      want_from = h.want_from;
      want_numbered = h.want_numbered;
      took_own = λ c w s y e b low high. marks-stay a x m (k.boots c) c y (h.took_own c w s y e b low high);
      took = λ c w s e b. let low = h.want_from c w s e b in h.took c w s e b ∙ sym (packets-stay a x (k.boots c) s w low (λ less. let to = h.want_numbered c w s e b less in let in' = counted (k.boots c) in omega arith));
      took_none = h.took_none;
      acked_from = h.acked_from;
      acked_place = h.acked_place;
      numbered_near = h.numbered_near;
      mark_near = λ c y e. elim (more-marks a x m (k.boots c) c y e) [ inl old ↦ h.mark_near c y old | inr new ↦ let near = h.numbered_near c (now c new.2) in let to = h.acked_place c (now c new.2) in let at = new.1 in omega arith ];
      joined_near = h.joined_near;
      place_near = h.place_near;
    }

-- ---- packets get their numbers, or are passed over

more-numbered : (a : Caster) (n f : ℕ) → numbered_now a ≤ n → a.numbered f ≤ put a.boot n a.numbered f
more-numbered a n f more = elim (same_or_not f a.boot) [
  | inl is ↦ subst (λ g. a.numbered g ≤ put a.boot n a.numbered g) (sym is) (omega (arith, more, put_same a.boot n a.numbered))
  | inr never ↦ omega (arith, put_other a.boot n a.numbered f never)
]

numbering_keeps : (a : Caster) (n m : ℕ) (k : Member) → numbered_now a ≤ n → ((c : ℕ) → k.joined ≡ Some c → n ≤ k.acked + window_size) → Keeps a m k → Keeps (numbered_to a n) m k
numbering_keeps a n m k more near h =
    let now : put a.boot n a.numbered a.boot ≡ n = put_same a.boot n a.numbered in
    record {
      begun_boot = h.begun_boot;
      begun_within = h.begun_within;
      joined_boot = h.joined_boot;
      joined_begun = h.joined_begun;
      joined_last = h.joined_last;
      want_begun = h.want_begun;
      want_last = h.want_last;
      at_boot = h.at_boot;
      at_last = h.at_last;
      starts = h.starts;
      mark_boot = h.mark_boot;
      mark_begun = h.mark_begun;
      run = h.run;
      all = h.all;
      young = h.young;
      want_from = h.want_from;
      want_numbered = λ c w s e b lt. let old = h.want_numbered c w s e b lt in omega (arith, old, more-numbered a n (k.boots c) more);
      took_own = h.took_own;
      took = h.took;
      took_none = h.took_none;
      acked_from = h.acked_from;
      acked_place = h.acked_place;
      numbered_near = λ c is. let to = near c is in omega (arith, now, to);
      mark_near = h.mark_near;
      joined_near = λ c is. let to = near c is in let past = h.acked_place c is in omega (arith, now, to, past);
      place_near = λ c s e. let old = h.place_near c s e in omega (arith, old, more-numbered a n (k.boots c) more);
    }

-- ---- the caster boots again

old-boot : (a : Caster) (m : ℕ) (k : Member) → Keeps a m k → (c s : ℕ) → k.begun c ≡ Some s → k.boots c ≡ a.boot + 1 → ⊥
old-boot a m k h c s e is = let old = h.begun_boot c s e in absurd (omega arith)

marks-before : (a : Caster) (m f c y : ℕ) → mark (put (a.boot + 1) [] a.line f) m y ≡ Some c → (f ≡ a.boot + 1 → ⊥) × (mark (a.line f) m y ≡ Some c)
marks-before a m f c y e = elim (same_or_not f (a.boot + 1)) [
  | inl is ↦ absurd (mark-none m c y (subst (λ l. mark l m y ≡ Some c) (ap (put (a.boot + 1) [] a.line) is ∙ put_same (a.boot + 1) [] a.line) e))
  | inr never ↦ (never, subst (λ l. mark l m y ≡ Some c) (put_other (a.boot + 1) [] a.line f never) e)
]

restarting_keeps : (a : Caster) (m : ℕ) (k : Member) → k.joined ≡ None → Keeps a m k → Keeps (booted_again a) m k
restarting_keeps a m k nobody h =
    let nowhere : (c : ℕ) → k.joined ≡ Some c → ⊥ = λ c is. let clash : None ≡ Some c = sym nobody ∙ is in cc in
    let line : (c s : ℕ) → k.begun c ≡ Some s → put (a.boot + 1) [] a.line (k.boots c) ≡ a.line (k.boots c) = λ c s e. put_other (a.boot + 1) [] a.line (k.boots c) (old-boot a m k h c s e) in
    let count : (c s : ℕ) → k.begun c ≡ Some s → put (a.boot + 1) 0 a.numbered (k.boots c) ≡ a.numbered (k.boots c) = λ c s e. put_other (a.boot + 1) 0 a.numbered (k.boots c) (old-boot a m k h c s e) in
    record {
      begun_boot = λ c s e. let old = h.begun_boot c s e in omega arith;
      begun_within = λ c s e. subst (λ l. s ≤ length l) (sym (line c s e)) (h.begun_within c s e);
      joined_boot = λ c is. absurd (nowhere c is);
      joined_begun = h.joined_begun;
      joined_last = h.joined_last;
      want_begun = h.want_begun;
      want_last = h.want_last;
      at_boot = λ c is. let old = h.at_boot c is in omega arith;
      at_last = h.at_last;
      starts = λ c d s y lt e boots mk. h.starts c d s y lt e boots (marks-before a m (k.boots c) c y mk).1;
      mark_boot = λ f c y e. h.mark_boot f c y (marks-before a m f c y e).1;
      mark_begun = λ f c y e. h.mark_begun f c y (marks-before a m f c y e).1;
      run = λ f c y z s e b low high. let old = marks-before a m f c y e in subst (λ l. mark l m z ≡ Some c) (sym (put_other (a.boot + 1) [] a.line f old.0)) (h.run f c y z s old.1 b low high);
      all = λ c s y is b low high. absurd (nowhere c is);
      young = h.young;
      want_from = h.want_from;
      want_numbered = λ c w s e b lt. subst (λ n. w ≤ n) (sym (count c s b)) (h.want_numbered c w s e b lt);
      took_own = λ c w s y e b low high. subst (λ l. mark l m y ≡ Some c) (sym (line c s b)) (h.took_own c w s y e b low high);
      took = λ c w s e b. subst (λ l. k.out c ≡ packets s w l) (sym (line c s b)) (h.took c w s e b);
      took_none = h.took_none;
      acked_from = h.acked_from;
      acked_place = h.acked_place;
      numbered_near = λ c is. absurd (nowhere c is);
      mark_near = λ c y e. h.mark_near c y (marks-before a m (k.boots c) c y e).1;
      joined_near = λ c is. absurd (nowhere c is);
      place_near = λ c s e. subst (λ n. place k c ≤ n + queue) (sym (count c s e)) (h.place_near c s e);
    }

-- ---- every event

numbered_group : (g : Group) (n : ℕ) → IsGroup g → numbered_now g.caster ≤ n → n ≤ length_now g.caster → ((m c : ℕ) → (g.members m).joined ≡ Some c → n ≤ (g.members m).acked + window_size) → IsGroup (record { caster = numbered_to g.caster n; members = g.members })
numbered_group g n h more within near =
    let a = g.caster in
    record {
      counted = λ f. elim (same_or_not f a.boot) [
        | inl is ↦ subst (λ e. put a.boot n a.numbered e ≤ length (a.line e)) (sym is) (omega (arith, put_same a.boot n a.numbered, within))
        | inr never ↦ let old = h.counted f in omega (arith, put_other a.boot n a.numbered f never, old)
      ];
      waiting = λ f. let old = h.waiting f in omega (arith, more-numbered a n f more, old);
      each = λ m. numbering_keeps a n m (g.members m) more (near m) (h.each m);
    }

pub event_keeps : (g after : Group) → Happens g after → IsGroup g → IsGroup after
event_keeps g _ (accepts packet room) h =
    let a = g.caster in
    let x = accepting_entry g packet in
    record {
      counted = λ f. let old = h.counted f in omega (arith, longer a x f, old);
      waiting = λ f. elim (same_or_not f a.boot) [
        | inl is ↦ subst (λ e. length (put a.boot (a.line a.boot ++ x ∷ []) a.line e) ≤ a.numbered e + queue) (sym is) (omega (arith, length-now a x, room))
        | inr never ↦ let old = h.waiting f in omega (arith, ap length (put_other a.boot (a.line a.boot ++ x ∷ []) a.line f never), old)
      ];
      each = λ m. accepting_keeps a x m (g.members m) refl room h.counted (h.each m);
    }
event_keeps g _ (numbers some near) h =
    numbered_group g (numbered_now g.caster + 1) h (omega arith) (omega arith) (λ m c is. let less = near m c is in omega arith)
event_keeps g _ (empties alone) h =
    let old = h.counted g.caster.boot in
    numbered_group g (length_now g.caster) h old (omega arith) (λ m c is. let clash : None ≡ Some c = sym (alone m) ∙ is in cc)
event_keeps g _ restarts h =
    let a = g.caster in
    record {
      counted = λ f. elim (same_or_not f (a.boot + 1)) [
        | inl is ↦ subst (λ e. put (a.boot + 1) 0 a.numbered e ≤ length (put (a.boot + 1) [] a.line e)) (sym is) (omega (arith, put_same (a.boot + 1) 0 a.numbered))
        | inr never ↦ let old = h.counted f in omega (arith, put_other (a.boot + 1) 0 a.numbered f never, ap length (put_other (a.boot + 1) [] a.line f never), old)
      ];
      waiting = λ f. elim (same_or_not f (a.boot + 1)) [
        | inl is ↦ subst (λ e. length (put (a.boot + 1) [] a.line e) ≤ put (a.boot + 1) 0 a.numbered e + queue) (sym is) (omega (arith, ap length (put_same (a.boot + 1) [] a.line)))
        | inr never ↦ let old = h.waiting f in omega (arith, put_other (a.boot + 1) 0 a.numbered f never, ap length (put_other (a.boot + 1) [] a.line f never), old)
      ];
      each = λ m. restarting_keeps a m (without_contact (g.members m)) refl (ends a m (g.members m) (h.each m));
    }
event_keeps g _ (changes m k change) h =
    let a = g.caster in
    let kept = changed_keeps a m (g.members m) k change (h.counted a.boot) (h.waiting a.boot) (h.each m) in
    record {
      counted = h.counted;
      waiting = h.waiting;
      each = λ i. elim (same_or_not i m) [
        | inl is ↦ subst (λ j. Keeps a j (put m k g.members j)) (sym is) (subst (Keeps a m) (sym (put_same m k g.members)) kept)
        | inr never ↦ subst (Keeps a i) (sym (put_other m k g.members i never)) (h.each i)
      ];
    }

pub run_keeps : (g after : Group) → Runs g after → IsGroup g → IsGroup after
run_keeps g _ none h = h
run_keeps g after (go_on {between = between} one more) h = run_keeps between after more (event_keeps g between one h)
