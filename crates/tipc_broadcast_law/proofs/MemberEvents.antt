-- What happens to one member keeps what is true of it.
use Rattle.std.proofs.Common.{◌≡◌, ℕ, ◌+◌, ◌<◌, ◌≤◌, ◌++◌, length, Option, Some, None, unwrap_or, refl, sym, ap, ◌∙◌, subst, inl, inr, arith}
use Rattle.std.proofs.lemmas.Bool.{cases_lt}
use Rattle.std.proofs.lemmas.Option.{same_Some}
use Rattle.tipc_types.specs.Limits.{window_size}
use Rattle.tipc_broadcast_law.specs.Groups.{Caster, length_now, mark, Member, numbered_now, packets, place, put, queue}
use Rattle.tipc_broadcast_law.specs.Events.{acknowledged, Changes, entered, in_step_from, joined_in, left, taking, without_contact, caster_begins, caster_ends, member_begins, member_ends, steps_in, takes, acknowledges}
use Rattle.tipc_broadcast_law.specs.Law.{Keeps}
use Rattle.tipc_broadcast_law.proofs.Places.{mark-within, packets-more, packets-none, put_cases, put_other, put_same, same_or_not}

pub place-want : (k : Member) (c w : ℕ) → k.want c ≡ Some w → place k c ≡ w
unfolding place
place-want k c w e = ap (λ o. unwrap_or o (unwrap_or (k.begun c) 0)) e

pub place-begun : (k : Member) (c s : ℕ) → k.want c ≡ None → k.begun c ≡ Some s → place k c ≡ s
unfolding place
place-begun k c s none e = ap (λ o. unwrap_or o (unwrap_or (k.begun c) 0)) none ∙ ap (λ o. unwrap_or o 0) e

pub place-same : (k l : Member) (c : ℕ) → l.want c ≡ k.want c → l.begun c ≡ k.begun c → place l c ≡ place k c
unfolding place
place-same k l c want begun = ap (λ o. unwrap_or o (unwrap_or (l.begun c) 0)) want ∙ ap (λ o. unwrap_or (k.want c) (unwrap_or o 0)) begun

none_of : (o : Option ℕ) → ((w : ℕ) → o ≡ Some w → ⊥) → o ≡ None
none_of None never = refl
none_of (Some w) never = absurd (never w refl)

pub ends : (a : Caster) (m : ℕ) (k : Member) → Keeps a m k → Keeps a m (without_contact k)
unfolding place
ends a m k h = record {
  begun_boot = h.begun_boot;
  begun_within = h.begun_within;
  joined_boot = λ c is. cc;
  joined_begun = λ c is. cc;
  joined_last = λ c d s is e. cc;
  want_begun = h.want_begun;
  want_last = h.want_last;
  at_boot = h.at_boot;
  at_last = h.at_last;
  starts = h.starts;
  mark_boot = h.mark_boot;
  mark_begun = h.mark_begun;
  run = h.run;
  all = λ c s x is e low high. cc;
  young = h.young;
  want_from = h.want_from;
  want_numbered = h.want_numbered;
  took_own = h.took_own;
  took = h.took;
  took_none = h.took_none;
  acked_from = λ c s is e. cc;
  acked_place = λ c is. cc;
  numbered_near = λ c is. cc;
  mark_near = h.mark_near;
  joined_near = λ c is. cc;
  place_near = h.place_near;
}

pub leaves : (a : Caster) (m : ℕ) (k : Member) → Keeps a m k → Keeps a m (left k)
unfolding place
leaves a m k h = record {
  begun_boot = h.begun_boot;
  begun_within = h.begun_within;
  joined_boot = h.joined_boot;
  joined_begun = h.joined_begun;
  joined_last = h.joined_last;
  want_begun = h.want_begun;
  want_last = h.want_last;
  at_boot = λ c is. cc;
  at_last = λ c is. cc;
  starts = h.starts;
  mark_boot = h.mark_boot;
  mark_begun = h.mark_begun;
  run = h.run;
  all = h.all;
  young = λ c d s is e. cc;
  want_from = h.want_from;
  want_numbered = h.want_numbered;
  took_own = h.took_own;
  took = h.took;
  took_none = h.took_none;
  acked_from = h.acked_from;
  acked_place = h.acked_place;
  numbered_near = h.numbered_near;
  mark_near = h.mark_near;
  joined_near = h.joined_near;
  place_near = h.place_near;
}

pub enters : (a : Caster) (m : ℕ) (k : Member) (c0 : ℕ) → k.last < c0 → k.boots c0 ≤ a.boot → ((d s : ℕ) → k.begun d ≡ Some s → d ≤ c0) → Keeps a m k → Keeps a m (entered k c0)
unfolding place
enters a m k c0 above era newest h = record {
  begun_boot = h.begun_boot;
  begun_within = h.begun_within;
  joined_boot = h.joined_boot;
  joined_begun = h.joined_begun;
  joined_last = h.joined_last;
  want_begun = h.want_begun;
  want_last = λ c w e. let old = h.want_last c w e in omega arith;
  at_boot = λ c is. let same : c0 ≡ c = same_Some c0 c is in subst (λ d. k.boots d ≤ a.boot) same era;
  at_last = λ c is. let same : c0 ≡ c = same_Some c0 c is in omega arith;
  starts = h.starts;
  mark_boot = h.mark_boot;
  mark_begun = h.mark_begun;
  run = h.run;
  all = h.all;
  young = λ c d s is e. let same : c0 ≡ c = same_Some c0 c is in let old = newest d s e in omega arith;
  want_from = h.want_from;
  want_numbered = h.want_numbered;
  took_own = h.took_own;
  took = h.took;
  took_none = h.took_none;
  acked_from = h.acked_from;
  acked_place = h.acked_place;
  numbered_near = h.numbered_near;
  mark_near = h.mark_near;
  joined_near = h.joined_near;
  place_near = h.place_near;
}

pub acks : (a : Caster) (m : ℕ) (k : Member) (c0 w v : ℕ) → k.joined ≡ Some c0 → k.want c0 ≡ Some w → k.acked < v → v ≤ w → Keeps a m k → Keeps a m (acknowledged k v)
unfolding place
acks a m k c0 w v joined want more within h =
    let here : place k c0 ≡ w = place-want k c0 w want in
    record {
      begun_boot = h.begun_boot;
      begun_within = h.begun_within;
      joined_boot = h.joined_boot;
      joined_begun = h.joined_begun;
      joined_last = h.joined_last;
      want_begun = h.want_begun;
      want_last = h.want_last;
      at_boot = h.at_boot;
      at_last = h.at_last;
      starts = h.starts;
      mark_boot = h.mark_boot;
      mark_begun = h.mark_begun;
      run = h.run;
      all = h.all;
      young = h.young;
      want_from = h.want_from;
      want_numbered = h.want_numbered;
      took_own = h.took_own;
      took = h.took;
      took_none = h.took_none;
      acked_from = λ c s is e. let old = h.acked_from c s is e in omega arith;
      acked_place = λ c is. let same : c0 ≡ c = same_Some c0 c (sym joined ∙ is) in subst (λ d. v ≤ place k d) same (omega (arith, here));
      numbered_near = λ c is. let old = h.numbered_near c is in omega arith;
      mark_near = h.mark_near;
      joined_near = h.joined_near;
      place_near = h.place_near;
    }

pub steps : (a : Caster) (m : ℕ) (k : Member) (c0 s0 : ℕ) → k.at ≡ Some c0 → k.want c0 ≡ None → k.begun c0 ≡ Some s0 → Keeps a m k → Keeps a m (in_step_from k c0 s0)
steps a m k c0 s0 at none begun h =
    let l = in_step_from k c0 s0 in
    let still : (c : ℕ) → place l c ≡ place k c = λ c. elim (same_or_not c c0) [
      | inl is ↦ subst (λ d. place l d ≡ place k d) (sym is) (place-want l c0 s0 (put_same c0 (Some s0) k.want) ∙ sym (place-begun k c0 s0 none begun))
      | inr other ↦ place-same k l c (put_other c0 (Some s0) k.want c other) refl
    ] in
    let start : (c s : ℕ) → c ≡ c0 → k.begun c ≡ Some s → s0 ≡ s = λ c s is e. same_Some s0 s (sym begun ∙ subst (λ d. k.begun d ≡ Some s) is e) in
    record {
      begun_boot = h.begun_boot;
      begun_within = h.begun_within;
      joined_boot = h.joined_boot;
      joined_begun = h.joined_begun;
      joined_last = h.joined_last;
      want_begun = λ c w e. elim (put_cases c0 (Some s0) k.want c (Some w) e) [ inl is ↦ (s0, subst (λ d. k.begun d ≡ Some s0) (sym is.0) begun) | inr old ↦ h.want_begun c w old.1 ];
      want_last = λ c w e. elim (put_cases c0 (Some s0) k.want c (Some w) e) [ inl is ↦ subst (λ d. d ≤ k.last) (sym is.0) (h.at_last c0 at) | inr old ↦ h.want_last c w old.1 ];
      at_boot = h.at_boot;
      at_last = h.at_last;
      starts = h.starts;
      mark_boot = h.mark_boot;
      mark_begun = h.mark_begun;
      run = h.run;
      all = h.all;
      young = h.young;
      want_from = λ c w s e b. elim (put_cases c0 (Some s0) k.want c (Some w) e) [ inl is ↦ let i = start c s is.0 b in let j : s0 ≡ w = same_Some s0 w is.1 in omega arith | inr old ↦ h.want_from c w s old.1 b ];
      want_numbered = λ c w s e b lt. elim (put_cases c0 (Some s0) k.want c (Some w) e) [ inl is ↦ let i = start c s is.0 b in let j : s0 ≡ w = same_Some s0 w is.1 in absurd (omega arith) | inr old ↦ h.want_numbered c w s old.1 b lt ];
      took_own = λ c w s x e b low high. elim (put_cases c0 (Some s0) k.want c (Some w) e) [ inl is ↦ let i = start c s is.0 b in let j : s0 ≡ w = same_Some s0 w is.1 in absurd (omega arith) | inr old ↦ h.took_own c w s x old.1 b low high ];
      took = λ c w s e b. elim (put_cases c0 (Some s0) k.want c (Some w) e) [ inl is ↦ let i = start c s is.0 b in let j : s0 ≡ w = same_Some s0 w is.1 in h.took_none c (subst (λ d. k.want d ≡ None) (sym is.0) none) ∙ sym (packets-none s (a.line (k.boots c))) ∙ ap (λ v. packets s v (a.line (k.boots c))) (sym i ∙ j) | inr old ↦ h.took c w s old.1 b ];
      took_none = λ c e. elim (put_cases c0 (Some s0) k.want c None e) [ inl is ↦ let no : Some s0 ≡ None = is.1 in cc | inr old ↦ h.took_none c old.1 ];
      acked_from = h.acked_from;
      acked_place = λ c is. subst (λ p. k.acked ≤ p) (sym (still c)) (h.acked_place c is);
      numbered_near = h.numbered_near;
      mark_near = λ c x e. subst (λ p. x < p + window_size + queue) (sym (still c)) (h.mark_near c x e);
      joined_near = λ c is. subst (λ p. numbered_now a ≤ p + window_size) (sym (still c)) (h.joined_near c is);
      place_near = λ c s e. subst (λ p. p ≤ a.numbered (k.boots c) + queue) (sym (still c)) (h.place_near c s e);
    }

-- the packet that a member wants is for it in its contact
wanted_is_own : (a : Caster) (m : ℕ) (k : Member) (c0 w0 d0 : ℕ) → k.at ≡ Some c0 → k.want c0 ≡ Some w0 → mark (a.line (k.boots c0)) m w0 ≡ Some d0 → Keeps a m k → d0 ≡ c0
wanted_is_own a m k c0 w0 d0 at want marked h =
    let from = h.mark_begun (k.boots c0) d0 w0 marked in
    let newest = h.young c0 d0 from.0 at from.1 in
    let start = h.want_begun c0 w0 want in
    let low = h.want_from c0 w0 start.0 want start.1 in
    let era = h.mark_boot (k.boots c0) d0 w0 marked in
    elim (cases_lt d0 c0) [
      | inl older ↦
          let before = h.starts d0 c0 start.0 w0 older start.1 era (subst (λ f. mark (a.line f) m w0 ≡ Some d0) (sym era) marked) in
          absurd (omega arith)
      | inr newer ↦ omega arith
    ]

pub takes_one : (a : Caster) (m : ℕ) (k : Member) (c0 w0 d0 : ℕ) → k.at ≡ Some c0 → k.want c0 ≡ Some w0 → w0 < a.numbered (k.boots c0) → mark (a.line (k.boots c0)) m w0 ≡ Some d0 → Keeps a m k → Keeps a m (taking k c0 w0 (packets w0 (w0 + 1) (a.line (k.boots c0))))
takes_one a m k c0 w0 d0 at want numbered marked h =
    let next = packets w0 (w0 + 1) (a.line (k.boots c0)) in
    let l = taking k c0 w0 next in
    let own : mark (a.line (k.boots c0)) m w0 ≡ Some c0 = marked ∙ ap Some (wanted_is_own a m k c0 w0 d0 at want marked h) in
    let here : place l c0 ≡ w0 + 1 = place-want l c0 (w0 + 1) (put_same c0 (Some (w0 + 1)) k.want) in
    let was : place k c0 ≡ w0 = place-want k c0 w0 want in
    let other : (c : ℕ) → (c ≡ c0 → ⊥) → place l c ≡ place k c = λ c never. place-same k l c (put_other c0 (Some (w0 + 1)) k.want c never) refl in
    let more : (c : ℕ) → place k c ≤ place l c = λ c. elim (same_or_not c c0) [
      | inl is ↦ subst (λ d. place k d ≤ place l d) (sym is) (omega (arith, here, was))
      | inr never ↦ omega (arith, other c never)
    ] in
    let start : (c s : ℕ) → c ≡ c0 → k.begun c ≡ Some s → k.begun c0 ≡ Some s = λ c s is b. subst (λ d. k.begun d ≡ Some s) is b in
    record {
      begun_boot = h.begun_boot;
      begun_within = h.begun_within;
      joined_boot = h.joined_boot;
      joined_begun = h.joined_begun;
      joined_last = h.joined_last;
      want_begun = λ c w e. elim (put_cases c0 (Some (w0 + 1)) k.want c (Some w) e) [ inl is ↦ subst (λ d. (s : ℕ) × (k.begun d ≡ Some s)) (sym is.0) (h.want_begun c0 w0 want) | inr old ↦ h.want_begun c w old.1 ];
      want_last = λ c w e. elim (put_cases c0 (Some (w0 + 1)) k.want c (Some w) e) [ inl is ↦ subst (λ d. d ≤ k.last) (sym is.0) (h.at_last c0 at) | inr old ↦ h.want_last c w old.1 ];
      at_boot = h.at_boot;
      at_last = h.at_last;
      starts = h.starts;
      mark_boot = h.mark_boot;
      mark_begun = h.mark_begun;
      run = h.run;
      all = h.all;
      young = h.young;
      want_from = λ c w s e b. elim (put_cases c0 (Some (w0 + 1)) k.want c (Some w) e) [ inl is ↦ let i = h.want_from c0 w0 s want (start c s is.0 b) in let j : w0 + 1 ≡ w = same_Some (w0 + 1) w is.1 in omega arith | inr old ↦ h.want_from c w s old.1 b ];
      want_numbered = λ c w s e b lt. elim (put_cases c0 (Some (w0 + 1)) k.want c (Some w) e) [ inl is ↦ let j : w0 + 1 ≡ w = same_Some (w0 + 1) w is.1 in subst (λ d. w ≤ a.numbered (k.boots d)) (sym is.0) (omega arith) | inr old ↦ h.want_numbered c w s old.1 b lt ];
      took_own = λ c w s x e b low high. elim (put_cases c0 (Some (w0 + 1)) k.want c (Some w) e) [ inl is ↦ let j : w0 + 1 ≡ w = same_Some (w0 + 1) w is.1 in elim (cases_lt x w0) [ inl before ↦ subst (λ d. mark (a.line (k.boots d)) m x ≡ Some d) (sym is.0) (h.took_own c0 w0 s x want (start c s is.0 b) low before) | inr from ↦ let i : w0 ≡ x = omega arith in subst (λ d. mark (a.line (k.boots d)) m x ≡ Some d) (sym is.0) (subst (λ y. mark (a.line (k.boots c0)) m y ≡ Some c0) i own) ] | inr old ↦ h.took_own c w s x old.1 b low high ];
      took = λ c w s e b. elim (put_cases c0 (Some (w0 + 1)) k.want c (Some w) e) [ inl is ↦ let j : w0 + 1 ≡ w = same_Some (w0 + 1) w is.1 in let b0 = start c s is.0 b in let low = h.want_from c0 w0 s want b0 in subst (λ d. put c0 (k.out c0 ++ next) k.out d ≡ packets s w (a.line (k.boots d))) (sym is.0) (put_same c0 (k.out c0 ++ next) k.out ∙ ap (λ xs. xs ++ next) (h.took c0 w0 s want b0) ∙ sym (packets-more s w0 (a.line (k.boots c0)) low) ∙ ap (λ v. packets s v (a.line (k.boots c0))) j) | inr old ↦ put_other c0 (k.out c0 ++ next) k.out c old.0 ∙ h.took c w s old.1 b ];
      took_none = λ c e. elim (put_cases c0 (Some (w0 + 1)) k.want c None e) [ inl is ↦ let no : Some (w0 + 1) ≡ None = is.1 in cc | inr old ↦ put_other c0 (k.out c0 ++ next) k.out c old.0 ∙ h.took_none c old.1 ];
      acked_from = h.acked_from;
      acked_place = λ c is. let old = h.acked_place c is in omega (arith, old, more c);
      numbered_near = h.numbered_near;
      mark_near = λ c x e. let old = h.mark_near c x e in omega (arith, old, more c);
      joined_near = λ c is. let old = h.joined_near c is in omega (arith, old, more c);
      place_near = λ c s e. elim (same_or_not c c0) [ inl is ↦ subst (λ d. place l d ≤ a.numbered (k.boots d) + queue) (sym is) (omega (arith, here, numbered)) | inr never ↦ subst (λ p. p ≤ a.numbered (k.boots c) + queue) (sym (other c never)) (h.place_near c s e) ];
    }

pub begins : (a : Caster) (m : ℕ) (k : Member) (c0 : ℕ) → ((d s : ℕ) → k.begun d ≡ Some s → d < c0) → k.boots c0 ≡ a.boot → ((d : ℕ) → k.at ≡ Some d → c0 ≤ d) → numbered_now a ≤ length_now a → length_now a ≤ numbered_now a + queue
    → Keeps a m k → Keeps a m (joined_in k c0 (length_now a))
begins a m k c0 above era free counted waiting h =
    let n = length_now a in
    let l = joined_in k c0 n in
    let not_begun : (c s : ℕ) → k.begun c ≡ Some s → c ≡ c0 → ⊥ = λ c s e is. let less = above c s e in omega arith in
    let not_wanted : (c w : ℕ) → k.want c ≡ Some w → c ≡ c0 → ⊥ = λ c w e is. let b = h.want_begun c w e in not_begun c b.0 b.1 is in
    let not_marked : (f c x : ℕ) → mark (a.line f) m x ≡ Some c → c ≡ c0 → ⊥ = λ f c x e is. let b = h.mark_begun f c x e in not_begun c b.0 b.1 is in
    let none : k.want c0 ≡ None = none_of (k.want c0) (λ w e. not_wanted c0 w e refl) in
    let here : place l c0 ≡ n = place-begun l c0 n none (put_same c0 (Some n) k.begun) in
    let other : (c : ℕ) → (c ≡ c0 → ⊥) → place l c ≡ place k c = λ c never. place-same k l c refl (put_other c0 (Some n) k.begun c never) in
    let old_start : (c s : ℕ) → (c ≡ c0 → ⊥) → put c0 (Some n) k.begun c ≡ Some s → k.begun c ≡ Some s = λ c s never e. sym (put_other c0 (Some n) k.begun c never) ∙ e in
    let new_start : (c s : ℕ) → (c ≡ c0 → ⊥) → k.begun c ≡ Some s → put c0 (Some n) k.begun c ≡ Some s = λ c s never e. put_other c0 (Some n) k.begun c never ∙ e in
    record {
      begun_boot = λ c s e. elim (put_cases c0 (Some n) k.begun c (Some s) e) [ inl is ↦ subst (λ d. k.boots d ≤ a.boot) (sym is.0) (omega (arith, era)) | inr old ↦ h.begun_boot c s old.1 ];
      begun_within = λ c s e. elim (put_cases c0 (Some n) k.begun c (Some s) e) [ inl is ↦ let j : n ≡ s = same_Some n s is.1 in subst (λ d. s ≤ length (a.line (k.boots d))) (sym is.0) (subst (λ f. s ≤ length (a.line f)) (sym era) (omega arith)) | inr old ↦ h.begun_within c s old.1 ];
      joined_boot = λ c is. let same : c0 ≡ c = same_Some c0 c is in subst (λ d. k.boots d ≡ a.boot) same era;
      joined_begun = λ c is. let same : c0 ≡ c = same_Some c0 c is in subst (λ d. (s : ℕ) × (put c0 (Some n) k.begun d ≡ Some s)) same (n, put_same c0 (Some n) k.begun);
      joined_last = λ c d s is e. let same : c0 ≡ c = same_Some c0 c is in elim (put_cases c0 (Some n) k.begun d (Some s) e) [ inl at ↦ let i = at.0 in omega arith | inr old ↦ let less = above d s old.1 in omega arith ];
      want_begun = λ c w e. let b = h.want_begun c w e in (b.0, new_start c b.0 (not_wanted c w e) b.1);
      want_last = h.want_last;
      at_boot = h.at_boot;
      at_last = h.at_last;
      starts = λ c d s x lt e boots mk. elim (put_cases c0 (Some n) k.begun d (Some s) e) [ inl is ↦ let j : n ≡ s = same_Some n s is.1 in let within = mark-within (a.line (k.boots c)) m c x mk in let f : k.boots c ≡ a.boot = boots ∙ ap k.boots is.0 ∙ era in let inside : x < n = subst (λ g. x < length (a.line g)) f within in omega arith | inr old ↦ h.starts c d s x lt old.1 boots mk ];
      mark_boot = h.mark_boot;
      mark_begun = λ f c x e. let b = h.mark_begun f c x e in (b.0, new_start c b.0 (not_marked f c x e) b.1, b.2);
      run = λ f c x y s e b low high. h.run f c x y s e (old_start c s (not_marked f c x e) b) low high;
      all = λ c s x is e low high. let same : c0 ≡ c = same_Some c0 c is in let v : Some n ≡ Some s = sym (put_same c0 (Some n) k.begun) ∙ subst (λ d. put c0 (Some n) k.begun d ≡ Some s) (sym same) e in let j : n ≡ s = same_Some n s v in absurd (omega arith);
      young = λ c d s is e. elim (put_cases c0 (Some n) k.begun d (Some s) e) [ inl at ↦ let i = at.0 in let low = free c is in omega arith | inr old ↦ h.young c d s is old.1 ];
      want_from = λ c w s e b. h.want_from c w s e (old_start c s (not_wanted c w e) b);
      want_numbered = λ c w s e b lt. h.want_numbered c w s e (old_start c s (not_wanted c w e) b) lt;
      took_own = λ c w s x e b low high. h.took_own c w s x e (old_start c s (not_wanted c w e) b) low high;
      took = λ c w s e b. h.took c w s e (old_start c s (not_wanted c w e) b);
      took_none = h.took_none;
      acked_from = λ c s is e. let same : c0 ≡ c = same_Some c0 c is in let v : Some n ≡ Some s = sym (put_same c0 (Some n) k.begun) ∙ subst (λ d. put c0 (Some n) k.begun d ≡ Some s) (sym same) e in let j : n ≡ s = same_Some n s v in omega arith;
      acked_place = λ c is. let same : c0 ≡ c = same_Some c0 c is in subst (λ d. n ≤ place l d) same (omega (arith, here));
      numbered_near = λ c is. omega arith;
      mark_near = λ c x e. subst (λ p. x < p + window_size + queue) (sym (other c (not_marked (k.boots c) c x e))) (h.mark_near c x e);
      joined_near = λ c is. let same : c0 ≡ c = same_Some c0 c is in subst (λ d. numbered_now a ≤ place l d + window_size) same (omega (arith, here, counted));
      place_near = λ c s e. elim (put_cases c0 (Some n) k.begun c (Some s) e) [ inl is ↦ subst (λ d. place l d ≤ a.numbered (k.boots d) + queue) (sym is.0) (subst (λ f. place l c0 ≤ a.numbered f + queue) (sym era) (omega (arith, here, waiting))) | inr old ↦ subst (λ p. p ≤ a.numbered (k.boots c) + queue) (sym (other c old.0)) (h.place_near c s old.1) ];
    }

pub changed_keeps : (a : Caster) (m : ℕ) (k l : Member) → Changes a m k l → numbered_now a ≤ length_now a → length_now a ≤ numbered_now a + queue → Keeps a m k → Keeps a m l
changed_keeps a m k _ (caster_begins {c = c} none above era free) counted waiting h = begins a m k c above era free counted waiting h
changed_keeps a m k _ caster_ends counted waiting h = ends a m k h
changed_keeps a m k _ (member_begins {c = c} none above era newest) counted waiting h = enters a m k c above era newest h
changed_keeps a m k _ member_ends counted waiting h = leaves a m k h
changed_keeps a m k _ (steps_in {c = c} {s = s} at none begun) counted waiting h = steps a m k c s at none begun h
changed_keeps a m k _ (takes {c = c} {w = w} {d = d} at want numbered marked) counted waiting h = takes_one a m k c w d at want numbered marked h
changed_keeps a m k _ (acknowledges {c = c} {w = w} {v = v} joined want more within) counted waiting h = acks a m k c w v joined want more within h
