-- What follows a change of the near link, case by case, and what is true of the pair then.
use Rattle.std.specs.Prelude.{IfSome, OnOk, ◌||◌}
use Rattle.std.specs.List.{flat_map}
use Rattle.std.proofs.Common.{◌≡◌, ◌≤◌, ◌+◌, ◌∙◌, ℕ, true, false, List, [], ◌∷◌, ◌++◌, Option, Some, None, Result, Ok, Err, refl, sym, subst, ap, arith, is_some, option_map, append_assoc, append-nil, if◌then◌else◌}
use Rattle.tipc_types.specs.declared.link_words.LinkState.{LinkState}
use Rattle.tipc_outside.specs.Frames.{Adds, AddsFirst, Gains}
use Rattle.tipc_outside.proofs.Adding.{gains_none}
use Rattle.tipc_fragments.specs.Joining.{Joining}
use Rattle.tipc_link_fsm.specs.Table.{is_last}
use Rattle.tipc_link.specs.Links.{LinkEnd, handed_over, reset_frames, without_waiting}
use Rattle.tipc_link.specs.Sessions.{SessionEnd, flush_frames, put}
use Rattle.tipc_pair.specs.declared.transitions.Transition.{Transition}
use Rattle.tipc_pair.specs.declared.transitions.Transition.TheVariants.{ContactDown}
use Rattle.tipc_pair.specs.Changeovers.{contact_ends, ended_with, fail_over, fail_over_to, failing, forgetting, gone_down, loaded, parted, parted_end, switch, switch_from, switching}
use Rattle.tipc_pair.specs.Courses.{AddsCourse, Course, LeavingState, made_in, rests, telling}
use Rattle.tipc_pair.specs.Facing.{PairEnds, ends_of, facing, in_contact, is_up_at, made_of, other, state_of, states_of, with_far, with_near}
use Rattle.tipc_pair.specs.PairFacts.{IsEndOf, IsPairOfEnds}
use Rattle.tipc_pair.specs.Runs.{left_by, taken_over}
use Rattle.tipc_pair.proofs.EndSteps.{end_forgets, end_parted}
use Rattle.tipc_contact.proofs.Calls.{not_last}
use Rattle.tipc_pair.proofs.Facings.{facing_back, facing_one, facing_same}

-- ---- what is told

-- nothing is told or sent
pub adds_rests : (a : LeavingState) (x : PairEnds) → AddsCourse a a (rests x)
adds_rests a x = record { changes = sym (append-nil a.changes); made = gains_none a.out }

pub telling_adds : (a b c : LeavingState) (t : Transition) (course : Course) → b ≡ record a { changes = a.changes ++ t ∷ [] } → AddsCourse b c course → AddsCourse a c (telling t course)
telling_adds a b c t course told h = record {
  changes = h.changes ∙ (ap (λ (l : LeavingState). l.changes ++ course.changes) told ∙ append_assoc a.changes (t ∷ []) course.changes);
  made = subst (λ (l : LeavingState). Gains l.out c.out (made_in course)) told h.made;
}

-- where the step behind it found memory
pub told_first : {T F : Type 0} (r : Result T F) (a b c : LeavingState) (s t : Transition) (course : Course) → s ≡ t → b ≡ record a { changes = a.changes ++ s ∷ [] }
    → OnOk r (AddsCourse b c course) → OnOk r (AddsCourse a c (telling t course))
told_first (Ok done) a b c s t course is told h = telling_adds a b c t course (told ∙ ap (λ u. record a { changes = a.changes ++ u ∷ [] }) is) h
told_first (Err fault) a b c s t course is told h = h

-- ---- the end of a contact

pub on_bearer : (own peer contact seen bearer : ℕ) (end : Option LinkEnd) → IfSome end (IsEndOf own peer contact seen bearer) → IfSome end (λ (e : LinkEnd). e.bearer ≡ bearer)
on_bearer own peer contact seen bearer None h = h
on_bearer own peer contact seen bearer (Some e) h = h.bearer_is

pub with_contact : (own peer contact seen bearer : ℕ) (end : Option LinkEnd) → IfSome end (IsEndOf own peer contact seen bearer) → IfSome end (λ (e : LinkEnd). e.contact ≡ contact)
with_contact own peer contact seen bearer None h = h
with_contact own peer contact seen bearer (Some e) h = h.contact_is

parted_one : (own peer contact seen more next bearer : ℕ) (end : Option LinkEnd) → IfSome end (IsEndOf own peer contact seen bearer) → is_last contact ≡ false → next ≡ contact + 1
    → IfSome (option_map (parted_end next more) end) (IsEndOf own peer next more bearer)
parted_one own peer contact seen more next bearer None h going is = h
parted_one own peer contact seen more next bearer (Some e) h going is =
    subst (λ n. IsEndOf own peer n more bearer (parted_end n more e)) (sym is) (end_parted own peer contact seen more bearer e h going)

pub parted_kept : (x : PairEnds) (next more : ℕ) (near far : Option LinkEnd) (begun : Joining) → IsPairOfEnds x → is_last x.contact ≡ false → next ≡ x.contact + 1
    → near ≡ option_map (parted_end next more) x.near → far ≡ option_map (parted_end next more) x.far
    → IsPairOfEnds (record x { contact = next; seen = more; near = near; far = far; begun = begun })
parted_kept x next more near far begun h going is near_is far_is = record {
  two_bearers = h.two_bearers;
  near = subst (λ o. IfSome o (IsEndOf x.own x.peer next more x.bearer)) (sym near_is) (parted_one x.own x.peer x.contact x.seen more next x.bearer x.near h.near going is);
  far = subst (λ o. IfSome o (IsEndOf x.own x.peer next more (other x.bearer))) (sym far_is) (parted_one x.own x.peer x.contact x.seen more next (other x.bearer) x.far h.far going is);
}

-- the two ends, and their states, as they are seen from bearer 0's
ends_are : (x : PairEnds) → x.bearer ≤ 1 → ends_of x ≡ made_of (facing 0 x).near ++ made_of (facing 0 x).far
ends_are x two = ap (λ o. made_of (facing 0 x).near ++ made_of o) (facing_one x two)

states_are : (x : PairEnds) → x.bearer ≤ 1 → states_of x ≡ (state_of (facing 0 x).near, state_of (facing 0 x).far)
states_are x two = ap (λ o. (state_of (facing 0 x).near, state_of o)) (facing_one x two)

-- The contact ended, as it is seen from bearer 0's link.
abbrev pub parting : ℕ → PairEnds → PairEnds
parting seen x = parted (record x { seen = seen })

parting_first : (seen : ℕ) (x : PairEnds) → facing 0 (parting seen x) ≡ parting seen (facing 0 x)
parting_first seen x = facing_same 0 (parting seen) x refl refl

seeing_first : (seen : ℕ) (x : PairEnds) → facing 0 (record x { seen = seen }) ≡ record (facing 0 x) { seen = seen }
seeing_first seen x = facing_same 0 (λ y. record y { seen = seen }) x refl refl

pub parted_back : (seen : ℕ) (x first now : PairEnds) → x.bearer ≤ 1 → first ≡ facing 0 x → now ≡ parting seen first → facing x.bearer now ≡ parting seen x
parted_back seen x first now two first_is now_is =
    ap (facing x.bearer) (now_is ∙ (ap (parting seen) first_is ∙ sym (parting_first seen x))) ∙ facing_back 0 (parting seen x) (omega arith) two

pub ended_adds : (seen shown : ℕ) (contact : ℕ × ℕ) (x first now : PairEnds) (a b c d : LeavingState) → x.bearer ≤ 1 → first ≡ facing 0 x
    → b ≡ record a { changes = a.changes ++ flat_map ended_with (made_of first.near ++ made_of first.far) } → now ≡ parting seen first
    → c.changes ≡ b.changes → AddsFirst b.out c.out (flat_map reset_frames (made_of now.near ++ made_of now.far))
    → d ≡ record c { changes = c.changes ++ ContactDown contact (state_of now.near, state_of now.far) shown ∷ [] }
    → AddsCourse a d (contact_ends (record x { seen = seen }) contact shown)
ended_adds seen shown contact x first now a b c d two first_is told now_is changes states last =
    let now_first : now ≡ facing 0 (parting seen x) = now_is ∙ (ap (parting seen) first_is ∙ sym (parting_first seen x)) in
    let before : made_of first.near ++ made_of first.far ≡ ends_of (record x { seen = seen }) =
    ap (λ (y : PairEnds). made_of y.near ++ made_of y.far) first_is
    ∙ (ap (λ (y : PairEnds). made_of y.near ++ made_of y.far) (sym (seeing_first seen x)) ∙ sym (ends_are (record x { seen = seen }) two)) in
    let after : made_of now.near ++ made_of now.far ≡ ends_of (parting seen x) =
    ap (λ (y : PairEnds). made_of y.near ++ made_of y.far) now_first ∙ sym (ends_are (parting seen x) two) in
    let ends : (state_of now.near, state_of now.far) ≡ states_of (parting seen x) =
    ap (λ (y : PairEnds). (state_of y.near, state_of y.far)) now_first ∙ sym (states_are (parting seen x) two) in
    let down = ContactDown contact (state_of now.near, state_of now.far) shown in
    let all : d.changes ≡ a.changes ++ (flat_map ended_with (made_of first.near ++ made_of first.far) ++ down ∷ []) =
    ap (λ (l : LeavingState). l.changes) last ∙ (ap (λ ts. ts ++ down ∷ []) (changes ∙ ap (λ (l : LeavingState). l.changes) told)
    ∙ append_assoc a.changes (flat_map ended_with (made_of first.near ++ made_of first.far)) (down ∷ [])) in
    let to_d : c.out ≡ d.out = sym (ap (λ (l : LeavingState). l.out) last) in
    let from_a : b.out ≡ a.out = ap (λ (l : LeavingState). l.out) told in
    record {
      changes = all ∙ (ap (λ es. a.changes ++ (flat_map ended_with es ++ down ∷ [])) before
          ∙ ap (λ st. a.changes ++ (flat_map ended_with (ends_of (record x { seen = seen })) ++ ContactDown contact st shown ∷ [])) ends);
      made = subst (λ es. AddsFirst a.out d.out (flat_map reset_frames es)) after
          (subst (λ o. AddsFirst o d.out (flat_map reset_frames (made_of now.near ++ made_of now.far))) from_a
          (subst (λ o. AddsFirst b.out o (flat_map reset_frames (made_of now.near ++ made_of now.far))) to_d states));
    }

-- a fact that holds whether memory was found or not
pub ok_so : {T F : Type 0} (r : Result T F) (P : Type 0) → P → OnOk r P
ok_so (Ok done) P h = h
ok_so (Err fault) P h = tt

pub ended_adds_ok : {T F : Type 0} (r : Result T F) (seen shown : ℕ) (contact told_contact : ℕ × ℕ) (told_states : Option LinkState × Option LinkState) (x first now : PairEnds) (a b c d : LeavingState)
    → x.bearer ≤ 1 → first ≡ facing 0 x → b ≡ record a { changes = a.changes ++ flat_map ended_with (made_of first.near ++ made_of first.far) } → now ≡ parting seen first
    → c.changes ≡ b.changes → AddsFirst b.out c.out (flat_map reset_frames (made_of now.near ++ made_of now.far))
    → told_contact ≡ contact → told_states ≡ (state_of now.near, state_of now.far) → OnOk r (d ≡ record c { changes = c.changes ++ ContactDown told_contact told_states shown ∷ [] })
    → OnOk r (AddsCourse a d (contact_ends (record x { seen = seen }) contact shown))
ended_adds_ok (Err fault) seen shown contact told_contact told_states x first now a b c d two first_is told now_is changes states contact_is states_is last = tt
ended_adds_ok (Ok done) seen shown contact told_contact told_states x first now a b c d two first_is told now_is changes states contact_is states_is last =
    ended_adds seen shown contact x first now a b c d two first_is told now_is changes states
    (last ∙ (ap (λ n. record c { changes = c.changes ++ ContactDown n told_states shown ∷ [] }) contact_is ∙ ap (λ n. record c { changes = c.changes ++ ContactDown contact n shown ∷ [] }) states_is))

pub numbers_are : (numbers : ℕ × ℕ) (own seen : ℕ) → numbers.0 ≡ own → numbers.1 ≡ seen → numbers ≡ (own, seen)
numbers_are numbers own seen one two = subst (λ n. numbers ≡ (n, seen)) one (subst (λ n. numbers ≡ (numbers.0, n)) two refl)

pub gone_down_ends : (x : PairEnds) → is_up_at x.far ≡ false → gone_down x ≡ contact_ends x (x.contact, x.seen) 0
gone_down_ends x down = ap (λ b. if b then fail_over x else contact_ends x (x.contact, x.seen) 0) down

-- ---- a higher contact number without contact

forgets_one : (own peer contact seen more bearer : ℕ) (end : Option LinkEnd) → IfSome end (IsEndOf own peer contact seen bearer) → is_up_at end ≡ false
    → IfSome (option_map (forgetting more) end) (IsEndOf own peer contact more bearer)
forgets_one own peer contact seen more bearer None h down = h
forgets_one own peer contact seen more bearer (Some e) h down = end_forgets own peer contact seen more bearer e h down

pub near_down : (x : PairEnds) → in_contact x ≡ false → is_up_at x.near ≡ false
near_down x down = elim (is_up_at x.near) as (λ b. (b || is_up_at x.far) ≡ false → b ≡ false) [ true ↦ λ h. h | false ↦ λ h. refl ] down

pub far_down : (x : PairEnds) → in_contact x ≡ false → is_up_at x.far ≡ false
far_down x down = elim (is_up_at x.near) as (λ b. (b || is_up_at x.far) ≡ false → is_up_at x.far ≡ false) [ true ↦ λ h. cc | false ↦ λ h. h ] down

pub forgotten_kept : (x : PairEnds) (more : ℕ) (near far : Option LinkEnd) → IsPairOfEnds x → in_contact x ≡ false
    → near ≡ option_map (forgetting more) x.near → far ≡ option_map (forgetting more) x.far → IsPairOfEnds (record x { seen = more; near = near; far = far })
forgotten_kept x more near far h down near_is far_is = record {
  two_bearers = h.two_bearers;
  near = subst (λ o. IfSome o (IsEndOf x.own x.peer x.contact more x.bearer)) (sym near_is) (forgets_one x.own x.peer x.contact x.seen more x.bearer x.near h.near (near_down x down));
  far = subst (λ o. IfSome o (IsEndOf x.own x.peer x.contact more (other x.bearer))) (sym far_is)
      (forgets_one x.own x.peer x.contact x.seen more (other x.bearer) x.far h.far (far_down x down));
}

-- with a link that is up the contact number isn't the last of its boot
up_going : (own peer contact seen bearer : ℕ) (end : Option LinkEnd) → IfSome end (IsEndOf own peer contact seen bearer) → is_up_at end ≡ true → is_last contact ≡ false
up_going own peer contact seen bearer None h up = cc
up_going own peer contact seen bearer (Some e) h up = not_last contact e.fsm.own h.states.order (sym h.states.boot) (h.states.going_on up)

pub contact_going : (x : PairEnds) → IsPairOfEnds x → in_contact x ≡ true → is_last x.contact ≡ false
contact_going x h up = elim (is_up_at x.near) as (λ b. is_up_at x.near ≡ b → (b || is_up_at x.far) ≡ true → is_last x.contact ≡ false) [
  | true ↦ λ near_up in_one. up_going x.own x.peer x.contact x.seen x.bearer x.near h.near near_up
  | false ↦ λ near_down_now far_up. up_going x.own x.peer x.contact x.seen (other x.bearer) x.far h.far far_up
] refl up

-- ---- changeover

pub fail_over_is : (x : PairEnds) (near far : LinkEnd) (lost s : SessionEnd) → x.near ≡ Some near → x.far ≡ Some far → near.session ≡ Some lost → far.session ≡ Some s
    → fail_over x ≡ record (rests (with_far (with_near x (handed_over near)) (loaded far s (left_by lost)))) { numbered = flush_frames (put s (left_by lost)) }
fail_over_is x near far lost s near_is far_is session carrier =
    ap (λ o. fail_over_to x o x.far) near_is ∙ (ap (λ o. fail_over_to x (Some near) o) far_is
    ∙ (ap (λ o. failing x near far o far.session) session ∙ ap (λ o. failing x near far (Some lost) o) carrier))

pub switch_is : (x : PairEnds) (near far : LinkEnd) (s old : SessionEnd) → x.near ≡ Some near → x.far ≡ Some far → near.session ≡ Some s → far.session ≡ Some old
    → switch x ≡ record (rests (with_far (with_near x (loaded near s (taken_over old))) (without_waiting far))) { numbered = flush_frames (put s (taken_over old)) }
switch_is x near far s old near_is far_is session kept =
    ap (λ o. switch_from x o x.far) near_is ∙ (ap (λ o. switch_from x (Some near) o) far_is
    ∙ (ap (λ o. switching x near far o far.session) session ∙ ap (λ o. switching x near far (Some s) o) kept))

pub some_there : (o : Option SessionEnd) → is_some o ≡ true → (s : SessionEnd) × (o ≡ Some s)
some_there (Some s) is = (s, refl)
some_there None is = cc

-- The far link got these packets, where it found memory: the pair is then as after the failover.
pub failed_over : {T F : Type 0} (r : Result T F) (x now : PairEnds) (near far near_now far_now : LinkEnd) (pieces : List (List ℕ)) → x.near ≡ Some near → x.far ≡ Some far
    → is_some near.session ≡ true → is_some far.session ≡ true → near_now ≡ handed_over near → ((lost : SessionEnd) → near.session ≡ Some lost → pieces ≡ left_by lost)
    → ((s : SessionEnd) → far.session ≡ Some s → OnOk r (far_now ≡ loaded far s pieces)) → now ≡ record x { near = Some near_now; far = Some far_now } → OnOk r (now ≡ (fail_over x).pair)
failed_over (Err fault) x now near far near_now far_now pieces near_is far_is session carrier handed left got now_is = tt
failed_over (Ok done) x now near far near_now far_now pieces near_is far_is session carrier handed left got now_is =
    let lost = some_there near.session session in
    let s = some_there far.session carrier in
    now_is ∙ (ap (λ e. record x { near = Some e; far = Some far_now }) handed
    ∙ (ap (λ e. record x { near = Some (handed_over near); far = Some e }) (got s.0 s.1 ∙ ap (loaded far s.0) (left lost.0 lost.1))
    ∙ sym (ap (λ (k : Course). k.pair) (fail_over_is x near far lost.0 s.0 near_is far_is lost.1 s.1))))

pub failed_adds : {T F : Type 0} (r : Result T F) (x : PairEnds) (near far : LinkEnd) (pieces : List (List ℕ)) (a b : LeavingState) → x.near ≡ Some near → x.far ≡ Some far
    → is_some near.session ≡ true → is_some far.session ≡ true → ((lost : SessionEnd) → near.session ≡ Some lost → pieces ≡ left_by lost)
    → ((s : SessionEnd) → far.session ≡ Some s → OnOk r (Adds a.out b.out (flush_frames (put s pieces)))) → b.changes ≡ a.changes
    → OnOk r (AddsCourse a b (fail_over x))
failed_adds (Err fault) x near far pieces a b near_is far_is session carrier left got changes = tt
failed_adds (Ok done) x near far pieces a b near_is far_is session carrier left got changes =
    let lost = some_there near.session session in
    let s = some_there far.session carrier in
    subst (AddsCourse a b) (sym (fail_over_is x near far lost.0 s.0 near_is far_is lost.1 s.1)) (record {
      changes = changes ∙ sym (append-nil a.changes);
      made = subst (λ ps. Adds a.out b.out (flush_frames (put s.0 ps))) (left lost.0 lost.1) (got s.0 s.1);
    })

pub switched : {T F : Type 0} (r : Result T F) (x now : PairEnds) (near far near_now far_now : LinkEnd) (pieces : List (List ℕ)) → x.near ≡ Some near → x.far ≡ Some far
    → is_some near.session ≡ true → is_some far.session ≡ true → far_now ≡ without_waiting far → ((old : SessionEnd) → far.session ≡ Some old → pieces ≡ taken_over old)
    → ((s : SessionEnd) → near.session ≡ Some s → OnOk r (near_now ≡ loaded near s pieces)) → now ≡ record x { near = Some near_now; far = Some far_now } → OnOk r (now ≡ (switch x).pair)
switched (Err fault) x now near far near_now far_now pieces near_is far_is session kept given taken got now_is = tt
switched (Ok done) x now near far near_now far_now pieces near_is far_is session kept given taken got now_is =
    let s = some_there near.session session in
    let old = some_there far.session kept in
    now_is ∙ (ap (λ e. record x { near = Some near_now; far = Some e }) given
    ∙ (ap (λ e. record x { near = Some e; far = Some (without_waiting far) }) (got s.0 s.1 ∙ ap (loaded near s.0) (taken old.0 old.1))
    ∙ sym (ap (λ (k : Course). k.pair) (switch_is x near far s.0 old.0 near_is far_is s.1 old.1))))

pub switched_adds : {T F : Type 0} (r : Result T F) (x : PairEnds) (near far : LinkEnd) (pieces : List (List ℕ)) (a b : LeavingState) → x.near ≡ Some near → x.far ≡ Some far
    → is_some near.session ≡ true → is_some far.session ≡ true → ((old : SessionEnd) → far.session ≡ Some old → pieces ≡ taken_over old)
    → ((s : SessionEnd) → near.session ≡ Some s → OnOk r (Adds a.out b.out (flush_frames (put s pieces)))) → b.changes ≡ a.changes
    → OnOk r (AddsCourse a b (switch x))
switched_adds (Err fault) x near far pieces a b near_is far_is session kept taken got changes = tt
switched_adds (Ok done) x near far pieces a b near_is far_is session kept taken got changes =
    let s = some_there near.session session in
    let old = some_there far.session kept in
    subst (AddsCourse a b) (sym (switch_is x near far s.0 old.0 near_is far_is s.1 old.1)) (record {
      changes = changes ∙ sym (append-nil a.changes);
      made = subst (λ ps. Adds a.out b.out (flush_frames (put s.0 ps))) (taken old.0 old.1) (got s.0 s.1);
    })
