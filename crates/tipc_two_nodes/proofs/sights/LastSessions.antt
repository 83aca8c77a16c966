-- Whatever a call numbers, it numbers in the sessions that the link ends of a pair have then, or had last.
use Rattle.std.proofs.Common.{◌≡◌, ◌≢◌, ◌≤◌, ◌==◌, ◌⊎◌, ◌++◌, ◌+◌, ℕ, true, false, if◌then◌else◌, List, [], Option, Some, None, option_map, refl, sym, ap, ◌∙◌, subst, inl, inr, arith}
use Rattle.std.proofs.lemmas.Bool.{cases_eq}
use Rattle.std.proofs.lemmas.Bool.Decides.{nat_tests}
use Rattle.tipc_types.specs.declared.link_words.Reply.TheVariants as reply
use Rattle.tipc_link_fsm.specs.declared.changes.Change.{Change}
use Rattle.tipc_link_fsm.specs.declared.changes.Change.TheVariants.{Answer, Down, Ignore, Stay, Up}
use Rattle.tipc_link_fsm.specs.Table.{Outcome}
use Rattle.tipc_link_fsm.proofs.Moves.{is_going_up}
use Rattle.tipc_link.specs.Links.{LinkEnd, after, followed, with_fsm}
use Rattle.tipc_link.specs.Sessions.{SessionEnd, flushed, put, after_state}
use Rattle.tipc_pair.specs.Changeovers.{contact_begins, contact_ends, fail_over, fail_over_to, failing, following, forgetting, forgotten, is_clear, let_go, let_go_frames, parted, parted_end, release_near, released, risen, switch, switch_from, switching}
use Rattle.tipc_pair.specs.Courses.{going_on, rests}
use Rattle.tipc_pair.specs.Facing.{PairEnds, facing, in_contact, is_up_at, other, turned, with_near}
use Rattle.tipc_pair.specs.PairCalls.{session_at}
use Rattle.tipc_paired.proofs.wires.Wires.{put_other, put_same}
use Rattle.tipc_two_nodes.proofs.deeds.Pairs.{other_twice}
use Rattle.tipc_two_nodes.specs.deeds.PairDeeds.{both_more, failing_more, followed_more, more_at, none_more, switching_more}
use Rattle.tipc_two_nodes.proofs.links.calls.Stepping.{epoch_flushed as flushed_last}

-- the epoch of the session that a link end has, or had last
abbrev pub last_epoch : Option LinkEnd → Option ℕ
last_epoch None = None
last_epoch (Some e) = option_map (λ (s : SessionEnd). s.epoch) e.session

-- the ends of a pair have sessions of the same epochs as before
pub record KeepsLast (x y : PairEnds) : Type 0 where
  pub bearer : y.bearer ≡ x.bearer
  pub near : last_epoch y.near ≡ last_epoch x.near
  pub far : last_epoch y.far ≡ last_epoch x.far

-- the end on a bearer has a session of this epoch
abbrev pub IsLastAt : PairEnds → ℕ → ℕ → Type 0
IsLastAt x b k = ((b ≡ x.bearer) × (last_epoch x.near ≡ Some k)) ⊎ ((b ≡ other x.bearer) × (last_epoch x.far ≡ Some k))

-- packets are numbered in these sessions alone
abbrev pub AreOfLast : (ℕ → ℕ → List (List ℕ)) → PairEnds → Type 0
AreOfLast n x = (b k : ℕ) → (n b k ≡ []) ⊎ IsLastAt x b k

-- a step of a pair, and what was numbered in it
pub record NumbersLast (x y : PairEnds) (n : ℕ → ℕ → List (List ℕ)) : Type 0 where
  pub keeps : KeepsLast x y
  pub numbers : AreOfLast n y

pub last_same : (x : PairEnds) → KeepsLast x x
last_same x = record { bearer = refl; near = refl; far = refl }

pub last_then : (x y z : PairEnds) → KeepsLast x y → KeepsLast y z → KeepsLast x z
last_then x y z h k = record { bearer = k.bearer ∙ h.bearer; near = k.near ∙ h.near; far = k.far ∙ h.far }

pub last_at : (x y : PairEnds) (b k : ℕ) → KeepsLast x y → IsLastAt x b k → IsLastAt y b k
last_at x y b k h (inl near) = inl (near.0 ∙ sym h.bearer, h.near ∙ near.1)
last_at x y b k h (inr far) = inr (far.0 ∙ ap other (sym h.bearer), h.far ∙ far.1)

pub of_last : (n : ℕ → ℕ → List (List ℕ)) (x y : PairEnds) → KeepsLast x y → AreOfLast n x → AreOfLast n y
of_last n x y h are b k = elim (are b k) [ inl none ↦ inl none | inr at ↦ inr (last_at x y b k h at) ]

pub none_last : (x : PairEnds) → AreOfLast none_more x
none_last x b k = inl refl

pub both_last : (n m : ℕ → ℕ → List (List ℕ)) (x : PairEnds) → AreOfLast n x → AreOfLast m x → AreOfLast (both_more n m) x
both_last n m x f g b k = elim (f b k) [
  | inl none ↦ elim (g b k) [ inl no_more ↦ inl (ap (λ ps. ps ++ m b k) none ∙ no_more) | inr at ↦ inr at ]
  | inr at ↦ inr at
]

pub more_last : (x : PairEnds) (c epoch : ℕ) (packets : List (List ℕ)) → IsLastAt x c epoch → AreOfLast (more_at c epoch packets) x
more_last x c epoch packets at b k = elim (cases_eq b c) [
  | inr other ↦ inl (ap (λ (f : ℕ → List (List ℕ)). f k) (put_other none_more c _ b other))
  | inl here ↦ elim (cases_eq k epoch) [
    | inl same ↦ inr (subst (λ i. IsLastAt x i k) (sym here) (subst (IsLastAt x c) (sym same) at))
    | inr other ↦ inl (ap (λ (i : ℕ). more_at c epoch packets i k) here ∙ ap (λ (f : ℕ → List (List ℕ)). f k) (put_same none_more c _) ∙ put_other (none_more c) epoch packets k other)
  ]
]

-- quietly, and one step after the other
pub quiet_last : (x y : PairEnds) → KeepsLast x y → NumbersLast x y none_more
quiet_last x y h = record { keeps = h; numbers = none_last y }

pub numbers_then : (x y z : PairEnds) (n m : ℕ → ℕ → List (List ℕ)) → NumbersLast x y n → NumbersLast y z m → NumbersLast x z (both_more n m)
numbers_then x y z n m h k = record { keeps = last_then x y z h.keeps k.keeps; numbers = both_last n m z (of_last n y z k.keeps h.numbers) k.numbers }

-- ---- seen from either link

pub turned_at : (x : PairEnds) (b k : ℕ) → x.bearer ≤ 1 → IsLastAt x b k → IsLastAt (turned x) b k
turned_at x b k two (inl near) = inr (near.0 ∙ sym (other_twice x.bearer two), near.1)
turned_at x b k two (inr far) = inl far

-- a step at the far link
pub numbers_far : (x y : PairEnds) (n : ℕ → ℕ → List (List ℕ)) → x.bearer ≤ 1 → NumbersLast (turned x) y n → NumbersLast x (turned y) n
numbers_far x y n two h =
    let low : y.bearer ≤ 1 = (let is = h.keeps.bearer in omega arith) in
    record {
      keeps = record { bearer = ap other h.keeps.bearer ∙ other_twice x.bearer two; near = h.keeps.far; far = h.keeps.near };
      numbers = λ b k. elim (h.numbers b k) [ inl none ↦ inl none | inr at ↦ inr (turned_at y b k low at) ];
    }

-- a step at the link of a bearer
pub numbers_facing : (b : ℕ) (x y : PairEnds) (n : ℕ → ℕ → List (List ℕ)) → x.bearer ≤ 1 → NumbersLast (facing b x) y n → NumbersLast x (facing x.bearer y) n
unfolding facing
numbers_facing b x y n two h = elim (x.bearer == b) as (λ t. NumbersLast (if t then x else turned x) y n → NumbersLast x (if y.bearer == x.bearer then y else turned y) n) [
  | true ↦ λ k. subst (λ t. NumbersLast x (if t then y else turned y) n) (sym (same_bearer y.bearer x.bearer k.keeps.bearer)) k
  | false ↦ λ k. subst (λ t. NumbersLast x (if t then y else turned y) n) (sym (other_test y.bearer x.bearer two k.keeps.bearer)) (numbers_far x y n two k)
] h
  where
    same_bearer : (i j : ℕ) → i ≡ j → (i == j) ≡ true
    same_bearer i j same = subst (λ k. (k == j) ≡ true) (sym same) (grind (arith, nat_tests))

    other_test : (i j : ℕ) → j ≤ 1 → i ≡ other j → (i == j) ≡ false
    other_test i j low is = (let no : i ≢ j = (λ same. let wrong : ⊥ = omega arith in wrong) in grind (arith, nat_tests, no))

-- ---- link ends

-- a call after which no session begins keeps the session, or the last one
pub after_last : (e : LinkEnd) (o : Outcome) → is_going_up o.change ≡ false → last_epoch (Some (after e o)) ≡ last_epoch (Some e)
after_last e o quiet = kept (with_fsm e o.after) o.change quiet where
  told_last : (s : Option SessionEnd) → option_map (λ (s : SessionEnd). s.epoch) (option_map after_state s) ≡ option_map (λ (s : SessionEnd). s.epoch) s
  told_last None = refl
  told_last (Some s) = refl

  kept : (d : LinkEnd) (c : Change) → is_going_up c ≡ false → last_epoch (Some (followed d c)) ≡ last_epoch (Some d)
  kept d Up quiet = absurd (let wrong : ⊥ = cc in wrong)
  kept d (Answer (reply.State probe)) quiet = told_last d.session
  kept d (Answer reply.Reset) quiet = refl
  kept d (Answer reply.Activate) quiet = refl
  kept d Stay quiet = refl
  kept d (Ignore why) quiet = refl
  kept d (Down cause) quiet = refl

-- a step of sessions that keeps their epochs
pub mapped_last : (f : SessionEnd → SessionEnd) → ((s : SessionEnd) → (f s).epoch ≡ s.epoch) → (o : Option SessionEnd) → option_map (λ (s : SessionEnd). s.epoch) (option_map f o) ≡ option_map (λ (s : SessionEnd). s.epoch) o
mapped_last f same None = refl
mapped_last f same (Some s) = ap Some (same s)

-- a step of ends that keeps their sessions' epochs
pub ends_last : (f : LinkEnd → LinkEnd) → ((e : LinkEnd) → last_epoch (Some (f e)) ≡ last_epoch (Some e)) → (o : Option LinkEnd) → last_epoch (option_map f o) ≡ last_epoch o
ends_last f same None = refl
ends_last f same (Some e) = same e

pub near_last : (x : PairEnds) (e e' : LinkEnd) → x.near ≡ Some e → last_epoch (Some e') ≡ last_epoch (Some e) → KeepsLast x (with_near x e')
near_last x e e' is same = record { bearer = refl; near = same ∙ ap last_epoch (sym is); far = refl }

-- ---- what follows a change of the near link

put_last : (s : SessionEnd) (packets : List (List ℕ)) → (flushed (put s packets)).epoch ≡ s.epoch
put_last s packets = flushed_last (put s packets)

failing_last : (x : PairEnds) (near far : LinkEnd) (lost s : Option SessionEnd) → x.near ≡ Some near → x.far ≡ Some far → near.session ≡ lost → far.session ≡ s → NumbersLast x (failing x near far lost s).pair (failing_more (other x.bearer) lost s)
failing_last x near far None s is is' has has' = quiet_last x x (last_same x)
failing_last x near far (Some l) None is is' has has' = quiet_last x x (last_same x)
failing_last x near far (Some l) (Some s) is is' has has' =
    let given = mapped_last _ (λ t. refl) near.session in
    let same : Some (flushed (put s _)).epoch ≡ Some s.epoch = ap Some (put_last s _) in
    record {
      keeps = record {
        bearer = refl;
        near = given ∙ ap last_epoch (sym is);
        far = same ∙ sym (ap last_epoch is' ∙ ap (option_map (λ (t : SessionEnd). t.epoch)) has');
      };
      numbers = more_last (failing x near far (Some l) (Some s)).pair (other x.bearer) s.epoch _ (inr (refl, same));
    }

fail_last : (x : PairEnds) (near far : Option LinkEnd) → x.near ≡ near → x.far ≡ far → NumbersLast x (fail_over_to x near far).pair (failing_more (other x.bearer) (session_at near) (session_at far))
fail_last x None far is is' = quiet_last x x (last_same x)
fail_last x (Some e) None is is' = none_far e.session where
  none_far : (s : Option SessionEnd) → NumbersLast x x (failing_more (other x.bearer) s None)
  none_far None = quiet_last x x (last_same x)
  none_far (Some s) = quiet_last x x (last_same x)
fail_last x (Some e) (Some f) is is' = failing_last x e f e.session f.session is is' refl refl

switching_last : (x : PairEnds) (near far : LinkEnd) (s old : Option SessionEnd) → x.near ≡ Some near → x.far ≡ Some far → near.session ≡ s → far.session ≡ old → NumbersLast x (switching x near far s old).pair (switching_more x.bearer s old)
switching_last x near far None old is is' has has' = quiet_last x x (last_same x)
switching_last x near far (Some s) None is is' has has' = quiet_last x x (last_same x)
switching_last x near far (Some s) (Some l) is is' has has' =
    let given = mapped_last _ (λ t. refl) far.session in
    let same : Some (flushed (put s _)).epoch ≡ Some s.epoch = ap Some (put_last s _) in
    record {
      keeps = record {
        bearer = refl;
        near = same ∙ sym (ap last_epoch is ∙ ap (option_map (λ (t : SessionEnd). t.epoch)) has);
        far = given ∙ ap last_epoch (sym is');
      };
      numbers = more_last (switching x near far (Some s) (Some l)).pair x.bearer s.epoch _ (inl (refl, same));
    }

switch_last : (x : PairEnds) (near far : Option LinkEnd) → x.near ≡ near → x.far ≡ far → NumbersLast x (switch_from x near far).pair (switching_more x.bearer (session_at near) (session_at far))
switch_last x None far is is' = quiet_last x x (last_same x)
switch_last x (Some e) None is is' = none_far e.session where
  none_far : (s : Option SessionEnd) → NumbersLast x x (switching_more x.bearer s None)
  none_far None = quiet_last x x (last_same x)
  none_far (Some s) = quiet_last x x (last_same x)
switch_last x (Some e) (Some f) is is' = switching_last x e f e.session f.session is is' refl refl

pub parted_last : (x : PairEnds) → KeepsLast x (parted x)
parted_last x = record { bearer = refl; near = ends_last (parted_end (x.contact + 1) x.seen) (λ e. refl) x.near; far = ends_last (parted_end (x.contact + 1) x.seen) (λ e. refl) x.far }

pub following_last : (x : PairEnds) (k : Change) (epoch : ℕ) → NumbersLast x (following x k epoch).pair (followed_more x k)
following_last x Up epoch = elim (is_up_at x.far) as (λ t. NumbersLast x (if t then (if x.bearer == 0 then switch x else rests x) else contact_begins x).pair (if t then (if x.bearer == 0 then switching_more x.bearer (session_at x.near) (session_at x.far) else none_more) else none_more)) [
  | true ↦ elim (x.bearer == 0) as (λ t. NumbersLast x (if t then switch x else rests x).pair (if t then switching_more x.bearer (session_at x.near) (session_at x.far) else none_more)) [
    | true ↦ switch_last x x.near x.far refl refl
    | false ↦ quiet_last x x (last_same x)
  ]
  | false ↦ quiet_last x _ (record { bearer = refl; near = refl; far = refl })
]
following_last x (Down cause) epoch = elim (is_up_at x.far) as (λ t. NumbersLast x (if t then fail_over x else contact_ends x (x.contact, x.seen) 0).pair (if t then failing_more (other x.bearer) (session_at x.near) (session_at x.far) else none_more)) [
  | true ↦ fail_last x x.near x.far refl refl
  | false ↦ quiet_last x (parted x) (parted_last x)
]
following_last x other epoch = quiet_last x x (last_same x)

-- ---- a higher number is shown, and ends are released

pub risen_last : (x : PairEnds) (number : ℕ) → KeepsLast x (risen x number).pair
risen_last x number = elim (in_contact x) as (λ t. KeepsLast x (if t then contact_ends (record x { seen = number }) (x.contact, x.seen) number else rests (forgotten x number)).pair) [
  | true ↦ (let k = parted_last (record x { seen = number }) in record { bearer = k.bearer; near = k.near; far = k.far })
  | false ↦ record { bearer = refl; near = ends_last (forgetting number) (λ e. refl) x.near; far = ends_last (forgetting number) (λ e. refl) x.far }
]

release_last : (x : PairEnds) → KeepsLast x (release_near x).pair
release_last x = elim (is_clear x.far) as (λ t. KeepsLast x (if t then record (rests (record x { near = option_map let_go x.near })) { states = let_go_frames x.near } else rests x).pair) [
  | true ↦ record { bearer = refl; near = ends_last let_go (λ e. refl) x.near; far = refl }
  | false ↦ last_same x
]

pub released_last : (x : PairEnds) → x.bearer ≤ 1 → KeepsLast x (released x).pair
unfolding released going_on
released_last x two =
    let y = (release_near x).pair in
    let one = release_last x in
    let again = release_last (turned y) in
    record {
      bearer = ap other again.bearer ∙ (ap (λ n. other (other n)) one.bearer ∙ other_twice x.bearer two);
      near = again.far ∙ one.near;
      far = again.near ∙ one.far;
    }
