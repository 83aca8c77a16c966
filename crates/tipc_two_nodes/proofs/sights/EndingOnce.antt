-- In one event a pair leaves one contact at most, and enters none behind it.
use Rattle.std.proofs.Common.{◌≡◌, ◌≤◌, ◌+◌, ◌&&◌, ◌||◌, ◌⊎◌, not, ℕ, Bool, true, false, if◌then◌else◌, Option, Some, None, refl, sym, ap, ◌∙◌, subst, inl, inr}
use Rattle.std.proofs.lemmas.Bool.{cases_Bool}
use Rattle.tipc_types.specs.LinkStates.{is_up}
use Rattle.tipc_types.specs.declared.link_words.BroadcastState.{BroadcastState}
use Rattle.tipc_link_fsm.specs.declared.changes.Change.{Change}
use Rattle.tipc_link_fsm.specs.declared.changes.Change.TheVariants.{Down, Up}
use Rattle.tipc_link_fsm.specs.Table.{Outcome, on_cut, on_reset, on_tick}
use Rattle.tipc_link.specs.Links.{LinkEnd, after, cut_end, is_down}
use Rattle.tipc_pair.specs.Changeovers.{contact_ends, fail_over, following, forgotten, parted, released, risen}
use Rattle.tipc_pair.specs.Courses.{going_on, rests}
use Rattle.tipc_pair.specs.Facing.{PairEnds, facing, in_contact, is_up_at, with_near}
use Rattle.tipc_pair.specs.PairArrivals.{behind, reset_change, reset_given, reset_near}
use Rattle.tipc_pair.specs.PairCalls.{at_bearer, cut_at, cut_near, stepped, tick_at, tick_near, ticked}
use Rattle.tipc_pair.proofs.CourseLaws.{then_pair}
use Rattle.tipc_pair.proofs.HeldLaws.{GoesQuietly, cut_at_goes, not_in, released_goes, reset_holds, reset_quiet, stepped_goes, tick_holds, tick_quiet}
use Rattle.tipc_pair.proofs.Falls.{Falls, on_cut_falls, on_reset_falls, on_tick_falls}
use Rattle.tipc_two_nodes.proofs.arrivals.BegunArrivals.{risen_contact, risen_out}
use Rattle.tipc_two_nodes.proofs.calls.QuietCourses.{released_numbers}
use Rattle.tipc_two_nodes.proofs.calls.SendTwins.{facing_numbers}
use Rattle.tipc_two_nodes.proofs.sights.StayingIn.{facing_contact}
use Rattle.tipc_two_nodes.proofs.calls.TurnCourses.{following_numbers}

-- the pair keeps its number, or it left the contact in which it was
abbrev pub EndsOnce : PairEnds → PairEnds → Type 0
EndsOnce x q = (q.contact ≡ x.contact) ⊎ ((in_contact x ≡ true) × (q.contact ≡ x.contact + 1) × (in_contact q ≡ false))

-- and it is in no contact in which it wasn't
pub record EndsQuietly (x y : PairEnds) : Type 0 where
  pub stays : in_contact y ≡ true → in_contact x ≡ true
  pub once : EndsOnce x y

pub both_tests : {A : Type 0} → true ≡ false → A
both_tests wrong = absurd (let no : ⊥ = cc in no)

pub not_true : (b c : Bool) → (b ≡ true → c ≡ true) → c ≡ false → b ≡ false
not_true true c so down = both_tests (sym (so refl) ∙ down)
not_true false c so down = refl

pub ends_then : (x y z : PairEnds) → EndsQuietly x y → EndsQuietly y z → EndsQuietly x z
ends_then x y z h k = record {
  stays = λ there. h.stays (k.stays there);
  once = elim h.once [
    | inl same ↦ elim k.once [ inl again ↦ inl (again ∙ same) | inr left ↦ inr (h.stays left.0, left.1 ∙ ap (λ n. n + 1) same, left.2) ]
    | inr left ↦ elim k.once [
      | inl again ↦ inr (left.0, again ∙ left.1, not_true (in_contact z) (in_contact y) k.stays left.2)
      | inr more ↦ both_tests (sym more.0 ∙ left.2)
    ]
  ];
}

pub ends_same : (x y : PairEnds) → y.contact ≡ x.contact → (in_contact y ≡ true → in_contact x ≡ true) → EndsQuietly x y
ends_same x y same stays = record { stays = stays; once = inl same }

-- ---- what follows

following_once : (x z : PairEnds) (k : Change) (epoch : ℕ) → z.contact ≡ x.contact → (is_down k ≡ true → in_contact x ≡ true) → EndsOnce x (following z k epoch).pair
following_once x z Up epoch same was = inl ((following_numbers z Up epoch (λ is. absurd (let wrong : ⊥ = cc in wrong))).contact ∙ same)
following_once x z (Down cause) epoch same was = elim (cases_Bool (is_up_at z.far)) [
  | inl up ↦ inl ((following_numbers z (Down cause) epoch (λ is. up)).contact ∙ same)
  | inr down ↦
      let is : (following z (Down cause) epoch).pair ≡ parted z = ap (λ t. (if t then fail_over z else contact_ends z (z.contact, z.seen) 0).pair) down in
      inr (was refl, ap (λ (q : PairEnds). q.contact) is ∙ ap (λ n. n + 1) same, ap in_contact is ∙ not_in z)
]
following_once x z other epoch same was = inl same

near_in : (x : PairEnds) (e : LinkEnd) → x.near ≡ Some e → is_up e.fsm.state ≡ true → in_contact x ≡ true
near_in x e near up = ap (λ t. t || is_up_at x.far) (ap is_up_at near ∙ up)

stepped_ends : (x : PairEnds) (e : LinkEnd) (o : Outcome) (epoch : ℕ) (shown : BroadcastState) → x.near ≡ Some e → GoesQuietly x (stepped x e o epoch shown).pair → Falls e.fsm o → EndsQuietly x (stepped x e o epoch shown).pair
unfolding going_on
stepped_ends x e o epoch shown near quiet falls = record { stays = quiet.stays; once = following_once x (with_near x (after e o)) o.change epoch refl (λ down. near_in x e near (falls down).0) }

pub released_ends : (x : PairEnds) → x.bearer ≤ 1 → EndsQuietly x (released x).pair
released_ends x two = ends_same x (released x).pair (released_numbers x two).contact (released_goes x).stays

facing_ends : (b : ℕ) (x y : PairEnds) → EndsQuietly (facing b x) y → EndsQuietly x (facing x.bearer y)
facing_ends b x y h =
    let before = (facing_numbers b x).2 in
    let then_is = (facing_numbers x.bearer y).2 in
    let was = facing_contact b x in
    let now = facing_contact x.bearer y in
    record {
      stays = λ there. sym was ∙ h.stays (sym now ∙ there);
      once = elim h.once [
        | inl same ↦ inl (then_is ∙ (same ∙ before))
        | inr left ↦ inr (sym was ∙ left.0, then_is ∙ (left.1 ∙ ap (λ n. n + 1) before), now ∙ left.2)
      ];
    }

-- ---- cut and tick

cut_at_ends : (x : PairEnds) (o : Option LinkEnd) → x.near ≡ o → EndsQuietly x (cut_at x o).pair
cut_at_ends x None near = ends_same x x refl (λ there. there)
cut_at_ends x (Some e) near = record {
  stays = (cut_at_goes x (Some e) near).stays;
  once = following_once x (with_near x (cut_end e (is_up_at x.far))) (on_cut e.fsm (is_up_at x.far)).change 0 refl (λ down. near_in x e near (on_cut_falls e.fsm (is_up_at x.far) down).0);
}

pub cut_ends_once : (b : ℕ) (x : PairEnds) → (cut_at (facing b x) (facing b x).near).pair.bearer ≤ 1 → EndsQuietly x (at_bearer b x cut_near).pair
cut_ends_once b x two =
    let z = facing b x in
    let one = (cut_at z z.near).pair in
    facing_ends b x (cut_near z).pair (subst (EndsQuietly z) (sym (then_pair (cut_at z z.near) released)) (ends_then z one (released one).pair (cut_at_ends z z.near refl) (released_ends one two)))

tick_at_ends : (shown : BroadcastState) (x : PairEnds) (o : Option LinkEnd) → x.near ≡ o → EndsQuietly x (tick_at shown x o).pair
tick_at_ends shown x None near = ends_same x x refl (λ there. there)
tick_at_ends shown x (Some e) near =
    let held = is_up_at x.far in
    stepped_ends x e (on_tick e.fsm held) 0 shown near (stepped_goes x e (on_tick e.fsm held) 0 shown near (tick_holds e.fsm held) (tick_quiet e.fsm held)) (on_tick_falls e.fsm held)

tick_ends : (b : ℕ) (shown : BroadcastState) (x : PairEnds) → EndsQuietly x (at_bearer b x (tick_near shown)).pair
tick_ends b shown x = facing_ends b x (tick_near shown (facing b x)).pair (tick_at_ends shown (facing b x) (facing b x).near refl)

pub ticked_ends_once : (shown : BroadcastState) (x : PairEnds) → (at_bearer 1 (at_bearer 0 x (tick_near shown)).pair (tick_near shown)).pair.bearer ≤ 1 → EndsQuietly x (ticked shown x).pair
ticked_ends_once shown x two =
    let call = tick_near shown in
    let one = (at_bearer 0 x call).pair in
    let last = (at_bearer 1 one call).pair in
    let both = going_on (at_bearer 0 x call) (λ y. at_bearer 1 y call) in
    let is : both.pair ≡ last = then_pair (at_bearer 0 x call) (λ y. at_bearer 1 y call) in
    let all = subst (EndsQuietly x) (sym is) (ends_then x one last (tick_ends 0 shown x) (tick_ends 1 shown one)) in
    subst (EndsQuietly x) (sym (then_pair both released)) (ends_then x both.pair (released both.pair).pair all (released_ends both.pair (subst (λ (q : PairEnds). q.bearer ≤ 1) (sym is) two)))

-- ---- a RESET, and a higher number

given_ends : (x : PairEnds) (o : Option LinkEnd) (es : ℕ) (held : Bool) (shown : BroadcastState) → x.near ≡ o → EndsQuietly x (reset_given es held shown x o).course.pair
given_ends x None es held shown near = ends_same x x refl (λ there. there)
given_ends x (Some e) es held shown near = stepped_ends x e (on_reset e.fsm es held) es shown near (stepped_goes x e (on_reset e.fsm es held) es shown near (reset_holds e.fsm es held) (reset_quiet e.fsm es held)) (on_reset_falls e.fsm es held)

pub reset_ends : (es : ℕ) (shown : BroadcastState) (x : PairEnds) → EndsQuietly x (reset_near es shown x).course.pair
reset_ends es shown x =
    let held = is_up_at x.far in
    let first = (reset_given es held shown x x.near).course in
    let again = λ (y : PairEnds). reset_given es false shown y y.near in
    elim (is_down (reset_change es held x.near) && not held) as (λ b. EndsQuietly x (if b then behind first again else reset_given es held shown x x.near).course.pair) [
      | true ↦ subst (EndsQuietly x) (sym (then_pair first (λ y. (again y).course))) (ends_then x first.pair _ (given_ends x x.near es held shown refl) (given_ends first.pair first.pair.near es false shown refl))
      | false ↦ given_ends x x.near es held shown refl
    ]

pub risen_ends : (x : PairEnds) (number : ℕ) → EndsQuietly x (risen x number).pair
risen_ends x number =
    let down = risen_out x number in
    record {
      stays = λ there. both_tests (sym there ∙ down);
      once = elim (cases_Bool (in_contact x)) [
        | inr none ↦ inl (risen_contact x number none)
        | inl up ↦ inr (up, ap (λ t. (if t then contact_ends (record x { seen = number }) (x.contact, x.seen) number else rests (forgotten x number)).pair.contact) up, down)
      ];
    }
