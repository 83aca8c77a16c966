-- What a call tells of the links and the contact of a pair is so, before it and after it.
use Rattle.std.specs.Prelude.{IfSome, ◌||◌, ◌==◌, ◌-◌, filter, fold, option_and_then, if◌then◌else◌}
use Rattle.std.specs.List.{flat_map}
use Rattle.std.proofs.Common.{◌≡◌, ◌≤◌, ◌<◌, ◌∙◌, ◌++◌, ◌+◌, ℕ, Bool, true, false, List, [], ◌∷◌, Option, Some, None, option_map, refl, sym, subst, ap, arith}
use Rattle.std.proofs.lemmas.Bool.Decides.{nat_tests}
use Rattle.std.proofs.lemmas.Grind.{flat_map-append}
use Rattle.std.proofs.lemmas.List.Elements.{filter-append}
use Rattle.std.proofs.lemmas.List.Sums.{fold-append}
use Rattle.tipc_types.specs.LinkStates.{is_up}
use Rattle.tipc_types.specs.declared.link_words.Cause.{Cause}
use Rattle.tipc_types.specs.declared.link_words.Cause.TheVariants as cause
use Rattle.tipc_types.specs.declared.link_words.LinkState.{LinkState}
use Rattle.tipc_link_fsm.specs.declared.changes.Change.{Change}
use Rattle.tipc_link_fsm.specs.declared.changes.Change.TheVariants.{Answer, Down, Ignore, Stay, Up}
use Rattle.tipc_link_fsm.specs.Table.{Fsm}
use Rattle.tipc_link.specs.Links.{LinkEnd, handed_over, known, without_waiting}
use Rattle.tipc_link.specs.Sessions.{SessionEnd}
use Rattle.tipc_link_fsm.proofs.Moves.{is_going_up}
use Rattle.tipc_pair.specs.declared.transitions.Transition.{Transition}
use Rattle.tipc_pair.specs.declared.transitions.Transition.TheVariants.{ContactDown, ContactUp, LinkDown, LinkUp}
use Rattle.tipc_pair.specs.Changeovers.{at_far, contact_begins, contact_ends, ended_with, fail_over, fail_over_to, failing, following, is_clear, let_go, let_go_frames, loaded, parted, release_near, released, shown_with, switch, switch_from, switching}
use Rattle.tipc_pair.specs.Courses.{Course, going_on, rests, telling}
use Rattle.tipc_pair.specs.Facing.{PairEnds, ends_of, facing, in_contact, is_up_at, made_of, other, states_of, turned, with_far, with_near}
use Rattle.tipc_pair.specs.Runs.{left_by, taken_over}
use Rattle.tipc_pair.specs.PairCalls.{at_bearer}
use Rattle.tipc_pair.proofs.HeldLaws.{or_turns, or_true, not_in as parted_out, parted_down as parted_low}
use Rattle.tipc_pair.proofs.Facings.{facing_far, facing_near}
use Rattle.tipc_pair.proofs.Untold.{fail_over_none, switch_none}
use Rattle.tipc_pair.specs.Contacts.{is_of_contact}
use Rattle.tipc_pair.specs.LinkReadings.{epochs_of}
use Rattle.tipc_pair.proofs.turns.LinkSteps.{StaysUp, StepOf, release_stays}
use Rattle.tipc_pair.proofs.turns.PairPuts.{MeetsAs}
-- ---- what is told of a link
use Rattle.tipc_pair.proofs.Listed.{both_ways as not_both}
use Rattle.tipc_pair.proofs.turns.Moves.{up_epochs_are as up_epochs}

-- the epochs of the link of a bearer after a change
abbrev pub epochs_by : ℕ → Option (ℕ × ℕ) → Transition → Option (ℕ × ℕ)
epochs_by b z (LinkUp bearer own theirs) = if bearer == b then Some (own, theirs) else z
epochs_by b z (LinkDown bearer cause shown) = if bearer == b then None else z
epochs_by b z (ContactUp contact) = z
epochs_by b z (ContactDown contact states shown) = z

abbrev pub epochs_at : Option LinkEnd → Option (ℕ × ℕ)
epochs_at end = option_and_then epochs_of end

pub low_epochs : (end : Option LinkEnd) → is_up_at end ≡ false → epochs_at end ≡ None
low_epochs None low = refl
low_epochs (Some e) low = ap (λ b. if b then Some (e.fsm.own, known e.fsm.peer) else None) low

-- an end that is up exactly where another is, in the same session
pub record AlikeAt (a b : Option LinkEnd) : Type 0 where
  pub up : is_up_at b ≡ is_up_at a
  pub epochs : epochs_at b ≡ epochs_at a

pub alike_itself : (a : Option LinkEnd) → AlikeAt a a
alike_itself a = record { up = refl; epochs = refl }

pub stays_alike : (e d : LinkEnd) → StaysUp e.fsm d.fsm → AlikeAt (Some e) (Some d)
stays_alike e d h = record { up = h.up; epochs = by (is_up e.fsm.state) refl }
  where
    by : (b : Bool) → is_up e.fsm.state ≡ b → epochs_of d ≡ epochs_of e
    by true up = up_epochs d (h.up ∙ up) ∙ (ap (λ n. Some (n, known d.fsm.peer)) (h.own up) ∙ (ap (λ p. Some (e.fsm.own, known p)) (h.peer up) ∙ sym (up_epochs e up)))
    by false low = low_epochs (Some d) (h.up ∙ low) ∙ sym (low_epochs (Some e) low)

pub same_alike : (e d : LinkEnd) → d.fsm ≡ e.fsm → AlikeAt (Some e) (Some d)
same_alike e d same = record { up = ap (λ (f : Fsm). is_up f.state) same; epochs = ap (λ (f : Fsm). if is_up f.state then Some (f.own, known f.peer) else None) same }

-- ---- what is told of the contact

-- nothing of it; that it began; or that it ended
pub data Story : Type 0 where
  stays : Story
  began : (numbers : ℕ × ℕ) → Story
  ended : (numbers : ℕ × ℕ) (states : Option LinkState × Option LinkState) (shown : ℕ) → Story

abbrev pub contact_changes : Story → List Transition
contact_changes stays = []
contact_changes (began numbers) = ContactUp numbers ∷ []
contact_changes (ended numbers states shown) = ContactDown numbers states shown ∷ []

-- what that says of the pair before and after
abbrev pub Means : PairEnds → PairEnds → Story → Type 0
Means x y stays = (in_contact y ≡ in_contact x) × (y.contact ≡ x.contact) × (in_contact x ≡ true → y.seen ≡ x.seen)
Means x y (began numbers) = (in_contact x ≡ false) × (in_contact y ≡ true) × (numbers ≡ (y.contact, y.seen)) × (y.contact ≡ x.contact)
Means x y (ended numbers states shown) = (in_contact x ≡ true) × (numbers ≡ (x.contact, x.seen)) × (in_contact y ≡ false) × (x.contact < y.contact)

-- A course tells this of both links and of the contact.
pub record Tells (x : PairEnds) (c : Course) : Type 0 where
  pub two : x.bearer ≤ 1
  pub bearer : c.pair.bearer ≡ x.bearer
  pub near : fold (epochs_by x.bearer) (epochs_at x.near) c.changes ≡ epochs_at c.pair.near
  pub far : fold (epochs_by (other x.bearer)) (epochs_at x.far) c.changes ≡ epochs_at c.pair.far
  pub story : Story
  pub story_is : filter is_of_contact c.changes ≡ contact_changes story
  pub means : Means x c.pair story

-- ---- one behind the other

-- the contact doesn't begin
abbrev pub IsFall : Story → Type 0
IsFall stays = Unit {0}
IsFall (began numbers) = ⊥
IsFall (ended numbers states shown) = Unit {0}

-- what may follow what in one call
abbrev pub CanFollow : Story → Story → Type 0
CanFollow stays t = Unit {0}
CanFollow (began numbers) (ended gone states shown) = ⊥
CanFollow (began numbers) t = Unit {0}
CanFollow (ended numbers states shown) (began fresh) = ⊥
CanFollow (ended numbers states shown) t = Unit {0}

abbrev pub join : Story → Story → Story
join stays t = t
join s t = s

pub falls_follow : (s t : Story) → IsFall s → IsFall t → CanFollow s t
falls_follow stays t fall next = tt
falls_follow (ended numbers states shown) stays fall next = tt
falls_follow (ended numbers states shown) (ended gone later number) fall next = tt
falls_follow (ended numbers states shown) (began fresh) fall next = next
falls_follow (began numbers) t fall next = absurd fall

pub stays_follows : (s t : Story) → t ≡ stays → CanFollow s t
stays_follows s t is = subst (CanFollow s) (sym is) (by s)
  where
    by : (u : Story) → CanFollow u stays
    by stays = tt
    by (began numbers) = tt
    by (ended numbers states shown) = tt

pub join_falls : (s t : Story) → IsFall s → IsFall t → IsFall (join s t)
join_falls stays t fall next = next
join_falls (ended numbers states shown) t fall next = tt
join_falls (began numbers) t fall next = absurd fall

means_then : (x y z : PairEnds) (s t : Story) → Means x y s → Means y z t → CanFollow s t → Means x z (join s t)
means_then x y z stays stays h k can = (k.0 ∙ h.0, k.1 ∙ h.1, λ there. k.2 (h.0 ∙ there) ∙ h.2 there)
means_then x y z stays (began numbers) h k can = (sym h.0 ∙ k.0, k.1, k.2, k.3 ∙ h.1)
means_then x y z stays (ended numbers states shown) h k can =
    let there : in_contact x ≡ true = sym h.0 ∙ k.0 in
    let higher = k.3 in
    let same = h.1 in
    (there, k.1 ∙ (ap (λ n. (n, y.seen)) h.1 ∙ ap (λ n. (x.contact, n)) (h.2 there)), k.2, omega (arith, higher, same))
means_then x y z (began numbers) stays h k can = (h.0, k.0 ∙ h.1, h.2 ∙ (ap (λ n. (n, y.seen)) (sym k.1) ∙ ap (λ n. (z.contact, n)) (sym (k.2 h.1))), k.1 ∙ h.3)
means_then x y z (began numbers) (began fresh) h k can = not_both (in_contact y) h.1 k.0
means_then x y z (began numbers) (ended gone states shown) h k can = absurd can
means_then x y z (ended numbers states shown) stays h k can = let higher = h.3 in let same = k.1 in (h.0, h.1, k.0 ∙ h.2, omega (arith, higher, same))
means_then x y z (ended numbers states shown) (began fresh) h k can = absurd can
means_then x y z (ended numbers states shown) (ended gone later number) h k can = not_both (in_contact y) k.0 h.2

-- the contact changes of both
joined_changes : (s t : Story) (x y z : PairEnds) → Means x y s → Means y z t → CanFollow s t → contact_changes s ++ contact_changes t ≡ contact_changes (join s t)
joined_changes stays t x y z h k can = refl
joined_changes (began numbers) stays x y z h k can = refl
joined_changes (began numbers) (began fresh) x y z h k can = not_both (in_contact y) h.1 k.0
joined_changes (began numbers) (ended gone states shown) x y z h k can = absurd can
joined_changes (ended numbers states shown) stays x y z h k can = refl
joined_changes (ended numbers states shown) (began fresh) x y z h k can = absurd can
joined_changes (ended numbers states shown) (ended gone later number) x y z h k can = not_both (in_contact y) k.0 h.2

pub tells_then : (x : PairEnds) (first : Course) (step : PairEnds → Course) (h : Tells x first) (k : Tells first.pair (step first.pair)) → CanFollow h.story k.story → (t : Tells x (going_on first step)) × (t.story ≡ join h.story k.story)
unfolding going_on
tells_then x first step h k can =
    let y = first.pair in
    let next = step y in (
      record {
        two = h.two;
        bearer = k.bearer ∙ h.bearer;
        near =
            fold-append (epochs_by x.bearer) (epochs_at x.near) first.changes next.changes
            ∙ (ap (λ z. fold (epochs_by x.bearer) z next.changes) h.near ∙ (ap (λ b. fold (epochs_by b) (epochs_at y.near) next.changes) (sym h.bearer) ∙ k.near));
        far =
            fold-append (epochs_by (other x.bearer)) (epochs_at x.far) first.changes next.changes
            ∙ (ap (λ z. fold (epochs_by (other x.bearer)) z next.changes) h.far ∙ (ap (λ b. fold (epochs_by (other b)) (epochs_at y.far) next.changes) (sym h.bearer) ∙ k.far));
        story = join h.story k.story;
        story_is =
            filter-append is_of_contact first.changes next.changes
            ∙ (ap (λ cs. cs ++ filter is_of_contact next.changes) h.story_is ∙ (ap (λ cs. contact_changes h.story ++ cs) k.story_is ∙ joined_changes h.story k.story x y next.pair h.means k.means can));
        means = means_then x y next.pair h.story k.story h.means k.means can;
      },
      refl,
    )

-- ---- from the other link

or_there : (x : PairEnds) → in_contact (turned x) ≡ in_contact x
or_there x = or_turns (is_up_at x.far) (is_up_at x.near)

means_as : (x y u v : PairEnds) (s : Story) → MeetsAs x u → MeetsAs y v → Means x y s → Means u v s
means_as x y u v stays h k m = (k.there ∙ (m.0 ∙ sym h.there), k.contact ∙ (m.1 ∙ sym h.contact), λ there. k.seen ∙ (m.2 (sym h.there ∙ there) ∙ sym h.seen))
means_as x y u v (began numbers) h k m = (h.there ∙ m.0, k.there ∙ m.1, m.2 ∙ (ap (λ n. (n, y.seen)) (sym k.contact) ∙ ap (λ n. (v.contact, n)) (sym k.seen)), k.contact ∙ (m.3 ∙ sym h.contact))
means_as x y u v (ended numbers states shown) h k m =
    let higher = m.3 in
    let one = h.contact in
    let two = k.contact in
    (h.there ∙ m.0, m.1 ∙ (ap (λ n. (n, x.seen)) (sym h.contact) ∙ ap (λ n. (u.contact, n)) (sym h.seen)), k.there ∙ m.2, omega (arith, higher, one, two))

meets_turned : (x : PairEnds) → MeetsAs x (turned x)
meets_turned x = record { contact = refl; seen = refl; there = or_there x }

meets_unturned : (x : PairEnds) → MeetsAs (turned x) x
meets_unturned x = record { contact = refl; seen = refl; there = sym (or_there x) }

back_again : (b : ℕ) → b ≤ 1 → 1 - (1 - b) ≡ b
back_again b two = omega (arith, two)

pub far_tells : (step : PairEnds → Course) (x : PairEnds) → x.bearer ≤ 1 → (h : Tells (turned x) (step (turned x))) → (t : Tells x (at_far step x)) × (t.story ≡ h.story)
far_tells step x two h =
    let c = step (turned x) in
    let back = back_again x.bearer two in (
      record {
        two = two;
        bearer = ap other h.bearer ∙ back;
        near = ap (λ b. fold (epochs_by b) (epochs_at x.near) c.changes) (sym back) ∙ h.far;
        far = h.near;
        story = h.story;
        story_is = h.story_is;
        means = means_as (turned x) c.pair x (turned c.pair) h.story (meets_unturned x) (meets_turned c.pair) h.means;
      },
      refl,
    )

at_same : (bearer : ℕ) (call : PairEnds → Course) (x : PairEnds) → x.bearer ≤ 1 → (y : PairEnds) → y ≡ x → (h : Tells y (call y)) → (t : Tells x (record (call y) { pair = facing x.bearer (call y).pair })) × (t.story ≡ h.story)
at_same bearer call x two y there h =
    let c = call y in
    let near : c.pair.bearer ≡ x.bearer = h.bearer ∙ ap (λ (z : PairEnds). z.bearer) there in
    let whole : facing x.bearer c.pair ≡ c.pair = facing_near x.bearer c.pair near in (
      record {
        two = two;
        bearer = ap (λ (z : PairEnds). z.bearer) whole ∙ near;
        near = ap (λ (z : PairEnds). fold (epochs_by z.bearer) (epochs_at z.near) c.changes) (sym there) ∙ (h.near ∙ ap (λ (z : PairEnds). epochs_at z.near) (sym whole));
        far = ap (λ (z : PairEnds). fold (epochs_by (other z.bearer)) (epochs_at z.far) c.changes) (sym there) ∙ (h.far ∙ ap (λ (z : PairEnds). epochs_at z.far) (sym whole));
        story = h.story;
        story_is = h.story_is;
        means = subst (λ (z : PairEnds). Means x z h.story) (sym whole) (subst (λ (z : PairEnds). Means z c.pair h.story) there h.means);
      },
      refl,
    )

at_other : (bearer : ℕ) (call : PairEnds → Course) (x : PairEnds) → x.bearer ≤ 1 → (y : PairEnds) → y ≡ turned x → (h : Tells y (call y)) → (t : Tells x (record (call y) { pair = facing x.bearer (call y).pair })) × (t.story ≡ h.story)
at_other bearer call x two y there h =
    let c = call y in
    let far : c.pair.bearer ≡ 1 - x.bearer = h.bearer ∙ ap (λ (z : PairEnds). z.bearer) there in
    let apart : (c.pair.bearer == x.bearer) ≡ false = grind (arith, nat_tests, far, two) in
    let whole : facing x.bearer c.pair ≡ turned c.pair = facing_far x.bearer c.pair apart in
    let back = back_again x.bearer two in (
      record {
        two = two;
        bearer = ap (λ (z : PairEnds). z.bearer) whole ∙ (ap other far ∙ back);
        near = ap (λ b. fold (epochs_by b) (epochs_at x.near) c.changes) (sym back)
            ∙ (ap (λ (z : PairEnds). fold (epochs_by (other z.bearer)) (epochs_at z.far) c.changes) (sym there) ∙ (h.far ∙ ap (λ (z : PairEnds). epochs_at z.near) (sym whole)));
        far = ap (λ (z : PairEnds). fold (epochs_by z.bearer) (epochs_at z.near) c.changes) (sym there) ∙ (h.near ∙ ap (λ (z : PairEnds). epochs_at z.far) (sym whole));
        story = h.story;
        story_is = h.story_is;
        means = subst (λ (z : PairEnds). Means x z h.story) (sym whole)
            (means_as (turned x) c.pair x (turned c.pair) h.story (meets_unturned x) (meets_turned c.pair) (subst (λ (z : PairEnds). Means z c.pair h.story) there h.means));
      },
      refl,
    )

-- a call at the link of a bearer
pub at_tells : (bearer : ℕ) (call : PairEnds → Course) (x : PairEnds) → x.bearer ≤ 1 → (h : Tells (facing bearer x) (call (facing bearer x))) → (t : Tells x (at_bearer bearer x call)) × (t.story ≡ h.story)
at_tells bearer call x two h = by (x.bearer == bearer) refl
  where
    by : (b : Bool) → (x.bearer == bearer) ≡ b → (t : Tells x (at_bearer bearer x call)) × (t.story ≡ h.story)
    by true is =
        let same : x.bearer ≡ bearer = grind (arith, nat_tests, is) in
        let there : facing bearer x ≡ x = facing_near bearer x same in
        at_same bearer call x two (facing bearer x) there h
    by false is =
        let there : facing bearer x ≡ turned x = facing_far bearer x is in
        at_other bearer call x two (facing bearer x) there h

-- ---- nothing is told

-- each link is up or down as before, in the same session, and so is the contact
pub record Still (x y : PairEnds) : Type 0 where
  pub near : AlikeAt x.near y.near
  pub far : AlikeAt x.far y.far
  pub contact : y.contact ≡ x.contact
  pub seen : y.seen ≡ x.seen
  pub bearer : y.bearer ≡ x.bearer

pub still_itself : (x : PairEnds) → Still x x
still_itself x = record { near = alike_itself x.near; far = alike_itself x.far; contact = refl; seen = refl; bearer = refl }

still_there : (x y : PairEnds) → Still x y → in_contact y ≡ in_contact x
still_there x y h = let n = h.near in let f = h.far in ap (λ b. b || is_up_at y.far) n.up ∙ ap (λ b. is_up_at x.near || b) f.up

pub still_tells : (x : PairEnds) (c : Course) → x.bearer ≤ 1 → c.changes ≡ [] → Still x c.pair → (t : Tells x c) × (t.story ≡ stays)
still_tells x c two none h =
    let n = h.near in
    let f = h.far in (
      record {
        two = two;
        bearer = h.bearer;
        near = ap (fold (epochs_by x.bearer) (epochs_at x.near)) none ∙ sym n.epochs;
        far = ap (fold (epochs_by (other x.bearer)) (epochs_at x.far)) none ∙ sym f.epochs;
        story = stays;
        story_is = ap (filter is_of_contact) none;
        means = (still_there x c.pair h, h.contact, λ there. h.seen);
      },
      refl,
    )

-- ---- release, and what is put

let_go_alike : (end : Option LinkEnd) → AlikeAt end (option_map let_go end)
let_go_alike None = alike_itself None
let_go_alike (Some e) = stays_alike e (let_go e) (release_stays e.fsm)

clear_still : (x : PairEnds) (clear : Bool) → Still x (if clear then record (rests (record x { near = option_map let_go x.near })) { states = let_go_frames x.near } else rests x).pair
clear_still x true = record { near = let_go_alike x.near; far = alike_itself x.far; contact = refl; seen = refl; bearer = refl }
clear_still x false = still_itself x

clear_quiet : (x : PairEnds) (clear : Bool) → (if clear then record (rests (record x { near = option_map let_go x.near })) { states = let_go_frames x.near } else rests x).changes ≡ []
clear_quiet x true = refl
clear_quiet x false = refl

release_tells : (x : PairEnds) → x.bearer ≤ 1 → (t : Tells x (release_near x)) × (t.story ≡ stays)
release_tells x two = still_tells x (release_near x) two (clear_quiet x (is_clear x.far)) (clear_still x (is_clear x.far))

turned_two : (x : PairEnds) → (turned x).bearer ≤ 1
turned_two x = omega arith

kept_two : (x : PairEnds) (c : Course) → Tells x c → c.pair.bearer ≤ 1
kept_two x c t = let two = t.two in let same = t.bearer in omega (arith, two, same)

pub released_tells : (x : PairEnds) → x.bearer ≤ 1 → (t : Tells x (released x)) × (t.story ≡ stays)
unfolding released
released_tells x two =
    let first = release_tells x two in
    let y = (release_near x).pair in
    let again = release_tells (turned y) (turned_two y) in
    let far = far_tells release_near y (kept_two x (release_near x) first.0) again.0 in
    let both = tells_then x (release_near x) (at_far release_near) first.0 far.0 (stays_follows first.0.story far.0.story (far.1 ∙ again.1)) in
    (both.0, both.1 ∙ (ap (λ s. join s far.0.story) first.1 ∙ (far.1 ∙ again.1)))

-- ---- changeover

still_with : (x : PairEnds) (n f m g : LinkEnd) → x.near ≡ Some n → x.far ≡ Some f → m.fsm ≡ n.fsm → g.fsm ≡ f.fsm → Still x (with_far (with_near x m) g)
still_with x n f m g near far one two = record {
  near = subst (λ o. AlikeAt o (Some m)) (sym near) (same_alike n m one);
  far = subst (λ o. AlikeAt o (Some g)) (sym far) (same_alike f g two);
  contact = refl;
  seen = refl;
  bearer = refl;
}

failing_still : (x : PairEnds) (n f : LinkEnd) (a b : Option SessionEnd) → x.near ≡ Some n → x.far ≡ Some f → Still x (failing x n f a b).pair
failing_still x n f (Some lost) (Some s) near far = still_with x n f (handed_over n) (loaded f s (left_by lost)) near far refl refl
failing_still x n f (Some lost) None near far = still_itself x
failing_still x n f None b near far = still_itself x

fail_over_still : (x : PairEnds) (o p : Option LinkEnd) → x.near ≡ o → x.far ≡ p → Still x (fail_over_to x o p).pair
fail_over_still x (Some n) (Some f) near far = failing_still x n f n.session f.session near far
fail_over_still x (Some n) None near far = still_itself x
fail_over_still x None p near far = still_itself x

switching_still : (x : PairEnds) (n f : LinkEnd) (a b : Option SessionEnd) → x.near ≡ Some n → x.far ≡ Some f → Still x (switching x n f a b).pair
switching_still x n f (Some s) (Some old) near far = still_with x n f (loaded n s (taken_over old)) (without_waiting f) near far refl refl
switching_still x n f (Some s) None near far = still_itself x
switching_still x n f None b near far = still_itself x

switch_still : (x : PairEnds) (o p : Option LinkEnd) → x.near ≡ o → x.far ≡ p → Still x (switch_from x o p).pair
switch_still x (Some n) (Some f) near far = switching_still x n f n.session f.session near far
switch_still x (Some n) None near far = still_itself x
switch_still x None p near far = still_itself x

-- ---- the end of a contact

-- the ends are on their bearers
pub record AreOn (x : PairEnds) : Type 0 where
  pub two : x.bearer ≤ 1
  pub near : IfSome x.near (λ (e : LinkEnd). e.bearer ≡ x.bearer)
  pub far : IfSome x.far (λ (e : LinkEnd). e.bearer ≡ other x.bearer)

same_bearer : (a b : ℕ) → a ≡ b → (a == b) ≡ true
same_bearer a b is = grind (arith, nat_tests, is)

-- what is told of the ends that go down with the contact
own_ended : (b : ℕ) (end : Option LinkEnd) → IfSome end (λ (e : LinkEnd). e.bearer ≡ b) → fold (epochs_by b) (epochs_at end) (flat_map ended_with (made_of end)) ≡ None
own_ended b None on = refl
own_ended b (Some e) on = by (is_up e.fsm.state) refl
  where
    by : (t : Bool) → is_up e.fsm.state ≡ t → fold (epochs_by b) (epochs_of e) ((if t then LinkDown e.bearer cause.ContactEnded 0 ∷ [] else []) ++ []) ≡ None
    by true up = ap (λ u. if u then None else epochs_of e) (same_bearer e.bearer b on)
    by false low = low_epochs (Some e) low

either_none : (u : Bool) → ◌≡◌ {A = Option (ℕ × ℕ)} (if u then None else None) None
either_none true = refl
either_none false = refl

none_ended : (b : ℕ) (end : Option LinkEnd) → fold (epochs_by b) None (flat_map ended_with (made_of end)) ≡ None
none_ended b None = refl
none_ended b (Some e) = by (is_up e.fsm.state)
  where
    by : (t : Bool) → fold (epochs_by b) None ((if t then LinkDown e.bearer cause.ContactEnded 0 ∷ [] else []) ++ []) ≡ None
    by true = either_none (e.bearer == b)
    by false = refl

other_ended : (b : ℕ) (z : Option (ℕ × ℕ)) (end : Option LinkEnd) → IfSome end (λ (e : LinkEnd). (e.bearer == b) ≡ false) → fold (epochs_by b) z (flat_map ended_with (made_of end)) ≡ z
other_ended b z None on = refl
other_ended b z (Some e) on = by (is_up e.fsm.state)
  where
    by : (t : Bool) → fold (epochs_by b) z ((if t then LinkDown e.bearer cause.ContactEnded 0 ∷ [] else []) ++ []) ≡ z
    by true = ap (λ u. if u then None else z) on
    by false = refl

parts : (b : ℕ) (z : Option (ℕ × ℕ)) (p q : Option LinkEnd) → fold (epochs_by b) z (flat_map ended_with (made_of p ++ made_of q)) ≡ fold (epochs_by b) (fold (epochs_by b) z (flat_map ended_with (made_of p))) (flat_map ended_with (made_of q))
parts b z p q = ap (fold (epochs_by b) z) (flat_map-append ended_with (made_of p) (made_of q)) ∙ fold-append (epochs_by b) z (flat_map ended_with (made_of p)) (flat_map ended_with (made_of q))

own_first : (b : ℕ) (p q : Option LinkEnd) → IfSome p (λ (e : LinkEnd). e.bearer ≡ b) → fold (epochs_by b) (epochs_at p) (flat_map ended_with (made_of p ++ made_of q)) ≡ None
own_first b p q on = parts b (epochs_at p) p q ∙ (ap (λ z. fold (epochs_by b) z (flat_map ended_with (made_of q))) (own_ended b p on) ∙ none_ended b q)

own_last : (b : ℕ) (p q : Option LinkEnd) → IfSome p (λ (e : LinkEnd). (e.bearer == b) ≡ false) → IfSome q (λ (e : LinkEnd). e.bearer ≡ b) → fold (epochs_by b) (epochs_at q) (flat_map ended_with (made_of p ++ made_of q)) ≡ None
own_last b p q apart on = parts b (epochs_at q) p q ∙ (ap (λ z. fold (epochs_by b) z (flat_map ended_with (made_of q))) (other_ended b (epochs_at q) p apart) ∙ own_ended b q on)

none_both : (b : ℕ) (p q : Option LinkEnd) → fold (epochs_by b) None (flat_map ended_with (made_of p ++ made_of q)) ≡ None
none_both b p q = parts b None p q ∙ (ap (λ z. fold (epochs_by b) z (flat_map ended_with (made_of q))) (none_ended b p) ∙ none_ended b q)

-- the ends by bearer are the near one and the far one, or the other way round
in_order : (P : List LinkEnd → Type 0) (x : PairEnds) → x.bearer ≤ 1 → P (made_of x.near ++ made_of x.far) → P (made_of x.far ++ made_of x.near) → P (ends_of x)
in_order P x two one other_way = by (x.bearer == 0) refl
  where
    by : (b : Bool) → (x.bearer == 0) ≡ b → P (ends_of x)
    by true is =
        let zero_is : x.bearer ≡ 0 = grind (arith, nat_tests, is) in
        let apart : (x.bearer == 1) ≡ false = grind (arith, nat_tests, zero_is) in
        subst (λ (y : PairEnds). P (made_of y.near ++ made_of (facing 1 x).near)) (sym (facing_near 0 x zero_is)) (subst (λ (y : PairEnds). P (made_of x.near ++ made_of y.near)) (sym (facing_far 1 x apart)) one)
    by false is =
        let one_is : x.bearer ≡ 1 = grind (arith, nat_tests, is, two) in
        subst (λ (y : PairEnds). P (made_of y.near ++ made_of (facing 1 x).near)) (sym (facing_far 0 x is)) (subst (λ (y : PairEnds). P (made_of x.far ++ made_of y.near)) (sym (facing_near 1 x one_is)) other_way)

apart_of : (a b : ℕ) → a ≤ 1 → b ≡ 1 - a → (b == a) ≡ false
apart_of a b two is = grind (arith, nat_tests, two, is)

apart_from : (a b : ℕ) → a ≤ 1 → b ≡ a → (b == (1 - a)) ≡ false
apart_from a b two is = grind (arith, nat_tests, two, is)

on_apart : (end : Option LinkEnd) (a b : ℕ) → ((e : LinkEnd) → e.bearer ≡ b → (e.bearer == a) ≡ false) → IfSome end (λ (e : LinkEnd). e.bearer ≡ b) → IfSome end (λ (e : LinkEnd). (e.bearer == a) ≡ false)
on_apart None a b apart on = tt
on_apart (Some e) a b apart on = apart e on

ended_near : (x : PairEnds) → AreOn x → fold (epochs_by x.bearer) (epochs_at x.near) (flat_map ended_with (ends_of x)) ≡ None
ended_near x h =
    in_order (λ es. fold (epochs_by x.bearer) (epochs_at x.near) (flat_map ended_with es) ≡ None) x h.two (own_first x.bearer x.near x.far h.near)
    (own_last x.bearer x.far x.near (on_apart x.far x.bearer (other x.bearer) (λ e is. apart_of x.bearer e.bearer h.two is) h.far) h.near)

ended_far : (x : PairEnds) → AreOn x → fold (epochs_by (other x.bearer)) (epochs_at x.far) (flat_map ended_with (ends_of x)) ≡ None
ended_far x h =
    in_order (λ es. fold (epochs_by (other x.bearer)) (epochs_at x.far) (flat_map ended_with es) ≡ None) x h.two
    (own_last (other x.bearer) x.near x.far (on_apart x.near (other x.bearer) x.bearer (λ e is. apart_from x.bearer e.bearer h.two is) h.near) h.far)
    (own_first (other x.bearer) x.far x.near h.far)

ended_none : (b : ℕ) (x : PairEnds) → x.bearer ≤ 1 → fold (epochs_by b) None (flat_map ended_with (ends_of x)) ≡ None
ended_none b x two = in_order (λ es. fold (epochs_by b) None (flat_map ended_with es) ≡ None) x two (none_both b x.near x.far) (none_both b x.far x.near)

no_contact_one : (end : Option LinkEnd) → filter is_of_contact (flat_map ended_with (made_of end)) ≡ []
no_contact_one None = refl
no_contact_one (Some e) = by (is_up e.fsm.state)
  where
    by : (t : Bool) → filter is_of_contact ((if t then LinkDown e.bearer cause.ContactEnded 0 ∷ [] else []) ++ []) ≡ []
    by true = refl
    by false = refl

no_contact_both : (p q : Option LinkEnd) → filter is_of_contact (flat_map ended_with (made_of p ++ made_of q)) ≡ []
no_contact_both p q =
    ap (filter is_of_contact) (flat_map-append ended_with (made_of p) (made_of q))
    ∙ (filter-append is_of_contact (flat_map ended_with (made_of p)) (flat_map ended_with (made_of q))
    ∙ (ap (λ cs. cs ++ filter is_of_contact (flat_map ended_with (made_of q))) (no_contact_one p) ∙ no_contact_one q))

no_contact : (x : PairEnds) → filter is_of_contact (flat_map ended_with (ends_of x)) ≡ []
no_contact x = no_contact_both (facing 0 x).near (facing 1 x).near

-- what is told last of a contact that ends
last_fold : (b : ℕ) (z : Option (ℕ × ℕ)) (cs : List Transition) (contact : ℕ × ℕ) (states : Option LinkState × Option LinkState) (shown : ℕ) → fold (epochs_by b) z cs ≡ None → fold (epochs_by b) z (cs ++ ContactDown contact states shown ∷ []) ≡ None
last_fold b z cs contact states shown is = fold-append (epochs_by b) z cs (ContactDown contact states shown ∷ []) ∙ is

last_filter : (cs : List Transition) (contact : ℕ × ℕ) (states : Option LinkState × Option LinkState) (shown : ℕ) → filter is_of_contact cs ≡ [] → filter is_of_contact (cs ++ ContactDown contact states shown ∷ []) ≡ ContactDown contact states shown ∷ []
last_filter cs contact states shown is = filter-append is_of_contact cs (ContactDown contact states shown ∷ []) ∙ ap (λ ds. ds ++ ContactDown contact states shown ∷ []) is

-- the contact ends, under the higher number that the peer showed or the one that it had
pub ends_tells : (x : PairEnds) (seen shown : ℕ) → AreOn x → in_contact x ≡ true → (t : Tells x (contact_ends (record x { seen = seen }) (x.contact, x.seen) shown)) × IsFall t.story
ends_tells x seen shown h there =
    let y : PairEnds = record x { seen = seen } in
    let on : AreOn y = record { two = h.two; near = h.near; far = h.far } in
    let cs = flat_map ended_with (ends_of y) in
    let states = states_of (parted y) in (
      record {
        two = h.two;
        bearer = refl;
        near = last_fold x.bearer (epochs_at x.near) cs (x.contact, x.seen) states shown (ended_near y on) ∙ sym (low_epochs (parted y).near (parted_low (x.contact + 1) seen x.near));
        far = last_fold (other x.bearer) (epochs_at x.far) cs (x.contact, x.seen) states shown (ended_far y on) ∙ sym (low_epochs (parted y).far (parted_low (x.contact + 1) seen x.far));
        story = ended (x.contact, x.seen) states shown;
        story_is = last_filter cs (x.contact, x.seen) states shown (no_contact y);
        means = (there, refl, parted_out y, omega arith);
      },
      tt,
    )

-- ---- what follows a change of the near link

-- where the other link is up nothing becomes of the contact
pub record Follows (x : PairEnds) (change : Change) (c : Course) : Type 0 where
  pub tells : Tells x c
  pub beside : is_up_at x.far ≡ true → tells.story ≡ stays
  pub falls : is_going_up change ≡ false → IsFall tells.story
  pub rises : is_going_up change ≡ true → is_up_at c.pair.near ≡ true

stays_fall : (s : Story) → s ≡ stays → IsFall s
stays_fall s is = subst IsFall (sym is) tt

up_told_is : (x : PairEnds) (e new : LinkEnd) (c : Course) → x.bearer ≤ 1 → x.near ≡ Some e → is_up e.fsm.state ≡ false → is_up new.fsm.state ≡ true → c.changes ≡ [] → Still (with_near x new) c.pair → is_up_at x.far ≡ true
    → Follows x Up (telling (LinkUp x.bearer new.fsm.own (known new.fsm.peer)) c)
up_told_is x e new c two near low up quiet still far_up =
    let t = LinkUp x.bearer new.fsm.own (known new.fsm.peer) in
    let n = still.near in
    let f = still.far in
    let there_x : in_contact x ≡ true = ap (λ b. is_up_at x.near || b) far_up ∙ or_true (is_up_at x.near) in
    let there_c : in_contact c.pair ≡ true = ap (λ b. b || is_up_at c.pair.far) (n.up ∙ up) in
    let own = same_bearer x.bearer x.bearer refl in
    let apart = apart_from x.bearer x.bearer two refl in
    let told : Tells x (telling t c) = record {
      two = two;
      bearer = still.bearer;
      near =
          ap (fold (epochs_by x.bearer) (epochs_by x.bearer (epochs_at x.near) t)) quiet ∙ (ap (λ b. if b then Some (new.fsm.own, known new.fsm.peer) else epochs_at x.near) own
          ∙ (sym (up_epochs new up) ∙ sym n.epochs));
      far = ap (fold (epochs_by (other x.bearer)) (epochs_by (other x.bearer) (epochs_at x.far) t)) quiet ∙ (ap (λ b. if b then Some (new.fsm.own, known new.fsm.peer) else epochs_at x.far) apart ∙ sym f.epochs);
      story = stays;
      story_is = ap (filter is_of_contact) quiet;
      means = (there_c ∙ sym there_x, still.contact, λ there. still.seen);
    } in
    record { tells = told; beside = λ is. refl; falls = λ is. tt; rises = λ is. n.up ∙ up }

begins_told : (x : PairEnds) (e new : LinkEnd) → x.bearer ≤ 1 → x.near ≡ Some e → is_up e.fsm.state ≡ false → is_up new.fsm.state ≡ true → is_up_at x.far ≡ false
    → Follows x Up (telling (LinkUp x.bearer new.fsm.own (known new.fsm.peer)) (contact_begins (with_near x new)))
begins_told x e new two near low up far_low =
    let t = LinkUp x.bearer new.fsm.own (known new.fsm.peer) in
    let own = same_bearer x.bearer x.bearer refl in
    let apart = apart_from x.bearer x.bearer two refl in
    let out : in_contact x ≡ false = ap (λ b. b || is_up_at x.far) (ap is_up_at near ∙ low) ∙ far_low in
    let told : Tells x (telling t (contact_begins (with_near x new))) = record {
      two = two;
      bearer = refl;
      near = ap (λ b. if b then Some (new.fsm.own, known new.fsm.peer) else epochs_at x.near) own ∙ sym (up_epochs new up);
      far = ap (λ b. if b then Some (new.fsm.own, known new.fsm.peer) else epochs_at x.far) apart;
      story = began (x.contact, x.seen);
      story_is = refl;
      means = (out, ap (λ b. b || is_up_at x.far) up, refl, refl);
    } in
    record { tells = told; beside = λ is. not_both (is_up_at x.far) is far_low; falls = λ is. absurd (let wrong : ⊥ = cc in wrong); rises = λ is. up }

rises_tells : (x : PairEnds) (e new : LinkEnd) (epoch : ℕ) → x.bearer ≤ 1 → x.near ≡ Some e → is_up e.fsm.state ≡ false → is_up new.fsm.state ≡ true → Follows x Up (following (with_near x new) Up epoch)
rises_tells x e new epoch two near low up = by (is_up_at x.far) refl
  where
    w : PairEnds
    w = with_near x new

    upward : Bool → Bool → Course
    upward far first = telling (LinkUp x.bearer new.fsm.own (known new.fsm.peer)) (if far then (if first then switch w else rests w) else contact_begins w)

    first_by : (b : Bool) → is_up_at x.far ≡ true → Follows x Up (upward true b)
    first_by true far_up = up_told_is x e new (switch w) two near low up (switch_none w w.near w.far) (switch_still w w.near w.far refl refl) far_up
    first_by false far_up = up_told_is x e new (rests w) two near low up refl (still_itself w) far_up

    by : (b : Bool) → is_up_at x.far ≡ b → Follows x Up (following (with_near x new) Up epoch)
    by true is = subst (λ b. Follows x Up (upward b (x.bearer == 0))) (sym is) (first_by (x.bearer == 0) is)
    by false is = subst (λ b. Follows x Up (upward b (x.bearer == 0))) (sym is) (begins_told x e new two near low up is)

down_beside : (x : PairEnds) (e new : LinkEnd) (t : Transition) (c : Course) → x.bearer ≤ 1 → x.near ≡ Some e → is_up new.fsm.state ≡ false → c.changes ≡ [] → Still (with_near x new) c.pair → is_up_at x.far ≡ true
    → ((z : Option (ℕ × ℕ)) → epochs_by x.bearer z t ≡ None) → ((z : Option (ℕ × ℕ)) → epochs_by (other x.bearer) z t ≡ z) → is_of_contact t ≡ false → (u : Tells x (telling t c)) × (u.story ≡ stays)
down_beside x e new t c two near low quiet still far_up own apart plain =
    let n = still.near in
    let f = still.far in
    let there_x : in_contact x ≡ true = ap (λ b. is_up_at x.near || b) far_up ∙ or_true (is_up_at x.near) in
    let there_c : in_contact c.pair ≡ true = ap (λ b. is_up_at c.pair.near || b) (f.up ∙ far_up) ∙ or_true (is_up_at c.pair.near) in (
      record {
        two = two;
        bearer = still.bearer;
        near = ap (fold (epochs_by x.bearer) (epochs_by x.bearer (epochs_at x.near) t)) quiet ∙ (own (epochs_at x.near) ∙ (sym (low_epochs (Some new) low) ∙ sym n.epochs));
        far = ap (fold (epochs_by (other x.bearer)) (epochs_by (other x.bearer) (epochs_at x.far) t)) quiet ∙ (apart (epochs_at x.far) ∙ sym f.epochs);
        story = stays;
        story_is = ap (λ b. if b then t ∷ filter is_of_contact c.changes else filter is_of_contact c.changes) plain ∙ ap (filter is_of_contact) quiet;
        means = (there_c ∙ sym there_x, still.contact, λ there. still.seen);
      },
      refl,
    )

down_alone : (x : PairEnds) (e new : LinkEnd) (reason : Cause) (epoch : ℕ) → AreOn x → x.near ≡ Some e → new.bearer ≡ e.bearer → is_up e.fsm.state ≡ true → is_up new.fsm.state ≡ false → is_up_at x.far ≡ false
    → (u : Tells x (telling (LinkDown x.bearer reason epoch) (contact_ends (with_near x new) (x.contact, x.seen) 0))) × IsFall u.story
down_alone x e new reason epoch h near same up low far_low =
    let w = with_near x new in
    let cs = flat_map ended_with (ends_of w) in
    let states = states_of (parted w) in
    let own = same_bearer x.bearer x.bearer refl in
    let apart = apart_from x.bearer x.bearer h.two refl in
    let there : in_contact x ≡ true = ap (λ b. b || is_up_at x.far) (ap is_up_at near ∙ up) in
    let ended_is : Story = ended (x.contact, x.seen) states 0 in (
      record {
        two = h.two;
        bearer = refl;
        near =
            ap (λ b. fold (epochs_by x.bearer) (if b then None else epochs_at x.near) (cs ++ ContactDown (x.contact, x.seen) states 0 ∷ [])) own
            ∙ (last_fold x.bearer None cs (x.contact, x.seen) states 0 (ended_none x.bearer w h.two) ∙ sym (low_epochs (parted w).near (parted_low (x.contact + 1) x.seen (Some new))));
        far =
            ap (λ b. fold (epochs_by (other x.bearer)) (if b then None else epochs_at x.far) (cs ++ ContactDown (x.contact, x.seen) states 0 ∷ [])) apart
            ∙ (ap (λ z. fold (epochs_by (other x.bearer)) z (cs ++ ContactDown (x.contact, x.seen) states 0 ∷ [])) (low_epochs x.far far_low)
            ∙ (last_fold (other x.bearer) None cs (x.contact, x.seen) states 0 (ended_none (other x.bearer) w h.two) ∙ sym (low_epochs (parted w).far (parted_low (x.contact + 1) x.seen x.far))));
        story = ended_is;
        story_is = last_filter cs (x.contact, x.seen) states 0 (no_contact w);
        means = (there, refl, parted_out w, omega arith);
      },
      tt,
    )

falls_tells : (x : PairEnds) (e new : LinkEnd) (reason : Cause) (epoch : ℕ) → AreOn x → x.near ≡ Some e → new.bearer ≡ e.bearer → is_up e.fsm.state ≡ true → is_up new.fsm.state ≡ false
    → Follows x (Down reason) (following (with_near x new) (Down reason) epoch)
falls_tells x e new reason epoch h near same up low = by (is_up_at x.far) refl
  where
    w : PairEnds
    w = with_near x new

    t : Transition
    t = LinkDown x.bearer reason (shown_with reason epoch)

    own : (z : Option (ℕ × ℕ)) → epochs_by x.bearer z t ≡ None
    own z = ap (λ b. if b then None else z) (same_bearer x.bearer x.bearer refl)

    apart : (z : Option (ℕ × ℕ)) → epochs_by (other x.bearer) z t ≡ z
    apart z = ap (λ b. if b then None else z) (apart_from x.bearer x.bearer h.two refl)

    downward : Bool → Course
    downward far = telling t (if far then fail_over w else contact_ends w (w.contact, w.seen) 0)

    beside : (u : Tells x (downward true)) × (u.story ≡ stays) → Follows x (Down reason) (downward true)
    beside u = record { tells = u.0; beside = λ is. u.1; falls = λ is. stays_fall u.0.story u.1; rises = λ is. absurd (let wrong : ⊥ = cc in wrong) }

    alone : is_up_at x.far ≡ false → (u : Tells x (downward false)) × IsFall u.story → Follows x (Down reason) (downward false)
    alone far_low u = record { tells = u.0; beside = λ is. not_both (is_up_at x.far) is far_low; falls = λ is. u.1; rises = λ is. absurd (let wrong : ⊥ = cc in wrong) }

    by : (b : Bool) → is_up_at x.far ≡ b → Follows x (Down reason) (following w (Down reason) epoch)
    by true is =
        let still = fail_over_still w w.near w.far refl refl in
        let none = fail_over_none w w.near w.far in
        subst (λ b. Follows x (Down reason) (downward b)) (sym is) (beside (down_beside x e new t (fail_over w) h.two near low none still is own apart refl))
    by false is = subst (λ b. Follows x (Down reason) (downward b)) (sym is) (alone is (down_alone x e new reason (shown_with reason epoch) h near same up low is))

-- the near end changed by an outcome of its link states, and what follows is done
steady_tells : (x : PairEnds) (e new : LinkEnd) (c : Change) → x.bearer ≤ 1 → x.near ≡ Some e → StaysUp e.fsm new.fsm → is_going_up c ≡ false → Follows x c (rests (with_near x new))
steady_tells x e new c two near stay quiet =
    let near_is : AlikeAt x.near (Some new) = subst (λ o. AlikeAt o (Some new)) (sym near) (stays_alike e new stay) in
    let t = still_tells x (rests (with_near x new)) two refl (record { near = near_is; far = alike_itself x.far; contact = refl; seen = refl; bearer = refl }) in
    record { tells = t.0; beside = λ is. t.1; falls = λ is. stays_fall t.0.story t.1; rises = λ is. not_both (is_going_up c) is quiet }

pub following_tells : (x : PairEnds) (e new : LinkEnd) (f : Fsm) (c : Change) (epoch : ℕ) → AreOn x → x.near ≡ Some e → new.bearer ≡ e.bearer → new.fsm ≡ f → StepOf e.fsm f c → Follows x c (following (with_near x new) c epoch)
following_tells x e new f Up epoch h near same is step = rises_tells x e new epoch h.two near step.0 (ap (λ (g : Fsm). is_up g.state) is ∙ step.1)
following_tells x e new f (Down reason) epoch h near same is step = falls_tells x e new reason epoch h near same step.0 (ap (λ (g : Fsm). is_up g.state) is ∙ step.1)
following_tells x e new f Stay epoch h near same is step = steady_tells x e new Stay h.two near (subst (StaysUp e.fsm) (sym is) step) refl
following_tells x e new f (Answer reply) epoch h near same is step = steady_tells x e new (Answer reply) h.two near (subst (StaysUp e.fsm) (sym is) step) refl
following_tells x e new f (Ignore reason) epoch h near same is step = steady_tells x e new (Ignore reason) h.two near (subst (StaysUp e.fsm) (sym is) step) refl
