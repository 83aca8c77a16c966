-- A pair of link ends stays one, through what a call or a packet makes of the near link and what follows.
use Rattle.std.specs.Prelude.{All, IfSome}
use Rattle.std.proofs.Common.{◌≡◌, ◌≤◌, ◌+◌, ◌==◌, ℕ, true, false, if◌then◌else◌, List, Option, Some, None, option_map, refl, sym, ap, ◌∙◌, subst, arith}
use Rattle.std.proofs.lemmas.Bool.{and_parts, true≢false}
use Rattle.tipc_types.specs.LinkStates.{is_up}
use Rattle.tipc_types.specs.declared.link_words.BroadcastState.{BroadcastState}
use Rattle.tipc_types.specs.declared.link_words.Cause.{Cause}
use Rattle.tipc_header.specs.Spelling.{Fields}
use Rattle.tipc_link.specs.Links.{LinkEnd, after, heard_end, is_down, is_heard, is_taken, is_traffic}
use Rattle.tipc_link.specs.Parts.{is_quiet}
use Rattle.tipc_link.specs.Sessions.{SessionEnd, arrived, content_of, flushed, put}
use Rattle.tipc_link.proofs.EndsTurns.{Turn, fall, learn, rise, stay}
use Rattle.tipc_link_fsm.specs.declared.changes.Change.{Change}
use Rattle.tipc_link_fsm.specs.declared.changes.Change.TheVariants.{Down, Up}
use Rattle.tipc_link_fsm.specs.Runs.{Call, TickPasses, TrafficArrives, outcome, shown_epochs}
use Rattle.tipc_link_fsm.specs.Table.{Fsm, on_traffic}
use Rattle.tipc_link_fsm.proofs.Moves.{moves}
use Rattle.tipc_pair.specs.Changeovers.{contact_begins, contact_ends, fail_over, fail_over_to, failing, following, gone_down, gone_up, is_clear, let_go, let_go_frames, loaded, release_near, released, switch, switch_from, switching}
use Rattle.tipc_pair.specs.Courses.{Course, going_on, rests}
use Rattle.tipc_pair.specs.Facing.{PairEnds, facing, is_up_at, other, turned, with_near}
use Rattle.tipc_pair.specs.PairArrivals.{met}
use Rattle.tipc_pair.specs.PairCalls.{at_bearer, stepped, tick_at, tick_near}
use Rattle.tipc_pair.specs.PairFacts.{HasChanged, IsEndOf, IsPairOfEnds}
use Rattle.tipc_pair.specs.Runs.{IsListed, left_by, taken_over}
use Rattle.tipc_pair.proofs.EndFacts.{end_mapped, near_kept, released_kept, session_kept, some_mapped}
use Rattle.tipc_pair.proofs.EndSteps.{both_kept, end_after, end_given, end_handed, end_heard, far_of, fsm_after, has_changed, near_of, session_is, some_after}
use Rattle.tipc_pair.proofs.Followings.{parted_kept}
use Rattle.tipc_pair.proofs.Falls.{Falls}
use Rattle.tipc_pair.proofs.SessionFacts.{flushed_on, put_listed}
use Rattle.tipc_paired.proofs.sessions.CallDeeds.{call_named}
use Rattle.tipc_paired.proofs.sessions.SessionDeeds.{epochs_fit}
use Rattle.tipc_paired.proofs.wires.Turns.{call_turns, shown_to}
use Rattle.tipc_paired.specs.Deeds.{MayCall}
use Rattle.tipc_paired.specs.Paired.{ArePaired}
use Rattle.tipc_paired.specs.Views.{View}
use Rattle.tipc_two_nodes.proofs.deeds.Pairs.{of_facing, up_end}
use Rattle.tipc_two_nodes.proofs.deeds.Stepping.{fell_session}
use Rattle.tipc_two_nodes.proofs.deeds.Wrapped.{CanTravel, left_listed, over_listed}
use Rattle.tipc_two_nodes.specs.deeds.PairDeeds.{IsOfPair}

-- ---- seen from either link

pub ends_turned : (x : PairEnds) → IsPairOfEnds x → IsPairOfEnds (turned x)
ends_turned x h =
    let two = h.two_bearers in
    let twice : other (other x.bearer) ≡ x.bearer = omega arith in
    record {
      two_bearers = omega arith;
      near = h.far;
      far = subst (λ b. IfSome x.near (IsEndOf x.own x.peer x.contact x.seen b)) (sym twice) h.near;
    }

pub ends_facing : (b : ℕ) (x : PairEnds) → IsPairOfEnds x → IsPairOfEnds (facing b x)
unfolding facing
ends_facing b x h = elim (x.bearer == b) as (λ t. IsPairOfEnds (if t then x else turned x)) [ true ↦ h | false ↦ ends_turned x h ]

-- ---- what follows a change of the near link

-- packets are put on a link, which has a session
loaded_kept : (own peer contact seen bearer : ℕ) (e : LinkEnd) (s : SessionEnd) (packets : List (List ℕ)) → IsEndOf own peer contact seen bearer e → e.session ≡ Some s → All IsListed packets → IsEndOf own peer contact seen bearer (loaded e s packets)
loaded_kept own peer contact seen bearer e s packets h is listed =
    session_kept own peer contact seen bearer e (Some (flushed (put s packets))) h (λ some. refl) (flushed_on bearer (put s packets) (put_listed bearer s packets (session_is bearer e.session s h.session is) listed))

failing_kept : (z : PairEnds) (near far : LinkEnd) (lost s : Option SessionEnd) → IsPairOfEnds z → z.near ≡ Some near → z.far ≡ Some far → far.session ≡ s → ((l : SessionEnd) → lost ≡ Some l → All IsListed (left_by l)) → IsPairOfEnds (failing z near far lost s).pair
failing_kept z near far None s ends near_is far_is session listed = ends
failing_kept z near far (Some l) None ends near_is far_is session listed = ends
failing_kept z near far (Some l) (Some s) ends near_is far_is session listed =
    both_kept z _ _ ends (end_handed z.own z.peer z.contact z.seen z.bearer near (near_of z near ends near_is))
    (loaded_kept z.own z.peer z.contact z.seen (other z.bearer) far s (left_by l) (far_of z far ends far_is) session (listed l refl))

switching_kept : (z : PairEnds) (near far : LinkEnd) (s old : Option SessionEnd) → IsPairOfEnds z → z.near ≡ Some near → z.far ≡ Some far → near.session ≡ s → ((l : SessionEnd) → old ≡ Some l → All IsListed (taken_over l)) → IsPairOfEnds (switching z near far s old).pair
switching_kept z near far None old ends near_is far_is session listed = ends
switching_kept z near far (Some s) None ends near_is far_is session listed = ends
switching_kept z near far (Some s) (Some old) ends near_is far_is session listed =
    both_kept z _ _ ends (loaded_kept z.own z.peer z.contact z.seen z.bearer near s (taken_over old) (near_of z near ends near_is) session (listed old refl))
    (end_given z.own z.peer z.contact z.seen (other z.bearer) far (far_of z far ends far_is))

-- what one link hands over may stand in the lists of the other
record CanList (z : PairEnds) (d : LinkEnd) (change : Change) : Type 0 where
  near : (cause : Cause) (l : SessionEnd) → change ≡ Down cause → d.session ≡ Some l → All IsListed (left_by l)
  far : (f : LinkEnd) (l : SessionEnd) → z.far ≡ Some f → is_up f.fsm.state ≡ true → f.session ≡ Some l → All IsListed (taken_over l)

up_kept : (z : PairEnds) (d : LinkEnd) → IsPairOfEnds z → z.near ≡ Some d → CanList z d Up → IsPairOfEnds (gone_up z).pair
up_kept z d ends near can = elim (is_up_at z.far) as (λ t. is_up_at z.far ≡ t → IsPairOfEnds (if t then (if z.bearer == 0 then switch z else rests z) else contact_begins z).pair) [
  | true ↦ λ up.
      let at = up_end z.far up in
      let same : switch z ≡ switching z d at.0 d.session at.0.session = ap (λ o. switch_from z o z.far) near ∙ ap (switch_from z (Some d)) at.1 in
      elim (z.bearer == 0) as (λ t. IsPairOfEnds (if t then switch z else rests z).pair) [
        | true ↦ subst (λ (c : Course). IsPairOfEnds c.pair) (sym same) (switching_kept z d at.0 d.session at.0.session ends near at.1 refl (λ l is. can.far at.0 l at.1 at.2 is))
        | false ↦ ends
      ]
  | false ↦ λ _. record { two_bearers = ends.two_bearers; near = ends.near; far = ends.far }
] refl

down_kept : (z : PairEnds) (d : LinkEnd) (cause : Cause) → IsPairOfEnds z → z.near ≡ Some d → HasChanged z (Down cause) → CanList z d (Down cause) → IsPairOfEnds (gone_down z).pair
down_kept z d cause ends near changed can = elim (is_up_at z.far) as (λ t. is_up_at z.far ≡ t → IsPairOfEnds (if t then fail_over z else contact_ends z (z.contact, z.seen) 0).pair) [
  | true ↦ λ up.
      let at = up_end z.far up in
      let same : fail_over z ≡ failing z d at.0 d.session at.0.session = ap (λ o. fail_over_to z o z.far) near ∙ ap (fail_over_to z (Some d)) at.1 in
      subst (λ (c : Course). IsPairOfEnds c.pair) (sym same) (failing_kept z d at.0 d.session at.0.session ends near at.1 refl (λ l is. can.near cause l refl is))
  | false ↦ λ _. parted_kept z (z.contact + 1) z.seen _ _ _ ends (changed.going_on refl) refl refl refl
] refl

following_kept : (z : PairEnds) (d : LinkEnd) (change : Change) (epoch : ℕ) → IsPairOfEnds z → z.near ≡ Some d → HasChanged z change → CanList z d change → IsPairOfEnds (following z change epoch).pair
following_kept z d Up epoch ends near changed can = up_kept z d ends near can
following_kept z d (Down cause) epoch ends near changed can = down_kept z d cause ends near changed can
following_kept z d other epoch ends near changed can = ends

-- ---- a call of the near link

never_down : (c : Change) → is_quiet c ≡ true → is_down c ≡ true → ⊥
never_down (Down cause) quiet down = (let wrong : ⊥ = cc in wrong)
never_down other quiet down = (let wrong : ⊥ = cc in wrong)

falls_of : (f : Fsm) (call : Call) (shown : Option (ℕ × ℕ)) → Turn f shown (outcome f call) → Falls f (outcome f call)
falls_of f call shown (fall m) down = (m.was, m.own)
falls_of f call shown (stay m) down = absurd (never_down (outcome f call).change m.quiet down)
falls_of f call shown (learn m) down = absurd (true≢false (sym down ∙ ap is_down m.change))
falls_of f call shown (rise m) down = absurd (true≢false (sym down ∙ ap is_down m.change))

-- the sessions of the links that are up, in a pair that two nodes have
can_travel : (v y : View) (b own peer contact seen : ℕ) (e : LinkEnd) (s : SessionEnd) → ArePaired v y → b ≤ 1 → (v.wires b).end ≡ Some e → is_up e.fsm.state ≡ true → e.session ≡ Some s → IsEndOf own peer contact seen b e → CanTravel s
can_travel v y b own peer contact seen e s h two is up session end = record {
  bearer = b;
  two = two;
  on = session_is b e.session s end.session session;
  fits = (epochs_fit v y b e s h (record { end_is = is; up = up; session_is = session })).epoch;
}

far_travels : (v y : View) (x : PairEnds) (f : LinkEnd) (l : SessionEnd) → ArePaired v y → IsOfPair v x → IsPairOfEnds x → x.far ≡ Some f → is_up f.fsm.state ≡ true → f.session ≡ Some l → All IsListed (taken_over l)
far_travels v y x f l h pair ends far up session =
    let two = pair.two_bearers in
    over_listed l (can_travel v y (other x.bearer) x.own x.peer x.contact x.seen f l h (omega arith) (pair.far ∙ far) up session (far_of x f ends far))

near_travels : (v y : View) (x : PairEnds) (e : LinkEnd) (l : SessionEnd) → ArePaired v y → IsOfPair v x → IsPairOfEnds x → x.near ≡ Some e → is_up e.fsm.state ≡ true → e.session ≡ Some l → All IsListed (left_by l)
near_travels v y x e l h pair ends near up session = left_listed l (can_travel v y x.bearer x.own x.peer x.contact x.seen e l h pair.two_bearers (pair.near ∙ near) up session (near_of x e ends near))

pub stepped_kept : (v y : View) (x : PairEnds) (e : LinkEnd) (call : Call) (epoch : ℕ) (shown : BroadcastState) → ArePaired v y → IsOfPair v x → IsPairOfEnds x → x.near ≡ Some e → MayCall v y x.bearer call → IsPairOfEnds (stepped x e (outcome e.fsm call) epoch shown).pair
unfolding going_on
stepped_kept v y x e call epoch shown h pair ends near may =
    let o = outcome e.fsm call in
    let d = after e o in
    let z = with_near x d in
    let named = call_named v y x.bearer call may in
    let falls = falls_of e.fsm call (shown_to call) (call_turns e.fsm call named.0 named.1) in
    let kept = near_kept x d ends (end_after x.own x.peer x.contact x.seen x.bearer e (shown_epochs call) o (near_of x e ends near) (moves e.fsm call)) in
    let changed = has_changed x e d (shown_epochs call) o o.change ends near (moves e.fsm call) falls refl (fsm_after e o) (some_after e o) in
    following_kept z d o.change epoch kept refl changed (record {
      near = λ cause l is has. near_travels v y x e l h pair ends near (falls (ap is_down is)).0 (sym (fell_session e call cause is) ∙ has);
      far = λ f l is up has. far_travels v y x f l h pair ends is up has;
    })

-- a tick passes
tick_kept : (v y : View) (x : PairEnds) (o : Option LinkEnd) (shown : BroadcastState) → ArePaired v y → IsOfPair v x → IsPairOfEnds x → x.near ≡ o → IsPairOfEnds (tick_at shown x o).pair
tick_kept v y x None shown h pair ends near = ends
tick_kept v y x (Some e) shown h pair ends near = stepped_kept v y x e (TickPasses (is_up_at x.far)) 0 shown h pair ends near tt

pub ticked_kept : (v y : View) (b : ℕ) (x : PairEnds) (shown : BroadcastState) → ArePaired v y → IsOfPair v x → IsPairOfEnds x → IsPairOfEnds (at_bearer b x (tick_near shown)).pair
ticked_kept v y b x shown h pair ends =
    let z = facing b x in
    ends_facing x.bearer (tick_near shown z).pair (tick_kept v y z z.near shown h (of_facing v b x pair) (ends_facing b x ends) refl)

-- a packet that the session of the near link hears
pub heard_kept : (v y : View) (x : PairEnds) (e : LinkEnd) (es er : ℕ) (p : Fields) (by : ℕ) (shown : BroadcastState) → ArePaired v y → IsOfPair v x → IsPairOfEnds x → x.near ≡ Some e → is_heard p.header (on_traffic e.fsm es er).change ≡ true
    → IsPairOfEnds (met x e (on_traffic e.fsm es er) p es by shown).course.pair
unfolding going_on
heard_kept v y x e es er p by shown h pair ends near hears =
    let call = TrafficArrives es er in
    let o = on_traffic e.fsm es er in
    let c = content_of p in
    let d = heard_end (after e o) by p.acknowledgement c in
    let z = with_near x d in
    let taken = (and_parts (is_traffic p.header) (is_taken o.change) hears).1 in
    let falls : Falls e.fsm o = λ down. absurd (taken_stays o.change taken down) in
    let kept = near_kept x d ends (end_heard x.own x.peer x.contact x.seen x.bearer (after e o) by p.acknowledgement c (end_after x.own x.peer x.contact x.seen x.bearer e (shown_epochs call) o (near_of x e ends near) (moves e.fsm call))) in
    let changed = has_changed x e d (shown_epochs call) o o.change ends near (moves e.fsm call) falls refl (fsm_after e o) (λ some. some_mapped (λ s. arrived s by p.acknowledgement c) (after e o).session (some_after e o some)) in
    let all = following_kept z d o.change es kept refl changed (record {
      near = λ cause l is has. absurd (taken_stays o.change taken (ap is_down is));
      far = λ f l is up has. far_travels v y x f l h pair ends is up has;
    }) in
    subst (λ t. IsPairOfEnds (following (with_near x (if t then d else after e o)) o.change es).pair) (sym hears) all
  where
    taken_stays : (k : Change) → is_taken k ≡ true → is_down k ≡ true → ⊥
    taken_stays (Down cause) taken down = (let wrong : ⊥ = cc in wrong)
    taken_stays other taken down = (let wrong : ⊥ = cc in wrong)

-- ---- held ends are released

let_go_kept : (own peer contact seen bearer : ℕ) (o : Option LinkEnd) → IfSome o (IsEndOf own peer contact seen bearer) → IfSome (option_map let_go o) (IsEndOf own peer contact seen bearer)
let_go_kept own peer contact seen bearer o h = end_mapped own peer contact seen bearer let_go o released_kept h

release_kept : (x : PairEnds) → IsPairOfEnds x → IsPairOfEnds (release_near x).pair
release_kept x ends = elim (is_clear x.far) as (λ t. IsPairOfEnds (if t then record (rests (record x { near = option_map let_go x.near })) { states = let_go_frames x.near } else rests x).pair) [
  | true ↦ record { two_bearers = ends.two_bearers; near = let_go_kept x.own x.peer x.contact x.seen x.bearer x.near ends.near; far = ends.far }
  | false ↦ ends
]

pub released_ends : (x : PairEnds) → IsPairOfEnds x → IsPairOfEnds (released x).pair
unfolding released going_on
released_ends x ends = (let first = release_kept x ends in ends_turned _ (release_kept (turned (release_near x).pair) (ends_turned (release_near x).pair first)))
