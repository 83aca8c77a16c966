-- What each call tells of the links and the contact of a pair is so; and something is given only in a contact that lasts.
use Rattle.std.specs.Prelude.{All, IfSome, filter, fold, ◌&&◌, ◌||◌, ◌==◌, nat_lt, not, if◌then◌else◌}
use Rattle.std.specs.List.{list_any}
use Rattle.std.proofs.Common.{◌≡◌, ◌≤◌, ◌∙◌, ℕ, Bool, true, false, List, [], ◌∷◌, Option, Some, None, option_map, refl, sym, subst, ap}
use Rattle.std.proofs.lemmas.Bool.{and_parts}
use Rattle.std.proofs.lemmas.List.Elements.{All-cons, All-nil}
use Rattle.tipc_types.specs.LinkStates.{is_up}
use Rattle.tipc_types.specs.declared.link_words.BroadcastState.{BroadcastState}
use Rattle.tipc_types.specs.declared.link_words.Why.TheVariants as why
use Rattle.tipc_types.specs.declared.packet_lists.Taken.{Taken}
use Rattle.tipc_outside.specs.declared.outgoing.Outgoing.{Outgoing}
use Rattle.tipc_header.specs.declared.packet.ChangeoverType.{ChangeoverType}
use Rattle.tipc_header.specs.declared.packet.ChangeoverType.TheVariants as kind
use Rattle.tipc_header.specs.declared.packet.Header.{Header}
use Rattle.tipc_header.specs.declared.packet.Header.TheVariants as header
use Rattle.tipc_header.specs.declared.packet.Reset.{Reset}
use Rattle.tipc_header.specs.Spelling.{Fields}
use Rattle.tipc_fragments.specs.Joining.{Joining}
use Rattle.tipc_tunnel.specs.Tunnels.{Tunnelled}
use Rattle.tipc_recv_window.specs.declared.outcomes.LinkOutcome.{LinkOutcome}
use Rattle.tipc_reassembly.specs.declared.opening.Opened.{Opened}
use Rattle.tipc_reassembly.specs.Opening.{BringsAll}
use Rattle.tipc_reassembly.specs.Opening.BringsAll.{none}
use Rattle.tipc_link_fsm.specs.declared.changes.Change.{Change}
use Rattle.tipc_link_fsm.specs.declared.changes.Change.TheVariants.{Answer, Down, Ignore, Stay, Up}
use Rattle.tipc_link_fsm.specs.Table.{Fsm, Outcome, is_reset_reset, is_last, is_session, on_cut, on_peer_tunnel, on_reset, on_tick, on_traffic}
use Rattle.tipc_link_fsm.proofs.Moves.{cases_on}
use Rattle.tipc_link.specs.Links.{LinkEnd, after, answered_with, arrival_end, change_outcome, cut_end, heard_outcome, is_down, is_heard, is_taken, is_traffic, link_outcome, mended_end, outcome_of, tunnelled_down}
use Rattle.tipc_link.specs.Sessions.{answered, content_of, with_broadcast}
use Rattle.tipc_link.proofs.Ends.{after-is, forgotten-is}
use Rattle.tipc_pair.specs.declared.changes.PairOutcome.{PairOutcome}
use Rattle.tipc_pair.specs.declared.transitions.Transition.{Transition}
use Rattle.tipc_pair.specs.declared.transitions.Transition.TheVariants.{ContactDown, ContactUp, LinkDown, LinkUp}
use Rattle.tipc_pair.specs.Changeovers.{contact_ends, following, forgetting, forgotten, released, risen}
use Rattle.tipc_pair.specs.Courses.{Course, going_on, rests as nothing}
use Rattle.tipc_pair.specs.Facing.{PairEnds, other, facing, in_contact, is_up_at, turned, with_far, with_made, with_near}
use Rattle.tipc_pair.specs.PairArrivals.{Arrives, Heard, OpensInto, Unwraps, activates, activate_higher, behind, by_number, hears as heard_by, inner_at, inner_taken, met_at, met_near, passing, reset_change, reset_given, reset_near, taken_down, tunnelled_at, with_begun, with_bytes}
use Rattle.tipc_pair.specs.PairArrivals.OpensInto.{deferred, ignored, opens}
use Rattle.tipc_pair.specs.PairArrivals.Unwraps.{as_it_is, none_taken, tunnel}
use Rattle.tipc_pair.specs.PairCalls.{at_bearer, cut_at, cut_near, mended, mended_near, stepped, tick_at, tick_near, ticked}
use Rattle.tipc_pair.specs.PairFacts.{IsEndOf, IsPairOfEnds}
use Rattle.tipc_pair.specs.PairTurns.{Happened, MakesNew, Opening, Outset, made_near, quietly, seen_as}
use Rattle.tipc_pair.specs.PairTurns.Opening.{cuts, hears, makes, mends, rests, ticks}
use Rattle.tipc_pair.specs.Messages.{opened_in}
use Rattle.tipc_pair.proofs.CourseLaws.{then_pair}
use Rattle.tipc_pair.proofs.EndSteps.{cut_quiet, fsm_after, fsm_arrived}
use Rattle.tipc_pair.proofs.HeldLaws.{near_goes, outcome_holds, reset_quiet, tick_quiet}
use Rattle.tipc_pair.specs.Contacts.{begins, ends, is_beginning, is_ending, is_of_contact}
use Rattle.tipc_pair.proofs.turns.LinkSteps.{Steps, cut_steps, outcome_steps, reset_steps, tick_steps, tunnel_steps}
use Rattle.tipc_pair.proofs.turns.PairKept.{Both, Closed, both_facing, both_turned, cut_at_kept, given_kept, hears_kept, down_kept, opens_kept, risen_kept, tick_on}
use Rattle.tipc_pair.proofs.turns.PairPuts.{meets_facing}
use Rattle.tipc_pair.proofs.turns.PairTells.{AlikeAt, AreOn, CanFollow, Follows, IsFall, Means, Still, Story, Tells, alike_itself, at_tells, epochs_at, epochs_by, began, contact_changes, ended, ends_tells, falls_follow, far_tells, following_tells, join, join_falls, released_tells, same_alike, stays, stays_alike, stays_follows, still_tells, tells_then}
-- ---- the ends stay on their bearers
use Rattle.tipc_pair.proofs.ArrivalLaws.{inner_fsm}
use Rattle.tipc_pair.proofs.turns.Causes.{neither_first as first_low, neither_second as second_low}
use Rattle.tipc_pair.proofs.turns.LinkMoves.{arrived_on as arrival_bearer}

abbrev pub OnBearer : ℕ → LinkEnd → Type 0
OnBearer b e = e.bearer ≡ b

abbrev pub Any : Outgoing → Type 0
Any o = Unit {0}

pub any_all : (os : List Outgoing) → All Any os
any_all [] = All-nil Any
any_all (o ∷ os) = All-cons Any o os tt (any_all os)

after_bearer : (e : LinkEnd) (o : Outcome) → (after e o).bearer ≡ e.bearer
after_bearer e o = ap (λ (d : LinkEnd). d.bearer) (after-is e o)

pub answered_bearer : (e : LinkEnd) (taken : ℕ) (asks : Bool) → (answered_with e taken asks).bearer ≡ e.bearer
answered_bearer e taken asks = elim (is_up e.fsm.state) as (λ b. (if b then record e { session = option_map (λ s. answered (with_broadcast s taken asks)) e.session } else e).bearer ≡ e.bearer) [ true ↦ refl | false ↦ refl ]

pub closed_on : Closed OnBearer Any
closed_on = record {
  steps = λ b e o made on. after_bearer e o ∙ on;
  step_frames = λ b e o shown made on. any_all _;
  hears = λ b e by acknowledgement c on. on;
  again = λ b e acknowledgement c on. any_all _;
  newly = λ b e by acknowledgement c on. any_all _;
  mends = λ b e on. on;
  mend_frames = λ b e on. any_all _;
  cuts = λ b e held on. on;
  tunnels = λ b e epoch on. on;
  parts = λ b e contact seen on. on;
  resets = λ b e on. any_all _;
  forgets = λ b e seen on. on;
  hands = λ b e on. on;
  loads = λ b e s packets is on. on;
  load_frames = λ b e s packets is on. any_all _;
  empties = λ b e on. on;
  lets_go = λ b e on. on;
  go_frames = λ b e on. any_all _;
  records = λ b e r on. on;
  puts = λ b e s pieces p is put on. on;
  put_frames = λ b e s pieces p is put on. any_all _;
  answers = λ b e taken asks on. answered_bearer e taken asks ∙ on;
  answer_frames = λ b e taken asks shown on. any_all _;
}

abbrev pub On : PairEnds → Type 0
On x = Both OnBearer x

are_on : (x : PairEnds) → On x → AreOn x
are_on x h = record { two = h.two; near = h.near; far = h.far }

-- ---- the same course, but for its frames

tells_as : (x : PairEnds) (c d : Course) → d.pair ≡ c.pair → d.changes ≡ c.changes → (h : Tells x c) → (t : Tells x d) × (t.story ≡ h.story)
tells_as x c d pair changes h = (
  record {
    two = h.two;
    bearer = ap (λ (y : PairEnds). y.bearer) pair ∙ h.bearer;
    near = ap (fold (epochs_by x.bearer) (epochs_at x.near)) changes ∙ (h.near ∙ ap (λ (y : PairEnds). epochs_at y.near) (sym pair));
    far = ap (fold (epochs_by (other x.bearer)) (epochs_at x.far)) changes ∙ (h.far ∙ ap (λ (y : PairEnds). epochs_at y.far) (sym pair));
    story = h.story;
    story_is = ap (filter is_of_contact) changes ∙ h.story_is;
    means = subst (λ (y : PairEnds). Means x y h.story) (sym pair) h.means;
  },
  refl,
)

pub follows_as : (x : PairEnds) (change : Change) (c d : Course) → d.pair ≡ c.pair → d.changes ≡ c.changes → Follows x change c → Follows x change d
follows_as x change c d pair changes f =
    let t = tells_as x c d pair changes f.tells in
    record {
      tells = t.0;
      beside = λ up. t.1 ∙ f.beside up;
      falls = λ quiet. subst IsFall (sym t.1) (f.falls quiet);
      rises = λ up. ap (λ (y : PairEnds). is_up_at y.near) pair ∙ f.rises up;
    }

-- ---- calls by which no contact begins

pub record Falls (x : PairEnds) (c : Course) : Type 0 where
  pub tells : Tells x c
  pub falls : IsFall tells.story

pub falls_then : (x : PairEnds) (first : Course) (step : PairEnds → Course) → Falls x first → Falls first.pair (step first.pair) → Falls x (going_on first step)
falls_then x first step h k =
    let t = tells_then x first step h.tells k.tells (falls_follow h.tells.story k.tells.story h.falls k.falls) in
    record { tells = t.0; falls = subst IsFall (sym t.1) (join_falls h.tells.story k.tells.story h.falls k.falls) }

falls_still : (x : PairEnds) (c : Course) → (t : Tells x c) × (t.story ≡ stays) → Falls x c
falls_still x c t = record { tells = t.0; falls = subst IsFall (sym t.1) tt }

pub nothing_falls : (x : PairEnds) → x.bearer ≤ 1 → Falls x (nothing x)
nothing_falls x two = falls_still x (nothing x) (still_tells x (nothing x) two refl (record { near = alike_itself x.near; far = alike_itself x.far; contact = refl; seen = refl; bearer = refl }))

released_falls : (x : PairEnds) → x.bearer ≤ 1 → Falls x (released x)
released_falls x two = falls_still x (released x) (released_tells x two)

cut_at_falls : (x : PairEnds) (o : Option LinkEnd) → x.near ≡ o → On x → Falls x (cut_at x o)
cut_at_falls x None near h = nothing_falls x h.two
cut_at_falls x (Some e) near h =
    let held = is_up_at x.far in
    let s = cut_steps e.fsm held in
    let f = following_tells x e (cut_end e held) (on_cut e.fsm held).after (on_cut e.fsm held).change 0 (are_on x h) near refl refl s.step in
    record { tells = f.tells; falls = f.falls (cut_quiet e.fsm held) }

pub cut_falls : (x : PairEnds) → On x → Falls x (cut_near x)
cut_falls x h =
    let kept = cut_at_kept OnBearer Any closed_on x h in
    let b = kept.both in
    falls_then x (cut_at x x.near) released (cut_at_falls x x.near refl h) (released_falls (cut_at x x.near).pair b.two)

-- the near end after an outcome of its link states, and what follows
pub stepped_follows : (x : PairEnds) (e : LinkEnd) (o : Outcome) (epoch : ℕ) (shown : BroadcastState) → x.near ≡ Some e → Steps e.fsm o → On x → Follows x o.change (stepped x e o epoch shown)
unfolding going_on
stepped_follows x e o epoch shown near s h =
    follows_as x o.change (following (with_near x (after e o)) o.change epoch) (stepped x e o epoch shown) refl refl (following_tells x e (after e o) o.after o.change epoch (are_on x h) near (after_bearer e o) (fsm_after e o) s.step)

tick_at_falls : (shown : BroadcastState) (x : PairEnds) (o : Option LinkEnd) → x.near ≡ o → On x → Falls x (tick_at shown x o)
tick_at_falls shown x None near h = nothing_falls x h.two
tick_at_falls shown x (Some e) near h =
    let held = is_up_at x.far in
    let f = stepped_follows x e (on_tick e.fsm held) 0 shown near (tick_steps e.fsm held) h in
    record { tells = f.tells; falls = f.falls (tick_quiet e.fsm held) }

pub at_falls : (bearer : ℕ) (call : PairEnds → Course) (x : PairEnds) → x.bearer ≤ 1 → Falls (facing bearer x) (call (facing bearer x)) → Falls x (at_bearer bearer x call)
at_falls bearer call x two f = let t = at_tells bearer call x two f.tells in record { tells = t.0; falls = subst IsFall (sym t.1) f.falls }

tick_on_falls : (bearer : ℕ) (shown : BroadcastState) (x : PairEnds) → On x → Falls x (at_bearer bearer x (tick_near shown))
tick_on_falls bearer shown x h = at_falls bearer (tick_near shown) x h.two (tick_at_falls shown (facing bearer x) (facing bearer x).near refl (both_facing OnBearer bearer x h))

same_contact : (c : Course) (step : PairEnds → Course) → in_contact (step c.pair).pair ≡ true → in_contact (going_on c step).pair ≡ true
unfolding going_on
same_contact c step there = there

two_of : (c : Course) (step : PairEnds → Course) → On (step c.pair).pair → (going_on c step).pair.bearer ≤ 1
unfolding going_on
two_of c step b = b.two

pub ticked_falls : (shown : BroadcastState) (x : PairEnds) → On x → Falls x (ticked shown x)
ticked_falls shown x h =
    let one = at_bearer 0 x (tick_near shown) in
    let first = tick_on OnBearer Any closed_on 0 shown x h in
    let there = first.both in
    let second = tick_on OnBearer Any closed_on 1 shown one.pair there in
    let last = second.both in
    let two = going_on one (λ y. at_bearer 1 y (tick_near shown)) in
    falls_then x two released (falls_then x one (λ y. at_bearer 1 y (tick_near shown)) (tick_on_falls 0 shown x h) (tick_on_falls 1 shown one.pair there))
    (released_falls two.pair (two_of one (λ y. at_bearer 1 y (tick_near shown)) last))

-- ---- RESET, and a higher contact number

given_falls : (es : ℕ) (held : Bool) (shown : BroadcastState) (x : PairEnds) (o : Option LinkEnd) → x.near ≡ o → On x → Falls x (reset_given es held shown x o).course
given_falls es held shown x None near h = nothing_falls x h.two
given_falls es held shown x (Some e) near h =
    let f = stepped_follows x e (on_reset e.fsm es held) es shown near (reset_steps e.fsm es held) h in
    record { tells = f.tells; falls = f.falls (reset_quiet e.fsm es held) }

pub reset_falls : (es : ℕ) (shown : BroadcastState) (x : PairEnds) → On x → Falls x (reset_near es shown x).course
reset_falls es shown x h = by (is_down (reset_change es (is_up_at x.far) x.near) && not (is_up_at x.far))
  where
    first : Course
    first = (reset_given es (is_up_at x.far) shown x x.near).course

    again : PairEnds → Heard
    again y = reset_given es false shown y y.near

    one : Falls x first
    one = given_falls es (is_up_at x.far) shown x x.near refl h

    there : On first.pair
    there = let k = given_kept OnBearer Any closed_on es (is_up_at x.far) shown x h in k.both

    by : (b : Bool) → Falls x (if b then behind first again else reset_given es (is_up_at x.far) shown x x.near).course
    by true = falls_then x first (λ y. (again y).course) one (given_falls es false shown first.pair first.pair.near refl there)
    by false = one

low_forgets : (end : Option LinkEnd) (seen : ℕ) → is_up_at end ≡ false → AlikeAt end (option_map (forgetting seen) end)
low_forgets None seen low = alike_itself None
low_forgets (Some e) seen low =
    let down : is_up (forgetting seen e).fsm.state ≡ false = ap (λ (f : Fsm). is_up f.state) (forgotten-is e.fsm low) in
    stays_alike e (forgetting seen e) (record { up = down ∙ sym low; own = λ up. absurd (let wrong : ⊥ = cc in wrong); peer = λ up. absurd (let wrong : ⊥ = cc in wrong) })

pub risen_falls : (x : PairEnds) (number : ℕ) → On x → Falls x (risen x number)
risen_falls x number h = by (in_contact x) refl
  where
    by : (b : Bool) → in_contact x ≡ b → Falls x (if b then contact_ends (record x { seen = number }) (x.contact, x.seen) number else nothing (forgotten x number))
    by true there = let t = ends_tells x number number (are_on x h) there in record { tells = t.0; falls = t.1 }
    by false out =
        let near = first_low (is_up_at x.near) (is_up_at x.far) out in
        let far = second_low (is_up_at x.near) (is_up_at x.far) out in
        out_falls near far (low_forgets x.near number near) (low_forgets x.far number far)
      where
        out_falls : is_up_at x.near ≡ false → is_up_at x.far ≡ false → AlikeAt x.near (forgotten x number).near → AlikeAt x.far (forgotten x number).far → Falls x (nothing (forgotten x number))
        out_falls near far n f = record {
          tells = record {
            two = h.two;
            bearer = refl;
            near = sym n.epochs;
            far = sym f.epochs;
            story = stays;
            story_is = refl;
            means = (ap (λ b. b || is_up_at (forgotten x number).far) n.up ∙ ap (λ b. is_up_at x.near || b) f.up, refl, λ there. absurd (let wrong : ⊥ = cc in wrong));
          };
          falls = tt;
        }

-- ---- a packet at the near link

-- A packet was heard: what is told of it; and where something was taken, the near link is up, and the contact numbers are those of before.
pub record HearsSo (x : PairEnds) (h : Heard) : Type 0 where
  pub tells : Tells x h.course
  pub up : (t : Taken) (ts : List Taken) → h.outcome ≡ LinkOutcome.Took (t ∷ ts) → is_up_at h.course.pair.near ≡ true
  pub contact : (t : Taken) (ts : List Taken) → h.outcome ≡ LinkOutcome.Took (t ∷ ts) → h.course.pair.contact ≡ x.contact
  pub seen : (t : Taken) (ts : List Taken) → h.outcome ≡ LinkOutcome.Took (t ∷ ts) → h.course.pair.seen ≡ x.seen

-- nothing is taken by this outcome
abbrev TakesNone : LinkOutcome → Type 0
TakesNone o = (t : Taken) (ts : List Taken) → o ≡ LinkOutcome.Took (t ∷ ts) → ⊥

none_so : (x : PairEnds) (h : Heard) → Tells x h.course → TakesNone h.outcome → HearsSo x h
none_so x h tells none_here = record { tells = tells; up = λ t ts is. absurd (none_here t ts is); contact = λ t ts is. absurd (none_here t ts is); seen = λ t ts is. absurd (none_here t ts is) }

change_none : (c : Change) → TakesNone (change_outcome c)
change_none Up t ts is = cc
change_none (Down cause) t ts is = cc
change_none Stay t ts is = cc
change_none (Answer reply) t ts is = cc
change_none (Ignore reason) t ts is = cc

-- the link states took it as a packet of the session: the link is up then
traffic_up : (f : Fsm) (es er : ℕ) → is_taken (on_traffic f es er).change ≡ true → is_up (on_traffic f es er).after.state ≡ true
unfolding on_traffic
traffic_up f es er taken =
    cases_on (λ o. is_taken o.change ≡ true → is_up o.after.state ≡ true) (is_session f es er && (is_reset_reset f.state && not (is_last f.own))) _ _ (λ is. λ t. refl)
    (λ is. cases_on (λ o. is_taken o.change ≡ true → is_up o.after.state ≡ true) (is_session f es er && is_up f.state) _ _ (λ was. λ t. refl) (λ not_so. λ t. cc)) taken

heard_up : (f : Fsm) (h : Header) (es er : ℕ) (held : Bool) → is_heard h (outcome_of f h es er held).change ≡ true → is_up (outcome_of f h es er held).after.state ≡ true
heard_up f (header.Reset r) es er held is = cc
heard_up f (header.Activate a) es er held is = cc
heard_up f (header.Discovery d) es er held is = cc
heard_up f other es er held is = traffic_up f es er is

heard_taken : (h : Header) (c : Change) → is_heard h c ≡ true → is_taken c ≡ true
heard_taken h c is = (and_parts (is_traffic h) (is_taken c) is).1

-- what is taken is heard
taken_heard : (e : LinkEnd) (o : Outcome) (p : Fields) (by : ℕ) (t : Taken) (ts : List Taken) → link_outcome e o p by ≡ LinkOutcome.Took (t ∷ ts) → is_heard p.header o.change ≡ true
taken_heard e o p by t ts = by_test (is_heard p.header o.change) refl
  where
    by_test : (b : Bool) → is_heard p.header o.change ≡ b → (if b then heard_outcome (after e o).session by (content_of p) else change_outcome o.change) ≡ LinkOutcome.Took (t ∷ ts) → b ≡ true
    by_test true heard is = refl
    by_test false heard is = absurd (change_none o.change t ts is)

-- the near link is up after what follows, where it was taken so
near_after : (x : PairEnds) (new : LinkEnd) (c : Change) (epoch : ℕ) → Follows x c (following (with_near x new) c epoch) → is_taken c ≡ true → is_up new.fsm.state ≡ true → is_up_at (following (with_near x new) c epoch).pair.near ≡ true
near_after x new Up epoch f taken up = f.rises refl
near_after x new Stay epoch f taken up = up
near_after x new (Down cause) epoch f taken up = cc
near_after x new (Answer reply) epoch f taken up = cc
near_after x new (Ignore reason) epoch f taken up = cc

met_so : (es er : ℕ) (p : Fields) (by : ℕ) (shown : BroadcastState) (x : PairEnds) (o : Option LinkEnd) → x.near ≡ o → On x → HearsSo x (met_at es er p by shown x o)
unfolding going_on
met_so es er p by shown x None near h = none_so x (passing x why.Unknown) (let f = nothing_falls x h.two in f.tells) (λ t ts is. cc)
met_so es er p by shown x (Some e) near h =
    let held = is_up_at x.far in
    let o = outcome_of e.fsm p.header es er held in
    let new = arrival_end e o p by in
    let s = outcome_steps e.fsm p.header es er held in
    let plain = following (with_near x new) o.change es in
    let f = following_tells x e new o.after o.change es (are_on x h) near (arrival_bearer e o p by) (fsm_arrived e o p by) s.step in
    let whole = (met_at es er p by shown x (Some e)).course in
    let g = follows_as x o.change plain whole refl refl f in
    let up_there : (t : Taken) (ts : List Taken) → link_outcome e o p by ≡ LinkOutcome.Took (t ∷ ts) → is_up_at plain.pair.near ≡ true = λ t ts is.
    (let heard = taken_heard e o p by t ts is in
    near_after x new o.change es f (heard_taken p.header o.change heard) (ap (λ (k : Fsm). is_up k.state) (fsm_arrived e o p by) ∙ heard_up e.fsm p.header es er held heard)) in
    let goes = near_goes x e new o es near (fsm_arrived e o p by) (outcome_holds e.fsm p.header es er held) in
    record {
      tells = g.tells;
      up = up_there;
      contact = λ t ts is. goes.contact (ap (λ b. b || is_up_at plain.pair.far) (up_there t ts is));
      seen = λ t ts is. goes.seen;
    }

-- ---- by the header

given_none : (es : ℕ) (held : Bool) (shown : BroadcastState) (x : PairEnds) (o : Option LinkEnd) → TakesNone (reset_given es held shown x o).outcome
given_none es held shown x None t ts is = cc
given_none es held shown x (Some e) t ts is = change_none (on_reset e.fsm es held).change t ts is

reset_none : (es : ℕ) (shown : BroadcastState) (x : PairEnds) → TakesNone (reset_near es shown x).outcome
reset_none es shown x = by (is_down (reset_change es (is_up_at x.far) x.near) && not (is_up_at x.far))
  where
    first : Course
    first = (reset_given es (is_up_at x.far) shown x x.near).course

    again : PairEnds → Heard
    again y = reset_given es false shown y y.near

    by : (b : Bool) → TakesNone (if b then behind first again else reset_given es (is_up_at x.far) shown x x.near).outcome
    by true = given_none es false shown first.pair first.pair.near
    by false = given_none es (is_up_at x.far) shown x x.near

reset_so : (es : ℕ) (shown : BroadcastState) (x : PairEnds) → On x → HearsSo x (reset_near es shown x)
reset_so es shown x h = let f = reset_falls es shown x h in none_so x (reset_near es shown x) f.tells (reset_none es shown x)

number_so : (x : PairEnds) (number : ℕ) (same higher : Heard) → On x → HearsSo x same → HearsSo x higher → HearsSo x (by_number x number same higher)
number_so x number same higher h one two = lower (nat_lt number x.seen)
  where
    level : (b : Bool) → HearsSo x (if b then same else higher)
    level true = one
    level false = two

    lower : (b : Bool) → HearsSo x (if b then passing x why.Contact else (if number == x.seen then same else higher))
    lower true = none_so x (passing x why.Contact) (let f = nothing_falls x h.two in f.tells) (λ t ts is. cc)
    lower false = level (number == x.seen)

behind_reset : (x : PairEnds) (number es : ℕ) (shown : BroadcastState) → On x → HearsSo x (behind (risen x number) (reset_near es shown))
behind_reset x number es shown h =
    let k = risen_kept OnBearer Any closed_on x number h in
    let f = falls_then x (risen x number) (λ y. (reset_near es shown y).course) (risen_falls x number h) (reset_falls es shown (risen x number).pair k.both) in
    none_so x (behind (risen x number) (reset_near es shown)) f.tells (reset_none es shown (risen x number).pair)

-- out of contact none ends
pub falls_out : (x : PairEnds) (c : Course) (f : Falls x c) → in_contact x ≡ false → f.tells.story ≡ stays
falls_out x c f out = by f.tells.story refl f.falls f.tells.means
  where
    by : (s : Story) → f.tells.story ≡ s → IsFall s → Means x c.pair s → s ≡ stays
    by stays is fall means = refl
    by (began numbers) is fall means = absurd fall
    by (ended numbers states shown) is fall means = absurd (let wrong : ⊥ = not_so (in_contact x) means.0 out in wrong)
      where
        not_so : (b : Bool) → b ≡ true → b ≡ false → ⊥
        not_so true one two = cc
        not_so false one two = cc

active_none : (es er : ℕ) (p : Fields) (by : ℕ) (shown : BroadcastState) (said : Reset) (x : PairEnds) (o : Option LinkEnd) → p.header ≡ header.Activate said → TakesNone (met_at es er p by shown x o).outcome
active_none es er p by shown said x None is t ts taken = cc
active_none es er p by shown said x (Some e) is t ts taken =
    let heard = taken_heard e (outcome_of e.fsm p.header es er (is_up_at x.far)) p by t ts taken in
    let wrong : false ≡ true = sym (ap (λ h. is_heard h (outcome_of e.fsm p.header es er (is_up_at x.far)).change) is) ∙ heard in
    absurd cc

activate_so : (es er : ℕ) (p : Fields) (by : ℕ) (shown : BroadcastState) (said : Reset) (x : PairEnds) → p.header ≡ header.Activate said → On x → HearsSo x (activate_higher said.contact (met_near es er p by shown) x)
activate_so es er p by shown said x is h = by_contact (in_contact x) refl
  where
    number : ℕ
    number = said.contact

    meet : PairEnds → Heard
    meet = met_near es er p by shown

    risen_f : Falls x (risen x number)
    risen_f = risen_falls x number h

    there : On (risen x number).pair
    there = let k = risen_kept OnBearer Any closed_on x number h in k.both

    by_contact : (b : Bool) → in_contact x ≡ b → HearsSo x (activates b (risen x number) (behind (risen x number) meet))
    by_contact true was = none_so x (record { course = risen x number; outcome = LinkOutcome.Took [] }) risen_f.tells (λ t ts wrong. cc)
    by_contact false out =
        let y = (risen x number).pair in
        let next = met_so es er p by shown y y.near refl there in
        let calm = falls_out x (risen x number) risen_f out in
        let t = tells_then x (risen x number) (λ z. (meet z).course) risen_f.tells next.tells (subst (λ s. CanFollow s next.tells.story) (sym calm) tt) in
        none_so x (behind (risen x number) meet) t.0 (active_none es er p by shown said y y.near is)

hears_so : (t : Header) (es er : ℕ) (p : Fields) (by : ℕ) (shown : BroadcastState) (x : PairEnds) → p.header ≡ t → On x → HearsSo x (heard_by t es er p by shown x)
hears_so (header.Reset said) es er p by shown x is h =
    number_so x said.contact (reset_near es shown x) (behind (risen x said.contact) (reset_near es shown)) h (reset_so es shown x h) (behind_reset x said.contact es shown h)
hears_so (header.Activate said) es er p by shown x is h =
    number_so x said.contact (met_near es er p by shown x) (activate_higher said.contact (met_near es er p by shown) x) h (met_so es er p by shown x x.near refl h) (activate_so es er p by shown said x is h)
hears_so other es er p by shown x is h = met_so es er p by shown x x.near refl h

-- ---- what was taken is opened, while the near link is up

means_begun : (x y : PairEnds) (last : Joining) (s : Story) → Means x y s → Means x (record y { begun = last }) s
means_begun x y last stays m = m
means_begun x y last (began numbers) m = m
means_begun x y last (ended numbers states shown) m = m

-- nothing becomes of the contact
pub record Calm (x : PairEnds) (c : Course) : Type 0 where
  pub tells : Tells x c
  pub calm : tells.story ≡ stays

calm_then : (x : PairEnds) (first : Course) (step : PairEnds → Course) → Calm x first → Calm first.pair (step first.pair) → Calm x (going_on first step)
calm_then x first step h k =
    let t = tells_then x first step h.tells k.tells (stays_follows h.tells.story k.tells.story k.calm) in
    record { tells = t.0; calm = t.1 ∙ (ap (λ s. join s k.tells.story) h.calm ∙ k.calm) }

calm_of : (x : PairEnds) (c : Course) → (t : Tells x c) × (t.story ≡ stays) → Calm x c
calm_of x c t = record { tells = t.0; calm = t.1 }

nothing_calm : (x : PairEnds) → x.bearer ≤ 1 → Calm x (nothing x)
nothing_calm x two = calm_of x (nothing x) (still_tells x (nothing x) two refl (record { near = alike_itself x.near; far = alike_itself x.far; contact = refl; seen = refl; bearer = refl }))

tunnelled_calm : (epoch : ℕ) (x : PairEnds) (o : Option LinkEnd) → x.near ≡ o → On x → is_up_at x.far ≡ true → Calm x (tunnelled_at epoch x o)
tunnelled_calm epoch x None near h up = nothing_calm x h.two
tunnelled_calm epoch x (Some e) near h up =
    let s = tunnel_steps e.fsm epoch in
    let f = following_tells x e (tunnelled_down e epoch) (on_peer_tunnel e.fsm epoch).after (on_peer_tunnel e.fsm epoch).change epoch (are_on x h) near refl refl s.step in
    record { tells = f.tells; calm = f.beside up }

down_calm : (t : ChangeoverType) (epoch : ℕ) (x : PairEnds) → On x → is_up_at x.near ≡ true → Calm x (taken_down t epoch x)
down_calm kind.Duplicate epoch x h up = nothing_calm x h.two
down_calm kind.Original epoch x h up =
    let c = tunnelled_calm epoch (turned x) x.far refl (both_turned OnBearer x h) up in
    let t = far_tells (λ y. tunnelled_at epoch y y.near) x h.two c.tells in
    record { tells = t.0; calm = t.1 ∙ c.calm }

inner_calm : (t : Tunnelled) (by : ℕ) (x : PairEnds) (o : Option LinkEnd) → x.far ≡ o → x.bearer ≤ 1 → Calm x (inner_at t by x o)
inner_calm t by x None far two = nothing_calm x two
inner_calm t by x (Some e) far two =
    calm_of x (nothing (with_far x (inner_taken t by e))) (still_tells x (nothing (with_far x (inner_taken t by e))) two refl (record {
      near = alike_itself x.near;
      far = subst (λ o. AlikeAt o (Some (inner_taken t by e))) (sym far) (same_alike e (inner_taken t by e) (inner_fsm t by e));
      contact = refl;
      seen = refl;
      bearer = refl;
    }))

unwraps_calm : (x : PairEnds) (taken carried : List Taken) (c : Course) → Unwraps x taken c carried → On x → ((t : Taken) (ts : List Taken) → taken ≡ t ∷ ts → is_up_at x.near ≡ true) → Calm x c
unwraps_calm x _ _ _ none_taken h up = nothing_calm x h.two
unwraps_calm x _ _ _ (as_it_is first others none_here) h up = nothing_calm x h.two
unwraps_calm x _ _ _ (tunnel first others t speaks) h up =
    let one = taken_down t.kind t.old.epoch x in
    let k = down_kept OnBearer Any closed_on t.kind t.old.epoch x h in
    let b = k.both in
    calm_then x one (λ y. inner_at t first.by y y.far) (down_calm t.kind t.old.epoch x h (up first others refl)) (inner_calm t first.by one.pair one.pair.far refl b.two)

begun_calm : (x : PairEnds) (c : Course) (last : Joining) → Calm x c → Calm x (with_begun c last)
begun_calm x c last k =
    let h = k.tells in
    record {
      tells = record { two = h.two; bearer = h.bearer; near = h.near; far = h.far; story = h.story; story_is = h.story_is; means = means_begun x c.pair last h.story h.means };
      calm = k.calm;
    }

opens_calm : (x : PairEnds) (outcome : LinkOutcome) (c : Course) (given : PairOutcome) → OpensInto x outcome c given → On x → ((t : Taken) (ts : List Taken) → outcome ≡ LinkOutcome.Took (t ∷ ts) → is_up_at x.near ≡ true) → Calm x c
opens_calm x _ _ _ (opens {taken} {carried} {c} {given} {last} unwraps brings) h up = begun_calm x c last (unwraps_calm x taken carried c unwraps h (λ t ts is. up t ts (ap LinkOutcome.Took is)))
opens_calm x _ _ _ deferred h up = nothing_calm x h.two
opens_calm x _ _ _ ignored h up = nothing_calm x h.two

-- what gave something took something
carried_taken : (x : PairEnds) (taken carried : List Taken) (c : Course) (s : Taken) (ss : List Taken) → Unwraps x taken c carried → carried ≡ s ∷ ss → (t : Taken) × (ts : List Taken) × (taken ≡ t ∷ ts)
carried_taken x _ _ _ s ss none_taken is = absurd (let wrong : [] ≡ s ∷ ss = is in cc)
carried_taken x _ _ _ s ss (as_it_is first others none_here) is = (first, others, refl)
carried_taken x _ _ _ s ss (tunnel first others t speaks) is = (first, others, refl)

with_some : (carried : List Taken) (begun last : Joining) (given : List Opened) (o : Opened) (os : List Opened) → BringsAll begun (with_bytes carried) given last → given ≡ o ∷ os → (t : Taken) × (ts : List Taken) × (carried ≡ t ∷ ts)
with_some [] begun last given o os brings is = absurd (let wrong : given ≡ [] = bare begun last given brings in let both : [] ≡ o ∷ os = sym wrong ∙ is in cc)
  where
    bare : (a b : Joining) (g : List Opened) → BringsAll a [] g b → g ≡ []
    bare a _ _ none = refl
with_some (t ∷ ts) begun last given o os brings is = (t, ts, refl)

gave_some : (x : PairEnds) (outcome : LinkOutcome) (c : Course) (given : PairOutcome) (o : Opened) (os : List Opened) → OpensInto x outcome c given → opened_in given ≡ o ∷ os → (t : Taken) × (ts : List Taken) × (outcome ≡ LinkOutcome.Took (t ∷ ts))
gave_some x _ _ _ o os (opens {taken} {carried} {c} {given} {last} unwraps brings) is =
    let some = with_some carried c.pair.begun last given o os brings is in
    let first = carried_taken x taken carried c some.0 some.1 unwraps some.2 in
    (first.0, first.1, ap LinkOutcome.Took first.2)
gave_some x _ _ _ o os deferred is = absurd (let wrong : [] ≡ o ∷ os = is in cc)
gave_some x _ _ _ o os ignored is = absurd (let wrong : [] ≡ o ∷ os = is in cc)

-- ---- an arrival, and what happens first in a turn

pub record ArrivesSo (x : PairEnds) (c : Course) (given : PairOutcome) : Type 0 where
  pub tells : Tells x c
  pub lasts : (o : Opened) (os : List Opened) → opened_in given ≡ o ∷ os → (in_contact c.pair ≡ true) × (c.pair.contact ≡ x.contact) × (c.pair.seen ≡ x.seen)

calm_lasts : (x : PairEnds) (c : Course) (k : Calm x c) → in_contact x ≡ true → (in_contact c.pair ≡ true) × (c.pair.contact ≡ x.contact) × (c.pair.seen ≡ x.seen)
calm_lasts x c k there =
    let h = k.tells in
    let means : Means x c.pair stays = subst (Means x c.pair) k.calm h.means in
    (means.0 ∙ there, means.1, means.2 there)

pub arrives_so : (x : PairEnds) (es er : ℕ) (p : Fields) (by : ℕ) (shown : BroadcastState) (c : Course) (given : PairOutcome) → Arrives x es er p by shown c given → On x → ArrivesSo x c given
arrives_so x es er p by shown c given a h =
    let heard = heard_by p.header es er p by shown x in
    let so = hears_so p.header es er p by shown x refl h in
    let kept = hears_kept OnBearer Any closed_on p.header es er p by shown x h in
    let there = kept.both in
    let opened = opens_calm heard.course.pair heard.outcome a.opened given a.opens there so.up in
    let two = going_on heard.course (λ y. a.opened) in
    let first = tells_then x heard.course (λ y. a.opened) so.tells opened.tells (stays_follows so.tells.story opened.tells.story opened.calm) in
    let last_kept = opens_kept OnBearer Any closed_on heard.course.pair heard.outcome a.opened given a.opens there in
    let last = last_kept.both in
    let free = calm_of two.pair (released two.pair) (released_tells two.pair (two_of heard.course (λ y. a.opened) last)) in
    let whole = tells_then x two released first.0 free.tells (stays_follows first.0.story free.tells.story free.calm) in
    let all = tells_as x (going_on two released) c (ap (λ (k : Course). k.pair) a.course) (ap (λ (k : Course). k.changes) a.course) whole.0 in
    record {
      tells = all.0;
      lasts = λ o os is.
          (let some = gave_some heard.course.pair heard.outcome a.opened given o os a.opens is in
          let up = so.up some.0 some.1 some.2 in
          let in_it : in_contact heard.course.pair ≡ true = ap (λ b. b || is_up_at heard.course.pair.far) up in
          let one = calm_lasts heard.course.pair a.opened opened in_it in
          let next : (in_contact (released two.pair).pair ≡ true) × ((released two.pair).pair.contact ≡ two.pair.contact) × ((released two.pair).pair.seen ≡ two.pair.seen) = calm_lasts two.pair (released two.pair) free (same_contact heard.course (λ y. a.opened) one.0) in
          let at_end : c.pair ≡ (released two.pair).pair = ap (λ (k : Course). k.pair) a.course ∙ then_pair two released in (
            ap in_contact at_end ∙ next.0,
            ap (λ (y : PairEnds). y.contact) at_end ∙ (next.1 ∙ (ap (λ (y : PairEnds). y.contact) (then_pair heard.course (λ y. a.opened)) ∙ (one.1 ∙ so.contact some.0 some.1 some.2))),
            ap (λ (y : PairEnds). y.seen) at_end ∙ (next.2 ∙ (ap (λ (y : PairEnds). y.seen) (then_pair heard.course (λ y. a.opened)) ∙ (one.2 ∙ so.seen some.0 some.1 some.2))),
          ));
    }

mended_still : (x : PairEnds) (o : Option LinkEnd) → x.near ≡ o → Still x (mended_near x o)
mended_still x None near = record { near = alike_itself x.near; far = alike_itself x.far; contact = refl; seen = refl; bearer = refl }
mended_still x (Some e) near = record { near = subst (λ o. AlikeAt o (Some (mended_end e))) (sym near) (same_alike e (mended_end e) refl); far = alike_itself x.far; contact = refl; seen = refl; bearer = refl }

mended_falls : (x : PairEnds) → x.bearer ≤ 1 → Falls x (mended x)
mended_falls x two = falls_still x (mended x) (still_tells x (mended x) two refl (mended_still x x.near refl))

-- an end that is made tells nothing
made_falls : (is_mended : Bool) (x : PairEnds) → x.bearer ≤ 1 → x.near ≡ None → Falls x (made_near is_mended x)
unfolding going_on
made_falls true x two new =
    let made : AlikeAt x.near (mended (with_made x)).pair.near = subst (λ o. AlikeAt o (mended (with_made x)).pair.near) (sym new) (record { up = refl; epochs = refl }) in
    falls_still x (made_near true x) (still_tells x (made_near true x) two refl (record { near = made; far = alike_itself x.far; contact = refl; seen = refl; bearer = refl }))
made_falls false x two new =
    let made : AlikeAt x.near (with_made x).near = subst (λ o. AlikeAt o (with_made x).near) (sym new) (record { up = refl; epochs = refl }) in
    falls_still x (made_near false x) (still_tells x (made_near false x) two refl (record { near = made; far = alike_itself x.far; contact = refl; seen = refl; bearer = refl }))

-- whether a packet arrives
abbrev pub is_arrival : Opening → Bool
is_arrival (hears bearer es er p by shown) = true
is_arrival other = false

-- What happened first at a pair tells what is so. Only an arrival begins a contact.
pub record HappenedSo (x : PairEnds) (opening : Opening) (o : Outset) : Type 0 where
  pub tells : Tells x o.course
  pub falls : is_arrival opening ≡ false → IsFall tells.story
  pub lasts : (g : Opened) (gs : List Opened) → opened_in o.given ≡ g ∷ gs → (in_contact o.course.pair ≡ true) × (o.course.pair.contact ≡ x.contact) × (o.course.pair.seen ≡ x.seen)

fall_so : (x : PairEnds) (opening : Opening) (c : Course) → Falls x c → HappenedSo x opening (quietly c)
fall_so x opening c f = record { tells = f.tells; falls = λ own. f.falls; lasts = λ g gs is. absurd (let wrong : [] ≡ g ∷ gs = is in cc) }

pub happened_so : (x : PairEnds) (opening : Opening) (o : Outset) → On x → MakesNew x opening → Happened x opening o → HappenedSo x opening o
happened_so x rests o h new is = subst (HappenedSo x rests) (sym is) (fall_so x rests (nothing x) (nothing_falls x h.two))
happened_so x (makes bearer is_mended) o h new is =
    let there = both_facing OnBearer bearer x h in
    subst (HappenedSo x (makes bearer is_mended)) (sym is)
    (fall_so x (makes bearer is_mended) (at_bearer bearer x (made_near is_mended)) (at_falls bearer (made_near is_mended) x h.two (made_falls is_mended (facing bearer x) there.two new)))
happened_so x (mends bearer) o h new is =
    let there = both_facing OnBearer bearer x h in
    subst (HappenedSo x (mends bearer)) (sym is) (fall_so x (mends bearer) (at_bearer bearer x mended) (at_falls bearer mended x h.two (mended_falls (facing bearer x) there.two)))
happened_so x (cuts bearer) o h new is =
    subst (HappenedSo x (cuts bearer)) (sym is) (fall_so x (cuts bearer) (at_bearer bearer x cut_near) (at_falls bearer cut_near x h.two (cut_falls (facing bearer x) (both_facing OnBearer bearer x h))))
happened_so x (ticks shown) o h new is = subst (HappenedSo x (ticks shown)) (sym is) (fall_so x (ticks shown) (ticked shown x) (ticked_falls shown x h))
happened_so x (hears bearer es er p by shown) o h new is =
    let c = is.0 in
    let so = arrives_so (facing bearer x) es er p by shown c is.1 is.2 (both_facing OnBearer bearer x h) in
    let call : PairEnds → Course = λ y. c in
    let t = at_tells bearer call x h.two so.tells in
    let back = meets_facing x.bearer c.pair in
    let forth = meets_facing bearer x in
    let all : HappenedSo x (hears bearer es er p by shown) (record { course = seen_as x c; given = is.1 }) = record {
      tells = t.0;
      falls = λ own. absurd (let wrong : true ≡ false = own in cc);
      lasts = λ g gs some. (let l = so.lasts g gs some in (back.there ∙ l.0, back.contact ∙ (l.1 ∙ forth.contact), back.seen ∙ (l.2 ∙ forth.seen)));
    } in
    subst (HappenedSo x (hears bearer es er p by shown)) (sym is.3) all

-- ---- where a contact begins there is one

either_begins : (b : Bool) (t : Transition) (cs ds : List Transition) → list_any is_beginning cs ≡ list_any is_beginning ds → is_of_contact t ≡ b → list_any is_beginning (t ∷ cs) ≡ list_any is_beginning (if b then t ∷ ds else ds)
either_begins true t cs ds same is = ap (λ b. is_beginning t || b) same
either_begins false (ContactUp numbers) cs ds same is = absurd (let wrong : true ≡ false = is in cc)
either_begins false (ContactDown numbers states shown) cs ds same is = absurd (let wrong : true ≡ false = is in cc)
either_begins false (LinkUp bearer own theirs) cs ds same is = same
either_begins false (LinkDown bearer cause shown) cs ds same is = same

pub begins_only : (cs : List Transition) → begins cs ≡ begins (filter is_of_contact cs)
begins_only [] = refl
begins_only (t ∷ cs) = either_begins (is_of_contact t) t cs (filter is_of_contact cs) (begins_only cs) refl

pub begins_there : (x : PairEnds) (c : Course) → Tells x c → begins c.changes ≡ true → in_contact c.pair ≡ true
begins_there x c t is = by t.story (sym (begins_only c.changes ∙ ap begins t.story_is) ∙ is) t.means
  where
    by : (s : Story) → begins (contact_changes s) ≡ true → Means x c.pair s → in_contact c.pair ≡ true
    by stays wrong means = absurd (let no : false ≡ true = wrong in cc)
    by (began numbers) is means = means.1
    by (ended numbers states shown) wrong means = absurd (let no : false ≡ true = wrong in cc)

either_ends : (b : Bool) (t : Transition) (cs ds : List Transition) → list_any is_ending cs ≡ list_any is_ending ds → is_of_contact t ≡ b → list_any is_ending (t ∷ cs) ≡ list_any is_ending (if b then t ∷ ds else ds)
either_ends true t cs ds same is = ap (λ b. is_ending t || b) same
either_ends false (ContactUp numbers) cs ds same is = absurd (let wrong : true ≡ false = is in cc)
either_ends false (ContactDown numbers states shown) cs ds same is = absurd (let wrong : true ≡ false = is in cc)
either_ends false (LinkUp bearer own theirs) cs ds same is = same
either_ends false (LinkDown bearer cause shown) cs ds same is = same

pub ends_only : (cs : List Transition) → ends cs ≡ ends (filter is_of_contact cs)
ends_only [] = refl
ends_only (t ∷ cs) = either_ends (is_of_contact t) t cs (filter is_of_contact cs) (ends_only cs) refl

-- and none ends by the same call
pub begins_once : (x : PairEnds) (c : Course) → Tells x c → begins c.changes ≡ true → ends c.changes ≡ false
begins_once x c t is = by t.story (sym (begins_only c.changes ∙ ap begins t.story_is) ∙ is) (ends_only c.changes ∙ ap ends t.story_is)
  where
    by : (s : Story) → begins (contact_changes s) ≡ true → ends c.changes ≡ ends (contact_changes s) → ends c.changes ≡ false
    by stays wrong same = absurd (let no_way : false ≡ true = wrong in cc)
    by (began numbers) so same = same
    by (ended numbers states shown) wrong same = absurd (let no_way : false ≡ true = wrong in cc)

-- ---- every pair that a node keeps has its ends on their bearers

pub pair_on : (x : PairEnds) → IsPairOfEnds x → On x
pair_on x h = record { two = h.two_bearers; near = near_is x.near h.near; far = far_is x.far h.far }
  where
    near_is : (o : Option LinkEnd) → IfSome o (IsEndOf x.own x.peer x.contact x.seen x.bearer) → IfSome o (OnBearer x.bearer)
    near_is None k = tt
    near_is (Some e) k = k.bearer_is

    far_is : (o : Option LinkEnd) → IfSome o (IsEndOf x.own x.peer x.contact x.seen (other x.bearer)) → IfSome o (OnBearer (other x.bearer))
    far_is None k = tt
    far_is (Some e) k = k.bearer_is
