-- What the packets bring that a link of a pair took: what the first of them carries for the other link, and what is opened.
use Rattle.std.specs.Prelude.{OnErr, OnOk, ◌==◌, drop, if◌then◌else◌}
use Rattle.std.proofs.Common.{◌≡◌, ◌∙◌, ℕ, true, false, List, [], ◌∷◌, ◌++◌, Some, None, Result, Ok, Err, refl, sym, subst, ap}
use Rattle.tipc_types.specs.declared.link_words.BroadcastState.{BroadcastState}
use Rattle.tipc_types.specs.declared.packet_lists.Taken.{Taken}
use Rattle.tipc_header.specs.Spelling.{Fields}
use Rattle.tipc_fragments.specs.Joining.{Joining}
use Rattle.tipc_tunnel.specs.Tunnels.{Tunnelled}
use Rattle.tipc_recv_window.specs.declared.outcomes.LinkOutcome.{LinkOutcome}
use Rattle.tipc_reassembly.specs.declared.opening.Opened.{Opened}
use Rattle.tipc_reassembly.specs.Opening.{BringsAll}
use Rattle.tipc_pair.specs.declared.changes.PairOutcome.{PairOutcome}
use Rattle.tipc_pair.specs.declared.link_arrivals.Carried.{Carried}
use Rattle.tipc_pair.specs.Changeovers.{released}
use Rattle.tipc_pair.specs.Courses.{AddsCourse, Course, LeavingState, going_on, rests}
use Rattle.tipc_pair.specs.Facing.{PairEnds, other, with_far}
use Rattle.tipc_pair.specs.PairFacts.{IsEndOf, IsPairOfEnds}
use Rattle.tipc_link.specs.Links.{LinkEnd, named_end, record_of, recorded, tunnelled_end}
use Rattle.tipc_link.specs.Records.{Received, named, tunnelled}
use Rattle.tipc_link.specs.Sessions.{SessionEnd, with_record}
use Rattle.tipc_pair.specs.PairArrivals.{Arrives, IsHeardAs, OpensInto, Unwraps, as_it_is, freed_at, freed_by, hears, inner_at, inner_taken, inside_of, none_taken, opens, taken_down, tunnel, tunnelled_through, with_begun, with_bytes}
use Rattle.tipc_pair.specs.PairOpenings.{Frees, IsCarriedIn, NoneCarriedIn, Opens, Unwrapped, told_by}
use Rattle.tipc_pair.proofs.CourseLaws.{adds_course, then_adds, then_after, then_pair}
use Rattle.tipc_pair.proofs.EndFacts.{session_mapped, some_mapped}
use Rattle.tipc_pair.proofs.EndSteps.{far_of}
use Rattle.tipc_pair.proofs.Followings.{adds_rests}
use Rattle.tipc_pair.proofs.SessionFacts.{record_on}
use Rattle.tipc_pair.proofs.Listed.{bytes_append}

-- an arrival: what the near link made of the packet, what was opened, and either end released
pub arrives_so : (x one two last : PairEnds) (es er : ℕ) (p : Fields) (by : ℕ) (shown : BroadcastState) (outcome : LinkOutcome) (given : PairOutcome) (a b c d : LeavingState)
    → IsHeardAs (hears p.header es er p by shown x) one a b outcome → Opens one outcome given two b c → last ≡ (released two).pair → AddsCourse c d (released two)
    → (k : Course) × Arrives x es er p by shown k given × (last ≡ k.pair) × AddsCourse a d k
arrives_so x one two last es er p by shown outcome given a b c d heard opened last_is told =
    let first = (hears p.header es er p by shown x).course in
    let then_open = λ (y : PairEnds). opened.course in
    let both = going_on first then_open in
    let there : two ≡ both.pair = opened.pair ∙ sym (then_pair first then_open) in
    let arrives : Arrives x es er p by shown (going_on both released) given = record {
      opened = opened.course;
      opens = subst (λ o. OpensInto first.pair o opened.course given) heard.gives (subst (λ y. OpensInto y outcome opened.course given) heard.pair opened.opens);
      course = refl;
    } in
    (going_on both released, arrives, then_after two last both released there last_is, then_adds a c d two both released there (adds_course a b c first then_open heard.told opened.told) told)

-- the packets that were taken are opened
pub opens_so : (x one two : PairEnds) (taken opened : List Taken) (given : List Opened) (last : Joining) (a b : LeavingState) → Unwrapped x taken opened one a b
    → BringsAll one.begun opened given last → two ≡ record one { begun = last } → Opens x (LinkOutcome.Took taken) (PairOutcome.Took given) two a b
opens_so x one two taken opened given last a b h brings two_is = record {
  course = with_begun h.course last;
  opens = opens h.unwraps (subst (λ ts. BringsAll h.course.pair.begun ts given last) h.opened_is (subst (λ (y : PairEnds). BringsAll y.begun opened given last) h.pair brings));
  pair = two_is ∙ ap (λ (y : PairEnds). record y { begun = last }) h.pair;
  told = record { changes = h.told.changes; made = h.told.made };
}

-- nothing is carried for the far link
pub none_unwrapped : (x : PairEnds) (taken : List Taken) → NoneCarriedIn x taken → Unwraps x taken (rests x) taken
none_unwrapped x [] none = none_taken
none_unwrapped x (first ∷ others) none = as_it_is first others (λ t speaks. none first others t refl speaks)

pub rests_unwrapped : (x : PairEnds) (taken opened : List Taken) (a : LeavingState) → NoneCarriedIn x taken → opened ≡ with_bytes taken → Unwrapped x taken opened x a a
rests_unwrapped x taken opened a none is = record { course = rests x; carried = taken; unwraps = none_unwrapped x taken none; opened_is = is; pair = refl; told = adds_rests a x }

-- what it carries frees packets in the far link's record, which come before those behind it
pub carried_unwrapped : (x now : PairEnds) (taken freed opened : List Taken) (c : Carried) (a b : LeavingState) → IsCarriedIn x taken c → Frees x (told_by (other x.bearer) c) c.by freed now a b
    → opened ≡ with_bytes freed ++ with_bytes (drop 1 taken) → Unwrapped x taken opened now a b
carried_unwrapped x now taken freed opened c a b carried h is =
    let t = told_by (other x.bearer) c in
    let by : Frees x t carried.first.by freed now a b = subst (λ n. Frees x t n freed now a b) carried.by_is h in
    let far = freed_at t carried.first.by (taken_down t.kind t.old.epoch x).pair.far in
    record {
      course = tunnelled_through x t carried.first.by;
      carried = far ++ carried.others;
      unwraps = subst (λ ts. Unwraps x ts (tunnelled_through x t carried.first.by) (far ++ carried.others)) (sym carried.taken_is) (tunnel carried.first carried.others t carried.speaks);
      opened_is = is ∙ (ap (λ fs. with_bytes fs ++ with_bytes (drop 1 taken)) by.freed_is ∙ (ap (λ ts. with_bytes far ++ with_bytes (drop 1 ts)) carried.taken_is ∙ sym (bytes_append far carried.others)));
      pair = by.pair;
      told = by.told;
    }

-- nothing was taken
pub rests_open : (x : PairEnds) (a : LeavingState) (outcome : LinkOutcome) (given : PairOutcome) → OpensInto x outcome (rests x) given → Opens x outcome given x a a
rests_open x a outcome given h = record { course = rests x; opens = h; pair = refl; told = adds_rests a x }

-- ---- the far link's record

pub frees_none : (x one : PairEnds) (t : Tunnelled) (by : ℕ) (freed : List Taken) (a b : LeavingState) → one ≡ (taken_down t.kind t.old.epoch x).pair → AddsCourse a b (taken_down t.kind t.old.epoch x)
    → one.far ≡ None → freed ≡ [] → Frees x t by freed one a b
frees_none x one t by freed a b pair told none freed_is =
    let first = taken_down t.kind t.old.epoch x in
    let step = λ (y : PairEnds). inner_at t by y y.far in
    record {
      freed_is = freed_is ∙ sym (ap (freed_at t by) (ap (λ (y : PairEnds). y.far) (sym pair) ∙ none));
      pair = then_after one one first step pair (sym (ap (λ o. (inner_at t by one o).pair) none));
      told = then_adds a b b one first step pair told (subst (λ o. AddsCourse b b (inner_at t by one o)) (sym none) (adds_rests b one));
    }

pub frees_some : (x one now : PairEnds) (e new : LinkEnd) (t : Tunnelled) (by : ℕ) (freed : List Taken) (a b : LeavingState) → one ≡ (taken_down t.kind t.old.epoch x).pair
    → AddsCourse a b (taken_down t.kind t.old.epoch x) → one.far ≡ Some e → freed ≡ freed_by t by e → new ≡ inner_taken t by e → now ≡ with_far one new → Frees x t by freed now a b
frees_some x one now e new t by freed a b pair told far freed_is new_is now_is =
    let first = taken_down t.kind t.old.epoch x in
    let step = λ (y : PairEnds). inner_at t by y y.far in
    record {
      freed_is = freed_is ∙ sym (ap (freed_at t by) (ap (λ (y : PairEnds). y.far) (sym pair) ∙ far));
      pair = then_after one now first step pair (now_is ∙ (ap (with_far one) new_is ∙ sym (ap (λ o. (inner_at t by one o).pair) far)));
      told = then_adds a b b one first step pair told (subst (λ o. AddsCourse b b (inner_at t by one o)) (sym far) (adds_rests b (with_far one (inner_taken t by e))));
    }

recorded_kept : (own peer contact seen bearer : ℕ) (e : LinkEnd) (r : Received) → IsEndOf own peer contact seen bearer e → IsEndOf own peer contact seen bearer (recorded e r)
recorded_kept own peer contact seen bearer e r h =
    let again : SessionEnd → SessionEnd = λ s. with_record s r in
    record {
      own_is = h.own_is;
      peer_is = h.peer_is;
      bearer_is = h.bearer_is;
      contact_is = h.contact_is;
      seen_is = h.seen_is;
      states = h.states;
      begun = λ up. some_mapped again e.session (h.begun up);
      session = session_mapped bearer again e.session (record_on bearer r) h.session;
    }

inner_kept : (own peer contact seen bearer : ℕ) (e : LinkEnd) (t : Tunnelled) (by : ℕ) → IsEndOf own peer contact seen bearer e → IsEndOf own peer contact seen bearer (inner_taken t by e)
inner_kept own peer contact seen bearer e t by h =
    elim (t.count == 0) as (λ b. IsEndOf own peer contact seen bearer (if b then named_end e t.old.epoch else tunnelled_end e t.old.epoch (inside_of t by))) [
      | true ↦ recorded_kept own peer contact seen bearer e (named (record_of e) t.old.epoch) h
      | false ↦ recorded_kept own peer contact seen bearer e (tunnelled (named (record_of e) t.old.epoch) t.old.epoch (inside_of t by)) h
    ]

pub far_taken : {T F : Type 0} (r : Result T F) (x : PairEnds) (e new : LinkEnd) (t : Tunnelled) (by : ℕ) → IsPairOfEnds x → x.far ≡ Some e → OnOk r (new ≡ inner_taken t by e) → OnErr r (new ≡ e)
    → IsPairOfEnds (record x { far = Some new })
far_taken (Ok done) x e new t by h far ok err = record {
  two_bearers = h.two_bearers;
  near = h.near;
  far = subst (IsEndOf x.own x.peer x.contact x.seen (other x.bearer)) (sym ok) (inner_kept x.own x.peer x.contact x.seen (other x.bearer) e t by (far_of x e h far));
}
far_taken (Err fault) x e new t by h far ok err = record {
  two_bearers = h.two_bearers;
  near = h.near;
  far = subst (IsEndOf x.own x.peer x.contact x.seen (other x.bearer)) (sym err) (far_of x e h far);
}
