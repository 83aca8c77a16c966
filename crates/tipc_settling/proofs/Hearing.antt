-- What a link end that is up makes of a packet of its session: it is heard, and the session goes on from there.
use Rattle.std.specs.Prelude.{◌&&◌}
use Rattle.std.specs.List.{Contains}
use Rattle.std.proofs.Common.{◌≡◌, ◌∙◌, ℕ, Bool, true, false, [], ◌++◌, Some, option_map, refl, sym, ap, subst, arith, append-nil}
use Rattle.std.proofs.lemmas.List.Elements.{Contains-append_left}
use Rattle.tipc_types.specs.LinkStates.{is_up}
use Rattle.tipc_types.specs.declared.link_words.BroadcastState.{BroadcastState}
use Rattle.tipc_types.specs.declared.link_words.LinkState.{LinkState}
use Rattle.tipc_types.specs.declared.link_words.LinkState.TheVariants.{Held, ResetReset, ResetUnknown, WorkingUnknown, WorkingWorking}
use Rattle.tipc_header.specs.declared.contents.HeaderContent.{HeaderContent}
use Rattle.tipc_header.specs.declared.contents.HeaderContent.TheVariants as content
use Rattle.tipc_header.specs.Contents.{header_content}
use Rattle.tipc_header.specs.Spelling.{Fields}
use Rattle.tipc_recv_window.specs.declared.outcomes.LinkOutcome.{LinkOutcome}
use Rattle.tipc_link_fsm.specs.declared.changes.Change.TheVariants.{Stay}
use Rattle.tipc_link_fsm.specs.Table.{Fsm, gives, heard as heard_fsm, is_reset_reset, is_session, on_traffic}
use Rattle.tipc_repair.specs.Laws.{GoesOn}
use Rattle.tipc_repair.proofs.Going.{flushes}
use Rattle.tipc_link.specs.Links.{LinkEnd, heard_end, is_heard, is_of_session, is_traffic, outcome_as, outcome_of}
use Rattle.tipc_link.specs.Sessions.{Carries, Content, Nothing, SessionEnd, Shows, again_frames, arrived, content_of, heard, outcome as session_outcome}
use Rattle.tipc_pair.specs.declared.changes.PairOutcome.{PairOutcome}
use Rattle.tipc_pair.specs.Changeovers.{released}
use Rattle.tipc_pair.specs.Courses.{Course, going_on}
use Rattle.tipc_pair.specs.Facing.{PairEnds, is_up_at, other, with_near}
use Rattle.tipc_pair.specs.PairArrivals.{Arrives, Heard, OpensInto, hears as heard_by, hears_as, met, met_at}
use Rattle.tipc_pair.proofs.acts.Acts.{Ran}
use Rattle.tipc_pair.proofs.acts.Acts.Ran.{goes_on}
use Rattle.tipc_pair.proofs.acts.Acting.{opens_ran, released_ran}
use Rattle.tipc_pair.proofs.acts.Walks.{walks}
use Rattle.tipc_settling.specs.Goings.{HaveRecords, OpensKnown, SessionsLast, up_session}
use Rattle.tipc_settling.specs.Repairs.{EndHears}
use Rattle.tipc_settling.proofs.Packets.{none_behind, none_in_front}
use Rattle.tipc_settling.proofs.SessionsGoing.{Calmly, Goes, arrived_stays, going_walk, goes_then, opens_calmly, stays_then, up_now}

-- ---- the link states

up_no_reset : (st : LinkState) → is_up st ≡ true → is_reset_reset st ≡ false
up_no_reset WorkingWorking up = refl
up_no_reset WorkingUnknown up = refl
up_no_reset ResetUnknown up = absurd (let wrong : false ≡ true = up in cc)
up_no_reset ResetReset up = absurd (let wrong : false ≡ true = up in cc)
up_no_reset Held up = absurd (let wrong : false ≡ true = up in cc)

traffic_heard : (f : Fsm) (es er : ℕ) → is_up f.state ≡ true → is_session f es er ≡ true → on_traffic f es er ≡ gives (heard_fsm f) Stay
unfolding on_traffic
traffic_heard f es er up session =
    let no_reset = up_no_reset f.state up in
    rw (session, no_reset, up) refl

-- a packet that belongs to a session
content_heard : (c : HeaderContent) (f : Fsm) (es er : ℕ) (held : Bool) → is_of_session c ≡ true → is_up f.state ≡ true → is_session f es er ≡ true → outcome_as f c es er held ≡ gives (heard_fsm f) Stay
content_heard (content.State said) f es er held of up session = traffic_heard f es er up session
content_heard content.Numbered f es er held of up session = traffic_heard f es er up session
content_heard (content.Notice said) f es er held of up session = absurd (let wrong : false ≡ true = of in cc)
content_heard content.Discovery f es er held of up session = absurd (let wrong : false ≡ true = of in cc)

content_met : (c : HeaderContent) (es er : ℕ) (p : Fields) (by : ℕ) (shown : BroadcastState) (x : PairEnds) → is_of_session c ≡ true → hears_as c es er p by shown x ≡ met_at es er p by shown x x.near
content_met (content.State said) es er p by shown x of = refl
content_met content.Numbered es er p by shown x of = refl
content_met (content.Notice said) es er p by shown x of = absurd (let wrong : false ≡ true = of in cc)
content_met content.Discovery es er p by shown x of = absurd (let wrong : false ≡ true = of in cc)

-- ---- the near end hears it

-- the course by which it does, and what that brings
record IsHeardNear (x : PairEnds) (e : LinkEnd) (r : SessionEnd) (p : Fields) (by : ℕ) (h : Heard) : Type 0 where
  pair : h.course.pair ≡ with_near x (heard_end (record e { fsm = heard_fsm e.fsm }) by p.acknowledgement (content_of p))
  states : h.course.states ≡ again_frames r p.acknowledgement (content_of p)
  changes : h.course.changes ≡ []
  outcome : h.outcome ≡ session_outcome r by (content_of p)

met_heard : (x : PairEnds) (e : LinkEnd) (r : SessionEnd) (p : Fields) (es by : ℕ) (shown : BroadcastState) → e.session ≡ Some r → is_traffic p.header ≡ true → IsHeardNear x e r p by (met x e (gives (heard_fsm e.fsm) Stay) p es by shown)
unfolding going_on
met_heard x e r p es by shown is traffic =
    let heard_it : is_heard p.header Stay ≡ true = ap (λ b. b && true) traffic in
    record {
      pair = rw heard_it refl;
      states = rw heard_it (rw is (append-nil (again_frames r p.acknowledgement (content_of p))));
      changes = refl;
      outcome = rw heard_it (rw is refl);
    }

near_heard : (x : PairEnds) (e : LinkEnd) (r : SessionEnd) (es er : ℕ) (p : Fields) (by : ℕ) (shown : BroadcastState) → x.near ≡ Some e → e.session ≡ Some r → is_up e.fsm.state ≡ true → is_session e.fsm es er ≡ true
    → is_traffic p.header ≡ true → IsHeardNear x e r p by (heard_by p.header es er p by shown x)
near_heard x e r es er p by shown near is up session traffic =
    let first = content_met (header_content p.header) es er p by shown x traffic in
    let second : met_at es er p by shown x x.near ≡ met x e (outcome_of e.fsm p.header es er (is_up_at x.far)) p es by shown = ap (met_at es er p by shown x) near in
    let third = ap (λ o. met x e o p es by shown) (content_heard (header_content p.header) e.fsm es er (is_up_at x.far) traffic up session) in
    subst (IsHeardNear x e r p by) (sym (first ∙ (second ∙ third))) (met_heard x e r p es by shown is traffic)

-- ---- and what comes of it

-- what is heard goes on as packets move up
heard_arrives : (s : SessionEnd) (by acknowledgement : ℕ) (c : Content) → GoesOn (heard s by acknowledgement c) (arrived s by acknowledgement c)
heard_arrives s by acknowledgement (Shows next gap probe) = flushes (heard s by acknowledgement (Shows next gap probe))
heard_arrives s by acknowledgement (Carries number packet) = flushes (heard s by acknowledgement (Carries number packet))
heard_arrives s by acknowledgement Nothing = record { numbered = omega arith; acked = omega arith; taken = omega arith; shown = omega arith }

-- behind the packet that was heard nothing is taken back
opened_goes : (known : ℕ → ℕ) (y : PairEnds) (outcome : LinkOutcome) (opened : Course) (given : PairOutcome) → HaveRecords known y → OpensKnown known y outcome → OpensInto y outcome opened given → (going_on opened released).changes ≡ []
    → SessionsLast known y (going_on opened released).pair
opened_goes known y outcome opened given h brings comes none =
    let run : Ran (Calmly known) y (going_on opened released) = goes_on y opened released (opens_ran (Calmly known) y outcome opened given h.two (opens_calmly known y outcome brings) comes) (released_ran (Calmly known) (λ z. tt) opened.pair) in
    walks (Calmly known) (Goes known) (going_walk known) y (going_on opened released) run h none

-- the records stay where the near end has heard a packet
heard_records : (known : ℕ → ℕ) (x y : PairEnds) (e : LinkEnd) (r s : SessionEnd) → HaveRecords known x → up_session x.near ≡ Some r → s.record_epoch ≡ r.record_epoch → y.bearer ≡ x.bearer → y.far ≡ x.far → up_session y.near ≡ Some s → HaveRecords known y
heard_records known x y e r s h was same bearer far now =
    let two = h.two in
    let least = h.near r was in
    let at = ap known bearer in
    let at_far = ap (λ b. known (other b)) bearer in
    record {
      two = omega (arith, bearer, two);
      near = λ t is. (let one : s ≡ t = (let both : Some s ≡ Some t = sym now ∙ is in cc) in let same_record = ap (λ (q : SessionEnd). q.record_epoch) one in omega (arith, least, same, at, same_record));
      far = λ t is. (let most = h.far t (ap up_session (sym far) ∙ is) in omega (arith, most, at_far));
    }

pub arrival_goes : (known : ℕ → ℕ) (x : PairEnds) (e : LinkEnd) (r : SessionEnd) (es er : ℕ) (p : Fields) (by : ℕ) (shown : BroadcastState) (c : Course) (given : PairOutcome) → HaveRecords known x → x.near ≡ Some e → up_session x.near ≡ Some r
    → is_session e.fsm es er ≡ true → is_traffic p.header ≡ true → OpensKnown known (heard_by p.header es er p by shown x).course.pair (heard_by p.header es er p by shown x).outcome
    → Arrives x es er p by shown c given → c.changes ≡ [] → EndHears by p c x.near c.pair.near r
unfolding going_on
arrival_goes known x e r es er p by shown c given records near up session traffic brings arrives none =
    let now = up_now e r (sym (ap up_session near) ∙ up) in
    let h = heard_by p.header es er p by shown x in
    let first = near_heard x e r es er p by shown near now.1 now.0 session traffic in
    let y = h.course.pair in
    let all : h.course.changes ++ arrives.opened.changes ++ (released arrives.opened.pair).changes ≡ [] = sym (ap (λ (k : Course). k.changes) arrives.course) ∙ none in
    let front = none_in_front (h.course.changes ++ arrives.opened.changes) (released arrives.opened.pair).changes all in
    let middle = none_behind h.course.changes arrives.opened.changes front in
    let last = none_behind (h.course.changes ++ arrives.opened.changes) (released arrives.opened.pair).changes all in
    let quiet : arrives.opened.changes ++ (released arrives.opened.pair).changes ≡ [] = ap (λ cs. cs ++ (released arrives.opened.pair).changes) middle ∙ last in
    let bearer : y.bearer ≡ x.bearer = ap (λ (z : PairEnds). z.bearer) first.pair in
    let s = arrived r by p.acknowledgement (content_of p) in
    let there : up_session y.near ≡ Some s =
    ap (λ (z : PairEnds). up_session z.near) first.pair ∙ ap (option_map (λ q. arrived q by p.acknowledgement (content_of p))) now.1 in
    let stays_there = arrived_stays r by p.acknowledgement (content_of p) in
    let lasts = opened_goes known y h.outcome arrives.opened given
    (heard_records known x y e r s records up stays_there.record_epoch bearer (ap (λ (z : PairEnds). z.far) first.pair) there) brings arrives.opens quiet in
    let goes = lasts.goes in
    let more = goes.near s there in
    let after_all : c.pair.near ≡ (released arrives.opened.pair).pair.near = ap (λ (k : Course). k.pair.near) arrives.course in
    let sent : c.states ≡ (again_frames r p.acknowledgement (content_of p) ++ arrives.opened.states) ++ (released arrives.opened.pair).states =
    ap (λ (k : Course). k.states) arrives.course ∙ ap (λ fs. (fs ++ arrives.opened.states) ++ (released arrives.opened.pair).states) first.states in
    record {
      then = more.0;
      then_is = ap up_session after_all ∙ more.1;
      stays = stays_then r s more.0 (arrived_stays r by p.acknowledgement (content_of p)) more.2;
      hears = goes_then (heard r by p.acknowledgement (content_of p)) s more.0 (heard_arrives r by p.acknowledgement (content_of p)) (let stays = more.2 in stays.goes);
      again = λ o there. subst (λ fs. Contains fs o) (sym sent)
          (Contains-append_left (again_frames r p.acknowledgement (content_of p) ++ arrives.opened.states) (released arrives.opened.pair).states o
          (Contains-append_left (again_frames r p.acknowledgement (content_of p)) arrives.opened.states o there));
    }
