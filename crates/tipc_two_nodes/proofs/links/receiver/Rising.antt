-- A STATE or a numbered packet takes a link of a pair up, whose record begins or is kept.
use Rattle.std.proofs.Common.{◌≡◌, ◌==◌, ◌&&◌, ℕ, true, false, if◌then◌else◌, List, Option, Some, None, is_some, length, option_map, take, refl, sym, ap, ◌∙◌, subst, inr, arith}
use Rattle.tipc_types.specs.declared.link_words.BroadcastState.{BroadcastState}
use Rattle.tipc_header.specs.declared.packet.Header.{Header}
use Rattle.tipc_header.specs.Spelling.{Fields}
use Rattle.tipc_recv_window.specs.declared.outcomes.LinkOutcome.{LinkOutcome}
use Rattle.tipc_link_fsm.specs.declared.changes.Change.{Change}
use Rattle.tipc_link_fsm.specs.declared.changes.Change.TheVariants.{Up}
use Rattle.tipc_link_fsm.specs.Table.{Fsm, Outcome, on_traffic}
use Rattle.tipc_link_fsm.proofs.Moves.{Moves, falls, is_going_up, on_traffic_moves, rises, stays}
use Rattle.tipc_link.specs.Links.{LinkEnd, after, arrival_end, followed, is_heard, is_taken, is_traffic, known, record_of, session_of, with_fsm}
use Rattle.tipc_link.specs.Records.{Received, kept_for}
use Rattle.tipc_link.specs.Sessions.{SessionEnd, arrived, content_of, outcome, receiving_record}
use Rattle.tipc_pair.specs.declared.changes.PairOutcome.{PairOutcome}
use Rattle.tipc_pair.specs.Changeovers.{contact_begins, following, gone_up, switch, switch_from, switching}
use Rattle.tipc_pair.specs.Courses.{Course, going_on, rests}
use Rattle.tipc_pair.specs.Facing.{PairEnds, is_up_at, with_near}
use Rattle.tipc_pair.specs.PairArrivals.{Arrives, met, taken_in}
use Rattle.tipc_changeover.specs.Links.{Bearer, State}
use Rattle.tipc_two_nodes.specs.links.Arriving.{HasTaken, IsHeardIn, MayBegin, Opens, Stands, heard_pair}
use Rattle.tipc_two_nodes.specs.links.Following.{ReceiverFollows}
use Rattle.tipc_two_nodes.specs.links.Receiving.{IsSessionRecord, IsRecordFor, record_at, records_of}
use Rattle.tipc_two_nodes.specs.links.Traffic.{Traffic, epoch_of}
use Rattle.tipc_two_nodes.proofs.links.sender.Happening.{follows_reached, follows_then}
use Rattle.tipc_two_nodes.proofs.links.receiver.Hearing.{arrival_outcome, arrival_record, arrives_from, heard_so, stands_taken, traffic_met}
use Rattle.tipc_two_nodes.proofs.links.receiver.Remaining.{following_records}
use Rattle.tipc_two_nodes.proofs.links.receiver.Tunnelling.{keeps_record}
-- ---- the peer's epoch
use Rattle.tipc_link.proofs.KeptRecords.{kept_epoch}

pub not_up : (k : Change) → is_going_up k ≡ false → k ≡ Up → ⊥
not_up k other up = (let wrong : true ≡ false = sym (ap is_going_up up) ∙ other in let no : ⊥ = cc in no)

rises_with : (fsm : Fsm) (es er : ℕ) (o : Outcome) → Moves fsm (Some (es, er)) o → o.change ≡ Up → o.after.peer ≡ Some es
rises_with fsm es er o (stays own up other) change = absurd (not_up o.change other change)
rises_with fsm es er o (rises e own reset up last shown peer going) change = peer ∙ ap (option_map (λ (q : ℕ × ℕ). q.0)) (sym shown)
rises_with fsm es er o (falls own up other) change = absurd (not_up o.change other change)

pub traffic_peer : (fsm : Fsm) (es er : ℕ) → (on_traffic fsm es er).change ≡ Up → known (on_traffic fsm es er).after.peer ≡ es
traffic_peer fsm es er up = ap known (rises_with fsm es er (on_traffic fsm es er) (on_traffic_moves fsm es er) up)

-- ---- a pair whose link went up

-- the near link stays on its bearer, and the far end stays made
pub record StaysMade (x y : PairEnds) : Type 0 where
  pub bearer : y.bearer ≡ x.bearer
  pub made : is_some y.far ≡ is_some x.far

switching_made : (x : PairEnds) (near far : LinkEnd) (o old : Option SessionEnd) → x.far ≡ Some far → StaysMade x (switching x near far o old).pair
switching_made x near far (Some s) (Some old) is = record { bearer = refl; made = ap is_some (sym is) }
switching_made x near far (Some s) None is = record { bearer = refl; made = refl }
switching_made x near far None old is = record { bearer = refl; made = refl }

switch_made : (x : PairEnds) (near far : Option LinkEnd) → x.far ≡ far → StaysMade x (switch_from x near far).pair
switch_made x (Some near) (Some far) is = switching_made x near far near.session far.session is
switch_made x (Some near) None is = record { bearer = refl; made = refl }
switch_made x None far is = record { bearer = refl; made = refl }

second_made : (x : PairEnds) → StaysMade x (if x.bearer == 0 then switch x else rests x).pair
second_made x = elim (x.bearer == 0) as (λ b. StaysMade x (if b then switch x else rests x).pair) [
  | true ↦ switch_made x x.near x.far refl
  | false ↦ record { bearer = refl; made = refl }
]

pub up_made : (x : PairEnds) → StaysMade x (gone_up x).pair
up_made x = elim (is_up_at x.far) as (λ b. StaysMade x (if b then (if x.bearer == 0 then switch x else rests x) else contact_begins x).pair) [
  | true ↦ second_made x
  | false ↦ record { bearer = refl; made = refl }
]

-- ---- events one after the other

pub opens_later : (b : Bearer) (bearer : ℕ) (t : Traffic) (s s' : State) (before : List (List ℕ)) (heard y : PairEnds) (given : PairOutcome) → ReceiverFollows b s s' → Opens b bearer t s' before heard y given → Opens b bearer t s before heard y given
opens_later b bearer t s s' before heard y given first h =
    let R = h.receives in
    record { carried = h.carried; begun = h.begun; begun_is = h.begun_is; gives = h.gives; receives = record { state = R.state; takes = follows_then b s s' R.state first R.takes; lines = R.lines; receive = R.receive } }

-- ---- the arrival

up_heard : (h : Header) (k : Change) → is_traffic h ≡ true → k ≡ Up → is_heard h k ≡ true
up_heard h k traffic up = ap (λ q. is_traffic h && is_taken q) up ∙ ap (λ q. q && true) traffic

up_session : (e : LinkEnd) (o : Outcome) → o.change ≡ Up → (after e o).session ≡ Some (session_of (with_fsm e o.after))
up_session e o up = ap (λ (k : Change). (followed (with_fsm e o.after) k).session) up

pub up_record : (e : LinkEnd) (o : Outcome) (es : ℕ) → o.change ≡ Up → known o.after.peer ≡ es → record_of (after e o) ≡ Some (kept_for (record_of e) es)
up_record e o es up peer = ap (λ (k : Change). record_of (followed (with_fsm e o.after) k)) up ∙ ap (λ n. Some (kept_for (record_of e) n)) peer

-- the state once the record of the link that went up is begun or kept, and the pair's records then
pub record Begun (x : PairEnds) (e : LinkEnd) (b : Bearer) (t : Traffic) (s : State) (before : List (List ℕ)) (session es : ℕ) : Type 0 where
  pub state : State
  pub takes : ReceiverFollows b s state
  pub stands : (e' : LinkEnd) → record_of e' ≡ Some (kept_for (record_of e) es) → Stands (with_near x e') b t state before
  pub near_is : IsSessionRecord t.near (kept_for (record_of e) es) state.near_record
  pub session_is : state.near_record.session ≡ session

pub begins_record : (x : PairEnds) (e : LinkEnd) (es : ℕ) (b : Bearer) (t : Traffic) (s : State) (before : List (List ℕ)) (session : ℕ) → Stands x b t s before → x.near ≡ Some e → es ≡ epoch_of t.near.first session → MayBegin s session → Begun x e b t s before session es
begins_record x e es b t s before session h is epoch may =
    let was = subst (λ o. IsRecordFor t.near (record_at o) s.near_record) is h.receive.near in
    let R = keeps_record b x.bearer t s (record_of e) session h.lines was may.counts may.later may.begun may.held in
    let own : IsSessionRecord t.near (kept_for (record_of e) es) R.state.near_record = subst (λ n. IsSessionRecord t.near (kept_for (record_of e) n) R.state.near_record) (sym epoch) R.near_is in
    let place = own.epoch in
    let named = kept_epoch (record_of e) es in
    let counts = may.counts in
    record {
      state = R.state;
      takes = R.takes;
      stands = λ e' now. record {
        two_bearers = h.two_bearers;
        made = h.made;
        lines = R.lines;
        reached = follows_reached b s R.state h.reached R.takes;
        receive = record {
          near = subst (λ o. IsRecordFor t.near o R.state.near_record) (sym now) (inr own);
          far = subst (λ r. IsRecordFor t.far (record_at x.far) r) (sym R.far_is) h.receive.far;
          first_ones = ap (λ (ds : List ℕ). take (length ds) t.put) R.delivered ∙ h.receive.first_ones;
        };
      };
      near_is = own;
      session_is = omega arith;
    }

pub risings_receive : (x : PairEnds) (e : LinkEnd) (es er : ℕ) (p : Fields) (by : ℕ) (shown : BroadcastState) (c : Course) (given : PairOutcome) (b : Bearer) (t : Traffic) (s : State) (before : List (List ℕ)) (session : ℕ) → Stands x b t s before → x.near ≡ Some e
    → is_traffic p.header ≡ true → (on_traffic e.fsm es er).change ≡ Up → es ≡ epoch_of t.near.first session → MayBegin s session → IsHeardIn (t.near.line session) (kept_for (record_of e) es) (content_of p) → Arrives x es er p by shown c given
    → Opens b x.bearer t s before (heard_pair x es er p by shown) c.pair given
unfolding going_on
risings_receive x e es er p by shown c given b t s before session h is traffic up epoch may heard arrives =
    let o = on_traffic e.fsm es er in
    let so = up_heard p.header o.change traffic up in
    let peer = traffic_peer e.fsm es er up in
    let a = session_of (with_fsm e o.after) in
    let R = begins_record x e es b t s before session h is epoch may in
    let kept : receiving_record a ≡ kept_for (record_of e) es = ap (kept_for (record_of e)) peer in
    let own = subst (λ (r : Received). IsSessionRecord t.near r R.state.near_record) (sym kept) R.near_is in
    let heard' = subst (λ n. IsHeardIn (t.near.line n) (receiving_record a) (content_of p)) (sym R.session_is) (subst (λ (r : Received). IsHeardIn (t.near.line session) r (content_of p)) (sym kept) heard) in
    let again = up_session e o up in
    let m = met x e o p es by shown in
    let now = heard_so t.near a R.state.near_record by p.acknowledgement (content_of p) own heard' in
    let outcome_is : outcome a by (content_of p) ≡ m.outcome = sym (arrival_outcome e o p by a so again) in
    let y = with_near x (arrival_end e o p by) in
    let stays_made : StaysMade y m.course.pair = subst (λ (k : Change). StaysMade y (following y k es).pair) (sym up) (up_made y) in
    let records : records_of m.course.pair ≡ record { near = Some (receiving_record (arrived a by p.acknowledgement (content_of p))); far = record_at x.far } =
    following_records y o.change es ∙ ap (λ q. record { near = q; far = record_at x.far }) (arrival_record e o p by a so again) in
    let stands = R.stands (after e o) (up_record e o es up peer) in
    let taken = stands_taken (with_near x (after e o)) m.course.pair b t R.state before (receiving_record (arrived a by p.acknowledgement (content_of p))) (taken_in (outcome a by (content_of p))) stands stays_made.bearer (λ n k u there so. stays_made.made ∙ h.made n k u there so) records now.record_is now.next in
    opens_later b x.bearer t s R.state before _ c.pair given R.takes
    (arrives_from x es er p by shown c given b t R.state before m (traffic_met x e es er p by shown traffic is) stays_made.bearer (subst (λ (q : LinkOutcome). HasTaken m.course.pair b t R.state before (taken_in q)) outcome_is taken) arrives)
