-- A STATE or a numbered packet arrives at a link of a pair whose record is of a session of the contact.
use Rattle.std.proofs.Common.{◌<◌, ◌⊎◌, ◌≡◌, ℕ, ◌+◌, ◌≤◌, ◌&&◌, Bool, true, ◌++◌, ◌∷◌, inr, if◌then◌else◌, List, [], Some, None, is_some, option_map, length, refl, sym, ap, ◌∙◌, subst, arith}
use Rattle.tipc_types.specs.declared.link_words.BroadcastState.{BroadcastState}
use Rattle.tipc_types.specs.declared.packet_lists.Taken.{Taken}
use Rattle.tipc_header.specs.declared.packet.Header.{Header}
use Rattle.tipc_header.specs.declared.packet.Header.TheVariants as header
use Rattle.tipc_header.specs.Spelling.{Fields}
use Rattle.tipc_recv_window.specs.declared.outcomes.LinkOutcome.{LinkOutcome}
use Rattle.tipc_recv_window.specs.declared.outcomes.Place.{Place}
use Rattle.tipc_recv_window.specs.declared.outcomes.Place.TheVariants as place
use Rattle.tipc_recv_window.specs.Receiving.{next_of}
use Rattle.tipc_recv_window.proofs.Comings.{due_none}
use Rattle.tipc_link_fsm.specs.declared.changes.Change.{Change}
use Rattle.tipc_link_fsm.specs.declared.changes.Change.TheVariants.{Stay}
use Rattle.tipc_link_fsm.specs.Table.{Fsm, Outcome, on_traffic}
use Rattle.tipc_link.specs.Links.{LinkEnd, after, arrival_end, followed, heard_end, heard_outcome, change_outcome, is_heard, is_taken, is_traffic, link_outcome, outcome_of, record_in, record_of, with_fsm}
use Rattle.tipc_link.specs.Records.{Received, standing}
use Rattle.tipc_link.specs.Sessions.{Carries, Content, Nothing, SessionEnd, Shows, arrived, brought, content_of, due_with, flushed, is_only_deferred, noted, outcome, place_of, placed, receiving, receiving_record, after_acknowledgement, repeated, spoke, took}
use Rattle.tipc_pair.specs.declared.changes.PairOutcome.{PairOutcome}
use Rattle.tipc_pair.specs.Changeovers.{following, released as released_pair}
use Rattle.tipc_pair.specs.Courses.{Course, going_on}
use Rattle.tipc_pair.specs.Facing.{PairEnds, is_up_at, with_near}
use Rattle.tipc_pair.specs.PairArrivals.{Arrives, Heard, OpensInto, hears, met, met_at, met_near, taken_in}
use Rattle.tipc_changeover.specs.Links.{Bearer, Receiver, State}
use Rattle.tipc_two_nodes.specs.links.Arriving.{Gives, HasTaken, IsHeardIn, IsMadeFor, Opens, Stands, heard_pair}
use Rattle.tipc_two_nodes.specs.links.Receiving.{AreLines, AreNext, IsSessionRecord, IsRecordFor, ReceiveFor, Records, bytes_in, record_at, records_of}
use Rattle.tipc_two_nodes.specs.links.Traffic.{Lines, Traffic}
use Rattle.tipc_two_nodes.proofs.links.receiver.Coming.{comes}
use Rattle.tipc_two_nodes.proofs.links.sender.Happening.{reached_holds}
use Rattle.tipc_two_nodes.proofs.links.receiver.Received.{gives}
use Rattle.tipc_two_nodes.proofs.links.receiver.BegunKept.{released_same}
use Rattle.tipc_two_nodes.proofs.links.receiver.Remaining.{released_records}

-- ---- what a session hears

-- nothing is due where a packet isn't taken
placed_due : (p : Place) (a : SessionEnd) (t : Taken) → next_of (receiving a) ≡ None → p ≡ place_of a t → taken_in (placed p (due_with a t)) ≡ due_with a t
unfolding due_with
placed_due place.InOrder a t free is = refl
placed_due place.Deferred a t free is = sym (due_none (receiving a) (standing (receiving a) t) t free (λ first. let same : place.Deferred ≡ place.InOrder = is ∙ first in let wrong : ⊥ = cc in wrong))
placed_due place.Old a t free is = sym (due_none (receiving a) (standing (receiving a) t) t free (λ first. let same : place.Old ≡ place.InOrder = is ∙ first in let wrong : ⊥ = cc in wrong))

-- what it takes of a packet, and its record then
pub record HeardSo (l : Lines) (a : SessionEnd) (r : Receiver) (by acknowledgement : ℕ) (c : Content) : Type 0 where
  pub next : AreNext (l.line r.session) r.taken (taken_in (outcome a by c))
  pub record_is : IsSessionRecord l (receiving_record (arrived a by acknowledgement c)) (record { session = r.session; taken = r.taken + length (taken_in (outcome a by c)) })

pub none_next : (line : List (List ℕ)) (before : ℕ) → AreNext line before []
none_next line before = record {
  stand = λ k packet there. absurd (let wrong : ⊥ = cc in wrong);
  bytes = λ k u there. absurd (let wrong : ⊥ = cc in wrong);
  plain = λ k u there. absurd (let wrong : ⊥ = cc in wrong);
}

same_place : (l : Lines) (a : Received) (r : Receiver) (shown : ℕ) → IsSessionRecord l a r → IsSessionRecord l (record { epoch = a.epoch; taken = a.taken; held = a.held; shown = shown }) (record { session = r.session; taken = r.taken + 0 })
same_place l a r shown h = record { begun = h.begun; epoch = h.epoch; taken = (let same = h.taken in let zero_more : r.taken + 0 ≡ a.taken = omega arith in zero_more); holds = h.holds; plain = h.plain }

spoke_record : {A : Type 0} (a : SessionEnd) (xs : List A) → receiving_record (spoke a xs) ≡ receiving_record a
spoke_record a [] = refl
spoke_record a (x ∷ xs) = refl

packet_record : (a : SessionEnd) (by acknowledgement number : ℕ) (packet : List ℕ) → receiving_record (took a (brought number packet by)) ≡ receiving_record (arrived a by acknowledgement (Carries number packet))
unfolding flushed due_with is_only_deferred
packet_record a by acknowledgement number packet = refl

state_record : (a : SessionEnd) (by acknowledgement next gap : ℕ) (probe : Bool) → (shown : ℕ) × (record { epoch = a.record_epoch; taken = a.taken; held = a.held; shown = shown } ≡ receiving_record (arrived a by acknowledgement (Shows next gap probe)))
unfolding flushed
state_record a by acknowledgement next gap probe =
    let d = spoke (after_acknowledgement a acknowledgement) (repeated (after_acknowledgement a acknowledgement) acknowledgement gap) in
    ((noted d next probe).shown, ap (λ (r : Received). record { epoch = r.epoch; taken = r.taken; held = r.held; shown = (noted d next probe).shown }) (sym (spoke_record (after_acknowledgement a acknowledgement) (repeated (after_acknowledgement a acknowledgement) acknowledgement gap))))

pub heard_so : (l : Lines) (a : SessionEnd) (r : Receiver) (by acknowledgement : ℕ) (c : Content) → IsSessionRecord l (receiving_record a) r → IsHeardIn (l.line r.session) (receiving_record a) c → HeardSo l a r by acknowledgement c
heard_so l a r by acknowledgement Nothing h heard = record { next = none_next (l.line r.session) r.taken; record_is = same_place l (receiving_record a) r a.shown h }
heard_so l a r by acknowledgement (Shows next gap probe) h heard =
    let is = state_record a by acknowledgement next gap probe in
    record {
      next = none_next (l.line r.session) r.taken;
      record_is = subst (λ (x : Received). IsSessionRecord l x (record { session = r.session; taken = r.taken + 0 })) is.1 (same_place l (receiving_record a) r is.0 h);
    }
heard_so l a r by acknowledgement (Carries number packet) h heard =
    let t = brought number packet by in
    let now = comes l a r number by packet h heard.line_is (heard.framed number packet refl) in
    let due : taken_in (placed (place_of a t) (due_with a t)) ≡ due_with a t = placed_due (place_of a t) a t h.holds.wants refl in
    record {
      next = subst (λ (us : List Taken). AreNext (l.line r.session) r.taken us) (sym due) now.next;
      record_is = subst (λ (us : List Taken). IsSessionRecord l (receiving_record (arrived a by acknowledgement (Carries number packet))) (record { session = r.session; taken = r.taken + length us })) (sym due)
          (subst (λ (x : Received). IsSessionRecord l x (record { session = r.session; taken = r.taken + length (due_with a t) })) (packet_record a by acknowledgement number packet) now.record_is);
    }

-- ---- what the link makes of it

pub arrival_record : (e : LinkEnd) (o : Outcome) (p : Fields) (by : ℕ) (a : SessionEnd) → is_heard p.header o.change ≡ true → (after e o).session ≡ Some a → record_of (arrival_end e o p by) ≡ Some (receiving_record (arrived a by p.acknowledgement (content_of p)))
arrival_record e o p by a heard session =
    ap (λ b. record_of (if b then heard_end (after e o) by p.acknowledgement (content_of p) else after e o)) heard ∙ ap (λ u. record_in (option_map (λ s. arrived s by p.acknowledgement (content_of p)) u) (after e o).early) session

pub arrival_outcome : (e : LinkEnd) (o : Outcome) (p : Fields) (by : ℕ) (a : SessionEnd) → is_heard p.header o.change ≡ true → (after e o).session ≡ Some a → link_outcome e o p by ≡ outcome a by (content_of p)
arrival_outcome e o p by a heard session =
    ap (λ b. if b then heard_outcome (after e o).session by (content_of p) else change_outcome o.change) heard ∙ ap (λ u. heard_outcome u by (content_of p)) session

-- a packet of a session goes to the near link
traffic_outcome : (h : Header) (fsm : Fsm) (es er : ℕ) (held : Bool) → is_traffic h ≡ true → outcome_of fsm h es er held ≡ on_traffic fsm es er
traffic_outcome (header.Reset r) fsm es er held traffic = absurd (let wrong : ⊥ = cc in wrong)
traffic_outcome (header.Activate r) fsm es er held traffic = absurd (let wrong : ⊥ = cc in wrong)
traffic_outcome (header.Discovery r) fsm es er held traffic = absurd (let wrong : ⊥ = cc in wrong)
traffic_outcome other fsm es er held traffic = refl

pub traffic_hears : (h : Header) (es er : ℕ) (p : Fields) (by : ℕ) (shown : BroadcastState) (x : PairEnds) → is_traffic h ≡ true → hears h es er p by shown x ≡ met_near es er p by shown x
traffic_hears (header.Reset r) es er p by shown x traffic = absurd (let wrong : ⊥ = cc in wrong)
traffic_hears (header.Activate r) es er p by shown x traffic = absurd (let wrong : ⊥ = cc in wrong)
traffic_hears other es er p by shown x traffic = refl

pub traffic_met : (x : PairEnds) (e : LinkEnd) (es er : ℕ) (p : Fields) (by : ℕ) (shown : BroadcastState) → is_traffic p.header ≡ true → x.near ≡ Some e → hears p.header es er p by shown x ≡ met x e (on_traffic e.fsm es er) p es by shown
traffic_met x e es er p by shown traffic is =
    traffic_hears p.header es er p by shown x traffic ∙ (ap (met_at es er p by shown x) is ∙ ap (λ o. met x e o p es by shown) (traffic_outcome p.header e.fsm es er (is_up_at x.far) traffic))

-- ---- the pair

pub stands_taken : (x y : PairEnds) (b : Bearer) (t : Traffic) (s : State) (before : List (List ℕ)) (r : Received) (taken : List Taken) → Stands x b t s before → y.bearer ≡ x.bearer → IsMadeFor y t → records_of y ≡ record { near = Some r; far = record_at x.far }
    → IsSessionRecord t.near r (record { session = s.near_record.session; taken = s.near_record.taken + length taken }) → AreNext (t.near.line s.near_record.session) s.near_record.taken taken → HasTaken y b t s before taken
stands_taken x y b t s before r taken h bearer made records own next =
    let holds = reached_holds b s h.reached in
    record {
      two_bearers = subst (λ n. n ≤ 1) (sym bearer) h.two_bearers;
      made = made;
      lines = subst (λ n. AreLines n t s) (sym bearer) h.lines;
      sound = holds.0;
      bounded = holds.1;
      near = subst (λ (z : Records). IsRecordFor t.near z.near (record { session = s.near_record.session; taken = s.near_record.taken + length taken })) (sym records) (inr own);
      far = subst (λ (z : Records). IsRecordFor t.far z.far s.far_record) (sym records) h.receive.far;
      first_ones = h.receive.first_ones;
      next = next;
    }

-- what is opened, and then an end may be held no longer
pub opened_released : (b : Bearer) (bearer bearer' : ℕ) (t : Traffic) (s : State) (before : List (List ℕ)) (heard y z : PairEnds) (given : PairOutcome) → records_of z ≡ records_of y → z.begun ≡ y.begun → z.contact ≡ y.contact → bearer' ≡ bearer → Opens b bearer' t s before heard y given → Opens b bearer t s before heard z given
opened_released b bearer bearer' t s before heard y z given records begun contact same h =
    let R = h.receives in
    record {
      carried = h.carried;
      begun = h.begun;
      begun_is = subst (λ n. (h.begun ≡ heard.begun) ⊎ (heard.contact < n)) (sym contact) h.begun_is;
      gives = subst (Gives h.begun h.carried given) (sym begun) h.gives;
      receives = record {
        state = R.state;
        takes = R.takes;
        lines = subst (λ n. AreLines n t R.state) same R.lines;
        receive = subst (λ (q : Records). ReceiveFor q t (before ++ bytes_in h.carried) R.state) (sym records) R.receive;
      };
    }

pub arrives_from : (x : PairEnds) (es er : ℕ) (p : Fields) (by : ℕ) (shown : BroadcastState) (c : Course) (given : PairOutcome) (b : Bearer) (t : Traffic) (s : State) (before : List (List ℕ)) (m : Heard) → hears p.header es er p by shown x ≡ m → m.course.pair.bearer ≡ x.bearer
    → HasTaken m.course.pair b t s before (taken_in m.outcome) → Arrives x es er p by shown c given → Opens b x.bearer t s before (heard_pair x es er p by shown) c.pair given
unfolding going_on
arrives_from x es er p by shown c given b t s before m is bearer h a =
    let opened = gives m.course.pair b t s before m.outcome a.opened given h (subst (λ (k : Heard). OpensInto k.course.pair k.outcome a.opened given) is a.opens) in
    let pair : c.pair ≡ (released_pair a.opened.pair).pair = ap (λ (d : Course). d.pair) a.course in
    let kept = released_same a.opened.pair in
    subst (λ (k : Heard). Opens b x.bearer t s before k.course.pair c.pair given) (sym is)
    (opened_released b x.bearer m.course.pair.bearer t s before m.course.pair a.opened.pair c.pair given (ap records_of pair ∙ released_records a.opened.pair) (ap (λ (q : PairEnds). q.begun) pair ∙ kept.0) (ap (λ (q : PairEnds). q.contact) pair ∙ kept.1) bearer opened)

-- the session stays
stay_session : (e : LinkEnd) (o : Outcome) (a : SessionEnd) → o.change ≡ Stay → e.session ≡ Some a → (after e o).session ≡ Some a
stay_session e o a stay session = ap (λ (k : Change). (followed (with_fsm e o.after) k).session) stay ∙ session

stay_heard : (h : Header) (k : Change) → is_traffic h ≡ true → k ≡ Stay → is_heard h k ≡ true
stay_heard h k traffic stay = ap (λ q. is_traffic h && is_taken q) stay ∙ ap (λ q. q && true) traffic

pub sessions_receive : (x : PairEnds) (e : LinkEnd) (a : SessionEnd) (es er : ℕ) (p : Fields) (by : ℕ) (shown : BroadcastState) (c : Course) (given : PairOutcome) (b : Bearer) (t : Traffic) (s : State) (before : List (List ℕ)) → Stands x b t s before → x.near ≡ Some e → e.session ≡ Some a
    → is_traffic p.header ≡ true → (on_traffic e.fsm es er).change ≡ Stay → IsSessionRecord t.near (receiving_record a) s.near_record → IsHeardIn (t.near.line s.near_record.session) (receiving_record a) (content_of p) → Arrives x es er p by shown c given
    → Opens b x.bearer t s before (heard_pair x es er p by shown) c.pair given
unfolding going_on
sessions_receive x e a es er p by shown c given b t s before h is session traffic stay own heard arrives =
    let o = on_traffic e.fsm es er in
    let so = stay_heard p.header o.change traffic stay in
    let again = stay_session e o a stay session in
    let m = met x e o p es by shown in
    let now = heard_so t.near a s.near_record by p.acknowledgement (content_of p) own heard in
    let outcome_is : outcome a by (content_of p) ≡ m.outcome = sym (arrival_outcome e o p by a so again) in
    let pair : m.course.pair ≡ with_near x (arrival_end e o p by) = ap (λ (k : Change). (following (with_near x (arrival_end e o p by)) k es).pair) stay in
    let records : records_of m.course.pair ≡ record { near = Some (receiving_record (arrived a by p.acknowledgement (content_of p))); far = record_at x.far } = ap records_of pair ∙ ap (λ q. record { near = q; far = record_at x.far }) (arrival_record e o p by a so again) in
    let taken = stands_taken x m.course.pair b t s before (receiving_record (arrived a by p.acknowledgement (content_of p))) (taken_in (outcome a by (content_of p))) h (ap (λ (y : PairEnds). y.bearer) pair) (λ n k u there so. ap (λ (y : PairEnds). is_some y.far) pair ∙ h.made n k u there so) records now.record_is now.next in
    arrives_from x es er p by shown c given b t s before m (traffic_met x e es er p by shown traffic is) (ap (λ (y : PairEnds). y.bearer) pair) (subst (λ (q : LinkOutcome). HasTaken m.course.pair b t s before (taken_in q)) outcome_is taken) arrives
