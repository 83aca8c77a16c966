-- What a pair has of the peer and hasn't given yet came by its arrivals, also after a turn; and so did what the turn gives.
use Rattle.std.specs.Prelude.{All, IfSome, nat_lt}
use Rattle.std.proofs.Common.{◌≡◌, ℕ, ◌==◌, Bool, true, false, List, [], Option, Some, None, option_map, length, if◌then◌else◌, refl, sym, subst, inl, inr, ◌∙◌}
use Rattle.std.proofs.lemmas.List.Elements.{All-append, All-filter, All-nil, All-tail}
use Rattle.tipc_types.specs.declared.link_words.BroadcastState.{BroadcastState}
use Rattle.tipc_types.specs.declared.packet_lists.Taken.{Taken}
use Rattle.tipc_outside.specs.declared.outgoing.Outgoing.{Outgoing}
use Rattle.tipc_header.specs.declared.packet.Header.{Header}
use Rattle.tipc_header.specs.declared.packet.Header.TheVariants as header
use Rattle.tipc_header.specs.Spelling.{Fields, spelling}
use Rattle.tipc_tunnel.specs.Tunnels.{Tunnelled}
use Rattle.tipc_reassembly.specs.Tracing.{IsBegunBy, IsOpenedBy}
use Rattle.tipc_reassembly.proofs.TraceLaws.{begun_more, begun_none, opened_traced}
use Rattle.tipc_recv_window.specs.declared.outcomes.LinkOutcome.{LinkOutcome}
use Rattle.tipc_link_fsm.specs.Table.{Outcome}
use Rattle.tipc_link.specs.Links.{LinkEnd}
use Rattle.tipc_link.specs.Sessions.{IsPut, SessionEnd, as_waiting, content_by, content_of, flushed, given_up, joins, put, waiting_given, waits}
use Rattle.tipc_pair.specs.declared.changes.PairOutcome.{PairOutcome}
use Rattle.tipc_pair.specs.Changeovers.{forgetting, let_go, parted_end, released}
use Rattle.tipc_pair.specs.Courses.{Course, going_on}
use Rattle.tipc_pair.specs.Facing.{PairEnds, facing, turned, with_near}
use Rattle.tipc_pair.specs.Held.{CameBy}
use Rattle.tipc_pair.specs.Messages.{opened_in, pieces_for}
use Rattle.tipc_pair.specs.PairArrivals.{Arrives, OpensInto, Unwraps, as_it_is, deferred, freed_at, hears as heard_as, ignored, inner_at, none_taken, opens, restored, taken_down, tunnel, with_bytes}
use Rattle.tipc_pair.specs.PairCalls.{Puts, answered_near, at_bearer, cut_near, mended, tick_near, ticked}
use Rattle.tipc_pair.specs.PairTurns.{Happened, Opening, Outset, PairTurn, PutsAll, Reply, made_near, none_put, puts_one, replied}
use Rattle.tipc_pair.specs.PairTurns.Opening.{rests, makes, mends, cuts, ticks, hears}
use Rattle.tipc_pair.proofs.ArrivalLaws.{arrived_pair}
use Rattle.tipc_pair.proofs.CourseLaws.{then_pair}
use Rattle.tipc_pair.proofs.acts.Acts.{Act, Ran, Steps}
use Rattle.tipc_pair.proofs.acts.Acts.Act.{meets as meeting, opens as giving}
use Rattle.tipc_pair.proofs.acts.Acts.Steps.{cut, meet, name, reset, tick}
use Rattle.tipc_pair.proofs.acts.Acting.{answered_ran, cut_ran, hears_may, hears_ran, made_ran, mended_ran, released_ran, taken_down_ran, tick_ran}
use Rattle.tipc_pair.proofs.acts.Takings.{taking}
use Rattle.tipc_pair.proofs.acts.Walks.{Parts, walks_by_parts}
use Rattle.tipc_pair.specs.Traces.{HoldsBy, KeepsBy}
use Rattle.tipc_pair.proofs.turns.EndTraces.{AllBy, BringsBy, ComesWhole, EndBy, FirstBy, TakenBy, after_by, answered_by, arrival_by, flushed_held, freed_all_by, inner_by, mapped_held, record_held, session_held, taken_by}

-- each packet that its ends hold came by its arrival, and so did each fragment of the message that is begun
abbrev pub MaybeBy : (ℕ → List ℕ → Type 0) → Option LinkEnd → Type 0
MaybeBy P o = IfSome o (EndBy P)

pub record PairBy (P : ℕ → List ℕ → Type 0) (x : PairEnds) : Type 0 where
  pub near : MaybeBy P x.near
  pub far : MaybeBy P x.far
  pub begun : IsBegunBy P x.begun

-- as it is said of what a world watches
maybe_of : (P : ℕ → List ℕ → Type 0) (o : Option LinkEnd) → HoldsBy P o → MaybeBy P o
maybe_of P None h = h
maybe_of P (Some e) h = session_held P e h

holds_of : (P : ℕ → List ℕ → Type 0) (o : Option LinkEnd) → MaybeBy P o → HoldsBy P o
holds_of P None h = h
holds_of P (Some e) h = λ r is. record_held P e.session e.early r h is

pub pair_of : (P : ℕ → List ℕ → Type 0) (x : PairEnds) → KeepsBy P x → PairBy P x
pair_of P x k = record { near = maybe_of P x.near k.near; far = maybe_of P x.far k.far; begun = k.begun }

pub keeps_of : (P : ℕ → List ℕ → Type 0) (x : PairEnds) → PairBy P x → KeepsBy P x
keeps_of P x h = record { near = holds_of P x.near h.near; far = holds_of P x.far h.far; begun = h.begun }

-- ---- a run of acts

-- what an act brings came by this arrival
abbrev Came : (ℕ → List ℕ → Type 0) → PairEnds → Act → Type 0
Came P x (meeting es er p by shown) = BringsBy P by (content_of p)
Came P x (giving packets given) = AllBy P packets
Came P x other = Unit {0}

abbrev Stays : (ℕ → List ℕ → Type 0) → PairEnds → Course → Type 0
Stays P x c = PairBy P x → PairBy P c.pair

-- in another state of its session, which holds the same
flushed_by : (P : ℕ → List ℕ → Type 0) (e : LinkEnd) (s s' : SessionEnd) → e.session ≡ Some s → s'.held ≡ s.held → EndBy P e → EndBy P (record e { session = Some (flushed s') })
flushed_by P e s s' is same h t has =
    let there : flushed s' ≡ t = cc in subst (λ (u : SessionEnd). All (CameBy P) u.held) there (subst (All (CameBy P)) (sym (flushed_held s' ∙ same)) (h s is))

put_held : (s : SessionEnd) (pieces : List (List ℕ)) (s' : SessionEnd) → IsPut s pieces s' → s'.held ≡ s.held
put_held s ps s' (joins packets packet may) = refl
put_held s ps s' (waits pieces apart) = refl

module _ (P : ℕ → List ℕ → Type 0) where
  some_by : (o : Option LinkEnd) (e : LinkEnd) → o ≡ Some e → MaybeBy P o → EndBy P e
  some_by o e is h = subst (MaybeBy P) is h

  near_by : (x : PairEnds) (e : LinkEnd) → PairBy P x → EndBy P e → PairBy P (with_near x e)
  near_by x e h k = record { near = k; far = h.far; begun = h.begun }

  mapped_by : (f : LinkEnd → LinkEnd) (o : Option LinkEnd) → ((e : LinkEnd) → EndBy P e → EndBy P (f e)) → MaybeBy P o → MaybeBy P (option_map f o)
  mapped_by f None keeps h = h
  mapped_by f (Some e) keeps h = keeps e h

  turned_by : (x : PairEnds) → PairBy P x → PairBy P (turned x)
  turned_by x h = record { near = h.far; far = h.near; begun = h.begun }

  steps_by : (x : PairEnds) (a : Act) (e : LinkEnd) (o : Outcome) (e' : LinkEnd) (states numbered : List Outgoing) (epoch : ℕ) → EndBy P e → Came P x a → Steps x e a o e' states numbered epoch → EndBy P e'
  steps_by x _ e _ _ _ _ _ h may cut = h
  steps_by x _ e _ _ _ _ _ h may (tick shown) = after_by P e _ h
  steps_by x _ e _ _ _ _ _ h may (reset es held shown) = after_by P e _ h
  steps_by x _ e _ _ _ _ _ h may (meet es er p by shown) = arrival_by P e _ p by h may
  steps_by x _ e _ _ _ _ _ h may (name epoch) = h

  stays : Parts (Came P) (Stays P)
  unfolding going_on
  stays = record {
    rests = λ x h. h;
    goes_on = λ x first step one two h. two (one h);
    turns = λ x c k h. turned_by c.pair (k (turned_by x h));
    makes = λ x may h. record { near = λ s has. absurd cc; far = h.far; begun = h.begun };
    mends = λ x e near h. near_by x _ h (some_by x.near e near h.near);
    steps = λ x a e o e' states numbered epoch near may step h. near_by x e' h (steps_by x a e o e' states numbered epoch (some_by x.near e near h.near) may step);
    begins = λ x here down h. record { near = h.near; far = h.far; begun = begun_none P };
    ends = λ x contact shown h. record { near = mapped_by (parted_end _ _) x.near (λ e k. k) h.near; far = mapped_by (parted_end _ _) x.far (λ e k. k) h.far; begun = begun_none P };
    counts = λ x number may h. record { near = h.near; far = h.far; begun = h.begun };
    forgets = λ x number may h. record { near = mapped_by (forgetting number) x.near (λ e k. k) h.near; far = mapped_by (forgetting number) x.far (λ e k. k) h.far; begun = h.begun };
    hands_over = λ x near far lost s one two first second up h. record {
      near = mapped_held P given_up near.session (λ t k. k) (some_by x.near near one h.near);
      far = flushed_by P far s (put s _) second refl (some_by x.far far two h.far);
      begun = h.begun;
    };
    takes_over = λ x near far s old one two first second here up h. record {
      near = flushed_by P near s (put s _) first refl (some_by x.near near one h.near);
      far = mapped_held P waiting_given far.session (λ t k. k) (some_by x.far far two h.far);
      begun = h.begun;
    };
    lets_go = λ x e near may clear h. near_by x (let_go e) h (some_by x.near e near h.near);
    carries = λ x e t by near may h. near_by x _ h (inner_by P t by e (some_by x.near e near h.near));
    opens = λ x packets given last may brings h. record { near = h.near; far = h.far; begun = begun_more P x.begun packets given last brings h.begun may };
    puts = λ x e s pieces s' near may has is h. near_by x _ h (flushed_by P e s s' has (put_held s pieces s' is) (some_by x.near e near h.near));
    answers = λ x e taken asks shown near may h. near_by x _ h (answered_by P e taken asks (some_by x.near e near h.near));
  }

  ran_by : (x : PairEnds) (c : Course) → Ran (Came P) x c → PairBy P x → PairBy P c.pair
  ran_by x c run h = walks_by_parts (Came P) (Stays P) stays x c run h

  -- ---- calls

  facing_by : (bearer : ℕ) (x : PairEnds) → PairBy P x → PairBy P (facing bearer x)
  unfolding facing
  facing_by bearer x h = elim (x.bearer == bearer) as (λ b. PairBy P (if b then x else turned x)) [ true ↦ h | false ↦ turned_by x h ]

  -- a call at the link of a bearer that is a run
  at_by : (bearer : ℕ) (x : PairEnds) (call : PairEnds → Course) → Ran (Came P) (facing bearer x) (call (facing bearer x)) → PairBy P x → PairBy P (at_bearer bearer x call).pair
  at_by bearer x call run h = facing_by x.bearer (call (facing bearer x)).pair (ran_by (facing bearer x) (call (facing bearer x)) run (facing_by bearer x h))

  going_by : (c : Course) (step : PairEnds → Course) → PairBy P (step c.pair).pair → PairBy P (going_on c step).pair
  going_by c step h = subst (PairBy P) (sym (then_pair c step)) h

  pub making_by : (bearer : ℕ) (is_mended : Bool) (x : PairEnds) → PairBy P x → PairBy P (at_bearer bearer x (made_near is_mended)).pair
  making_by bearer is_mended x h = at_by bearer x (made_near is_mended) (made_ran (Came P) is_mended (facing bearer x) tt tt) h

  ticked_by : (shown : BroadcastState) (x : PairEnds) → PairBy P x → PairBy P (ticked shown x).pair
  ticked_by shown x h =
      let tick_one : ℕ → PairEnds → Course = λ b y. at_bearer b y (tick_near shown) in
      let one_by : (b : ℕ) (y : PairEnds) → PairBy P y → PairBy P (tick_one b y).pair = λ b y k. at_by b y (tick_near shown) (tick_ran (Came P) shown (facing b y) tt) k in
      let both = going_on (tick_one 0 x) (tick_one 1) in
      let there = going_by (tick_one 0 x) (tick_one 1) (one_by 1 (tick_one 0 x).pair (one_by 0 x h)) in
      going_by both released (ran_by both.pair (released both.pair) (released_ran (Came P) (λ y. tt) both.pair) there)

  replied_by : (reply : Option Reply) (x : PairEnds) → PairBy P x → PairBy P (replied reply x).pair
  replied_by None x h = h
  replied_by (Some r) x h = at_by r.bearer x (answered_near r.taken r.asks r.shown) (answered_ran (Came P) r.taken r.asks r.shown (facing r.bearer x) tt) h

  puts_by : (x : PairEnds) (pieces : List (List ℕ)) (x' : PairEnds) (frames : List Outgoing) → PairBy P x → Puts x pieces x' frames → PairBy P x'
  puts_by x pieces x' frames h t = subst (PairBy P) (sym t.after) (near_by x _ h (flushed_by P t.end t.session t.put t.session_is (put_held t.session pieces t.put t.is_put) (some_by x.near t.end t.end_is h.near)))

  put_all_by : (x : PairEnds) (messages : List (List ℕ)) (frames : List Outgoing) (x' : PairEnds) → PairBy P x → PutsAll x messages frames x' → PairBy P x'
  put_all_by _ _ _ _ h (none_put x) = h
  put_all_by _ _ _ _ h (puts_one x between last m messages first frames one more) =
      let near = puts_by (facing one.bearer x) (pieces_for m) one.near first (facing_by one.bearer x h) one.puts in
      put_all_by between messages frames last (subst (PairBy P) (sym one.after) (facing_by x.bearer one.near near)) more

  -- ---- what is opened

  inner_at_by : (t : Tunnelled) (by : ℕ) (x : PairEnds) (o : Option LinkEnd) → PairBy P x → MaybeBy P o → PairBy P (inner_at t by x o).pair
  inner_at_by t by x None h k = h
  inner_at_by t by x (Some e) h k = record { near = h.near; far = inner_by P t by e k; begun = h.begun }

  freed_by_all : (t : Tunnelled) (by : ℕ) (o : Option LinkEnd) → MaybeBy P o → P by (restored t.inner) → AllBy P (freed_at t by o)
  freed_by_all t by None k came = All-nil (λ (u : Taken). P u.by u.packet)
  freed_by_all t by (Some e) k came = freed_all_by P t by e k came

-- the pair then, and what was given
pub record GivenBy (P : ℕ → List ℕ → Type 0) (x : PairEnds) (given : PairOutcome) : Type 0 where
  pub pair : PairBy P x
  pub opened : All (IsOpenedBy P) (opened_in given)

-- what is heard of the peer, and nothing else, came by its arrival
abbrev pub OpensBrought : (ℕ → List ℕ → Type 0) → Opening → Type 0
OpensBrought P (hears bearer es er p by shown) = ComesWhole P by (spelling (as_waiting p))
OpensBrought P other = Unit {0}

brings_content : (P : ℕ → List ℕ → Type 0) (h : Header) (by sequence : ℕ) (bytes : List ℕ) → ComesWhole P by bytes → BringsBy P by (content_by h sequence bytes)
brings_content P (header.State s) by sequence bytes came = tt
brings_content P (header.Reset r) by sequence bytes came = tt
brings_content P (header.Activate a) by sequence bytes came = tt
brings_content P (header.Discovery d) by sequence bytes came = tt
brings_content P other by sequence bytes came = came

brings_packet : (P : ℕ → List ℕ → Type 0) (p : Fields) (by : ℕ) → ComesWhole P by (spelling (as_waiting p)) → BringsBy P by (content_of p)
unfolding content_of
brings_packet P p by came = brings_content P p.header by p.sequence (spelling (as_waiting p)) came

module _ (P : ℕ → List ℕ → Type 0) where
  -- the pair then, and what was carried
  unwraps_by : (x : PairEnds) (taken : List Taken) (c : Course) (carried : List Taken) → Unwraps x taken c carried → PairBy P x → AllBy P taken → FirstBy P taken → PairBy P c.pair × AllBy P carried
  unwraps_by x _ _ _ none_taken h all first = (h, all)
  unwraps_by x _ _ _ (as_it_is t others none) h all first = (h, all)
  unwraps_by x _ _ _ (tunnel u others t speaks) h all first =
      let one = taken_down t.kind t.old.epoch x in
      let k = ran_by P x one (taken_down_ran (Came P) t.kind t.old.epoch x tt) h in
      let of : Taken → Type 0 = λ v. P v.by v.packet in (
        going_by P one (λ y. inner_at t u.by y y.far) (inner_at_by P t u.by one.pair one.pair.far k k.far),
        All-append of (freed_at t u.by one.pair.far) others (freed_by_all P t u.by one.pair.far k.far (first.inside t speaks.tunnel)) (All-tail of u others all),
      )

  opens_by : (x : PairEnds) (outcome : LinkOutcome) (c : Course) (given : PairOutcome) → OpensInto x outcome c given → PairBy P x → TakenBy P outcome → GivenBy P c.pair given
  opens_by x _ _ _ (opens {taken = taken} {carried = carried} {c = c} {given = given} {last = last} unwraps brings) h came =
      let u = unwraps_by x taken c carried unwraps h came.all came.first in
      let bytes = All-filter (λ (t : Taken). nat_lt 0 (length t.packet)) (λ (t : Taken). P t.by t.packet) carried u.1 in
      let k = u.0 in
      record {
        pair = record { near = k.near; far = k.far; begun = begun_more P c.pair.begun (with_bytes carried) given last brings k.begun bytes };
        opened = opened_traced P c.pair.begun (with_bytes carried) given last brings k.begun bytes;
      }
  opens_by x _ _ _ deferred h came = record { pair = h; opened = All-nil (IsOpenedBy P) }
  opens_by x _ _ _ ignored h came = record { pair = h; opened = All-nil (IsOpenedBy P) }

  -- what the near end took came by its arrival
  heard_by : (es er : ℕ) (p : Fields) (by : ℕ) (shown : BroadcastState) (x : PairEnds) → PairBy P x → BringsBy P by (content_of p) → TakenBy P (heard_as p.header es er p by shown x).outcome
  heard_by es er p by shown x h came = elim (taking p.header es er p by shown x refl) [
    | inl none ↦ record { all = subst (AllBy P) (sym none) (All-nil (λ (t : Taken). P t.by t.packet)); first = subst (FirstBy P) (sym none) tt }
    | inr t ↦ subst (TakenBy P) (sym t.outcome_is) (taken_by P t.end _ p by (some_by P x.near t.end t.near h.near) came)
  ]

  arrives_by : (x : PairEnds) (es er : ℕ) (p : Fields) (by : ℕ) (shown : BroadcastState) (c : Course) (given : PairOutcome) → Arrives x es er p by shown c given → PairBy P x → ComesWhole P by (spelling (as_waiting p)) → GivenBy P c.pair given
  arrives_by x es er p by shown c given a h came =
      let heard = heard_as p.header es er p by shown x in
      let brings = brings_packet P p by came in
      let k = ran_by P x heard.course (hears_ran (Came P) p.header es er p by shown x (hears_may (Came P) p.header es er p by shown x (λ number. tt) (λ y. tt) (λ y. brings))) h in
      let o = opens_by heard.course.pair heard.outcome a.opened given a.opens k (heard_by es er p by shown x h brings) in
      let y = a.opened.pair in
      record {
        pair = subst (PairBy P) (sym (arrived_pair x es er p by shown c given a)) (ran_by P y (released y) (released_ran (Came P) (λ z. tt) y) o.pair);
        opened = o.opened;
      }

  -- ---- the turn

  quietly_by : (c : Course) (o : Outset) → PairBy P c.pair → o ≡ record { course = c; given = PairOutcome.Took [] } → GivenBy P o.course.pair o.given
  quietly_by c o h is = subst (λ (q : Outset). GivenBy P q.course.pair q.given) (sym is) (record { pair = h; opened = All-nil (IsOpenedBy P) })

  pub first_by : (x : PairEnds) (opening : Opening) (o : Outset) → PairBy P x → OpensBrought P opening → Happened x opening o → GivenBy P o.course.pair o.given
  first_by x rests o h came is = quietly_by _ o h is
  first_by x (makes bearer is_mended) o h came is = quietly_by _ o (making_by P bearer is_mended x h) is
  first_by x (mends bearer) o h came is = quietly_by _ o (at_by P bearer x mended (mended_ran (Came P) (facing bearer x) tt) h) is
  first_by x (cuts bearer) o h came is = quietly_by _ o (at_by P bearer x cut_near (cut_ran (Came P) (λ y. tt) (facing bearer x) tt) h) is
  first_by x (ticks shown) o h came is = quietly_by _ o (ticked_by P shown x h) is
  first_by x (hears bearer es er p by shown) o h came is =
      let a = arrives_by (facing bearer x) es er p by shown is.0 is.1 is.2 (facing_by P bearer x h) came in
      subst (λ (q : Outset). GivenBy P q.course.pair q.given) (sym is.3) (record { pair = facing_by P x.bearer is.0.pair a.pair; opened = a.opened })

  pub turn_by : (x : PairEnds) (opening : Opening) (messages : List (List ℕ)) (reply : Option Reply) (x' : PairEnds) (frames : List Outgoing) → PairBy P x → OpensBrought P opening
      → PairTurn x opening messages reply x' frames → PairBy P x'
  turn_by x opening messages reply x' frames h came t =
      let first = first_by x opening t.first h came t.happened in
      subst (PairBy P) (sym t.after) (replied_by P reply t.put (put_all_by P t.first.course.pair messages t.put_frames t.put first.pair t.puts))
