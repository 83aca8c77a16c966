-- An arrival of which a pair took a tunnel packet is answered so.
use Rattle.std.proofs.Common.{◌≡◌, ◌<◌, ◌^◌, ◌++◌, ◌∙◌, length-append, ℕ, List, [], ◌∷◌, Option, Some, None, drop, length, slice_get, refl, sym, ap, subst, arith}
use Rattle.std.proofs.lemmas.List.{drop_at}
use Rattle.tipc_types.specs.Address.{node_word}
use Rattle.tipc_types.specs.declared.message_forms.Flow.TheVariants.{Zero}
use Rattle.tipc_types.specs.declared.link_words.BroadcastState.{BroadcastState}
use Rattle.tipc_types.specs.declared.link_words.Why.{Why}
use Rattle.tipc_types.specs.declared.node_calls.Answer.TheVariants as answer
use Rattle.tipc_types.specs.declared.node_calls.Arrival.{Arrival}
use Rattle.tipc_types.specs.declared.node_calls.Arrival.TheVariants as arrival
use Rattle.tipc_types.specs.declared.node_calls.By.{By}
use Rattle.tipc_types.specs.declared.node_calls.EventNote.TheVariants as event
use Rattle.tipc_outside.specs.declared.outgoing.Outgoing.{Outgoing}
use Rattle.tipc_header.specs.declared.packet.Changeover.{Changeover}
use Rattle.tipc_header.specs.declared.packet.Header.TheVariants as header
use Rattle.tipc_header.specs.declared.frames.FrameKind.TheVariants.{Links}
use Rattle.tipc_header.specs.Frames.{envelope, first_of, frame_of, kind_in, kind_of}
use Rattle.tipc_header.specs.Reading.{fields_at}
use Rattle.tipc_header.proofs.Again.{again}
use Rattle.tipc_header.proofs.FrameWords.{length-envelope}
use Rattle.tipc_header.specs.Spelling.{Fields, spelling}
use Rattle.tipc_journal.specs.declared.entries.Entry.{Entry}
use Rattle.tipc_journal.specs.declared.entries.Entry.TheVariants.{Answered}
use Rattle.tipc_journal.specs.Steps.{NodeStep, step_entries}
use Rattle.tipc_recv_window.specs.declared.outcomes.LinkOutcome.{LinkOutcome}
use Rattle.tipc_recv_window.specs.declared.outcomes.LinkOutcome.TheVariants as link_outcome
use Rattle.tipc_link.specs.Links.{LinkEnd}
use Rattle.tipc_pair.specs.declared.changes.PairOutcome.{PairOutcome}
use Rattle.tipc_pair.specs.declared.changes.PairOutcome.TheVariants as outcome
use Rattle.tipc_pair.specs.Courses.{Course}
use Rattle.tipc_pair.specs.Facing.{PairEnds, facing}
use Rattle.tipc_pair.specs.PairArrivals.{OpensInto, deferred, hears as heard_as, ignored, met_at, opens}
use Rattle.tipc_pair.specs.PairTurns.{Happened, Outset}
use Rattle.tipc_pair.specs.PairTurns.Opening.{hears}
use Rattle.tipc_paired.proofs.wires.Frames.{er_of-frame, es_of-frame, same_packet}
use Rattle.tipc_paired.specs.Views.{er_of, es_of}
use Rattle.tipc_node.specs.declared.frames.Delivery.{Delivery}
use Rattle.tipc_node.specs.Arrivals.{Arrives, Hears}
use Rattle.tipc_broadcast.specs.Casting.{shown}
use Rattle.tipc_node.specs.Nodes.{NodeState, arrival_answer, arrival_deliveries, message_count, pair_with, step_of, stop_of}
use Rattle.tipc_node.proofs.pairs.Strangers.{pair_there}
use Rattle.tipc_node.specs.Turns.{IsFrom, NodeTurn}
use Rattle.tipc_replay.proofs.frames.Coming.{same_sender}
use Rattle.tipc_pair.proofs.turns.Reasons.{IsTook}

-- Where a node takes a tunnel packet of another one that arrived in a step, and the step tells anything, the step is answered so.
pub record IsTunnelAt (n : NodeState) (bytes : List ℕ) (bearer number : ℕ) : Type 0 where
  pub sender : ℕ
  pub es : ℕ
  pub er : ℕ
  pub packet : Fields
  pub is_from : IsFrom sender bytes es er packet
  pub tunnel : Changeover
  pub header_is : packet.header ≡ header.Changeover tunnel
  pub shown : BroadcastState
  pub outset : Outset
  pub happened : Happened (pair_with n sender) (hears bearer es er packet number shown) outset
  pub took : IsTook outset.given

abbrev pub TakesTunnels : NodeState → NodeStep → List ℕ → Type 0
TakesTunnels n s bytes = (bearer number place : ℕ) (e : Entry) → s.event ≡ event.Arrive bearer number → slice_get s.inside place ≡ Some e → IsTunnelAt n bytes bearer number → (messages : ℕ) × (s.answer ≡ answer.Arrived (arrival.Took messages))

-- ---- what a link took, the pair took

abbrev IsTaken : LinkOutcome → Type 0
IsTaken (link_outcome.Took taken) = Unit {0}
IsTaken _ = ⊥

opens_taken : (x : PairEnds) (o : LinkOutcome) (c : Course) (given : PairOutcome) → OpensInto x o c given → IsTook given → IsTaken o
opens_taken x _ _ _ (opens unwraps brings) took = tt
opens_taken x _ _ _ deferred took = absurd took
opens_taken x _ _ _ ignored took = absurd took

taken_opens : (x : PairEnds) (o : LinkOutcome) (c : Course) (given : PairOutcome) → OpensInto x o c given → IsTaken o → IsTook given
taken_opens x _ _ _ (opens unwraps brings) taken = tt
taken_opens x _ _ _ deferred taken = absurd taken
taken_opens x _ _ _ ignored taken = absurd taken

-- the fields of broadcast make no difference
met_alike : (x : PairEnds) (near : Option LinkEnd) (es er : ℕ) (p : Fields) (by : ℕ) (shown other_shown : BroadcastState) → (met_at es er p by shown x near).outcome ≡ (met_at es er p by other_shown x near).outcome
met_alike x None es er p by shown other_shown = refl
met_alike x (Some e) es er p by shown other_shown = refl

hears_alike : (x : PairEnds) (es er : ℕ) (p : Fields) (by : ℕ) (shown other_shown : BroadcastState) (c : Changeover) → p.header ≡ header.Changeover c → (heard_as p.header es er p by shown x).outcome ≡ (heard_as p.header es er p by other_shown x).outcome
hears_alike x es er p by shown other_shown c is =
    ap (λ h. (heard_as h es er p by shown x).outcome) is ∙ (met_alike x x.near es er p by shown other_shown ∙ ap (λ h. (heard_as h es er p by other_shown x).outcome) (sym is))

took_alike : (x : PairEnds) (bearer es er : ℕ) (p : Fields) (by : ℕ) (shown other_shown : BroadcastState) (c : Changeover) (o q : Outset) → p.header ≡ header.Changeover c → Happened x (hears bearer es er p by shown) o → Happened x (hears bearer es er p by other_shown) q
    → IsTook o.given → IsTook q.given
took_alike x bearer es er p by shown other_shown c o q is first second took =
    let z = facing bearer x in
    let taken = opens_taken _ _ _ first.1 first.2.opens (subst (λ (u : Outset). IsTook u.given) first.3 took) in
    subst (λ (u : Outset). IsTook u.given) (sym second.3) (taken_opens _ _ _ second.1 second.2.opens (subst IsTaken (hears_alike z es er p by shown other_shown c is) taken))

took_answer : (answered : Arrival) (given : PairOutcome) (ds : List Delivery) → answered ≡ arrival_answer given ds → IsTook given → (messages : ℕ) × (answered ≡ arrival.Took messages)
took_answer answered (outcome.Took opened) ds is took = (message_count ds, is)
took_answer answered outcome.Deferred ds is took = absurd took
took_answer answered (outcome.Ignored reason) ds is took = absurd took

-- ---- an arrival

-- a frame that reaches no link tells nothing
nothing_inside : (journal : List Entry) (s first : NodeStep) (place : ℕ) (e : Entry) → journal ++ step_entries s ≡ journal ++ step_entries first → first.inside ≡ [] → slice_get s.inside place ≡ Some e → ⊥
nothing_inside journal s first place e same none there =
    let all : length (journal ++ step_entries s) ≡ length (journal ++ step_entries first) = ap length same in
    let one = length-append journal (step_entries s) in
    let two = length-append journal (step_entries first) in
    let here = length-append s.inside (entry_last s ∷ []) in
    let last = length-append first.inside (entry_last first ∷ []) in
    let empty : length first.inside ≡ 0 = ap length none in
    let no : length s.inside ≡ 0 = omega (arith, all, one, two, here, last, empty) in
    gone s.inside no there
  where
    entry_last : NodeStep → Entry
    entry_last k = Answered k.caller k.call k.answer

    gone : (xs : List Entry) → length xs ≡ 0 → slice_get xs place ≡ Some e → ⊥
    gone [] is at = cc
    gone (x ∷ xs) is at = omega (arith, is)

-- a frame tells both epochs
same_first : (es er es' er' : ℕ) (p q : List ℕ) → es < 2 ^ 64 → er < 2 ^ 64 → es' < 2 ^ 64 → er' < 2 ^ 64 → frame_of es er p ≡ frame_of es' er' q → es ≡ es'
same_first es er es' er' p q fit_es fit_er fit_es' fit_er' same =
    let there : es_of (frame_of es er p) ≡ es_of (frame_of es' er' q) = ap (λ bs. es_of bs) same in sym (es_of-frame es er p fit_es fit_er) ∙ (there ∙ es_of-frame es' er' q fit_es' fit_er')

same_second : (es er es' er' : ℕ) (p q : List ℕ) → es < 2 ^ 64 → er < 2 ^ 64 → es' < 2 ^ 64 → er' < 2 ^ 64 → frame_of es er p ≡ frame_of es' er' q → er ≡ er'
same_second es er es' er' p q fit_es fit_er fit_es' fit_er' same =
    let there : er_of (frame_of es er p) ≡ er_of (frame_of es' er' q) = ap (λ bs. er_of bs) same in sym (er_of-frame es er p fit_es fit_er) ∙ (there ∙ er_of-frame es' er' q fit_es' fit_er')

-- what was heard is what arrived
heard_taken : (n n' : NodeState) (by : By) (bearer number : ℕ) (bytes : List ℕ) (frames : List Outgoing) (answered : Arrival) → Hears n n' by bearer number bytes frames answered → IsTunnelAt n bytes bearer number
    → (messages : ℕ) × (answered ≡ arrival.Took messages)
heard_taken n n' by bearer number bytes frames answered h t =
    let due : IsFrom h.peer bytes h.first h.second h.packet = record { es_fits = h.due.first_fits; er_fits = h.due.second_fits; fits = h.due.fits; frame_is = h.due.opened; previous = h.due.previous } in
    let from = t.is_from in
    let peer : t.sender ≡ h.peer = same_sender t.sender h.peer bytes t.es t.er h.first h.second t.packet h.packet from due in
    let packet : t.packet ≡ h.packet = same_packet t.es t.er h.first h.second t.packet h.packet from.fits due.fits (sym from.frame_is ∙ due.frame_is) in
    let frames_are : frame_of t.es t.er (spelling t.packet) ≡ frame_of h.first h.second (spelling h.packet) = sym from.frame_is ∙ due.frame_is in
    let first : t.es ≡ h.first = same_first t.es t.er h.first h.second (spelling t.packet) (spelling h.packet) from.es_fits from.er_fits due.es_fits due.er_fits frames_are in
    let second : t.er ≡ h.second = same_second t.es t.er h.first h.second (spelling t.packet) (spelling h.packet) from.es_fits from.er_fits due.es_fits due.er_fits frames_are in
    let same : pair_with n t.sender ≡ h.neighbour.pair = ap (pair_with n) peer ∙ pair_there n h.peer h.neighbour h.was in
    let shows = shown n.casting (node_word h.peer) in
    let heard : Happened (pair_with n t.sender) (hears bearer t.es t.er t.packet number shows) h.out =
    subst (λ k. Happened (pair_with n t.sender) (hears bearer k t.er t.packet number shows) h.out) (sym first)
    (subst (λ k. Happened (pair_with n t.sender) (hears bearer h.first k t.packet number shows) h.out) (sym second)
    (subst (λ k. Happened (pair_with n t.sender) (hears bearer h.first h.second k number shows) h.out) (sym packet)
    (subst (λ (k : PairEnds). Happened k (hears bearer h.first h.second h.packet number shows) h.out) (sym same) h.hears))) in
    let took = took_alike (pair_with n t.sender) bearer t.es t.er t.packet number t.shown shows t.tunnel t.outset h.out t.header_is t.happened heard t.took in
    took_answer answered h.out.given (arrival_deliveries Zero h.peer h.neighbour.pair h.out.given) h.answer_is took

-- a tunnel packet is a link packet
tunnel_kind : (n : NodeState) (bytes : List ℕ) (bearer number : ℕ) → IsTunnelAt n bytes bearer number → kind_in bytes ≡ Links
unfolding kind_in
tunnel_kind n bytes bearer number t =
    let from = t.is_from in
    let first = first_of bytes in
    let rest : drop 16 bytes ≡ spelling t.packet = ap (drop 16) from.frame_is ∙ drop_at (envelope t.es t.er) (spelling t.packet) 16 (length-envelope t.es t.er) in
    ap (λ xs. kind_of first (fields_at xs).header) rest ∙ ap (λ (q : Fields). kind_of first q.header) (again t.packet from.fits) ∙ ap (kind_of first) t.header_is

pub arrival_takes : (n n' : NodeState) (by : By) (bearer number : ℕ) (bytes : List ℕ) (frames : List Outgoing) (answered : Arrival) (inside : List Entry) → Arrives n n' by bearer number bytes frames answered
    → NodeTurn n n' bytes (step_of by (event.Arrive bearer number) inside (answer.Arrived answered)) frames → TakesTunnels n (step_of by (event.Arrive bearer number) inside (answer.Arrived answered)) bytes
arrival_takes n n' by bearer number bytes frames answered inside h turn bearer_at number_at place e is there t = case (stop_of n bearer bytes) refl
  where
    step : NodeStep
    step = step_of by (event.Arrive bearer number) inside (answer.Arrived answered)

    case : (o : Option Why) → stop_of n bearer bytes ≡ o → (messages : ℕ) × (answer.Arrived answered ≡ answer.Arrived (arrival.Took messages))
    case (Some reason) stops =
        let stopped = h.stopped reason stops in
        absurd (nothing_inside n.journal step (step_of by (event.Arrive bearer number) [] (answer.Arrived (arrival.Ignored reason))) place e (sym turn.journal ∙ ap (λ (k : NodeState). k.journal) stopped.0) refl there)
    case None reaches =
        let bearers : bearer_at ≡ bearer = cc in
        let numbers : number_at ≡ number = cc in
        let at = subst (λ k. IsTunnelAt n bytes k number) bearers (subst (IsTunnelAt n bytes bearer_at) numbers t) in
        let taken = heard_taken n n' by bearer number bytes frames answered (h.heard reaches (tunnel_kind n bytes bearer number at)) at in
        (taken.0, ap answer.Arrived taken.1)
