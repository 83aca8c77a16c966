-- A link that is up takes what ticks of its peer say, and so a node whose peer is heard.
use Rattle.std.specs.Prelude.{◌==◌, ◌&&◌, nat_lt, not, if◌then◌else◌}
use Rattle.std.proofs.Common.{◌≡◌, ◌≤◌, ◌<◌, ◌∙◌, ℕ, Bool, true, false, List, Option, Some, None, refl, sym, ap, subst, arith}
use Rattle.std.proofs.lemmas.Bool.{true≢false}
use Rattle.std.proofs.lemmas.Bool.Decides.{nat_tests}
use Rattle.tipc_types.specs.Address.{node_word}
use Rattle.tipc_types.specs.LinkStates.{is_up}
use Rattle.tipc_types.specs.declared.link_words.BroadcastState.{BroadcastState}
use Rattle.tipc_types.specs.declared.link_words.Why.TheVariants as why
use Rattle.tipc_types.specs.declared.node_calls.EventNote.TheVariants as event
use Rattle.tipc_outside.specs.declared.outgoing.Outgoing.{Outgoing}
use Rattle.tipc_broadcast.specs.Casting.{shown as told}
use Rattle.tipc_header.specs.declared.packet.Header.{Header}
use Rattle.tipc_header.specs.declared.packet.Header.TheVariants as header
use Rattle.tipc_header.specs.declared.packet.State.{State}
use Rattle.tipc_header.specs.Frames.{frame_of}
use Rattle.tipc_header.specs.Spelling.{Fields, spelling}
use Rattle.tipc_recv_window.specs.declared.outcomes.LinkOutcome.{LinkOutcome}
use Rattle.tipc_link_fsm.specs.Table.{Fsm, is_held, is_in_reset, is_last, is_reset_reset, is_session, on_activate, on_traffic}
use Rattle.tipc_link_fsm.proofs.Moves.{cases_on, is_up_held}
use Rattle.tipc_link.specs.Links.{LinkEnd, after, change_outcome, heard_outcome, is_heard, is_taken, link_outcome, outcome_of}
use Rattle.tipc_link.specs.Sessions.{SessionEnd, Shows, as_waiting, content_by, content_of}
use Rattle.tipc_pair.specs.declared.changes.PairOutcome.{PairOutcome}
use Rattle.tipc_pair.specs.Courses.{Course}
use Rattle.tipc_pair.specs.Facing.{PairEnds, facing, is_up_at}
use Rattle.tipc_pair.specs.LinkReadings.{silence_in}
use Rattle.tipc_pair.specs.PairArrivals.{Heard, OpensInto, activate_higher, hears as heard_by, met_at, met_near, passing}
use Rattle.tipc_pair.specs.PairArrivals.OpensInto.{deferred, ignored, opens}
use Rattle.tipc_pair.specs.PairTurns.{IsOnOne, IsTakenBy, Opening, Outset, PairTurn, Reply, Suits, replied}
use Rattle.tipc_pair.specs.PairTurns.Opening.{cuts, hears, makes, mends, rests, ticks}
use Rattle.tipc_pair.proofs.acts.Walks.{tested}
use Rattle.tipc_pair.proofs.turns.PairKept.{facing_bearer}
use Rattle.tipc_pair.proofs.turns.Silences.{heard_on, opening_hushed, steady_zero}
use Rattle.tipc_pair.proofs.turns.Steady.{puts_steady, replied_steady, steady_on, steady_then}
use Rattle.tipc_paired.proofs.wires.Frames.{er_of-frame, es_of-frame, same_packet}
use Rattle.tipc_paired.specs.Views.{er_of, es_of}
use Rattle.tipc_node.specs.Nodes.{arrival_answer, pair_with}
use Rattle.tipc_node.specs.declared.frames.Delivery.{Delivery}
use Rattle.tipc_node.specs.Turns.{IsTakenIn}
use Rattle.tipc_node.proofs.pairs.Strangers.{kept_abreast, pair_there}
use Rattle.tipc_settling.specs.Events.{ArrivalsEndSilence}
use Rattle.tipc_settling.specs.Silence.{IsSaidByTicks, WordsAreTaken}
use Rattle.tipc_settling.specs.Stillness.{IsStill, ShowsNumber, ShowsPresent}
use Rattle.tipc_settling.proofs.Pairs.{near_still, still_facing}
use Rattle.tipc_settling.proofs.Silence.{is_meant}

-- ---- a link that is up

-- it wasn't ignored
abbrev IsKept : LinkOutcome → Type 0
IsKept (LinkOutcome.Took packets) = Unit {0}
IsKept LinkOutcome.Deferred = Unit {0}
IsKept (LinkOutcome.Ignored reason) = ⊥

traffic_taken : (f : Fsm) (es er : ℕ) → is_up f.state ≡ true → is_session f es er ≡ true → is_taken (on_traffic f es er).change ≡ true
unfolding on_traffic
traffic_taken f es er up session =
    cases_on (λ o. is_taken o.change ≡ true) (is_session f es er && (is_reset_reset f.state && not (is_last f.own))) _ _ (λ fits. refl) (λ _.
    cases_on (λ o. is_taken o.change ≡ true) (is_session f es er && is_up f.state) _ _ (λ here. refl)
    (λ apart. absurd (true≢false (sym (ap (λ b. b && is_up f.state) session ∙ up) ∙ apart))))

activate_taken : (f : Fsm) (es er : ℕ) → is_up f.state ≡ true → is_session f es er ≡ true → IsKept (change_outcome (on_activate f es er).change)
unfolding on_activate
activate_taken f es er up session =
    cases_on (λ o. IsKept (change_outcome o.change)) (is_held f.state) _ _ (λ held. absurd (true≢false (sym up ∙ is_up_held f.state held))) (λ _.
    cases_on (λ o. IsKept (change_outcome o.change)) ((is_in_reset f.state && not (is_last f.own)) && ((er == f.own) && not (nat_lt es f.highest))) _ _ (λ fits. tt) (λ _.
    cases_on (λ o. IsKept (change_outcome o.change)) (is_up f.state && is_session f es er) _ _ (λ here. tt)
    (λ apart. absurd (true≢false (sym (ap (λ b. b && is_session f es er) up ∙ session) ∙ apart)))))

state_content : (p : Fields) (state : State) → p.header ≡ header.State state → content_of p ≡ Shows state.next state.gap state.probe
unfolding content_of
state_content p state is = ap (λ h. content_by h p.sequence (spelling (as_waiting p))) is

heard_state : (session : Option SessionEnd) (by next gap : ℕ) (probe : Bool) → IsKept (heard_outcome session by (Shows next gap probe))
heard_state None by next gap probe = tt
heard_state (Some s) by next gap probe = tt

-- what the near end makes of it, by its header
end_keeps : (h : Header) (e : LinkEnd) (p : Fields) (es er by : ℕ) (held : Bool) → p.header ≡ h → IsSaidByTicks h → is_up e.fsm.state ≡ true → is_session e.fsm es er ≡ true → IsKept (link_outcome e (outcome_of e.fsm h es er held) p by)
end_keeps (header.State state) e p es er by held is said up session =
    let o = on_traffic e.fsm es er in
    let here : is_heard p.header o.change ≡ true = ap (λ h. is_heard h o.change) is ∙ traffic_taken e.fsm es er up session in
    let kept : IsKept (heard_outcome (after e o).session by (content_of p)) =
    subst (λ c. IsKept (heard_outcome (after e o).session by c)) (sym (state_content p state is)) (heard_state (after e o).session by state.next state.gap state.probe) in
    subst (λ b. IsKept (if b then heard_outcome (after e o).session by (content_of p) else change_outcome o.change)) (sym here) kept
end_keeps (header.Activate a) e p es er by held is said up session =
    let o = on_activate e.fsm es er in
    let apart : is_heard p.header o.change ≡ false = ap (λ h. is_heard h o.change) is in
    subst (λ b. IsKept (if b then heard_outcome (after e o).session by (content_of p) else change_outcome o.change)) (sym apart) (activate_taken e.fsm es er up session)
end_keeps other e p es er by held is said up session = absurd said

met_keeps : (x : PairEnds) (o : Option LinkEnd) (es er : ℕ) (p : Fields) (by : ℕ) (shown : BroadcastState) → IsSaidByTicks p.header → is_up_at o ≡ true → ((e : LinkEnd) → o ≡ Some e → is_session e.fsm es er ≡ true)
    → IsKept (met_at es er p by shown x o).outcome
met_keeps x None es er p by shown said up session = absurd (true≢false (sym up))
met_keeps x (Some e) es er p by shown said up session = end_keeps p.header e p es er by (is_up_at x.far) refl said up (session e refl)

-- ---- the pair

hears_keeps : (h : Header) (es er : ℕ) (p : Fields) (by : ℕ) (shown : BroadcastState) (x : PairEnds) (contact : ℕ) → x.seen ≡ contact → ShowsNumber contact h → IsSaidByTicks h → IsKept (met_near es er p by shown x).outcome
    → IsKept (heard_by h es er p by shown x).outcome
hears_keeps (header.State state) es er p by shown x contact sees number said kept = kept
hears_keeps (header.Activate a) es er p by shown x contact sees number said kept =
    let meet = met_near es er p by shown in
    let K : Heard → Type 0 = λ q. IsKept q.outcome in
    tested K (nat_lt a.contact x.seen) (passing x why.Contact) (if a.contact == x.seen then meet x else activate_higher a.contact meet x)
    (λ lower. let below : a.contact < x.seen = grind (arith, nat_tests, lower) in absurd (omega (arith, below, number, sees)))
    (λ _. tested K (a.contact == x.seen) (meet x) (activate_higher a.contact meet x) (λ _. kept)
    (λ differs. let same : (a.contact == x.seen) ≡ true = grind (arith, nat_tests, number, sees) in absurd (true≢false (sym same ∙ differs))))
hears_keeps other es er p by shown x contact sees number said kept = absurd said

opens_keeps : (bearer es er : ℕ) (p : Fields) (by : ℕ) (shown : BroadcastState) (y : PairEnds) (outcome : LinkOutcome) (c : Course) (given : PairOutcome) → OpensInto y outcome c given → IsKept outcome → IsTakenBy (hears bearer es er p by shown) given
opens_keeps bearer es er p by shown y _ _ _ (opens {taken} {carried} {c} {given} {last} unwraps brings) kept = tt
opens_keeps bearer es er p by shown y _ _ _ deferred kept = tt
opens_keeps bearer es er p by shown y _ _ _ ignored kept = kept

pub words_are_taken : WordsAreTaken
words_are_taken own peer x bearer es er p by shown o one h shows back said up is =
    let z = facing bearer x in
    let on : z.bearer ≡ bearer = facing_bearer bearer x one h.two in
    let hz = still_facing own peer bearer x h in
    let theirs : es ≡ peer.epoch z.bearer = shows.epoch ∙ ap (λ b. peer.epoch b) (sym on) in
    let ours : er ≡ own.epoch z.bearer = back ∙ ap (λ b. own.epoch b) (sym on) in
    let there : (e : LinkEnd) → z.near ≡ Some e → is_up e.fsm.state ≡ true = λ e near. ap is_up_at (sym near) ∙ up in
    let session : (e : LinkEnd) → z.near ≡ Some e → is_session e.fsm es er ≡ true = λ e near. is_meant own peer z.seen z.bearer es er e.fsm (near_still own peer z e near hz) theirs ours (there e near) in
    let kept = met_keeps z z.near es er p by shown said up session in
    let sees : z.seen ≡ peer.contact = seen_up z.near refl hz up in
    let a = is.2 in
    let taken = opens_keeps bearer es er p by shown (heard_by p.header es er p by shown z).course.pair (heard_by p.header es er p by shown z).outcome a.opened is.1 a.opens
    (hears_keeps p.header es er p by shown z peer.contact sees shows.number said kept) in
    subst (λ (u : Outset). IsTakenBy (hears bearer es er p by shown) u.given) (sym is.3) taken
  where
    seen_up : (o : Option LinkEnd) → (facing bearer x).near ≡ o → IsStill own peer (facing bearer x) → is_up_at (facing bearer x).near ≡ true → (facing bearer x).seen ≡ peer.contact
    seen_up None near hz up = absurd (true≢false (sym up ∙ ap is_up_at near))
    seen_up (Some e) near hz up = (let k = near_still own peer (facing bearer x) e near hz in k.contact (k.up (ap is_up_at (sym near) ∙ up)))

-- ---- a turn in which a packet was taken

taken_hushes : (x x' : PairEnds) (opening : Opening) (messages : List (List ℕ)) (reply : Option Reply) (frames : List Outgoing) → x.bearer ≡ 0 → IsOnOne opening → (t : PairTurn x opening messages reply x' frames) → IsTakenBy opening t.first.given
    → silence_in (facing (heard_on opening) x').near ≡ 0
taken_hushes x x' opening messages reply frames zero_is one t taken =
    let two : x.bearer ≤ 1 = omega (arith, zero_is) in
    let hushed = opening_hushed x opening t.first zero_is one t.happened in
    let y = t.first.course.pair in
    let k = hushed.ends.bearer two in
    let y_two : y.bearer ≤ 1 = omega (arith, k, two) in
    let later = puts_steady y messages t.put_frames t.put y_two t.puts in
    let put_two : t.put.bearer ≤ 1 = (let same = later.bearer y_two in omega (arith, same, y_two)) in
    let z = (replied reply t.put).pair in
    let last = replied_steady reply t.put put_two in
    let bearer = heard_on opening in
    let end = steady_then (facing bearer y).near (facing bearer t.put).near (facing bearer z).near (steady_on bearer y t.put y_two later) (steady_on bearer t.put z put_two last) in
    subst (λ (w : PairEnds). silence_in (facing bearer w).near ≡ 0) (sym t.after) (steady_zero (facing bearer y).near (facing bearer z).near end (hushed.taken taken))

-- ---- the node

taken_in : (bearer es er : ℕ) (p : Fields) (by : ℕ) (shown : BroadcastState) (out : PairOutcome) (ds : List Delivery) → IsTakenBy (hears bearer es er p by shown) out → IsTakenIn (arrival_answer out ds)
taken_in bearer es er p by shown (PairOutcome.Took opened) ds taken = tt
taken_in bearer es er p by shown PairOutcome.Deferred ds taken = tt
taken_in bearer es er p by shown (PairOutcome.Ignored reason) ds taken = taken

-- a packet was taken on the bearer on which the frame arrived
heard_there : (bearer number : ℕ) (opening : Opening) (given : PairOutcome) → Suits (event.Arrive bearer number) opening → IsTakenBy opening given → heard_on opening ≡ bearer
heard_there bearer number (hears bearer' es er p by shown) given suits taken = (let same : bearer' ≡ bearer = cc in same)
heard_there bearer number rests given suits taken = absurd taken
heard_there bearer number (makes bearer' is_mended) given suits taken = absurd taken
heard_there bearer number (mends bearer') given suits taken = absurd taken
heard_there bearer number (cuts bearer') given suits taken = absurd taken
heard_there bearer number (ticks shown) given suits taken = absurd taken

pub arrivals_end_silence : ArrivalsEndSilence
arrivals_end_silence own peer n n' by bearer number bytes frames answered b es er p arrives turn passes from kind still shows back said up =
    let h = arrives.heard passes kind in
    let due = h.due in
    let frame : frame_of h.first h.second (spelling h.packet) ≡ frame_of es er (spelling p) = sym due.opened ∙ from.frame_is in
    let packet : h.packet ≡ p = same_packet h.first h.second es er h.packet p due.fits from.fits frame in
    let first : h.first ≡ es = sym (es_of-frame h.first h.second (spelling h.packet) due.first_fits due.second_fits) ∙ ap es_of frame ∙ es_of-frame es er (spelling p) from.es_fits from.er_fits in
    let second : h.second ≡ er = sym (er_of-frame h.first h.second (spelling h.packet) due.first_fits due.second_fits) ∙ ap er_of frame ∙ er_of-frame es er (spelling p) from.es_fits from.er_fits in
    let words : node_word h.peer ≡ node_word b = sym due.previous ∙ ap (λ (q : Fields). q.previous) packet ∙ from.previous in
    let who : h.peer ≡ b = omega (arith, words) in
    let pair : h.neighbour.pair ≡ pair_with n b = sym (pair_there n h.peer h.neighbour h.was) ∙ ap (pair_with n) who in
    let back_pair = sym pair in
    let one = due.on_one in
    let taken = words_are_taken own peer h.neighbour.pair bearer h.first h.second h.packet number (told n.casting (node_word h.peer)) h.out one (subst (IsStill own peer) back_pair still)
    (subst (λ m. ShowsPresent peer bearer m h.packet) (sym first) (subst (ShowsPresent peer bearer es) (sym packet) shows)) (second ∙ back)
    (subst (λ (q : Fields). IsSaidByTicks q.header) (sym packet) said) (subst (λ (x : PairEnds). is_up_at (facing bearer x).near ≡ true) back_pair up) h.hears in
    let in_answer : IsTakenIn answered = subst IsTakenIn (sym h.answer_is) (taken_in bearer h.first h.second h.packet number (told n.casting (node_word h.peer)) h.out.given _ taken) in
    let at = turn.turn.turns b in
    let zero_is = (kept_abreast n b turn.told_before).first in
    let got = at.taken answered es er p refl in_answer from kind in
    let quiet = taken_hushes (pair_with n b) (pair_with n' b) at.opening _ at.reply at.own_frames zero_is at.on_one at.turn got in
    ap (λ k. silence_in (facing k (pair_with n' b)).near) (sym (heard_there bearer number at.opening at.turn.first.given at.suits got)) ∙ quiet
