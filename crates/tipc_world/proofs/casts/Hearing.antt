-- A STATE that the session of a link hears in a round is taken by the broadcast link of its node, and what that asks
-- for is sent again.
use Rattle.std.specs.List.{Contains}
use Rattle.std.proofs.Common.{◌≡◌, ◌∙◌, ℕ, true, false, [], ◌++◌, Some, refl, sym, ap, subst, append-nil, arith}
use Rattle.std.proofs.lemmas.List.Elements.{Contains-append_left, Contains-append_right}
use Rattle.tipc_types.specs.Address.{node_word}
use Rattle.tipc_types.specs.LinkStates.{is_up}
use Rattle.tipc_types.specs.declared.link_words.BroadcastState.{BroadcastState}
use Rattle.tipc_types.specs.declared.link_words.LinkState.{LinkState}
use Rattle.tipc_types.specs.declared.link_words.LinkState.TheVariants.{Held, ResetReset, ResetUnknown, WorkingUnknown, WorkingWorking}
use Rattle.tipc_outside.specs.declared.outgoing.Outgoing.{Outgoing}
use Rattle.tipc_header.specs.declared.packet.Header.{Header}
use Rattle.tipc_header.specs.declared.packet.Header.TheVariants as header
use Rattle.tipc_header.specs.declared.packet.State.{State}
use Rattle.tipc_header.specs.Frames.{frame_of}
use Rattle.tipc_header.specs.Spelling.{Fields, spelling}
use Rattle.tipc_recv_window.specs.declared.outcomes.LinkOutcome.{LinkOutcome}
use Rattle.tipc_broadcast.specs.Casting.{shown, stating, stating_frames}
use Rattle.tipc_broadcast.specs.Deeds.{after_deeds, deeds_frames}
use Rattle.tipc_link_fsm.specs.declared.changes.Change.TheVariants.{Stay}
use Rattle.tipc_link_fsm.specs.Table.{Fsm, gives, heard as heard_fsm, is_reset_reset, is_session, on_traffic}
use Rattle.tipc_link.specs.Links.{LinkEnd, heard_outcome, is_heard, link_outcome, outcome_of}
use Rattle.tipc_link.specs.Sessions.{SessionEnd, Shows, as_waiting, content_by, content_of}
use Rattle.tipc_pair.specs.declared.changes.PairOutcome.{PairOutcome}
use Rattle.tipc_pair.specs.Courses.{Course, sent_in}
use Rattle.tipc_pair.specs.Facing.{PairEnds, facing, is_up_at}
use Rattle.tipc_pair.specs.PairArrivals.{Arrives as PairArrives, OpensInto, deferred, hears as heard_by, ignored, met_at, opens}
use Rattle.tipc_pair.specs.PairTurns.{Outset}
use Rattle.tipc_paired.specs.Views.{er_of, es_of}
use Rattle.tipc_paired.proofs.wires.Frames.{er_of-frame, es_of-frame, same_packet}
use Rattle.tipc_node.specs.Arrivals.{Hears, heard_casting, heard_deeds, last_course}
use Rattle.tipc_node.specs.Casting.{arrival_deeds, broadcast_in, state_deeds, stated_in}
use Rattle.tipc_node.specs.Nodes.{NodeState, pair_with}
use Rattle.tipc_node.proofs.pairs.Strangers.{pair_there}
use Rattle.tipc_settling.proofs.Calm.{heard_none}
use Rattle.tipc_world.specs.States.{WorldState}
use Rattle.tipc_world.specs.StillWorlds.{footing_at}
use Rattle.tipc_world.proofs.rounds.SessionsHear.{in_session}
use Rattle.tipc_world.proofs.rounds.TickStates.{IsHeardOnce}

-- ---- it is given

up_no_reset : (st : LinkState) → is_up st ≡ true → is_reset_reset st ≡ false
up_no_reset WorkingWorking up = refl
up_no_reset WorkingUnknown up = refl
up_no_reset ResetUnknown up = absurd (let wrong : false ≡ true = up in cc)
up_no_reset ResetReset up = absurd (let wrong : false ≡ true = up in cc)
up_no_reset Held up = absurd (let wrong : false ≡ true = up in cc)

traffic_heard : (f : Fsm) (es er : ℕ) → is_up f.state ≡ true → is_session f es er ≡ true → on_traffic f es er ≡ gives (heard_fsm f) Stay
unfolding on_traffic
traffic_heard f es er up session =
    let no_reset = up_no_reset f.state up in
    rw (session, no_reset, up) refl

-- its packet shows what it shows
state_content : (p : Fields) (said : State) → p.header ≡ header.State said → content_of p ≡ Shows said.next said.gap said.probe
unfolding content_of
state_content p said states = ap (λ h. content_by h p.sequence (spelling (as_waiting p))) states

state_outcome : (x : PairEnds) (e : LinkEnd) (r : SessionEnd) (es er : ℕ) (p : Fields) (said : State) (by : ℕ) (shows : BroadcastState) → x.near ≡ Some e → e.session ≡ Some r → is_up e.fsm.state ≡ true → is_session e.fsm es er ≡ true → p.header ≡ header.State said
    → (heard_by p.header es er p by shows x).outcome ≡ LinkOutcome.Took []
state_outcome x e r es er p said by shows near is up session states =
    let held = is_up_at x.far in
    let o = gives (heard_fsm e.fsm) Stay in
    let first : (heard_by p.header es er p by shows x).outcome ≡ (met_at es er p by shows x x.near).outcome = ap (λ h. (heard_by h es er p by shows x).outcome) states in
    let second : (met_at es er p by shows x x.near).outcome ≡ link_outcome e (outcome_of e.fsm p.header es er held) p by = ap (λ k. (met_at es er p by shows x k).outcome) near in
    let third : outcome_of e.fsm p.header es er held ≡ o = ap (λ h. outcome_of e.fsm h es er held) states ∙ traffic_heard e.fsm es er up session in
    let taken : is_heard p.header Stay ≡ true = ap (λ h. is_heard h Stay) states in
    let fourth : link_outcome e o p by ≡ heard_outcome e.session by (content_of p) = rw taken refl in
    first ∙ (second ∙ (ap (λ k. link_outcome e k p by) third ∙ (fourth ∙ (ap (λ s. heard_outcome s by (content_of p)) is ∙ ap (λ c. heard_outcome (Some r) by c) (state_content p said states)))))

took_given : (h : Header) (y : PairEnds) (outcome : LinkOutcome) (c : Course) (given : PairOutcome) (said : State) → OpensInto y outcome c given → outcome ≡ LinkOutcome.Took [] → h ≡ header.State said → stated_in h given ≡ Some (broadcast_in said)
took_given h y _ c _ said (opens {given} unwraps brings) is states = ap (λ k. stated_in k (PairOutcome.Took given)) states
took_given h y _ c _ said deferred is states = absurd (let wrong : LinkOutcome.Deferred ≡ LinkOutcome.Took [] = is in cc)
took_given h y _ c _ said (ignored {reason}) is states = absurd (let wrong : LinkOutcome.Ignored reason ≡ LinkOutcome.Took [] = is in cc)

state_given : (x : PairEnds) (e : LinkEnd) (r : SessionEnd) (es er : ℕ) (p : Fields) (said : State) (by : ℕ) (shows : BroadcastState) (c : Course) (given : PairOutcome) → x.near ≡ Some e → e.session ≡ Some r → is_up e.fsm.state ≡ true → is_session e.fsm es er ≡ true
    → p.header ≡ header.State said → PairArrives x es er p by shows c given → stated_in p.header given ≡ Some (broadcast_in said)
state_given x e r es er p said by shows c given near is up session states arrives =
    took_given p.header (heard_by p.header es er p by shows x).course.pair (heard_by p.header es er p by shows x).outcome arrives.opened given said arrives.opens (state_outcome x e r es er p said by shows near is up session states) states

-- ---- it is taken

-- What a node does at its broadcast link by a STATE of node b that its link hears.
pub record TakesState (start outset ticked now : WorldState) (b n bearer : ℕ) (p : Fields) (h : IsHeardOnce start outset ticked now b n bearer p) (seen : BroadcastState) : Type 0 where
  pub casting : h.new.node.casting ≡ stating h.member.node.casting (node_word b) seen
  pub leaves : (o : Outgoing) → Contains (stating_frames h.member.node.casting (node_word b) seen) o → Contains h.frames o

pub state_taken : (start outset ticked now : WorldState) (b n bearer : ℕ) (p : Fields) (said : State) (h : IsHeardOnce start outset ticked now b n bearer p) → p.header ≡ header.State said → TakesState start outset ticked now b n bearer p h (broadcast_in said)
state_taken start outset ticked now b n bearer p said h states =
    let q : Hears h.member.node h.new.node h.caller bearer h.by h.sent.frame h.frames h.arrived = h.arrives.heard h.free h.kind in
    let due = q.due in
    let v = h.member.node.casting in
    let from = h.brings in
    let seen = broadcast_in said in
    let framed : frame_of q.first q.second (spelling q.packet) ≡ frame_of ((footing_at start b n).epoch bearer) ((footing_at start n b).epoch bearer) (spelling p) = sym due.opened ∙ from.frame_is in
    let packet : q.packet ≡ p = same_packet q.first q.second ((footing_at start b n).epoch bearer) ((footing_at start n b).epoch bearer) q.packet p due.fits from.fits framed in
    let word : node_word q.peer ≡ node_word b = sym due.previous ∙ (ap (λ (k : Fields). k.previous) packet ∙ from.previous) in
    let same : q.peer ≡ b = omega (arith, word) in
    let epochs = the_epochs h q in
    let none = (heard_none h.member.node h.new.node h.caller bearer h.by h.sent.frame h.frames h.arrived q h.quiet).0 in
    let side = h.sides.here in
    let x = facing bearer q.neighbour.pair in
    let pair : pair_with h.member.node b ≡ q.neighbour.pair = ap (pair_with h.member.node) (sym same) ∙ pair_there h.member.node q.peer q.neighbour q.was in
    let near : x.near ≡ Some side.link.end = ap (λ (y : PairEnds). (facing bearer y).near) (sym pair) ∙ side.link.near in
    let session : is_session side.link.end.fsm q.first q.second ≡ true = in_session side.link.end q.first q.second (side.peer ∙ ap Some (sym epochs.0)) (side.own ∙ sym epochs.1) in
    let given : stated_in q.packet.header q.hears.1 ≡ Some seen = state_given x side.link.end side.session q.first q.second q.packet said h.by (shown v (node_word q.peer)) q.hears.0 q.hears.1 near side.has side.link.up session (ap (λ (k : Fields). k.header) packet ∙ states) q.hears.2 in
    let out : stated_in q.packet.header q.out.given ≡ Some seen = ap (λ (o : Outset). stated_in q.packet.header o.given) q.hears.3 ∙ given in
    let deeds : heard_deeds q.peer q.packet q.out ≡ state_deeds b (Some seen) = (λ i. arrival_deeds (same i) (none i) (out i)) in
    record {
      casting = ap (λ (m : NodeState). m.casting) q.after ∙ ap (λ ds. after_deeds ds v) deeds;
      leaves = λ o there.
          let all : deeds_frames (heard_deeds q.peer q.packet q.out) v ≡ stating_frames v (node_word b) seen = ap (λ ds. deeds_frames ds v) deeds ∙ append-nil (stating_frames v (node_word b) seen) in
          let asked : Contains (deeds_frames (heard_deeds q.peer q.packet q.out) v) o = subst (λ fs. Contains fs o) (sym all) there in
          let first = sent_in q.out.course in
          let greeting = q.greeting_frames in
          let by_deeds = deeds_frames (heard_deeds q.peer q.packet q.out) v in
          let last = q.returned ++ (last_course q.peer bearer (stated_in q.packet.header q.out.given) (heard_casting h.member.node q.peer q.packet q.out) q.then).states in
          subst (λ fs. Contains fs o) (sym q.frames_are) (Contains-append_right first (greeting ++ (by_deeds ++ last)) o (Contains-append_right greeting (by_deeds ++ last) o (Contains-append_left by_deeds last o asked)));
    }
  where
    the_epochs : (h : IsHeardOnce start outset ticked now b n bearer p) (q : Hears h.member.node h.new.node h.caller bearer h.by h.sent.frame h.frames h.arrived) → (q.first ≡ (footing_at start b n).epoch bearer) × (q.second ≡ (footing_at start n b).epoch bearer)
    the_epochs h q =
        let due = q.due in
        let from = h.brings in
        let es = (footing_at start b n).epoch bearer in
        let er = (footing_at start n b).epoch bearer in
        let framed : frame_of q.first q.second (spelling q.packet) ≡ frame_of es er (spelling p) = sym due.opened ∙ from.frame_is in (
          sym (es_of-frame q.first q.second (spelling q.packet) due.first_fits due.second_fits) ∙ (ap es_of framed ∙ es_of-frame es er (spelling p) from.es_fits from.er_fits),
          sym (er_of-frame q.first q.second (spelling q.packet) due.first_fits due.second_fits) ∙ (ap er_of framed ∙ er_of-frame es er (spelling p) from.es_fits from.er_fits),
        )
