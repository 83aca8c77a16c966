-- Any packet arrives at a pair: what it takes is the next packets that were put.
use Rattle.std.proofs.Common.{◌≡◌, ◌&&◌, not, ℕ, true, false, List, Option, Some, None, refl, ap, ◌∙◌}
use Rattle.tipc_types.specs.LinkStates.{is_up}
use Rattle.tipc_types.specs.declared.link_words.BroadcastState.{BroadcastState}
use Rattle.tipc_types.specs.declared.link_words.Why.{Why}
use Rattle.tipc_types.specs.declared.link_words.Why.TheVariants as why
use Rattle.tipc_header.specs.declared.packet.Discovery.{Discovery}
use Rattle.tipc_header.specs.declared.packet.Header.{Header}
use Rattle.tipc_header.specs.declared.packet.Header.TheVariants as header
use Rattle.tipc_header.specs.Spelling.{Fields}
use Rattle.tipc_link_fsm.specs.declared.changes.Change.{Change}
use Rattle.tipc_link_fsm.specs.declared.changes.Change.TheVariants.{Ignore, Stay, Up}
use Rattle.tipc_link_fsm.specs.Table.{Fsm, Outcome, is_last, is_reset_reset, is_session, on_traffic}
use Rattle.tipc_link_fsm.proofs.Moves.{cases_on, is_going_up}
use Rattle.tipc_link.specs.Links.{LinkEnd, is_heard, is_taken, is_traffic, outcome_of}
use Rattle.tipc_pair.specs.declared.changes.PairOutcome.{PairOutcome}
use Rattle.tipc_pair.specs.Courses.{Course}
use Rattle.tipc_pair.specs.Facing.{PairEnds, is_up_at}
use Rattle.tipc_pair.specs.PairArrivals.{Arrives, hears, met_at, passing}
use Rattle.tipc_changeover.specs.Links.{Bearer, State}
use Rattle.tipc_two_nodes.specs.links.Traffic.{Traffic}
use Rattle.tipc_two_nodes.specs.links.Arriving.{Opens, Stands, heard_pair}
use Rattle.tipc_two_nodes.specs.links.Landing.{MayLand}
use Rattle.tipc_two_nodes.specs.links.Turning.{RunsWhereUp}
use Rattle.tipc_two_nodes.proofs.links.receiver.Activating.{activates_receive}
use Rattle.tipc_two_nodes.proofs.links.receiver.Hearing.{sessions_receive, traffic_hears}
use Rattle.tipc_two_nodes.proofs.links.calls.Listening.{stay_keeps}
use Rattle.tipc_two_nodes.proofs.links.receiver.Quiet.{TakesNothing, nothing_received, others_receive, passes, resets_receive, unheard_none}
use Rattle.tipc_two_nodes.proofs.links.receiver.Rising.{risings_receive}

-- ---- a packet that isn't a link's

-- a discovery packet takes nothing
other_none : (x : PairEnds) (end : Option LinkEnd) (said : Discovery) (es er : ℕ) (p : Fields) (by : ℕ) (shown : BroadcastState) → x.near ≡ end → p.header ≡ header.Discovery said → TakesNothing x (met_at es er p by shown x end)
other_none x None said es er p by shown is found = passes x why.Unknown
other_none x (Some e) said es er p by shown is found =
    let held = is_up_at x.far in
    let o = outcome_of e.fsm p.header es er held in
    let quiet : is_going_up o.change ≡ false = ap (λ (h : Header). is_going_up (outcome_of e.fsm h es er held).change) found in
    let unheard : is_heard p.header o.change ≡ false = ap (λ (h : Header). is_traffic h && is_taken o.change) found in
    unheard_none x e o p es by shown is unheard quiet

pub discoveries_receive : (x : PairEnds) (said : Discovery) (es er : ℕ) (p : Fields) (by : ℕ) (shown : BroadcastState) (c : Course) (given : PairOutcome) (b : Bearer) (t : Traffic) (s : State) (before : List (List ℕ)) → Stands x b t s before → p.header ≡ header.Discovery said
    → Arrives x es er p by shown c given → Opens b x.bearer t s before (heard_pair x es er p by shown) c.pair given
discoveries_receive x said es er p by shown c given b t s before h is arrives =
    nothing_received x es er p by shown c given b t s before (met_at es er p by shown x x.near) h (ap (λ (q : Header). hears q es er p by shown x) is) (other_none x x.near said es er p by shown refl is) arrives

-- ---- a packet of a session

-- what the link states may make of one
pub data Hears (change : Change) : Type 0 where
  goes_on : change ≡ Stay → Hears change
  goes_up : change ≡ Up → Hears change
  is_ignored : (reason : Why) → change ≡ Ignore reason → Hears change

pub traffic_change : (fsm : Fsm) (es er : ℕ) → Hears (on_traffic fsm es er).change
unfolding on_traffic
traffic_change fsm es er =
    let P : Outcome → Type 0 = (λ o. Hears o.change) in
    cases_on P (is_session fsm es er && (is_reset_reset fsm.state && not (is_last fsm.own))) _ _ (λ _. goes_up refl) (λ _. cases_on P (is_session fsm es er && is_up fsm.state) _ _ (λ _. goes_on refl) (λ _. is_ignored why.Epoch refl))

-- there is no near end
pub none_receives : (x : PairEnds) (es er : ℕ) (p : Fields) (by : ℕ) (shown : BroadcastState) (c : Course) (given : PairOutcome) (b : Bearer) (t : Traffic) (s : State) (before : List (List ℕ)) → Stands x b t s before → x.near ≡ None → is_traffic p.header ≡ true
    → Arrives x es er p by shown c given → Opens b x.bearer t s before (heard_pair x es er p by shown) c.pair given
none_receives x es er p by shown c given b t s before h is traffic arrives =
    nothing_received x es er p by shown c given b t s before (passing x why.Unknown) h (traffic_hears p.header es er p by shown x traffic ∙ ap (met_at es er p by shown x) is) (passes x why.Unknown) arrives

some_receives : (x : PairEnds) (e : LinkEnd) (es er : ℕ) (p : Fields) (by : ℕ) (shown : BroadcastState) (c : Course) (given : PairOutcome) (b : Bearer) (t : Traffic) (s : State) (before : List (List ℕ)) → RunsWhereUp x.bearer x.near → Stands x b t s before → MayLand x es er p t s
    → x.near ≡ Some e → is_traffic p.header ≡ true → Hears (on_traffic e.fsm es er).change → Arrives x es er p by shown c given → Opens b x.bearer t s before (heard_pair x es er p by shown) c.pair given
some_receives x e es er p by shown c given b t s before runs h may is traffic (goes_on stay) arrives =
    let r = runs e is (stay_keeps e.fsm es er stay).was in
    let now = may.goes_on e r.session is r.up_at.session_is traffic stay in
    sessions_receive x e r.session es er p by shown c given b t s before h is r.up_at.session_is traffic stay now.record_is now.heard arrives
some_receives x e es er p by shown c given b t s before runs h may is traffic (goes_up up) arrives =
    let now = may.rises e is traffic up in risings_receive x e es er p by shown c given b t s before now.session h is traffic up now.epoch_is now.may now.heard arrives
some_receives x e es er p by shown c given b t s before runs h may is traffic (is_ignored reason ignored) arrives = others_receive x e reason es er p by shown c given b t s before h is traffic ignored arrives

traffic_receives : (x : PairEnds) (end : Option LinkEnd) (es er : ℕ) (p : Fields) (by : ℕ) (shown : BroadcastState) (c : Course) (given : PairOutcome) (b : Bearer) (t : Traffic) (s : State) (before : List (List ℕ)) → RunsWhereUp x.bearer x.near → Stands x b t s before → MayLand x es er p t s
    → x.near ≡ end → is_traffic p.header ≡ true → Arrives x es er p by shown c given → Opens b x.bearer t s before (heard_pair x es er p by shown) c.pair given
traffic_receives x None es er p by shown c given b t s before runs h may is traffic arrives = none_receives x es er p by shown c given b t s before h is traffic arrives
traffic_receives x (Some e) es er p by shown c given b t s before runs h may is traffic arrives = some_receives x e es er p by shown c given b t s before runs h may is traffic (traffic_change e.fsm es er) arrives

-- ---- any packet

by_header : (h : Header) (x : PairEnds) (es er : ℕ) (p : Fields) (by : ℕ) (shown : BroadcastState) (c : Course) (given : PairOutcome) (b : Bearer) (t : Traffic) (s : State) (before : List (List ℕ)) → p.header ≡ h → RunsWhereUp x.bearer x.near → Stands x b t s before → MayLand x es er p t s
    → Arrives x es er p by shown c given → Opens b x.bearer t s before (heard_pair x es er p by shown) c.pair given
by_header (header.Reset said) x es er p by shown c given b t s before is runs h may arrives = resets_receive x said es er p by shown c given b t s before h is arrives
by_header (header.Activate said) x es er p by shown c given b t s before is runs h may arrives = activates_receive x said es er p by shown c given b t s before h is (λ e. may.activates said e is) arrives
by_header (header.Discovery said) x es er p by shown c given b t s before is runs h may arrives = discoveries_receive x said es er p by shown c given b t s before h is arrives
by_header other x es er p by shown c given b t s before is runs h may arrives = traffic_receives x x.near es er p by shown c given b t s before runs h may refl (ap is_traffic is) arrives

pub arrivals_receive : (x : PairEnds) (es er : ℕ) (p : Fields) (by : ℕ) (shown : BroadcastState) (c : Course) (given : PairOutcome) (b : Bearer) (t : Traffic) (s : State) (before : List (List ℕ)) → RunsWhereUp x.bearer x.near → Stands x b t s before → MayLand x es er p t s
    → Arrives x es er p by shown c given → Opens b x.bearer t s before (heard_pair x es er p by shown) c.pair given
arrivals_receive x es er p by shown c given b t s before runs h may arrives = by_header p.header x es er p by shown c given b t s before refl runs h may arrives
