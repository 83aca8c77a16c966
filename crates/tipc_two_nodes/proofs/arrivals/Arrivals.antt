-- A packet arrives at a pair, and takes its near link neither down nor out of its contact: the deeds, and the events of the sender.
use Rattle.std.proofs.Common.{◌≡◌, ◌∷◌, ℕ, true, List, Option, Some, None, refl, sym, ap, ◌∙◌, subst, inl, inr}
use Rattle.std.proofs.lemmas.Bool.{cases_eq}
use Rattle.tipc_types.specs.declared.link_words.BroadcastState.{BroadcastState}
use Rattle.tipc_types.specs.declared.packet_lists.Taken.{Taken}
use Rattle.tipc_header.specs.Spelling.{Fields}
use Rattle.tipc_recv_window.specs.declared.outcomes.LinkOutcome.{LinkOutcome}
use Rattle.tipc_link.specs.Links.{LinkEnd}
use Rattle.tipc_link.specs.Parts.{IsShowable}
use Rattle.tipc_pair.specs.declared.changes.PairOutcome.{PairOutcome}
use Rattle.tipc_pair.specs.Courses.{Course}
use Rattle.tipc_pair.specs.Facing.{PairEnds, is_up_at}
use Rattle.tipc_pair.specs.PairArrivals.{Arrives, hears}
use Rattle.tipc_pair.specs.PairFacts.{AreHeldRightly, IsPairOfEnds}
use Rattle.tipc_changeover.specs.Links.{First}
use Rattle.tipc_changeover.proofs.Staying.{reached_sound}
use Rattle.tipc_two_nodes.specs.links.Acting.{Acted}
use Rattle.tipc_two_nodes.proofs.links.calls.Arrived.{arrivals_act}
use Rattle.tipc_paired.specs.Views.{View, epoch_in, epoch_on}
use Rattle.tipc_two_nodes.proofs.deeds.Arriving.{arrives}
use Rattle.tipc_two_nodes.proofs.deeds.Placing.{hears_some}
use Rattle.tipc_two_nodes.specs.deeds.Arriving.{MayOpen, Reaches, arrival_more, arrival_taken}
use Rattle.tipc_two_nodes.specs.deeds.PairDeeds.{IsOfPair, Took}
use Rattle.tipc_two_nodes.specs.Carriages.{ends_in}
use Rattle.tipc_two_nodes.specs.Pieces.{state_from, traffic_from}
use Rattle.tipc_two_nodes.specs.Twins.{AreTwins, sends_in}
use Rattle.tipc_two_nodes.proofs.arrivals.Arrivable.{acknowledges_from}
use Rattle.tipc_two_nodes.proofs.calls.CallCourses.{are_ends_of}
use Rattle.tipc_two_nodes.proofs.arrivals.Elsewhere.{arrival_else}
use Rattle.tipc_two_nodes.proofs.calls.PairViews.{acted_from, sound_from}
use Rattle.tipc_two_nodes.proofs.calls.QuietCourses.{acted_of, bearer_of, stand_at}
use Rattle.tipc_two_nodes.proofs.arrivals.Steady.{IsSteady, ShowsNoHigher, arrival_steady, not_reset, own_of}
use Rattle.tipc_two_nodes.proofs.arrivals.WholeSteps.{IsEven, WentOn}
use Rattle.tipc_two_nodes.proofs.arrivals.Within.{AlongWithin, deeds_within}

-- ---- the epochs

own_epoch : (c : ℕ) (o o' : Option LinkEnd) → own_of o' ≡ own_of o → epoch_in c o' ≡ epoch_in c o
own_epoch c None None same = refl
own_epoch c None (Some e) same = absurd (let wrong : ⊥ = cc in wrong)
own_epoch c (Some e) None same = absurd (let wrong : ⊥ = cc in wrong)
own_epoch c (Some e) (Some d) same = (let one : d.fsm.own ≡ e.fsm.own = cc in one)

near_epoch : (v v' : View) (x q : PairEnds) → IsOfPair v x → IsOfPair v' q → IsSteady x q → v'.node.contact ≡ v.node.contact → epoch_on v'.node (v'.wires x.bearer) ≡ epoch_on v.node (v.wires x.bearer)
unfolding epoch_on
near_epoch v v' x q pair pair' steady contact =
    let end : (v'.wires x.bearer).end ≡ q.near = ap (λ n. (v'.wires n).end) (sym steady.bearer) ∙ pair'.near in
    ap (λ o. epoch_in v'.node.contact o) end ∙ (ap (λ n. epoch_in n q.near) contact ∙ (own_epoch v.node.contact x.near q.near steady.own ∙ ap (epoch_in v.node.contact) (sym pair.near)))

-- ---- deeds

-- What an arrival shows that takes the near link neither down nor out of its contact, as deeds.
pub record ArrivedBy (v y after : View) (h : AreTwins v y) (x : PairEnds) (es er : ℕ) (p : Fields) (by : ℕ) (shown : BroadcastState) (c : Course) (given : PairOutcome) (a : Arrives x es er p by shown c given) : Type 0 where
  pub took : Took v y after c (arrival_more x es er p by shown c given a) (arrival_taken y x es er p by shown c given a)
  pub steady : IsSteady x c.pair
  pub within : AlongWithin v after y h.here
  pub even : (n : ℕ) → IsEven v after (arrival_more x es er p by shown c given a) n

pub arrived_by : (v y : View) (x : PairEnds) (es er : ℕ) (p : Fields) (by : ℕ) (shown : BroadcastState) (c : Course) (given : PairOutcome) (h : AreTwins v y) → IsOfPair v x → IsPairOfEnds x → IsShowable shown → Reaches v y x.bearer es er p → (a : Arrives x es er p by shown c given)
    → MayOpen y x (hears p.header es er p by shown x) → not_reset p.header ≡ true → ShowsNoHigher p.header x.seen → (after : View) × ArrivedBy v y after h x es er p by shown c given a
arrived_by v y x es er p by shown c given h pair ends showable r a may quiet low =
    let t = arrives v y x es er p by shown c given h.paired pair ends showable r a may in
    let some : (first : Taken) (others : List Taken) → (hears p.header es er p by shown x).outcome ≡ LinkOutcome.Took (first ∷ others) → is_up_at (hears p.header es er p by shown x).course.pair.near ≡ true =
    λ first others is. (hears_some p.header v y x es er p by shown first others refl h.paired pair ends is).goes.up in
    let steady = arrival_steady x es er p by shown c given pair.two_bearers quiet low some a in
    let contact = t.1.pair.contact ∙ (steady.contact ∙ sym pair.contact) in
    let seen = t.1.pair.seen ∙ (steady.seen ∙ sym pair.seen) in (
      t.0,
      record {
        took = t.1;
        steady = steady;
        within = deeds_within v y t.0 h.here h.there h.paired h.numbers_here h.numbers_there h.recorded_here t.1.did.does t.1.did.boot contact seen;
        even = λ n. elim (cases_eq n x.bearer) [
          | inl same ↦ inl (subst (λ n. epoch_on t.0.node (t.0.wires n) ≡ epoch_on v.node (v.wires n)) (sym same) (near_epoch v t.0 x c.pair pair t.1.pair steady contact))
          | inr differ ↦ inr (arrival_else x es er p by shown c given a n differ pair.two_bearers quiet low)
        ];
      },
    )

-- by events of the sender
arrival_acted : (v y : View) (x : PairEnds) (es er : ℕ) (p : Fields) (by : ℕ) (shown : BroadcastState) (c : Course) (given : PairOutcome) (h : AreTwins v y) (after : View) → IsOfPair v x → IsOfPair after c.pair → IsPairOfEnds x → AreHeldRightly x → (a : Arrives x es er p by shown c given)
    → Reaches v y x.bearer es er p → IsSteady x c.pair → Acted First (ends_in v) (ends_in after) (sends_in v y h).traffic (sends_in v y h).state
arrival_acted v y x es er p by shown c given h after pair pair' ends held a r steady =
    let at = bearer_of x.bearer pair.two_bearers in
    let b = at.0 in
    let t = (sends_in v y h).traffic in
    let s = (sends_in v y h).state in
    let sound = sound_from b s (reached_sound s (h.sends.sent v.node.contact v.node.seen).reached) in
    let acts = arrivals_act b x es er p by shown c given (traffic_from b t) (state_from b s) (are_ends_of v y x h pair ends) held (acknowledges_from b v y x es er p h pair at.1 r) (stand_at b v y h x pair at.1) sound a in
    acted_from b v after x c.pair t s pair pair' at.1 steady.bearer (acted_of b x c.pair (traffic_from b t) (state_from b s) steady.contact acts)

pub arrival_went : (v y : View) (x : PairEnds) (es er : ℕ) (p : Fields) (by : ℕ) (shown : BroadcastState) (c : Course) (given : PairOutcome) (h : AreTwins v y) (after : View) → IsOfPair v x → IsPairOfEnds x → AreHeldRightly x → (a : Arrives x es er p by shown c given)
    → Reaches v y x.bearer es er p → ArrivedBy v y after h x es er p by shown c given a → WentOn v after y h (arrival_more x es er p by shown c given a) (arrival_taken y x es er p by shown c given a)
arrival_went v y x es er p by shown c given h after pair ends held a r m = record {
  frames = _;
  did = m.took.did;
  within = m.within;
  near = m.even 0;
  far = m.even 1;
  acted = arrival_acted v y x es er p by shown c given h after pair m.took.pair ends held a r m.steady;
}
