-- A tunnel packet that arrives between two nodes between which nothing goes down names no session above the present one
-- of its sender on that bearer.
use Rattle.std.proofs.Common.{◌≡◌, ◌∷◌, ◌≤◌, ◌∙◌, ℕ, zero, suc, true, List, Some, sym, ap, subst, arith}
use Rattle.tipc_types.specs.declared.link_words.BroadcastState.{BroadcastState}
use Rattle.tipc_types.specs.declared.packet_lists.Taken.{Taken}
use Rattle.tipc_header.specs.Reading.{fields_at}
use Rattle.tipc_header.specs.Spelling.{Fields, spelling}
use Rattle.tipc_header.proofs.Again.{again}
use Rattle.tipc_recv_window.specs.declared.outcomes.LinkOutcome.{LinkOutcome}
use Rattle.tipc_tunnel.specs.Tunnels.{Carries, Tunnelled}
use Rattle.tipc_link.specs.Links.{LinkEnd, is_traffic}
use Rattle.tipc_link.specs.Sessions.{as_waiting}
use Rattle.tipc_link.proofs.Standing.{waiting_fits}
use Rattle.tipc_pair.specs.Facing.{PairEnds, facing, other}
use Rattle.tipc_pair.specs.PairArrivals.{SpeaksOfFar, hears as heard_by}
use Rattle.tipc_pair.specs.PairFacts.{IsPairOfEnds}
use Rattle.tipc_pair.specs.PairTurns.Opening.{hears}
use Rattle.tipc_pair.proofs.turns.FirstTaken.{FirstIs, TakesFirst, hears_first}
use Rattle.tipc_pair.proofs.turns.PairKept.{facing_bearer}
use Rattle.tipc_paired.specs.Views.{fsm_in}
use Rattle.tipc_paired.proofs.Facts.{begun_named}
use Rattle.tipc_two_nodes.specs.Sights.{AreSeen, Comes, Sight, pair_seen}
use Rattle.tipc_two_nodes.specs.deeds.Arriving.{Reaches}
use Rattle.tipc_two_nodes.specs.deeds.PairDeeds.{IsOfPair}
use Rattle.tipc_two_nodes.proofs.arrivals.Ready.{may_open}
use Rattle.tipc_two_nodes.proofs.arrivals.TrafficArrivals.{traffic_low}
use Rattle.tipc_two_nodes.proofs.deeds.EndsKept.{ends_facing}
use Rattle.tipc_two_nodes.proofs.deeds.Pairs.{of_facing}
use Rattle.tipc_two_nodes.proofs.sights.Sights.{may_begin}
use Rattle.tipc_settling.specs.Goings.{OpensKnown}
use Rattle.tipc_settling.specs.Stillness.{Footing, IsStill, IsStillAt, IsStillEnd, ShowsPresent}
use Rattle.tipc_settling.proofs.Rising.{heard_bearer}

-- an end of a still pair
pub still_end_at : (own peer : Footing) (v : Sight) (bearer : ℕ) (e : LinkEnd) → bearer ≤ 1 → v.ends bearer ≡ Some e → IsStill own peer (pair_seen v) → IsStillEnd own peer v.node.seen bearer e.fsm
still_end_at own peer v zero e on_one is still = subst (λ o. IsStillAt own peer v.node.seen 0 (fsm_in o)) is still.near
still_end_at own peer v (suc zero) e on_one is still = subst (λ o. IsStillAt own peer v.node.seen 1 (fsm_in o)) is still.far
still_end_at own peer v (suc (suc more)) e on_one is still = absurd (omega (arith, on_one))

-- a tunnel packet is numbered
told_traffic : (p : Fields) (t : Tunnelled) → Carries p t → is_traffic p.header ≡ true
told_traffic p t told = ap is_traffic told.header

-- the packet that was taken first is the one that came
came_first : (p : Fields) (by : ℕ) (first : Taken) (others taken : List Taken) (outcome : LinkOutcome) (x : PairEnds) (t : Tunnelled) (shows : Footing) (bearer es : ℕ) → ShowsPresent shows bearer es p → outcome ≡ LinkOutcome.Took taken → taken ≡ first ∷ others
    → TakesFirst (spelling (as_waiting p)) outcome → SpeaksOfFar x first.packet t → is_traffic p.header ≡ true
came_first p by first others taken outcome x t peer bearer es shows took is takes speaks =
    let bytes : first.packet ≡ spelling (as_waiting p) = subst (FirstIs (spelling (as_waiting p))) is (subst (TakesFirst (spelling (as_waiting p))) took takes) in
    let far = speaks.tunnel in
    let same : as_waiting p ≡ far.packet = sym (again (as_waiting p) (waiting_fits p shows.fits)) ∙ ap fields_at (sym bytes ∙ far.spelled) ∙ again far.packet far.fits in
    let waited : Carries (as_waiting p) t = subst (λ (q : Fields). Carries q t) (sym same) far.carries in
    told_traffic (as_waiting p) t waited

pub opens_known : (v w : Sight) (own peer : Footing) (bearer es er : ℕ) (p : Fields) (by : ℕ) (shown : BroadcastState) → AreSeen v w → bearer ≤ 1 → IsStill own peer (pair_seen v) → ShowsPresent peer bearer es p → Comes v w bearer es er p
    → OpensKnown peer.epoch (heard_by p.header es er p by shown (facing bearer (pair_seen v))).course.pair (heard_by p.header es er p by shown (facing bearer (pair_seen v))).outcome
opens_known v w own peer bearer es er p by shown h one still shows comes taken others first t took is speaks =
    let x = h.here.view in
    let y = h.there.view in
    let z = facing bearer (pair_seen v) in
    let heard = heard_by p.header es er p by shown z in
    let traffic = came_first p by first others taken heard.outcome heard.course.pair t peer bearer es shows took is (hears_first p.header z es er p by shown) speaks in
    let here = h.talking.here in
    let of : IsOfPair x z = of_facing x bearer (pair_seen v) (subst (IsOfPair x) h.seen_here.pair here.of) in
    let ends : IsPairOfEnds z = ends_facing bearer (pair_seen v) (subst IsPairOfEnds h.seen_here.pair here.ends) in
    let on : z.bearer ≡ bearer = facing_bearer bearer (pair_seen v) one still.two in
    let reaches : Reaches x y z.bearer es er p = subst (λ k. Reaches x y k es er p) (sym on) (may_begin v w (hears bearer es er p by shown) h (one, comes)).1 in
    let may = may_open x y h.talking.twins z es er p by shown of ends reaches traffic (traffic_low p.header z.seen traffic) in
    let at = may.tunnel first others t (took ∙ ap LinkOutcome.Took is) speaks in
    let named = begun_named x y (other z.bearer) t.old.epoch at.begun h.talking.twins.paired at.begun_is (at.contact_is ∙ sym of.contact) in
    let there : v.ends (other z.bearer) ≡ Some named.end = sym (h.seen_here.ends (other z.bearer)) ∙ named.end_is in
    let end = still_end_at own peer v (other z.bearer) named.end (omega (arith, on, one)) there still in
    let low = named.highest in
    let high = end.no_higher in
    let back : other heard.course.pair.bearer ≡ other z.bearer = ap other (heard_bearer own peer (pair_seen v) bearer es er p by shown one still shows ∙ sym on) in
    let same : peer.epoch (other heard.course.pair.bearer) ≡ peer.epoch (other z.bearer) = ap peer.epoch back in
    omega (arith, low, high, same)
