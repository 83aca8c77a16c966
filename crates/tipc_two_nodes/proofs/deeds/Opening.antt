-- What the near link took is opened: a tunnel packet among it takes the far link down, and its record counts what is inside.
use Rattle.std.proofs.Common.{◌≡◌, ◌∷◌, ◌&&◌, ℕ, true, List, [], Option, Some, None, refl, ap, ◌⊎◌, subst, inl, inr, append-nil}
use Rattle.tipc_types.specs.LinkStates.{is_up}
use Rattle.tipc_types.specs.declared.link_words.BroadcastState.{BroadcastState}
use Rattle.tipc_types.specs.declared.link_words.Cause.{Cause}
use Rattle.tipc_types.specs.declared.packet_lists.Taken.{Taken}
use Rattle.tipc_outside.specs.declared.outgoing.Outgoing.{Outgoing}
use Rattle.tipc_header.specs.declared.packet.ChangeoverType.{ChangeoverType}
use Rattle.tipc_header.specs.declared.packet.ChangeoverType.TheVariants as kind
use Rattle.tipc_tunnel.specs.Tunnels.{Tunnelled}
use Rattle.tipc_recv_window.specs.declared.outcomes.LinkOutcome.{LinkOutcome}
use Rattle.tipc_link.specs.Links.{LinkEnd, after, follow_frames, followed, frames, tunnelled_down}
use Rattle.tipc_link_fsm.specs.declared.changes.Change.TheVariants.{Down, Stay}
use Rattle.tipc_link_fsm.specs.Runs.{TunnelNames}
use Rattle.tipc_link_fsm.specs.Table.{Fsm, is_peer, on_peer_tunnel}
use Rattle.tipc_link_fsm.proofs.Moves.{cases_on}
use Rattle.tipc_pair.specs.declared.changes.PairOutcome.{PairOutcome}
use Rattle.tipc_pair.specs.Changeovers.{following}
use Rattle.tipc_pair.specs.Courses.{Course, going_on, rests}
use Rattle.tipc_pair.specs.Facing.{PairEnds, is_up_at, turned, with_near}
use Rattle.tipc_pair.specs.PairArrivals.{OpensInto, SpeaksOfFar, Unwraps, as_it_is, deferred, ignored, inner_at, none_taken, opens, taken_down, tunnel, tunnelled_at, tunnelled_through}
use Rattle.tipc_pair.specs.PairFacts.{IsPairOfEnds}
use Rattle.tipc_paired.specs.Paired.{ArePaired}
use Rattle.tipc_paired.specs.Views.{View}
use Rattle.tipc_two_nodes.proofs.deeds.Calls.{can_hand, nothing_showable, nothing_shown}
use Rattle.tipc_two_nodes.proofs.deeds.Counting.{inner_takes}
use Rattle.tipc_two_nodes.proofs.deeds.Pairs.{of_turned, takes_as, takes_far, takes_rest, takes_then}
use Rattle.tipc_two_nodes.proofs.deeds.Stepping.{stepped_takes}
use Rattle.tipc_two_nodes.proofs.deeds.EndsKept.{ends_turned}
use Rattle.tipc_two_nodes.specs.deeds.Arriving.{IsAtPlace, inner_taken_at, opens_more, opens_taken, taken_down_more, tunnelled_more, unwraps_more, unwraps_taken}
use Rattle.tipc_two_nodes.specs.deeds.PairDeeds.{IsOfPair, TakesCourse, both_more, followed_more, none_more}

-- ---- the far link goes down

pub tunnel_change : (f : Fsm) (epoch : ℕ) → ((on_peer_tunnel f epoch).change ≡ Stay) ⊎ ((cause : Cause) × ((on_peer_tunnel f epoch).change ≡ Down cause))
unfolding on_peer_tunnel
tunnel_change f epoch = cases_on (λ o. (o.change ≡ Stay) ⊎ ((cause : Cause) × (o.change ≡ Down cause))) (is_up f.state && is_peer f.peer epoch) _ _ (λ _. inr (_, refl)) (λ _. inl refl)

-- it says nothing, and keeps its session
pub record IsNamed (e : LinkEnd) (epoch : ℕ) (shown : BroadcastState) : Type 0 where
  pub end : after e (on_peer_tunnel e.fsm epoch) ≡ tunnelled_down e epoch
  pub said : frames e (on_peer_tunnel e.fsm epoch) shown ≡ []

pub is_named : (e : LinkEnd) (epoch : ℕ) (shown : BroadcastState) → IsNamed e epoch shown
is_named e epoch shown = elim (tunnel_change e.fsm epoch) [
  | inl stay ↦ record { end = ap (followed (tunnelled_down e epoch)) stay; said = ap (λ c. follow_frames (tunnelled_down e epoch) c shown) stay }
  | inr down ↦ record { end = ap (followed (tunnelled_down e epoch)) down.1; said = ap (λ c. follow_frames (tunnelled_down e epoch) c shown) down.1 }
]

tunnelled_takes : (v y : View) (x : PairEnds) (o : Option LinkEnd) (epoch : ℕ) → ArePaired v y → IsOfPair v x → IsPairOfEnds x → x.near ≡ o → TakesCourse v y (tunnelled_at epoch x o) (tunnelled_more epoch x o) none_more
unfolding going_on
tunnelled_takes v y x None epoch h pair ends is = takes_rest v y x pair
tunnelled_takes v y x (Some e) epoch h pair ends is =
    let o = on_peer_tunnel e.fsm epoch in
    let n = is_named e epoch nothing_shown in
    let P : LinkEnd → List Outgoing → Type 0 = λ d said. TakesCourse v y (going_on (record (rests (with_near x d)) { states = said }) (λ z. following z o.change epoch)) (followed_more (with_near x d) o.change) none_more in
    subst (λ d. P d []) n.end (subst (P (after e o)) n.said (stepped_takes v y x e (TunnelNames epoch) epoch nothing_shown h pair is tt (can_hand v y x h pair ends) nothing_showable))

pub taken_down_takes : (v y : View) (x : PairEnds) (kind_is : ChangeoverType) (epoch : ℕ) → ArePaired v y → IsOfPair v x → IsPairOfEnds x → TakesCourse v y (taken_down kind_is epoch x) (taken_down_more kind_is epoch x) none_more
taken_down_takes v y x kind.Duplicate epoch h pair ends = takes_rest v y x pair
taken_down_takes v y x kind.Original epoch h pair ends =
    takes_far v y x (λ z. tunnelled_at epoch z z.near) (tunnelled_more epoch (turned x) x.far) none_more (tunnelled_takes v y (turned x) x.far epoch h (of_turned v x pair) (ends_turned x ends) refl)

-- ---- what the near link took

pub through_takes : (v y : View) (x : PairEnds) (t : Tunnelled) (by : ℕ) → ArePaired v y → IsOfPair v x → IsPairOfEnds x → IsAtPlace y (taken_down t.kind t.old.epoch x).pair t by
    → is_up_at (taken_down t.kind t.old.epoch x).pair.near ≡ true → TakesCourse v y (tunnelled_through x t by) (taken_down_more t.kind t.old.epoch x) (inner_taken_at y (taken_down t.kind t.old.epoch x).pair t by (taken_down t.kind t.old.epoch x).pair.far)
through_takes v y x t by h pair ends at up =
    let first = taken_down t.kind t.old.epoch x in
    let z = first.pair in
    let n = taken_down_more t.kind t.old.epoch x in
    let u = inner_taken_at y z t by z.far in
    takes_as v y (tunnelled_through x t by) (both_more n none_more) n u u
    (takes_then v y first (λ w. inner_at t by w w.far) n none_more none_more u h (taken_down_takes v y x t.kind t.old.epoch h pair ends) (λ mid paired took. inner_takes mid y z z.far t by paired took.pair refl up at)) (λ b k. append-nil (n b k)) (λ b k. refl)

-- the first of them, where it is a tunnel packet, is at its place, the near link stays up, and the pair is one of link ends
abbrev pub IsOpenable : View → PairEnds → List Taken → Type 0
IsOpenable y x taken = (first : Taken) (others : List Taken) (t : Tunnelled) → taken ≡ first ∷ others → SpeaksOfFar x first.packet t → IsPairOfEnds x × IsAtPlace y (taken_down t.kind t.old.epoch x).pair t first.by
    × (is_up_at (taken_down t.kind t.old.epoch x).pair.near ≡ true)

pub unwraps_takes : (v y : View) (x : PairEnds) (taken : List Taken) (c : Course) (carried : List Taken) → ArePaired v y → IsOfPair v x → IsOpenable y x taken → (u : Unwraps x taken c carried) → TakesCourse v y c (unwraps_more x taken c carried u) (unwraps_taken y x taken c carried u)
unwraps_takes v y x _ _ _ h pair at none_taken = takes_rest v y x pair
unwraps_takes v y x _ _ _ h pair at (as_it_is first others plain) = takes_rest v y x pair
unwraps_takes v y x _ _ _ h pair at (tunnel first others t speaks) = (let k = at first others t refl speaks in through_takes v y x t first.by h pair k.0 k.1 k.2)

-- ---- what comes of it

pub opens_takes : (v y : View) (x : PairEnds) (o : LinkOutcome) (c : Course) (given : PairOutcome) → ArePaired v y → IsOfPair v x → ((taken : List Taken) → o ≡ LinkOutcome.Took taken → IsOpenable y x taken) → (i : OpensInto x o c given)
    → TakesCourse v y c (opens_more x o c given i) (opens_taken y x o c given i)
opens_takes v y x _ _ _ h pair at (opens u brings) =
    let m = unwraps_takes v y x _ _ _ h pair (at _ refl) u in
    (m.0, record { did = m.1.did; pair = (let k = m.1.pair in record { own = k.own; peer = k.peer; contact = k.contact; seen = k.seen; two_bearers = k.two_bearers; near = k.near; far = k.far; alone = k.alone }) })
opens_takes v y x _ _ _ h pair at deferred = takes_rest v y x pair
opens_takes v y x _ _ _ h pair at ignored = takes_rest v y x pair
