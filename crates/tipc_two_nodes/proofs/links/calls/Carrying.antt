-- What the near link of a pair took is opened: what a tunnel packet makes of the pair as a sender.
use Rattle.std.proofs.Common.{◌≡◌, ◌==◌, ◌||◌, ◌&&◌, ℕ, true, false, if◌then◌else◌, List, [], Option, Some, None, option_map, refl, sym, ap, ◌∙◌, subst}
use Rattle.tipc_types.specs.LinkStates.{is_up}
use Rattle.tipc_types.specs.declared.packet_lists.Taken.{Taken}
use Rattle.tipc_header.specs.declared.packet.ChangeoverType.{ChangeoverType}
use Rattle.tipc_header.specs.declared.packet.ChangeoverType.TheVariants as kind
use Rattle.tipc_fragments.specs.Joining.{Joining}
use Rattle.tipc_tunnel.specs.Tunnels.{Tunnelled}
use Rattle.tipc_recv_window.specs.declared.outcomes.LinkOutcome.{LinkOutcome}
use Rattle.tipc_link_fsm.specs.Table.{is_peer, on_peer_tunnel}
use Rattle.tipc_link_fsm.proofs.Moves.{cases_on}
use Rattle.tipc_link.specs.Links.{LinkEnd, after, named_end, recorded, tunnelled_down, tunnelled_end}
use Rattle.tipc_link.specs.Records.{Received}
use Rattle.tipc_link.specs.Sessions.{SessionEnd, with_record}
use Rattle.tipc_pair.specs.declared.changes.PairOutcome.{PairOutcome}
use Rattle.tipc_pair.specs.Changeovers.{following}
use Rattle.tipc_pair.specs.Courses.{Course, going_on}
use Rattle.tipc_pair.specs.Facing.{PairEnds, is_up_at, with_far, with_near, turned as turned_pair}
use Rattle.tipc_pair.specs.PairArrivals.{OpensInto, Unwraps, as_it_is, deferred, ignored, inner_at, inside_of, none_taken, opens, taken_down, taken_in, tunnel, tunnelled_at}
use Rattle.tipc_pair.proofs.EndSteps.{fsm_after, tunnel_quiet}
use Rattle.tipc_changeover.specs.Links.{other, turned_state, Bearer, State}
use Rattle.tipc_changeover.specs.Sound.{Sound}
use Rattle.tipc_two_nodes.specs.links.Traffic.{Traffic, turned_traffic as turned_traffic}
use Rattle.tipc_two_nodes.specs.links.Sending.{StandFor, beside, end_seen, ends_seen, state_as, window_in, turned_sending as turned_ends}
use Rattle.tipc_two_nodes.specs.links.Steps.{near_more}
use Rattle.tipc_two_nodes.specs.links.Ends.{session_by}
use Rattle.tipc_two_nodes.specs.links.Turning.{RunsWhereUp}
use Rattle.tipc_two_nodes.specs.links.Acting.{Acted, window_at}
use Rattle.tipc_two_nodes.proofs.links.calls.Acted.{acted_falls, falls_back, near_acted}
use Rattle.tipc_two_nodes.proofs.links.calls.Ending.{Goes, Rests, goes, over_then, rests_same, stops}
use Rattle.tipc_two_nodes.proofs.links.calls.Freeing.{AreUp, UpWhere}
use Rattle.tipc_two_nodes.proofs.links.sender.Happening.{follows_sound, sound_turned}
use Rattle.tipc_two_nodes.proofs.links.calls.Reacting.{Turned, fell, last, rose, still, turns}
use Rattle.tipc_two_nodes.proofs.links.calls.States.{tunnel_turns}
use Rattle.tipc_two_nodes.proofs.links.calls.Stepping.{Alike, Rise, up_some}
use Rattle.tipc_two_nodes.proofs.links.calls.Ticking.{MayFall, ends_twice, fall_may, may_far, over_far, number_low, quiet_rise, rests_still}
use Rattle.tipc_two_nodes.proofs.links.sender.Turning.{stand_turned}

-- ---- what isn't seen of a sender

-- a pair is as it was but for what it received
pub record Quietly (x y : PairEnds) : Type 0 where
  pub seen : ends_seen y ≡ ends_seen x
  pub up : AreUp x → AreUp y
  pub rests : Rests x y

pub quietly_same : (x : PairEnds) → Quietly x x
quietly_same x = record { seen = refl; up = λ up. up; rests = rests_same x }

pub goes_quietly : (b : Bearer) (x y y' : PairEnds) (t : Traffic) (z : State) → Goes b x y t z → Quietly y y' → Goes b x y' t z
goes_quietly b x y y' t z (goes h) k = goes (record { contact = k.rests.contact ∙ h.contact; acted = subst (λ e. Acted b (ends_seen x) e t z) (sym k.seen) h.acted; up = k.up h.up })
goes_quietly b x y y' t z (stops w same h over) k = stops w same h (over_then w y y' over k.rests)

pub begun_quietly : (x y : PairEnds) (last_begun : Joining) → Quietly x y → Quietly x (record y { begun = last_begun })
begun_quietly x y last_begun h = record {
  seen = h.seen;
  up = λ up. (let now = h.up up in record { near = now.near; far = now.far });
  rests = record { contact = h.rests.contact; out = h.rests.out; near = h.rests.near; far = h.rests.far };
}

-- ---- an end with another receiving record

recorded_window : (o : Option SessionEnd) (r : Received) → window_in (option_map (λ s. with_record s r) o) ≡ window_in o
recorded_window None r = refl
recorded_window (Some s) r = refl

recorded_up : (e : LinkEnd) (r : Received) → UpWhere (Some e) → UpWhere (Some (recorded e r))
recorded_up e r up = λ d is so.
    (let same : recorded e r ≡ d = cc in
    let k = up e refl (ap (λ (q : LinkEnd). is_up q.fsm.state) same ∙ so) in
    up_some (recorded e r) (with_record k.0 r) (ap (option_map (λ s. with_record s r)) k.1.session_is) k.1.epoch_is k.1.few d is so)

recorded_quietly : (y : PairEnds) (e : LinkEnd) (r : Received) → y.far ≡ Some e → Quietly y (with_far y (recorded e r))
recorded_quietly y e r is = record {
  seen = ap (λ d. record { bearer = y.bearer; near = end_seen y.contact y.near; far = d }) (ap (λ w. record { epoch = e.fsm.own; state = state_as e.fsm.state; window = w }) (recorded_window e.session r) ∙ ap (end_seen y.contact) (sym is));
  up = λ up. record { near = up.near; far = recorded_up e r (subst UpWhere is up.far) };
  rests = record {
    contact = refl;
    out = λ none. ap (λ q. is_up_at y.near || is_up_at q) (sym is) ∙ none;
    near = refl;
    far = recorded_window e.session r ∙ ap window_at (sym is);
  };
}

inner_quietly : (t : Tunnelled) (by : ℕ) (y : PairEnds) (end : Option LinkEnd) → y.far ≡ end → Quietly y (inner_at t by y end).pair
inner_quietly t by y None is = quietly_same y
inner_quietly t by y (Some e) is = elim (t.count == 0) as (λ b. Quietly y (with_far y (if b then named_end e t.old.epoch else tunnelled_end e t.old.epoch (inside_of t by)))) [
  | true ↦ recorded_quietly y e _ is
  | false ↦ recorded_quietly y e _ is
]

-- ---- an original takes the far link down

down_session : (e : LinkEnd) (epoch : ℕ) → (after e (on_peer_tunnel e.fsm epoch)).session ≡ e.session
unfolding on_peer_tunnel
down_session e epoch = cases_on (λ o. (after e o).session ≡ e.session) (is_up e.fsm.state && is_peer e.fsm.peer epoch) _ _ (λ up. refl) (λ down. refl)

down_alike : (e : LinkEnd) (epoch : ℕ) → Alike (after e (on_peer_tunnel e.fsm epoch)) (tunnelled_down e epoch)
down_alike e epoch = record { fsm = sym (fsm_after e (on_peer_tunnel e.fsm epoch)); session = sym (down_session e epoch) }

tunnel_turned : (b : Bearer) (x : PairEnds) (end : Option LinkEnd) (epoch : ℕ) (t : Traffic) (z : State) → x.near ≡ end → MayFall x → StandFor b (ends_seen x) t z → Sound b z → Turned b x (tunnelled_at epoch x end).pair false t z
tunnel_turned b x None epoch t z is may stand sound = rests_still b x false t z may.up stand
tunnel_turned b x (Some e) epoch t z is may stand sound =
    let o = on_peer_tunnel e.fsm epoch in
    let quiet = tunnel_quiet e.fsm epoch in
    subst (λ rising. Turned b x (following (with_near x (tunnelled_down e epoch)) o.change epoch).pair rising t z) (quiet_rise o.change quiet)
    (turns b x e (tunnelled_down e epoch) o epoch true t z (fall_may x e (tunnelled_down e epoch) o true may is (down_alike e epoch) (tunnel_turns e.fsm epoch) (λ up. refl) quiet) stand sound)

rise_goes : (b : Bearer) (x w : PairEnds) (t : Traffic) (z : State) → Rise b x w t z → Goes b x w t z
rise_goes b x w t z h = goes (record { contact = h.contact; acted = near_acted b (ends_seen x) (ends_seen w) t z h.near; up = h.up })

-- behind a packet that the near link heard
behind_heard : (b : Bearer) (x w q : PairEnds) (t : Traffic) (z : State) (h : Rise b x w t z) → Turned (other b) (turned_pair w) q false (turned_traffic (near_more t (session_by t.near (ends_seen w).near) h.near.packets)) (turned_state h.near.become.state) → Goes b x (turned_pair q) t z
behind_heard b x w q t z h (still k same) =
    let low = number_low b w.bearer h.near.become.stand.bearer in
    let seen : ends_seen (turned_pair q) ≡ ends_seen w = ap turned_ends same ∙ ends_twice w low in
    goes (record { contact = k.contact ∙ h.contact; acted = subst (λ e. Acted b (ends_seen x) e t z) (sym seen) (near_acted b (ends_seen x) (ends_seen w) t z h.near); up = record { near = k.up.far; far = k.up.near } })
behind_heard b x w q t z h (fell k falls up down) =
    let u = near_more t (session_by t.near (ends_seen w).near) h.near.packets in
    goes (record {
      contact = k.contact ∙ h.contact;
      acted = acted_falls b (ends_seen x) (ends_seen w) (ends_seen (turned_pair q)) t z h.near (falls_back b w q u h.near.become.state falls);
      up = record { near = k.up.far; far = k.up.near };
    })
behind_heard b x w q t z h (rose k so) = absurd (let wrong : ⊥ = cc in wrong)
behind_heard b x w q t z h (last over) = stops w h.contact (near_acted b (ends_seen x) (ends_seen w) t z h.near) (over_far w q over)

pub down_goes : (b : Bearer) (x w : PairEnds) (k : ChangeoverType) (epoch : ℕ) (t : Traffic) (z : State) → x.bearer ≡ w.bearer → Sound b z → RunsWhereUp (beside x.bearer) x.far → Rise b x w t z → Goes b x (taken_down k epoch w).pair t z
down_goes b x w kind.Duplicate epoch t z bearer sound far h = rise_goes b x w t z h
down_goes b x w kind.Original epoch t z bearer sound far h =
    let B = h.near.become in
    let u = near_more t (session_by t.near (ends_seen w).near) h.near.packets in
    let low = number_low b w.bearer B.stand.bearer in
    let runs = subst (λ n. RunsWhereUp (beside n) w.far) bearer (h.runs far) in
    behind_heard b x w (tunnelled_at epoch (turned_pair w) w.far).pair t z h
    (tunnel_turned (other b) (turned_pair w) w.far epoch (turned_traffic u) (turned_state B.state) refl (may_far w low h.up (λ up. runs)) (stand_turned b (ends_seen w) u B.state B.stand) (sound_turned b B.state (follows_sound b z B.state sound B.follows)))

-- ---- what is opened

unwraps_go : (b : Bearer) (x w : PairEnds) (t : Traffic) (z : State) (taken carried : List Taken) (c : Course) → x.bearer ≡ w.bearer → Sound b z → RunsWhereUp (beside x.bearer) x.far → Rise b x w t z → Unwraps w taken c carried → Goes b x c.pair t z
unfolding going_on
unwraps_go b x w t z taken carried c bearer sound far h none_taken = rise_goes b x w t z h
unwraps_go b x w t z taken carried c bearer sound far h (as_it_is first others none) = rise_goes b x w t z h
unwraps_go b x w t z taken carried c bearer sound far h (tunnel first others u speaks) =
    let y = (taken_down u.kind u.old.epoch w).pair in
    goes_quietly b x y (inner_at u first.by y y.far).pair t z (down_goes b x w u.kind u.old.epoch t z bearer sound far h) (inner_quietly u first.by y y.far refl)

pub heard_opens : (b : Bearer) (x w : PairEnds) (t : Traffic) (z : State) (outcome : LinkOutcome) (c : Course) (given : PairOutcome) → x.bearer ≡ w.bearer → Sound b z → RunsWhereUp (beside x.bearer) x.far → Rise b x w t z → OpensInto w outcome c given → Goes b x c.pair t z
heard_opens b x w t z outcome c given bearer sound far h (opens {taken = taken} {carried = carried} {c = course} {last = begun} unwraps brings) =
    goes_quietly b x course.pair (record course.pair { begun = begun }) t z (unwraps_go b x w t z taken carried course bearer sound far h unwraps) (begun_quietly course.pair course.pair begun (quietly_same course.pair))
heard_opens b x w t z outcome c given bearer sound far h deferred = rise_goes b x w t z h
heard_opens b x w t z outcome c given bearer sound far h ignored = rise_goes b x w t z h

-- where nothing was taken
nothing_unwraps : (w : PairEnds) (taken carried : List Taken) (c : Course) → Unwraps w taken c carried → taken ≡ [] → c.pair ≡ w
nothing_unwraps w taken carried c none_taken none = refl
nothing_unwraps w taken carried c (as_it_is first others is) none = refl
nothing_unwraps w taken carried c (tunnel first others u speaks) none = absurd (let wrong : ⊥ = cc in wrong)

pub nothing_opens : (w : PairEnds) (outcome : LinkOutcome) (c : Course) (given : PairOutcome) → taken_in outcome ≡ [] → OpensInto w outcome c given → Quietly w c.pair
nothing_opens w outcome c given none (opens {taken = taken} {carried = carried} {c = course} {last = begun} unwraps brings) =
    begun_quietly w course.pair begun (subst (Quietly w) (sym (nothing_unwraps w taken carried course unwraps none)) (quietly_same w))
nothing_opens w outcome c given none deferred = quietly_same w
nothing_opens w outcome c given none ignored = quietly_same w
