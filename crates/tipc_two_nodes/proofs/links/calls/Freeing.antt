-- At the end of a call either end of a pair may be held no longer.
use Rattle.std.proofs.Common.{◌≡◌, ℕ, ◌-◌, true, false, if◌then◌else◌, Option, Some, option_map, refl, sym, ap, ◌∙◌, subst}
use Rattle.tipc_types.specs.LinkStates.{is_up}
use Rattle.tipc_link_fsm.specs.Table.{is_held}
use Rattle.tipc_link.specs.Links.{LinkEnd}
use Rattle.tipc_link.specs.Sessions.{SessionEnd}
use Rattle.tipc_pair.specs.Changeovers.{is_clear, let_go, let_go_frames, release_near, released}
use Rattle.tipc_pair.specs.Courses.{going_on, rests}
use Rattle.tipc_pair.specs.Facing.{PairEnds, is_held_at, is_up_at, turned as turned_pair}
use Rattle.tipc_pair.proofs.HeldLaws.{HeldUp, far_stays}
use Rattle.tipc_changeover.specs.Links.{other, turned_state, Bearer, First, Second, State}
use Rattle.tipc_two_nodes.specs.links.Traffic.{Traffic, turned_traffic as turned_traffic}
use Rattle.tipc_two_nodes.specs.links.Sending.{SendingEnds, StandFor, beside, ends_seen, number_as, turned_sending as turned_ends}
use Rattle.tipc_two_nodes.specs.links.Following.{Become}
use Rattle.tipc_two_nodes.specs.links.Ends.{IsUpAt}
use Rattle.tipc_two_nodes.specs.links.Turning.{AreCarried, AreEnds, HasFarUp}
use Rattle.tipc_two_nodes.proofs.deeds.Pairs.{up_end as far_end}
use Rattle.tipc_two_nodes.proofs.links.sender.Happening.{follows_then}
use Rattle.tipc_two_nodes.proofs.links.calls.Releasing.{let_go_not, releases_on}
use Rattle.tipc_two_nodes.proofs.links.sender.Turning.{become_turned, stand_turned}
-- ---- links that are up
use Rattle.tipc_paired.proofs.wires.Turns.{up_unheld as up_not_held}

-- a link that is up has its session
abbrev pub UpWhere : Option LinkEnd → Type 0
UpWhere o = (e : LinkEnd) → o ≡ Some e → is_up e.fsm.state ≡ true → (s : SessionEnd) × IsUpAt s.bearer o e s

pub record AreUp (x : PairEnds) : Type 0 where
  pub near : UpWhere x.near
  pub far : UpWhere x.far

pub any_bearer : (bearer : ℕ) (o : Option LinkEnd) (e : LinkEnd) (s : SessionEnd) → IsUpAt bearer o e s → IsUpAt s.bearer o e s
any_bearer bearer o e s h = record { end_is = h.end_is; up = h.up; session_is = h.session_is; epoch_is = h.epoch_is; bearer_is = refl; few = h.few }

pub ends_up : (x : PairEnds) → AreEnds x → AreUp x
ends_up x h = record {
  near = λ e is up. (let r = h.near e is up in (r.session, any_bearer x.bearer x.near e r.session r.up_at));
  far = λ e is up. (let r = h.far e is up in (r.session, any_bearer (1 - x.bearer) x.far e r.session r.up_at));
}

up_beside_held : (near far : Option LinkEnd) → (is_held_at near ≡ true → is_up_at far ≡ true) → UpWhere far → (e : LinkEnd) → near ≡ Some e → is_held e.fsm.state ≡ true → (f : LinkEnd) × (u : SessionEnd) × IsUpAt u.bearer far f u
up_beside_held near far held up e is so =
    let f = far_end far (held (ap is_held_at is ∙ so)) in
    let k = up f.0 f.1 f.2 in
    (f.0, k.0, k.1)

pub are_carried : (x : PairEnds) → AreUp x → HeldUp x → AreCarried x
are_carried x up held = (up_beside_held x.near x.far held.near up.far, up_beside_held x.far x.near held.far up.near)

-- ---- both ends

-- a link that is up isn't released
near_stays : (x : PairEnds) (e : LinkEnd) → x.near ≡ Some e → is_up e.fsm.state ≡ true → (release_near x).pair.near ≡ x.near
near_stays x e is up = elim (is_clear x.far) as (λ b. (if b then record (rests (record x { near = option_map let_go x.near })) { states = let_go_frames x.near } else rests x).pair.near ≡ x.near) [
  | true ↦ ap (option_map let_go) is ∙ (ap Some (let_go_not e (up_not_held e.fsm.state up)) ∙ sym is)
  | false ↦ refl
]

far_carried : (x : PairEnds) → HasFarUp (turned_pair x) → HasFarUp (turned_pair (release_near x).pair)
far_carried x h e is held =
    let k = h e (sym (far_stays x) ∙ is) held in
    let stays = near_stays x k.0 k.2.end_is k.2.up in
    (k.0, k.1, subst (λ o. IsUpAt k.1.bearer o k.0 k.1) (sym stays) k.2)

pub become_later : (b : Bearer) (x y : SendingEnds) (t : Traffic) (z : State) (h : Become b x t z) → Become b y t h.state → Become b y t z
become_later b x y t z h k = record { state = k.state; follows = follows_then b z h.state k.state h.follows k.follows; stand = k.stand }

number_back : (b : Bearer) → beside (number_as (other b)) ≡ number_as b
number_back First = refl
number_back Second = refl

number_twice : (b : Bearer) → beside (beside (number_as (other b))) ≡ number_as (other b)
number_twice First = refl
number_twice Second = refl

pub bearer_back : (b : Bearer) (bearer : ℕ) → bearer ≡ number_as (other b) → beside bearer ≡ number_as b
bearer_back b bearer is = ap beside is ∙ number_back b

pub bearer_twice : (b : Bearer) (bearer : ℕ) → bearer ≡ number_as (other b) → beside (beside bearer) ≡ bearer
bearer_twice b bearer is = ap (λ n. beside (beside n)) is ∙ (number_twice b ∙ sym is)

-- the ends of a pair that was seen from its far link
pub ends_back : (b : Bearer) (y : PairEnds) → y.bearer ≡ number_as (other b) → turned_ends (ends_seen (turned_pair y)) ≡ ends_seen y
ends_back b y is = ap (λ n. record { bearer = n; near = (ends_seen y).near; far = (ends_seen y).far }) (bearer_twice b y.bearer is)

-- what became of a pair that is seen from its far link
pub become_back : (b : Bearer) (y : PairEnds) (t : Traffic) (z : State) → Become (other b) (ends_seen y) (turned_traffic t) (turned_state z) → Become b (ends_seen (turned_pair y)) t z
become_back b y t z h =
    let is = h.stand.bearer in become_turned b (ends_seen (turned_pair y)) t z (subst (λ e. Become (other b) e (turned_traffic t) (turned_state z)) (sym (ends_back b y is)) h) (bearer_back b y.bearer is)

pub released_follow : (b : Bearer) (x : PairEnds) (t : Traffic) (z : State) → AreCarried x → StandFor b (ends_seen x) t z → Become b (ends_seen (released x).pair) t z
unfolding released going_on
released_follow b x t z carried stand =
    let one = (release_near x).pair in
    let first = releases_on b x t z carried.0 stand in
    let far = releases_on (other b) (turned_pair one) (turned_traffic t) (turned_state first.state) (far_carried x carried.1) (stand_turned b (ends_seen one) t first.state first.stand) in
    let two = (release_near (turned_pair one)).pair in
    become_later b (ends_seen one) (ends_seen (turned_pair two)) t z first (become_back b two t first.state far)
