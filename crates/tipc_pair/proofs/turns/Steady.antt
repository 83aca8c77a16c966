-- A link that is up after a step of a pair has the link states that it had before it, where nothing but the pair was the cause: no such step makes
-- a link go up, or lets it be silent for longer.
use Rattle.std.specs.Prelude.{◌==◌, ◌&&◌, if◌then◌else◌}
use Rattle.std.proofs.Common.{◌≡◌, ◌≤◌, ◌∙◌, ◌+◌, ℕ, Bool, true, false, List, Option, Some, None, option_map, refl, sym, ap, subst, arith}
use Rattle.std.proofs.lemmas.Bool.Decides.{nat_tests}
use Rattle.tipc_types.specs.LinkStates.{is_up}
use Rattle.tipc_types.specs.declared.link_words.BroadcastState.{BroadcastState}
use Rattle.tipc_types.specs.declared.packet_lists.Taken.{Taken}
use Rattle.tipc_outside.specs.declared.outgoing.Outgoing.{Outgoing}
use Rattle.tipc_header.specs.declared.packet.ChangeoverType.{ChangeoverType}
use Rattle.tipc_header.specs.declared.packet.ChangeoverType.TheVariants as kind
use Rattle.tipc_header.specs.Spelling.{Fields}
use Rattle.tipc_tunnel.specs.Tunnels.{Tunnelled}
use Rattle.tipc_recv_window.specs.declared.outcomes.LinkOutcome.{LinkOutcome}
use Rattle.tipc_link_fsm.specs.declared.changes.Change.{Change}
use Rattle.tipc_link_fsm.specs.declared.changes.Change.TheVariants.{Answer, Down, Ignore, Stay, Up}
use Rattle.tipc_link_fsm.specs.Table.{Fsm, Outcome, forget_peer, is_held, is_peer, lowered, on_cut, on_peer_tunnel, on_tick, release}
use Rattle.tipc_link_fsm.proofs.Moves.{cases_on}
use Rattle.tipc_link.specs.Links.{LinkEnd, after, answered_with, arrival_end, cut_end, handed_over, mended_end, tunnelled_down, with_session, without_waiting}
use Rattle.tipc_link.specs.Sessions.{SessionEnd, flushed}
use Rattle.tipc_pair.specs.declared.changes.PairOutcome.{PairOutcome}
use Rattle.tipc_pair.specs.Changeovers.{contact_begins, contact_ends, fail_over, fail_over_to, failing, following, forgetting, forgotten, gone_down, gone_up, is_clear, let_go, loaded, parted, release_near, released, risen, switch, switch_from, switching}
use Rattle.tipc_pair.specs.Courses.{Course, going_on, rests}
use Rattle.tipc_pair.specs.Facing.{PairEnds, facing, in_contact, is_up_at, other, turned, with_far, with_made, with_near}
use Rattle.tipc_pair.specs.PairArrivals.{OpensInto, Unwraps, inner_at, inner_taken, met, taken_down, tunnelled_at}
use Rattle.tipc_pair.specs.PairArrivals.OpensInto.{deferred, ignored, opens}
use Rattle.tipc_pair.specs.PairArrivals.Unwraps.{as_it_is, none_taken, tunnel}
use Rattle.tipc_pair.specs.PairCalls.{answered_at, answered_near, cut_at, cut_near, mended, mended_near, stepped, tick_at, tick_near}
use Rattle.tipc_pair.specs.Messages.{pieces_for}
use Rattle.tipc_pair.specs.PairTurns.{PutsAll, PutsOne, Reply, made_near, replied}
use Rattle.tipc_pair.specs.PairTurns.PutsAll.{none_put, puts_one}
use Rattle.tipc_pair.specs.Runs.{left_by, taken_over}
use Rattle.tipc_pair.proofs.Facings.{facing_far, facing_near}
use Rattle.tipc_pair.proofs.acts.Walks.{tested}
-- ---- a link end
use Rattle.tipc_pair.proofs.ArrivalLaws.{inner_fsm}
use Rattle.tipc_pair.proofs.turns.PairPuts.{answered_states as answered_fsm}
use Rattle.tipc_pair.proofs.HeldLaws.{parted_down}

-- the link states, where there is an end
abbrev pub states_in : Option LinkEnd → Option Fsm
states_in o = option_map (λ (e : LinkEnd). e.fsm) o

-- where the link is up afterwards, its states are as before
abbrev pub Steady : Option LinkEnd → Option LinkEnd → Type 0
Steady o o' = is_up_at o' ≡ true → states_in o' ≡ states_in o

-- anything may have become of it
abbrev pub Anyhow : Option LinkEnd → Option LinkEnd → Type 0
Anyhow o o' = Unit {0}

abbrev up_in : Option Fsm → Bool
up_in None = false
up_in (Some f) = is_up f.state

up_by : (o : Option LinkEnd) → is_up_at o ≡ up_in (states_in o)
up_by None = refl
up_by (Some e) = refl

-- ends with the same link states are up alike
pub same_up : (o p : Option LinkEnd) → states_in p ≡ states_in o → is_up_at p ≡ is_up_at o
same_up o p same = up_by p ∙ (ap up_in same ∙ sym (up_by o))

pub steady_itself : (o : Option LinkEnd) → Steady o o
steady_itself o up = refl

pub steady_then : (o p q : Option LinkEnd) → Steady o p → Steady p q → Steady o q
steady_then o p q h k up = let same = k up in same ∙ h (sym (same_up p q same) ∙ up)

pub steady_down : (o p : Option LinkEnd) → is_up_at p ≡ false → Steady o p
steady_down o p down up = absurd (let wrong : false ≡ true = sym down ∙ up in cc)

-- ---- both ends of a pair

-- what became of the near end and of the far one
pub record Ends (R S : Option LinkEnd → Option LinkEnd → Type 0) (x y : PairEnds) : Type 0 where
  pub near : R x.near y.near
  pub far : S x.far y.far
  pub bearer : x.bearer ≤ 1 → y.bearer ≡ x.bearer

abbrev pub AreSteady : PairEnds → PairEnds → Type 0
AreSteady x y = Ends Steady Steady x y

abbrev pub FarSteady : PairEnds → PairEnds → Type 0
FarSteady x y = Ends Anyhow Steady x y

pub bearer_then : (b c d : ℕ) → (b ≤ 1 → c ≡ b) → (c ≤ 1 → d ≡ c) → b ≤ 1 → d ≡ b
bearer_then b c d h k two = let same = h two in k (omega (arith, same, two)) ∙ same

abbrev pub GoesOn : (Option LinkEnd → Option LinkEnd → Type 0) → Type 0
GoesOn R = (o p q : Option LinkEnd) → R o p → R p q → R o q

pub ends_then : (R S : Option LinkEnd → Option LinkEnd → Type 0) → GoesOn R → GoesOn S → (x y z : PairEnds) → Ends R S x y → Ends R S y z → Ends R S x z
ends_then R S r s x y z h k = record {
  near = r x.near y.near z.near h.near k.near;
  far = s x.far y.far z.far h.far k.far;
  bearer = bearer_then x.bearer y.bearer z.bearer h.bearer k.bearer;
}

pub are_steady_itself : (x : PairEnds) → AreSteady x x
are_steady_itself x = record { near = steady_itself x.near; far = steady_itself x.far; bearer = λ two. refl }

pub are_steady_then : (x y z : PairEnds) → AreSteady x y → AreSteady y z → AreSteady x z
are_steady_then x y z h k = ends_then Steady Steady steady_then steady_then x y z h k

pub far_alone : (x y : PairEnds) → AreSteady x y → FarSteady x y
far_alone x y h = record { near = tt; far = h.far; bearer = h.bearer }

-- with another near end from which it goes on
pub from_near : (x y : PairEnds) (e : LinkEnd) → AreSteady (with_near x e) y → FarSteady x y
from_near x y e h = record { near = tt; far = h.far; bearer = h.bearer }

-- seen from the other link
pub ends_turned : (R S : Option LinkEnd → Option LinkEnd → Type 0) (x y : PairEnds) → Ends S R (turned x) y → Ends R S x (turned y)
ends_turned R S x y h = record {
  near = h.far;
  far = h.near;
  bearer = λ two. let same : y.bearer ≡ other x.bearer = h.bearer (omega arith) in omega (arith, same, two);
}

-- and from the link of a bearer, which is the near one, or the far one
pub ends_here : (R S : Option LinkEnd → Option LinkEnd → Type 0) (b : ℕ) (x y : PairEnds) → (x.bearer == b) ≡ true → x.bearer ≤ 1 → Ends R S (facing b x) y → Ends R S x (facing x.bearer y)
ends_here R S b x y same two h =
    let is : x.bearer ≡ b = grind (arith, nat_tests, same) in
    let here : facing b x ≡ x = facing_near b x is in
    let k : Ends R S x y = subst (λ z. Ends R S z y) here h in
    subst (Ends R S x) (sym (facing_near x.bearer y (k.bearer two))) k

pub ends_there : (R S : Option LinkEnd → Option LinkEnd → Type 0) (b : ℕ) (x y : PairEnds) → (x.bearer == b) ≡ false → x.bearer ≤ 1 → Ends R S (facing b x) y → Ends S R x (facing x.bearer y)
ends_there R S b x y differs two h =
    let here : facing b x ≡ turned x = facing_far b x differs in
    let k : Ends R S (turned x) y = subst (λ z. Ends R S z y) here h in
    let away : y.bearer ≡ other x.bearer = k.bearer (omega arith) in
    let none : (other x.bearer == x.bearer) ≡ false = grind (arith, nat_tests, two) in
    subst (Ends S R x) (sym (facing_far x.bearer y (ap (λ n. n == x.bearer) away ∙ none))) (ends_turned S R x y k)

pub ends_facing : (R S T : Option LinkEnd → Option LinkEnd → Type 0) → ((o p : Option LinkEnd) → R o p → T o p) → ((o p : Option LinkEnd) → S o p → T o p)
    → (b : ℕ) (x y : PairEnds) → x.bearer ≤ 1 → Ends R S (facing b x) y → Ends T T x (facing x.bearer y)
ends_facing R S T r s b x y two h = by (x.bearer == b) refl
  where
    by : (t : Bool) → (x.bearer == b) ≡ t → Ends T T x (facing x.bearer y)
    by true same = let k = ends_here R S b x y same two h in record { near = r x.near (facing x.bearer y).near k.near; far = s x.far (facing x.bearer y).far k.far; bearer = k.bearer }
    by false differs = let k = ends_there R S b x y differs two h in record { near = s x.near (facing x.bearer y).near k.near; far = r x.far (facing x.bearer y).far k.far; bearer = k.bearer }

pub steady_facing : (b : ℕ) (x y : PairEnds) → x.bearer ≤ 1 → AreSteady (facing b x) y → AreSteady x (facing x.bearer y)
steady_facing b x y two h = ends_facing Steady Steady Steady (λ o p k. k) (λ o p k. k) b x y two h

-- the link of a bearer
pub ends_on : (R : Option LinkEnd → Option LinkEnd → Type 0) (b : ℕ) (x y : PairEnds) → x.bearer ≤ 1 → Ends R R x y → R (facing b x).near (facing b y).near
ends_on R b x y two h = by (x.bearer == b) refl
  where
    on : (y.bearer == b) ≡ (x.bearer == b)
    on = ap (λ n. n == b) (h.bearer two)

    by : (t : Bool) → (x.bearer == b) ≡ t → R (facing b x).near (facing b y).near
    by true same =
        let here : facing b x ≡ x = facing_near b x (grind (arith, nat_tests, same)) in
        let is : (y.bearer == b) ≡ true = on ∙ same in
        let there : facing b y ≡ y = facing_near b y (grind (arith, nat_tests, is)) in
        subst (λ z. R z.near (facing b y).near) (sym here) (subst (λ z. R x.near z.near) (sym there) h.near)
    by false differs =
        let here : facing b x ≡ turned x = facing_far b x differs in
        let there : facing b y ≡ turned y = facing_far b y (on ∙ differs) in
        subst (λ z. R z.near (facing b y).near) (sym here) (subst (λ z. R x.far z.near) (sym there) h.far)

pub steady_on : (b : ℕ) (x y : PairEnds) → x.bearer ≤ 1 → AreSteady x y → Steady (facing b x).near (facing b y).near
steady_on b x y two h = ends_on Steady b x y two h

-- ---- ends that keep their link states, or go down

-- another near end
pub near_steady : (x : PairEnds) (e : LinkEnd) → Steady x.near (Some e) → AreSteady x (with_near x e)
near_steady x e h = record { near = h; far = steady_itself x.far; bearer = λ two. refl }

pub far_steady : (x : PairEnds) (e : LinkEnd) → Steady x.far (Some e) → AreSteady x (with_far x e)
far_steady x e h = record { near = steady_itself x.near; far = h; bearer = λ two. refl }

-- an end that is the one that there was, with the same link states
pub same_steady : (o : Option LinkEnd) (e e' : LinkEnd) → o ≡ Some e → e'.fsm ≡ e.fsm → Steady o (Some e')
same_steady o e e' is same up = ap (λ (f : Fsm). Some f) same ∙ sym (ap states_in is)

pub cut_steady : (e : LinkEnd) (held : Bool) → Steady (Some e) (Some (cut_end e held))
unfolding on_cut
cut_steady e held = cases_on (λ (o : Outcome). is_up o.after.state ≡ true → Some o.after ≡ Some e.fsm) (is_up e.fsm.state) _ _ (λ up. steady_down (Some e) (Some (record e { fsm = lowered e.fsm held })) (lowered_down e.fsm held)) (λ down up. refl)
  where
    lowered_down : (f : Fsm) (held : Bool) → is_up (lowered f held).state ≡ false
    lowered_down f true = refl
    lowered_down f false = refl

pub tunnel_steady : (e : LinkEnd) (epoch : ℕ) → Steady (Some e) (Some (tunnelled_down e epoch))
unfolding on_peer_tunnel
tunnel_steady e epoch = cases_on (λ (o : Outcome). is_up o.after.state ≡ true → Some o.after ≡ Some e.fsm) (is_up e.fsm.state && is_peer e.fsm.peer epoch) _ _ (λ down up. cc) (λ not up. refl)

pub let_go_steady : (o : Option LinkEnd) → Steady o (option_map let_go o)
unfolding release
let_go_steady None up = refl
let_go_steady (Some e) up = cases_on (λ (o : Outcome). is_up o.after.state ≡ true → Some o.after ≡ Some e.fsm) (is_held e.fsm.state) _ _ (λ held gone. cc) (λ not still. refl) up

pub forgotten_down : (seen : ℕ) (o : Option LinkEnd) → is_up_at (option_map (forgetting seen) o) ≡ false
unfolding forget_peer
forgotten_down seen None = refl
forgotten_down seen (Some e) = cases_on (λ (o : Outcome). is_up o.after.state ≡ false) (is_up e.fsm.state) _ _ (λ up. refl) (λ down. refl)

-- ---- release

pub release_steady : (x : PairEnds) → AreSteady x (release_near x).pair
release_steady x = tested (λ (c : Course). AreSteady x c.pair) (is_clear x.far) _ _
    (λ _. record { near = let_go_steady x.near; far = steady_itself x.far; bearer = λ two. refl }) (λ _. are_steady_itself x)

pub released_steady : (x : PairEnds) → AreSteady x (released x).pair
unfolding released going_on
released_steady x =
    let y = (release_near x).pair in
    are_steady_then x y (turned (release_near (turned y)).pair) (release_steady x) (ends_turned Steady Steady y (release_near (turned y)).pair (release_steady (turned y)))

-- ---- what follows when a link goes up or down

failing_steady : (x : PairEnds) (near far : LinkEnd) (lost s : Option SessionEnd) → x.near ≡ Some near → x.far ≡ Some far → AreSteady x (failing x near far lost s).pair
failing_steady x near far (Some lost) (Some s) one two =
    record { near = same_steady x.near near (handed_over near) one refl; far = same_steady x.far far (loaded far s (left_by lost)) two refl; bearer = λ _. refl }
failing_steady x near far (Some lost) None one two = are_steady_itself x
failing_steady x near far None (Some s) one two = are_steady_itself x
failing_steady x near far None None one two = are_steady_itself x

fail_steady : (x : PairEnds) (near far : Option LinkEnd) → x.near ≡ near → x.far ≡ far → AreSteady x (fail_over_to x near far).pair
fail_steady x (Some near) (Some far) one two = failing_steady x near far near.session far.session one two
fail_steady x (Some near) None one two = are_steady_itself x
fail_steady x None (Some far) one two = are_steady_itself x
fail_steady x None None one two = are_steady_itself x

pub fail_over_steady : (x : PairEnds) → AreSteady x (fail_over x).pair
fail_over_steady x = fail_steady x x.near x.far refl refl

switching_steady : (x : PairEnds) (near far : LinkEnd) (s old : Option SessionEnd) → x.near ≡ Some near → x.far ≡ Some far → AreSteady x (switching x near far s old).pair
switching_steady x near far (Some s) (Some old) one two =
    record { near = same_steady x.near near (loaded near s (taken_over old)) one refl; far = same_steady x.far far (without_waiting far) two refl; bearer = λ _. refl }
switching_steady x near far (Some s) None one two = are_steady_itself x
switching_steady x near far None (Some old) one two = are_steady_itself x
switching_steady x near far None None one two = are_steady_itself x

switch_to_steady : (x : PairEnds) (near far : Option LinkEnd) → x.near ≡ near → x.far ≡ far → AreSteady x (switch_from x near far).pair
switch_to_steady x (Some near) (Some far) one two = switching_steady x near far near.session far.session one two
switch_to_steady x (Some near) None one two = are_steady_itself x
switch_to_steady x None (Some far) one two = are_steady_itself x
switch_to_steady x None None one two = are_steady_itself x

pub switch_steady : (x : PairEnds) → AreSteady x (switch x).pair
switch_steady x = switch_to_steady x x.near x.far refl refl

-- a contact ends: both ends are down
pub parted_steady : (x : PairEnds) → AreSteady x (parted x)
parted_steady x = record {
  near = steady_down x.near _ (parted_down (x.contact + 1) x.seen x.near);
  far = steady_down x.far _ (parted_down (x.contact + 1) x.seen x.far);
  bearer = λ _. refl;
}

pub gone_up_steady : (x : PairEnds) → AreSteady x (gone_up x).pair
gone_up_steady x = tested (λ (c : Course). AreSteady x c.pair) (is_up_at x.far) (if x.bearer == 0 then switch x else rests x) (contact_begins x)
    (λ _. tested (λ (c : Course). AreSteady x c.pair) (x.bearer == 0) (switch x) (rests x) (λ _. switch_steady x) (λ _. are_steady_itself x))
    (λ _. record { near = steady_itself x.near; far = steady_itself x.far; bearer = λ _. refl })

pub gone_down_steady : (x : PairEnds) → AreSteady x (gone_down x).pair
gone_down_steady x = tested (λ (c : Course). AreSteady x c.pair) (is_up_at x.far) (fail_over x) (contact_ends x (x.contact, x.seen) 0) (λ _. fail_over_steady x) (λ _. parted_steady x)

pub following_steady : (x : PairEnds) (change : Change) (epoch : ℕ) → AreSteady x (following x change epoch).pair
following_steady x Up epoch = gone_up_steady x
following_steady x (Down because) epoch = gone_down_steady x
following_steady x Stay epoch = are_steady_itself x
following_steady x (Answer back) epoch = are_steady_itself x
following_steady x (Ignore reason) epoch = are_steady_itself x

-- ---- a higher contact number, after which no link is up

-- no link of a pair is up
pub record AreDown (x : PairEnds) : Type 0 where
  pub near : is_up_at x.near ≡ false
  pub far : is_up_at x.far ≡ false

pub risen_down : (x : PairEnds) (number : ℕ) → AreDown (risen x number).pair
risen_down x number = tested (λ (c : Course). AreDown c.pair) (in_contact x) (contact_ends (record x { seen = number }) (x.contact, x.seen) number) (rests (forgotten x number))
    (λ _. record { near = parted_down (x.contact + 1) number x.near; far = parted_down (x.contact + 1) number x.far })
    (λ _. record { near = forgotten_down number x.near; far = forgotten_down number x.far })

risen_on : (x : PairEnds) (number : ℕ) → (risen x number).pair.bearer ≡ x.bearer
risen_on x number = tested (λ (c : Course). c.pair.bearer ≡ x.bearer) (in_contact x) (contact_ends (record x { seen = number }) (x.contact, x.seen) number) (rests (forgotten x number)) (λ _. refl) (λ _. refl)

pub risen_steady : (x : PairEnds) (number : ℕ) → AreSteady x (risen x number).pair
risen_steady x number = let down = risen_down x number in record { near = steady_down x.near _ down.near; far = steady_down x.far _ down.far; bearer = λ _. risen_on x number }

-- ---- a bearer is mended or cut

mended_to_steady : (x : PairEnds) (o : Option LinkEnd) → x.near ≡ o → AreSteady x (mended_near x o)
mended_to_steady x None is = are_steady_itself x
mended_to_steady x (Some e) is = near_steady x (mended_end e) (same_steady x.near e (mended_end e) is refl)

pub mended_steady : (x : PairEnds) → AreSteady x (mended x).pair
mended_steady x = mended_to_steady x x.near refl

-- an end that is made isn't up
new_steady : (x : PairEnds) → AreSteady x (with_made x)
new_steady x = record { near = steady_down x.near (with_made x).near refl; far = steady_itself x.far; bearer = λ two. refl }

pub made_steady : (is_mended : Bool) (x : PairEnds) → AreSteady x (made_near is_mended x).pair
unfolding going_on
made_steady true x = are_steady_then x (with_made x) (mended (with_made x)).pair (new_steady x) (mended_steady (with_made x))
made_steady false x = new_steady x

pub cut_at_steady : (x : PairEnds) (o : Option LinkEnd) → x.near ≡ o → AreSteady x (cut_at x o).pair
cut_at_steady x None is = are_steady_itself x
cut_at_steady x (Some e) is =
    let held = is_up_at x.far in
    let y = with_near x (cut_end e held) in
    are_steady_then x y (following y (on_cut e.fsm held).change 0).pair (near_steady x (cut_end e held) (subst (λ o. Steady o (Some (cut_end e held))) (sym is) (cut_steady e held))) (following_steady y (on_cut e.fsm held).change 0)

pub cut_near_steady : (x : PairEnds) → AreSteady x (cut_near x).pair
unfolding going_on
cut_near_steady x = let y = (cut_at x x.near).pair in are_steady_then x y (released y).pair (cut_at_steady x x.near refl) (released_steady y)

-- ---- a tick

-- from the near end after its outcome
pub stepped_steady : (x : PairEnds) (e : LinkEnd) (o : Outcome) (epoch : ℕ) (shown : BroadcastState) → AreSteady (with_near x (after e o)) (stepped x e o epoch shown).pair
unfolding going_on
stepped_steady x e o epoch shown = following_steady (with_near x (after e o)) o.change epoch

tick_at_steady : (shown : BroadcastState) (x : PairEnds) (o : Option LinkEnd) → FarSteady x (tick_at shown x o).pair
tick_at_steady shown x None = far_alone x x (are_steady_itself x)
tick_at_steady shown x (Some e) = from_near x _ (after e (on_tick e.fsm (is_up_at x.far))) (stepped_steady x e (on_tick e.fsm (is_up_at x.far)) 0 shown)

pub tick_near_steady : (shown : BroadcastState) (x : PairEnds) → FarSteady x (tick_near shown x).pair
tick_near_steady shown x = tick_at_steady shown x x.near

-- ---- an arrival

pub met_steady : (x : PairEnds) (e : LinkEnd) (o : Outcome) (p : Fields) (es by : ℕ) (shown : BroadcastState) → AreSteady (with_near x (arrival_end e o p by)) (met x e o p es by shown).course.pair
unfolding going_on
met_steady x e o p es by shown = following_steady (with_near x (arrival_end e o p by)) o.change es

-- ---- what was taken is opened

pub tunnelled_steady : (epoch : ℕ) (x : PairEnds) (o : Option LinkEnd) → x.near ≡ o → AreSteady x (tunnelled_at epoch x o).pair
tunnelled_steady epoch x None is = are_steady_itself x
tunnelled_steady epoch x (Some e) is =
    let y = with_near x (tunnelled_down e epoch) in
    let change = (on_peer_tunnel e.fsm epoch).change in
    are_steady_then x y (following y change epoch).pair (near_steady x (tunnelled_down e epoch) (subst (λ o. Steady o (Some (tunnelled_down e epoch))) (sym is) (tunnel_steady e epoch))) (following_steady y change epoch)

pub taken_down_steady : (t : ChangeoverType) (epoch : ℕ) (x : PairEnds) → AreSteady x (taken_down t epoch x).pair
taken_down_steady kind.Duplicate epoch x = are_steady_itself x
taken_down_steady kind.Original epoch x = ends_turned Steady Steady x (tunnelled_at epoch (turned x) x.far).pair (tunnelled_steady epoch (turned x) x.far refl)

pub inner_steady : (t : Tunnelled) (by : ℕ) (x : PairEnds) (o : Option LinkEnd) → x.far ≡ o → AreSteady x (inner_at t by x o).pair
inner_steady t by x None is = are_steady_itself x
inner_steady t by x (Some e) is = far_steady x (inner_taken t by e) (same_steady x.far e (inner_taken t by e) is (inner_fsm t by e))

pub unwraps_steady : (x : PairEnds) (taken carried : List Taken) (c : Course) → Unwraps x taken c carried → AreSteady x c.pair
unfolding going_on
unwraps_steady x _ _ _ none_taken = are_steady_itself x
unwraps_steady x _ _ _ (as_it_is first others none) = are_steady_itself x
unwraps_steady x _ _ _ (tunnel first others t speaks) =
    let y = (taken_down t.kind t.old.epoch x).pair in
    are_steady_then x y (inner_at t first.by y y.far).pair (taken_down_steady t.kind t.old.epoch x) (inner_steady t first.by y y.far refl)

pub opens_steady : (x : PairEnds) (outcome : LinkOutcome) (c : Course) (given : PairOutcome) → OpensInto x outcome c given → AreSteady x c.pair
opens_steady x _ _ _ (opens {taken} {carried} {c} {given} {last} unwraps brings) = let h = unwraps_steady x taken carried c unwraps in record { near = h.near; far = h.far; bearer = h.bearer }
opens_steady x _ _ _ deferred = are_steady_itself x
opens_steady x _ _ _ ignored = are_steady_itself x

-- ---- what is put, and the answer

pub put_steady : (x : PairEnds) (pieces : List (List ℕ)) (y : PairEnds) (frames : List Outgoing) → x.bearer ≤ 1 → PutsOne x pieces y frames → AreSteady x y
put_steady x pieces y frames two h =
    let p = h.puts in
    let z = facing h.bearer x in
    let end = with_session p.end (flushed p.put) in
    let near : AreSteady z h.near = subst (AreSteady z) (sym p.after) (near_steady z end (same_steady z.near p.end end p.end_is refl)) in
    subst (AreSteady x) (sym h.after) (steady_facing h.bearer x h.near two near)

pub puts_steady : (x : PairEnds) (messages : List (List ℕ)) (frames : List Outgoing) (y : PairEnds) → x.bearer ≤ 1 → PutsAll x messages frames y → AreSteady x y
puts_steady x _ _ _ two (none_put _) = are_steady_itself x
puts_steady x _ _ last two (puts_one _ between _ m messages first frames one all) =
    let h = put_steady x (pieces_for m) between first two one in
    let same = h.bearer two in
    are_steady_then x between last h (puts_steady between messages frames last (omega (arith, same, two)) all)

pub answered_steady : (x : PairEnds) (o : Option LinkEnd) (taken : ℕ) (asks : Bool) (shown : BroadcastState) → x.near ≡ o → AreSteady x (answered_at x o taken asks shown).pair
answered_steady x None taken asks shown is = are_steady_itself x
answered_steady x (Some e) taken asks shown is = near_steady x (answered_with e taken asks) (same_steady x.near e (answered_with e taken asks) is (answered_fsm e taken asks))

pub replied_steady : (reply : Option Reply) (x : PairEnds) → x.bearer ≤ 1 → AreSteady x (replied reply x).pair
replied_steady None x two = are_steady_itself x
replied_steady (Some r) x two =
    let y = facing r.bearer x in
    steady_facing r.bearer x (answered_near r.taken r.asks r.shown y).pair two (answered_steady y y.near r.taken r.asks r.shown refl)
