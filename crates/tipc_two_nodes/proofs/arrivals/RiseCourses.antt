-- A call takes the near link of a pair up, as the first one or beside the far one: what that makes of the pair.
use Rattle.std.proofs.Common.{◌≡◌, ◌==◌, ℕ, true, false, if◌then◌else◌, Option, Some, None, refl, sym, ap, ◌∙◌, subst}
use Rattle.std.proofs.lemmas.Bool.{true≢false}
use Rattle.tipc_types.specs.declared.link_words.BroadcastState.{BroadcastState}
use Rattle.tipc_link.specs.Links.{LinkEnd, after, followed, is_down, known, record_of, session_of, with_fsm}
use Rattle.tipc_link.specs.Records.{kept_for}
use Rattle.tipc_link.specs.Sessions.{SessionEnd}
use Rattle.tipc_link_fsm.specs.declared.changes.Change.{Change}
use Rattle.tipc_link_fsm.specs.declared.changes.Change.TheVariants.{Up}
use Rattle.tipc_link_fsm.specs.Table.{Fsm, Outcome}
use Rattle.tipc_pair.specs.Changeovers.{contact_begins, following, gone_up, switch, switch_from, switching}
use Rattle.tipc_pair.specs.Courses.{going_on, rests}
use Rattle.tipc_pair.specs.Facing.{PairEnds, is_up_at, with_near}
use Rattle.tipc_pair.specs.PairCalls.{session_at, stepped}
use Rattle.tipc_pair.proofs.EndSteps.{fsm_after}
use Rattle.tipc_two_nodes.specs.links.Receiving.{record_at, Records}
use Rattle.tipc_two_nodes.specs.links.Sending.{end_seen}
use Rattle.tipc_two_nodes.proofs.links.receiver.Remaining.{following_records}
use Rattle.tipc_two_nodes.proofs.links.receiver.Rising.{up_record}
use Rattle.tipc_paired.proofs.sessions.RiseDeeds.{Went}
use Rattle.tipc_paired.proofs.wires.Wires.{same_some}
use Rattle.tipc_paired.specs.Views.{View, epoch_on}
use Rattle.tipc_two_nodes.specs.deeds.PairDeeds.{IsOfPair, followed_more, none_more, switching_more}
use Rattle.tipc_two_nodes.specs.Pieces.{KeepsNumbers}
use Rattle.tipc_two_nodes.proofs.calls.Chaining.{AreNow}
use Rattle.tipc_two_nodes.proofs.contacts.Leaving.{epoch_seen}
use Rattle.tipc_two_nodes.proofs.calls.QuietCourses.{near_numbers, numbers_then}
use Rattle.tipc_two_nodes.proofs.calls.TurnCourses.{following_numbers, more_now}

-- ---- what follows leaves the near link up under its epoch

-- the near link is up as it was, and under the same epoch
pub record StaysRisen (x y : PairEnds) : Type 0 where
  pub bearer : y.bearer ≡ x.bearer
  pub up : is_up_at y.near ≡ is_up_at x.near
  pub epoch : (end_seen y.contact y.near).epoch ≡ (end_seen x.contact x.near).epoch

switching_risen : (z : PairEnds) (near far : LinkEnd) (s old : Option SessionEnd) → z.near ≡ Some near → StaysRisen z (switching z near far s old).pair
switching_risen z near far (Some s) (Some old) is = record { bearer = refl; up = ap is_up_at (sym is); epoch = ap (λ o. (end_seen z.contact o).epoch) (sym is) }
switching_risen z near far (Some s) None is = record { bearer = refl; up = refl; epoch = refl }
switching_risen z near far None old is = record { bearer = refl; up = refl; epoch = refl }

switch_risen : (z : PairEnds) (near far : Option LinkEnd) → z.near ≡ near → StaysRisen z (switch_from z near far).pair
switch_risen z (Some near) (Some far) is = switching_risen z near far near.session far.session is
switch_risen z (Some near) None is = record { bearer = refl; up = refl; epoch = refl }
switch_risen z None far is = record { bearer = refl; up = refl; epoch = refl }

pub up_risen : (z : PairEnds) → StaysRisen z (gone_up z).pair
up_risen z = elim (is_up_at z.far) as (λ t. StaysRisen z (if t then (if z.bearer == 0 then switch z else rests z) else contact_begins z).pair) [
  | true ↦ elim (z.bearer == 0) as (λ t. StaysRisen z (if t then switch z else rests z).pair) [ true ↦ switch_risen z z.near z.far refl | false ↦ record { bearer = refl; up = refl; epoch = refl } ]
  | false ↦ record { bearer = refl; up = refl; epoch = refl }
]

-- ---- the packets get numbers in the present session of the near link

switching_now : (v : View) (b n : ℕ) (s old : Option SessionEnd) → ((u : SessionEnd) → s ≡ Some u → u.epoch ≡ epoch_on v.node (v.wires b)) → AreNow v (switching_more b s old) n
switching_now v b n None old at = λ i differ. refl
switching_now v b n (Some s) None at = λ i differ. refl
switching_now v b n (Some s) (Some old) at = more_now v b s.epoch n _ (at s refl)

pub risen_now : (v : View) (z : PairEnds) (n : ℕ) → ((u : SessionEnd) → session_at z.near ≡ Some u → u.epoch ≡ epoch_on v.node (v.wires z.bearer)) → AreNow v (followed_more z Up) n
risen_now v z n at = elim (is_up_at z.far) as (λ t. AreNow v (if t then (if z.bearer == 0 then switching_more z.bearer (session_at z.near) (session_at z.far) else none_more) else none_more) n) [
  | true ↦ elim (z.bearer == 0) as (λ t. AreNow v (if t then switching_more z.bearer (session_at z.near) (session_at z.far) else none_more) n) [
    | true ↦ switching_now v z.bearer n (session_at z.near) (session_at z.far) at
    | false ↦ λ i differ. refl
  ]
  | false ↦ λ i differ. refl
]

-- ---- the step

-- What a step made of a pair whose near end e went up and became e', under this epoch of the peer.
pub record StepsUp (x y : PairEnds) (e : LinkEnd) (es : ℕ) : Type 0 where
  pub numbers : KeepsNumbers x y
  pub up : is_up_at y.near ≡ true
  pub epoch : (end_seen y.contact y.near).epoch ≡ e.fsm.own
  pub begins : record_at y.near ≡ Some (kept_for (record_of e) es)
  pub stays : record_at y.far ≡ record_at x.far

pub steps_up : (v y : View) (x : PairEnds) (e : LinkEnd) (o : Outcome) (epoch es : ℕ) (shown : BroadcastState) → o.change ≡ Up → Went v y x.bearer e (after e o) es → StepsUp x (stepped x e o epoch shown).pair e es
unfolding going_on
steps_up v y x e o epoch es shown up m =
    let d = after e o in
    let z = with_near x d in
    let q = (following z o.change epoch).pair in
    let pair : (gone_up z).pair ≡ q = ap (λ k. (following z k epoch).pair) (sym up) in
    let R = subst (StaysRisen z) pair (up_risen z) in
    let peer : known o.after.peer ≡ es = ap (λ (f : Fsm). known f.peer) (sym (fsm_after e o)) ∙ ap known m.peer_is in
    let records = following_records z o.change epoch in
    record {
      numbers = numbers_then x z q (near_numbers x _) (following_numbers z o.change epoch (λ down. absurd (true≢false (sym down ∙ ap is_down up))));
      up = R.up ∙ m.raised.up;
      epoch = R.epoch ∙ m.raised.epoch;
      begins = ap (λ (r : Records). r.near) records ∙ up_record e o es up peer;
      stays = ap (λ (r : Records). r.far) records;
    }

-- the session that began is under the epoch that the near link has then
pub step_now : (v' : View) (x y : PairEnds) (e : LinkEnd) (o : Outcome) (es n : ℕ) → o.change ≡ Up → o.after.own ≡ e.fsm.own → IsOfPair v' y → StepsUp x y e es → AreNow v' (followed_more (with_near x (after e o)) o.change) n
step_now v' x y e o es n up own pair m =
    let z = with_near x (after e o) in
    let session : (after e o).session ≡ Some (session_of (with_fsm e o.after)) = ap (λ (k : Change). (followed (with_fsm e o.after) k).session) up in
    let there : epoch_on v'.node (v'.wires z.bearer) ≡ e.fsm.own =
    ap (λ b. epoch_on v'.node (v'.wires b)) (sym m.numbers.bearer) ∙ (sym (epoch_seen v' y.bearer) ∙ (ap (λ k. (end_seen v'.node.contact k).epoch) pair.near ∙ (ap (λ c. (end_seen c y.near).epoch) pair.contact ∙ m.epoch))) in
    subst (λ k. AreNow v' (followed_more z k) n) (sym up) (risen_now v' z n (λ u is. (
    let one : session_of (with_fsm e o.after) ≡ u = same_some (session_of (with_fsm e o.after)) u _ session is in
    ap (λ (s : SessionEnd). s.epoch) (sym one) ∙ (own ∙ sym there))))
