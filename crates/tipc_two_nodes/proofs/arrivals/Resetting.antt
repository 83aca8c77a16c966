-- A RESET arrives at a pair that shows the highest contact number seen, and keeps two nodes what they are.
use Rattle.std.proofs.Common.{◌≡◌, ◌&&◌, ◌≤◌, ℕ, Bool, true, false, if◌then◌else◌, List, Option, Some, None, refl, sym, ap, ◌∙◌, subst, append-nil}
use Rattle.std.specs.Prelude.{not}
use Rattle.std.proofs.lemmas.Bool.{and_parts, true≢false}
use Rattle.tipc_types.specs.declared.link_words.BroadcastState.{BroadcastState}
use Rattle.tipc_contact.specs.Sides.{IsNoticed}
use Rattle.tipc_link.specs.Links.{LinkEnd, is_down}
use Rattle.tipc_link.specs.Parts.{IsShowable}
use Rattle.tipc_link_fsm.specs.Runs.{ResetArrives}
use Rattle.tipc_pair.specs.Courses.{Course, rests, sent_in}
use Rattle.tipc_pair.specs.Facing.{PairEnds, is_up_at}
use Rattle.tipc_pair.specs.PairArrivals.{Heard, behind, reset_change, reset_given, reset_near}
use Rattle.tipc_pair.proofs.HeldLaws.{reset_holds}
use Rattle.tipc_two_nodes.specs.links.Turning.{AreEnds}
use Rattle.tipc_two_nodes.proofs.links.calls.States.{reset_turns}
use Rattle.tipc_paired.specs.Views.{View, said_by}
use Rattle.tipc_two_nodes.proofs.deeds.Chains.{did_as}
use Rattle.tipc_two_nodes.proofs.deeds.Noticing.{IsAlone, hand_none, not_up, reset_alone, called_alone}
use Rattle.tipc_two_nodes.proofs.deeds.Pairs.{takes_rest}
use Rattle.tipc_two_nodes.proofs.deeds.Stepping.{CanHand}
use Rattle.tipc_two_nodes.specs.deeds.PairDeeds.{IsOfPair, both_more, called_more, none_more}
use Rattle.tipc_two_nodes.specs.Carrying.{KeepsCarried}
use Rattle.tipc_two_nodes.specs.Twins.{AreTwins}
use Rattle.tipc_two_nodes.proofs.calls.QuietCourses.{carried_then, numbers_same, quiet_carried}
use Rattle.tipc_two_nodes.proofs.arrivals.StepKeeps.{step_carried}

-- the packets that were numbered are these as well
pub carried_as : (v y : View) (h : AreTwins v y) (c : Course) (n m : ℕ → ℕ → List (List ℕ)) → KeepsCarried v y h c n → ((b k : ℕ) → n b k ≡ m b k) → KeepsCarried v y h c m
carried_as v y h c n m k same = (k.0, record { did = did_as v y k.0 (sent_in c) (sent_in c) n m none_more none_more k.1.did (λ P each. each) same (λ b k. refl); pair = k.1.pair }, k.2, k.3)

pub carried_rest : (v y : View) (p : PairEnds) (h : AreTwins v y) → IsOfPair v p → KeepsCarried v y h (rests p) none_more
carried_rest v y p h pair = quiet_carried v y p (rests p) h pair (takes_rest v y p pair) (numbers_same p) refl refl

-- the near end is given a RESET
given_carried : (v y : View) (x : PairEnds) (o : Option LinkEnd) (es : ℕ) (held : Bool) (shown : BroadcastState) (h : AreTwins v y) → IsOfPair v x → x.near ≡ o → IsNoticed (said_by y) x.bearer es v.node.seen → AreEnds x → CanHand v x → (is_up_at x.far ≡ true → held ≡ true) → IsShowable shown
    → KeepsCarried v y h (reset_given es held shown x o).course (called_more x o (ResetArrives es held))
given_carried v y x None es held shown h pair is told ends hand carried showable = carried_rest v y x h pair
given_carried v y x (Some e) es held shown h pair is told ends hand carried showable =
    step_carried v y x e (ResetArrives es held) held es shown h pair (record {
      ends = ends;
      hand = hand;
      near = is;
      may = told;
      holds = reset_holds e.fsm es held;
      turn = reset_turns e.fsm es held;
      carried = carried;
    }) showable

-- ---- no link is up

pub alone_ends : (q : PairEnds) → q.bearer ≤ 1 → is_up_at q.near ≡ false → is_up_at q.far ≡ false → AreEnds q
alone_ends q two near far = record {
  two_bearers = two;
  near = λ e is up. absurd (true≢false (sym up ∙ (ap is_up_at (sym is) ∙ near)));
  far = λ e is up. absurd (true≢false (sym up ∙ (ap is_up_at (sym is) ∙ far)));
}

alone_given : (v y : View) (q : PairEnds) (seen bearer es : ℕ) (held : Bool) (shown : BroadcastState) (h : AreTwins v y) → IsOfPair v q → IsAlone seen bearer q → IsNoticed (said_by y) bearer es seen → IsShowable shown
    → KeepsCarried v y h (reset_given es held shown q q.near).course none_more
alone_given v y q seen bearer es held shown h pair alone told showable =
    let told' : IsNoticed (said_by y) q.bearer es v.node.seen = subst (λ b. IsNoticed (said_by y) b es v.node.seen) (sym alone.bearer_is) (subst (IsNoticed (said_by y) bearer es) (sym (pair.seen ∙ alone.seen_is)) told) in
    subst (λ n. KeepsCarried v y h (reset_given es held shown q q.near).course n) (called_alone q q.near es held alone.far)
    (given_carried v y q q.near es held shown h pair refl told' (alone_ends q pair.two_bearers alone.near alone.far) (hand_none v q pair alone.near alone.far) (λ up. absurd (true≢false (sym up ∙ alone.far))) showable)

-- ---- one that takes the last link down is given again

pub reset_near_carried : (v y : View) (x : PairEnds) (es : ℕ) (shown : BroadcastState) (h : AreTwins v y) → IsOfPair v x → IsNoticed (said_by y) x.bearer es x.seen → AreEnds x → CanHand v x → IsShowable shown
    → KeepsCarried v y h (reset_near es shown x).course (called_more x x.near (ResetArrives es (is_up_at x.far)))
reset_near_carried v y x es shown h pair told ends hand showable =
    let held = is_up_at x.far in
    let more = called_more x x.near (ResetArrives es held) in
    let first = reset_given es held shown x x.near in
    let again : PairEnds → Heard = λ q. reset_given es false shown q q.near in
    let once = given_carried v y x x.near es held shown h pair refl (subst (IsNoticed (said_by y) x.bearer es) (sym pair.seen) told) ends hand (λ up. up) showable in
    elim (is_down (reset_change es held x.near) && not held) as (λ t. (is_down (reset_change es held x.near) && not held) ≡ t → KeepsCarried v y h (if t then behind first.course again else first).course more) [
      | true ↦ λ ended.
          let both = and_parts (is_down (reset_change es held x.near)) (not held) ended in
          let alone = reset_alone x x.near es held shown both.0 (not_up held both.1) in
          carried_as v y h (behind first.course again).course (both_more more none_more) more
          (carried_then v y h first.course (λ q. (again q).course) more none_more once (λ mid twins of_mid. alone_given mid y first.course.pair x.seen x.bearer es false shown twins of_mid alone told showable)) (λ i k. append-nil (more i k))
      | false ↦ λ _. once
    ] refl

-- at a pair no link of which is up
pub alone_reset : (v y : View) (q : PairEnds) (seen bearer es : ℕ) (shown : BroadcastState) (h : AreTwins v y) → IsOfPair v q → IsAlone seen bearer q → IsNoticed (said_by y) bearer es seen → IsShowable shown → KeepsCarried v y h (reset_near es shown q).course none_more
alone_reset v y q seen bearer es shown h pair alone told showable =
    subst (λ n. KeepsCarried v y h (reset_near es shown q).course n) (called_alone q q.near es (is_up_at q.far) alone.far)
    (reset_near_carried v y q es shown h pair (subst (λ b. IsNoticed (said_by y) b es q.seen) (sym alone.bearer_is) (subst (IsNoticed (said_by y) bearer es) (sym alone.seen_is) told)) (alone_ends q pair.two_bearers alone.near alone.far) (hand_none v q pair alone.near alone.far) showable)
