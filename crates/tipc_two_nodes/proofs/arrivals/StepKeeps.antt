-- A call of the near link of a pair, with all that follows, keeps two nodes what they are: the link goes up or down, or stays as it is.
use Rattle.std.proofs.Common.{◌≡◌, ℕ, Bool, true, false, Some, refl, sym, ◌∙◌, subst, inl, inr}
use Rattle.std.proofs.lemmas.Bool.{cases_Bool}
use Rattle.tipc_types.specs.declared.link_words.BroadcastState.{BroadcastState}
use Rattle.tipc_link.specs.Links.{LinkEnd, after, is_down}
use Rattle.tipc_link.specs.Parts.{IsShowable}
use Rattle.tipc_link_fsm.specs.Runs.{Call, outcome}
use Rattle.tipc_link_fsm.specs.Table.{Outcome}
use Rattle.tipc_link_fsm.proofs.Moves.{is_going_up}
use Rattle.tipc_pair.specs.Changeovers.{following}
use Rattle.tipc_pair.specs.Courses.{going_on}
use Rattle.tipc_pair.specs.Facing.{PairEnds, is_up_at, with_near}
use Rattle.tipc_pair.specs.PairCalls.{stepped}
use Rattle.tipc_pair.proofs.HeldLaws.{Holds, stepped_goes}
use Rattle.tipc_changeover.proofs.Staying.{reached_sound}
use Rattle.tipc_two_nodes.specs.links.Turning.{AreEnds, TurnsEnd}
use Rattle.tipc_two_nodes.proofs.links.receiver.Quiet.{going_up, stepped_remains}
use Rattle.tipc_two_nodes.proofs.links.calls.Reacting.{Turned, turns}
use Rattle.tipc_two_nodes.proofs.links.calls.Ticking.{fall_may, may_fall, quiet_rise}
use Rattle.tipc_paired.specs.Deeds.{MayCall}
use Rattle.tipc_paired.specs.Views.{View}
use Rattle.tipc_two_nodes.proofs.deeds.Stepping.{CanHand, stepped_takes}
use Rattle.tipc_two_nodes.specs.deeds.PairDeeds.{IsOfPair, followed_more}
use Rattle.tipc_two_nodes.specs.Carrying.{KeepsCarried}
use Rattle.tipc_two_nodes.specs.Pieces.{KeepsNumbers, state_from, traffic_from}
use Rattle.tipc_two_nodes.specs.Twins.{AreTwins, sends_in}
use Rattle.tipc_two_nodes.proofs.calls.CallCourses.{down_cause, ended_carried}
use Rattle.tipc_two_nodes.proofs.calls.PairViews.{sound_from}
use Rattle.tipc_two_nodes.proofs.calls.QuietCourses.{bearer_of, near_numbers, numbers_then, stand_at}
use Rattle.tipc_two_nodes.proofs.arrivals.RiseKeeps.{rise_carried}
use Rattle.tipc_two_nodes.proofs.calls.TurnCourses.{following_numbers, turn_carried}

-- What a call of the near end e asks of the pair: the links may send what they have, and hand it over; the call is lawful, and e is held where it
-- goes down beside the far link.
pub record MayStep (v y : View) (x : PairEnds) (e : LinkEnd) (call : Call) (held : Bool) : Type 0 where
  pub ends : AreEnds x
  pub hand : CanHand v x
  pub near : x.near ≡ Some e
  pub may : MayCall v y x.bearer call
  pub holds : Holds e.fsm (outcome e.fsm call)
  pub turn : TurnsEnd held e.fsm (outcome e.fsm call)
  pub carried : is_up_at x.far ≡ true → held ≡ true

lower_numbers : (p : PairEnds) (e : LinkEnd) (o : Outcome) (epoch : ℕ) (shown : BroadcastState) → (is_down o.change ≡ true → is_up_at p.far ≡ true) → KeepsNumbers p (stepped p e o epoch shown).pair
unfolding going_on
lower_numbers p e o epoch shown far =
    let z = with_near p (after e o) in
    numbers_then p z (following z o.change epoch).pair (near_numbers p _) (following_numbers z o.change epoch far)

-- no link goes up, and the contact goes on
lower_goes_on : (v y : View) (p : PairEnds) (e : LinkEnd) (call : Call) (held : Bool) (epoch : ℕ) (shown : BroadcastState) (h : AreTwins v y) → IsOfPair v p → MayStep v y p e call held → is_going_up (outcome e.fsm call).change ≡ false → IsShowable shown
    → (is_down (outcome e.fsm call).change ≡ true → is_up_at p.far ≡ true) → KeepsCarried v y h (stepped p e (outcome e.fsm call) epoch shown) (followed_more (with_near p (after e (outcome e.fsm call))) (outcome e.fsm call).change)
unfolding going_on
lower_goes_on v y p e call held epoch shown h pair m quiet showable far =
    let o = outcome e.fsm call in
    let at = bearer_of p.bearer pair.two_bearers in
    let b = at.0 in
    let c = sends_in v y h in
    let sound = sound_from b c.state (reached_sound c.state (h.sends.sent v.node.contact v.node.seen).reached) in
    let z = (stepped p e o epoch shown).pair in
    let turned : Turned b p z false (traffic_from b c.traffic) (state_from b c.state) = subst (λ rising. Turned b p z rising (traffic_from b c.traffic) (state_from b c.state)) (quiet_rise o.change quiet)
    (turns b p e (after e o) o epoch held _ _ (fall_may p e (after e o) o held (may_fall p m.ends) m.near (record { fsm = refl; session = refl }) m.turn m.carried quiet) (stand_at b v y h p pair at.1) sound) in
    turn_carried b v y h p (with_near p (after e o)) o.change (stepped p e o epoch shown) pair at.1 refl refl (stepped_takes v y p e call epoch shown h.paired pair m.near m.may m.hand showable) quiet
    (lower_numbers p e o epoch shown far) (stepped_remains p e o epoch shown m.near quiet).records (stepped_goes p e o epoch shown m.near m.holds quiet).stays turned

lower_carried : (v y : View) (p : PairEnds) (e : LinkEnd) (call : Call) (held : Bool) (epoch : ℕ) (shown : BroadcastState) (h : AreTwins v y) → IsOfPair v p → MayStep v y p e call held → is_going_up (outcome e.fsm call).change ≡ false → IsShowable shown
    → KeepsCarried v y h (stepped p e (outcome e.fsm call) epoch shown) (followed_more (with_near p (after e (outcome e.fsm call))) (outcome e.fsm call).change)
lower_carried v y p e call held epoch shown h pair m quiet showable =
    let o = outcome e.fsm call in
    elim (cases_Bool (is_up_at p.far)) [
      | inl far ↦ lower_goes_on v y p e call held epoch shown h pair m quiet showable (λ down. far)
      | inr alone ↦ elim (cases_Bool (is_down o.change)) [
        | inl down ↦ (let cause = down_cause o.change down in ended_carried v y p e call cause.0 epoch shown h pair m.near alone m.may cause.1)
        | inr still ↦ lower_goes_on v y p e call held epoch shown h pair m quiet showable (λ down. absurd (let wrong : true ≡ false = sym down ∙ still in let no : ⊥ = cc in no))
      ]
    ]

-- whatever the call does
pub step_carried : (v y : View) (p : PairEnds) (e : LinkEnd) (call : Call) (held : Bool) (epoch : ℕ) (shown : BroadcastState) (h : AreTwins v y) → IsOfPair v p → MayStep v y p e call held → IsShowable shown
    → KeepsCarried v y h (stepped p e (outcome e.fsm call) epoch shown) (followed_more (with_near p (after e (outcome e.fsm call))) (outcome e.fsm call).change)
step_carried v y p e call held epoch shown h pair m showable =
    let o = outcome e.fsm call in
    elim (cases_Bool (is_going_up o.change)) [
      | inl up ↦ rise_carried v y p e call epoch shown h pair m.ends m.hand m.near m.may (going_up o.change up) showable
      | inr quiet ↦ lower_carried v y p e call held epoch shown h pair m quiet showable
    ]
