-- A tick at one link of a pair, and a cut of its bearer, keep two nodes what they are, whether the contact goes on or ends.
use Rattle.std.proofs.Common.{◌≡◌, ◌++◌, ℕ, true, false, List, [], Option, Some, None, refl, sym, ap, ◌∙◌, subst, inl, inr, append-nil}
use Rattle.std.proofs.lemmas.Bool.{cases_Bool}
use Rattle.tipc_types.specs.declared.link_words.BroadcastState.{BroadcastState}
use Rattle.tipc_types.specs.declared.link_words.Cause.{Cause}
use Rattle.tipc_outside.specs.declared.outgoing.Outgoing.{Outgoing}
use Rattle.tipc_link.specs.Links.{LinkEnd, after, cut_end, is_down, record_of}
use Rattle.tipc_link.specs.Records.{Received}
use Rattle.tipc_link.specs.Sessions.{SessionEnd}
use Rattle.tipc_link.specs.Parts.{IsShowable}
use Rattle.tipc_link_fsm.specs.declared.changes.Change.{Change}
use Rattle.tipc_link_fsm.specs.declared.changes.Change.TheVariants.{Down}
use Rattle.tipc_link_fsm.specs.Runs.{BearerIsCut, Call, TickPasses, outcome}
use Rattle.tipc_link_fsm.specs.Table.{Fsm, on_cut, on_tick}
use Rattle.tipc_link.proofs.LinkLaw.{Each}
use Rattle.tipc_pair.specs.Changeovers.{following, released, parted as parted_pair}
use Rattle.tipc_pair.specs.Courses.{Course, going_on, rests}
use Rattle.tipc_pair.specs.Facing.{PairEnds, facing, is_up_at, other, with_near}
use Rattle.tipc_pair.specs.PairCalls.{at_bearer, cut_at, cut_near, stepped, tick_at, tick_near, ticked}
use Rattle.tipc_pair.specs.PairFacts.{IsPairOfEnds}
use Rattle.tipc_pair.proofs.EndSteps.{cut_quiet}
use Rattle.tipc_pair.proofs.HeldLaws.{HeldUp, both_goes, cut_at_goes, stepped_goes, tick_holds, tick_quiet, held_facing}
use Rattle.tipc_changeover.proofs.Staying.{reached_sound}
use Rattle.tipc_two_nodes.specs.links.Receiving.{record_at, records_of}
use Rattle.tipc_two_nodes.specs.links.Sending.{SendingEnd, end_seen, ends_seen}
use Rattle.tipc_two_nodes.specs.links.Turning.{AreEnds, IsUnderOwn}
use Rattle.tipc_two_nodes.proofs.links.calls.Founding.{pair_ends}
use Rattle.tipc_two_nodes.proofs.links.calls.Freeing.{AreUp, UpWhere}
use Rattle.tipc_two_nodes.proofs.links.receiver.Preserving.{cut_records_at}
use Rattle.tipc_two_nodes.proofs.links.receiver.Quiet.{stepped_remains}
use Rattle.tipc_two_nodes.proofs.links.calls.Ticking.{cut_turned, may_fall, tick_turned}
use Rattle.tipc_paired.proofs.wires.Wires.{session_of_up}
use Rattle.tipc_paired.specs.Deeds.{MayCall}
use Rattle.tipc_paired.specs.Paired.{ArePaired}
use Rattle.tipc_paired.specs.Views.{View}
use Rattle.tipc_two_nodes.proofs.deeds.Calling.{turned_takes}
use Rattle.tipc_two_nodes.proofs.deeds.Calls.{can_hand, cut_takes_at, cut_took, nothing_shown, unmended}
use Rattle.tipc_two_nodes.proofs.deeds.Chains.{did_as, did_then}
use Rattle.tipc_two_nodes.proofs.deeds.EndsKept.{ends_facing, ticked_kept}
use Rattle.tipc_two_nodes.proofs.deeds.Ending.{ended_told, fallen_did, fallen_view}
use Rattle.tipc_two_nodes.proofs.deeds.Pairs.{of_facing, takes_rest}
use Rattle.tipc_two_nodes.proofs.deeds.Stepping.{First, last_took, stepped_takes}
use Rattle.tipc_two_nodes.specs.deeds.PairDeeds.{Did, IsOfPair, Took, both_more, called_more, cut_at_more, followed_more, none_more, tick_more}
use Rattle.tipc_two_nodes.specs.Carrying.{Carries, KeepsCarried, none_taken}
use Rattle.tipc_two_nodes.specs.Pieces.{KeepsNumbers}
use Rattle.tipc_two_nodes.specs.Twins.{AreTwins, sends_in}
use Rattle.tipc_two_nodes.proofs.steps.Carrying.{carries_then}
use Rattle.tipc_two_nodes.proofs.calls.EndingTwins.{falls_carry, falls_twins}
use Rattle.tipc_two_nodes.proofs.arrivals.OwnEnds.{under_own}
use Rattle.tipc_two_nodes.proofs.calls.PairViews.{sound_from}
use Rattle.tipc_two_nodes.proofs.calls.QuietCourses.{bearer_of, carried_at, carried_then, near_numbers, numbers_same, numbers_then, quiet_both, quiet_carried, released_carried, stand_at}
use Rattle.tipc_two_nodes.proofs.calls.TurnCourses.{following_numbers, turn_carried}

-- ---- the contact ends

-- frames that a node tells leave the two what they are
pub told_both : (v y : View) (p : PairEnds) (last : View) (said : List Outgoing) (h : AreTwins v y) → IsOfPair v p → Did v y last said none_more none_more → IsOfPair last p → (k : AreTwins last y) × Carries v last y h k none_taken
told_both v y p last said h pair did pair' =
    quiet_both v y p (record (rests p) { states = said }) h pair last
    (record { did = did_as v y last said (said ++ []) none_more none_more none_more none_more did (λ P each. subst (Each P) (sym (append-nil said)) each) (λ i k. refl) (λ i k. refl); pair = pair' })
    (numbers_same p) refl refl

-- a step of the near link with this change was taken
abbrev TookBy : View → View → View → PairEnds → LinkEnd → Call → ℕ → BroadcastState → Change → Type 0
TookBy v y last x e call epoch shown k =
    Took v y last (going_on (First x e call k shown) (λ z. following z k epoch)) (followed_more (with_near x (after e (outcome e.fsm call))) k) none_more

-- a call takes the last link down
pub ended_carried : (v y : View) (x : PairEnds) (e : LinkEnd) (call : Call) (cause : Cause) (epoch : ℕ) (shown : BroadcastState) (h : AreTwins v y) → IsOfPair v x → x.near ≡ Some e → is_up_at x.far ≡ false → MayCall v y x.bearer call → (outcome e.fsm call).change ≡ Down cause
    → KeepsCarried v y h (stepped x e (outcome e.fsm call) epoch shown) (followed_more (with_near x (after e (outcome e.fsm call))) (outcome e.fsm call).change)
ended_carried v y x e call cause epoch shown h pair near alone may down =
    let d = after e (outcome e.fsm call) in
    let v1 = fallen_view v x.bearer d in
    let end = pair.near ∙ near in
    let m = ended_told v y x e call cause h.paired pair near may down in
    let last = m.0 in
    let fallen = falls_twins v y x.bearer e call cause h end may down in
    let twins = told_both v1 y (parted_pair (with_near x d)) last _ fallen m.2 m.1 m.3 in
    let carries = carries_then v v1 last y h fallen twins.0 none_taken none_taken (falls_carry v y x.bearer e call cause h end may down) twins.1 in
    let did = did_then v y v1 last [] _ none_more none_more none_more none_more (fallen_did v y x.bearer e call cause end may down) m.1 in
    let took = last_took v y last x e call cause epoch shown alone did m.3 in
    (last, subst (λ k. TookBy v y last x e call epoch shown k) (sym down) took, twins.0, carries)

-- ---- a tick

-- the links of a pair that is the node's may send what they have
pub are_ends_of : (v y : View) (p : PairEnds) → AreTwins v y → IsOfPair v p → IsPairOfEnds p → AreEnds p
are_ends_of v y p h pair ends = pair_ends p ends (subst IsUnderOwn pair.near (under_own v y p.bearer h.paired)) (subst IsUnderOwn pair.far (under_own v y (other p.bearer) h.paired))

pub down_cause : (k : Change) → is_down k ≡ true → (cause : Cause) × (k ≡ Down cause)
down_cause (Down cause) down = (cause, refl)
down_cause other down = absurd (let wrong : ⊥ = cc in wrong)

tick_numbers : (p : PairEnds) (e : LinkEnd) (shown : BroadcastState) → (is_down (on_tick e.fsm (is_up_at p.far)).change ≡ true → is_up_at p.far ≡ true) → KeepsNumbers p (tick_at shown p (Some e)).pair
unfolding going_on
tick_numbers p e shown far =
    let o = on_tick e.fsm (is_up_at p.far) in
    let z = with_near p (after e o) in
    numbers_then p z (following z o.change 0).pair (near_numbers p _) (following_numbers z o.change 0 far)

tick_goes_on : (v y : View) (p : PairEnds) (e : LinkEnd) (shown : BroadcastState) (h : AreTwins v y) → IsOfPair v p → p.near ≡ Some e → IsPairOfEnds p → IsShowable shown → (is_down (on_tick e.fsm (is_up_at p.far)).change ≡ true → is_up_at p.far ≡ true) → KeepsCarried v y h (tick_at shown p (Some e)) (called_more p (Some e) (TickPasses (is_up_at p.far)))
tick_goes_on v y p e shown h pair near may showable far =
    let held = is_up_at p.far in
    let o = on_tick e.fsm held in
    let at = bearer_of p.bearer pair.two_bearers in
    let b = at.0 in
    let c = sends_in v y h in
    let sound = sound_from b c.state (reached_sound c.state (h.sends.sent v.node.contact v.node.seen).reached) in
    turn_carried b v y h p (with_near p (after e o)) o.change (tick_at shown p (Some e)) pair at.1 refl refl (stepped_takes v y p e (TickPasses held) 0 shown h.paired pair near tt (can_hand v y p h.paired pair may) showable) (tick_quiet e.fsm held)
    (tick_numbers p e shown far) (stepped_remains p e o 0 shown near (tick_quiet e.fsm held)).records (stepped_goes p e o 0 shown near (tick_holds e.fsm held) (tick_quiet e.fsm held)).stays
    (tick_turned b p (Some e) shown _ _ near (may_fall p (are_ends_of v y p h pair may)) (stand_at b v y h p pair at.1) sound)

tick_keeps_at : (v y : View) (p : PairEnds) (o : Option LinkEnd) (shown : BroadcastState) (h : AreTwins v y) → IsOfPair v p → p.near ≡ o → IsPairOfEnds p → IsShowable shown → KeepsCarried v y h (tick_at shown p o) (called_more p o (TickPasses (is_up_at p.far)))
tick_keeps_at v y p None shown h pair near may showable = quiet_carried v y p (rests p) h pair (takes_rest v y p pair) (numbers_same p) refl refl
tick_keeps_at v y p (Some e) shown h pair near may showable =
    let held = is_up_at p.far in
    let o = on_tick e.fsm held in
    elim (cases_Bool held) [
      | inl far ↦ tick_goes_on v y p e shown h pair near may showable (λ down. far)
      | inr alone ↦ elim (cases_Bool (is_down o.change)) [
        | inl down ↦ (let cause = down_cause o.change down in ended_carried v y p e (TickPasses held) cause.0 0 shown h pair near alone tt cause.1)
        | inr quiet ↦ tick_goes_on v y p e shown h pair near may showable (λ down. absurd (let wrong : true ≡ false = sym down ∙ quiet in let no : ⊥ = cc in no))
      ]
    ]

-- a tick passes at the near link
pub tick_carried : (v y : View) (p : PairEnds) (shown : BroadcastState) (h : AreTwins v y) → IsOfPair v p → IsPairOfEnds p → IsShowable shown → KeepsCarried v y h (tick_near shown p) (tick_more p)
tick_carried v y p shown h pair may showable = tick_keeps_at v y p p.near shown h pair refl may showable

-- ---- the bearer is cut

cut_numbers : (p : PairEnds) (e : LinkEnd) → (is_down (on_cut e.fsm (is_up_at p.far)).change ≡ true → is_up_at p.far ≡ true) → KeepsNumbers p (cut_at p (Some e)).pair
cut_numbers p e far =
    let held = is_up_at p.far in
    let z = with_near p (cut_end e held) in
    numbers_then p z (following z (on_cut e.fsm held).change 0).pair (near_numbers p _) (following_numbers z (on_cut e.fsm held).change 0 far)

cut_goes_on : (v y : View) (p : PairEnds) (e : LinkEnd) (h : AreTwins v y) → IsOfPair v p → p.near ≡ Some e → IsPairOfEnds p → (is_down (on_cut e.fsm (is_up_at p.far)).change ≡ true → is_up_at p.far ≡ true) → KeepsCarried v y h (cut_at p (Some e)) (cut_at_more p (Some e))
cut_goes_on v y p e h pair near may far =
    let held = is_up_at p.far in
    let k = (on_cut e.fsm held).change in
    let at = bearer_of p.bearer pair.two_bearers in
    let b = at.0 in
    let c = sends_in v y h in
    let sound = sound_from b c.state (reached_sound c.state (h.sends.sent v.node.contact v.node.seen).reached) in
    turn_carried b v y h p (with_near p (cut_end e held)) k (cut_at p (Some e)) pair at.1 refl refl (cut_takes_at v y p (Some e) h.paired pair may near) (cut_quiet e.fsm held)
    (cut_numbers p e far) (cut_records_at p (Some e) near) (cut_at_goes p (Some e) near).stays
    (cut_turned b p (Some e) _ _ near (may_fall p (are_ends_of v y p h pair may)) (stand_at b v y h p pair at.1) sound)

-- it takes the last link down
cut_ends : (v y : View) (p : PairEnds) (e : LinkEnd) (cause : Cause) (h : AreTwins v y) → IsOfPair v p → p.near ≡ Some e → is_up_at p.far ≡ false → (on_cut e.fsm (is_up_at p.far)).change ≡ Down cause → KeepsCarried v y h (cut_at p (Some e)) (cut_at_more p (Some e))
cut_ends v y p e cause h pair near alone down =
    let d = unmended e in
    let z = with_near p d in
    let t = (turned_takes v y p e false pair near).0 in
    let twins = quiet_both v y p (rests z) h pair t.0 t.1 (near_numbers p _) (near_seen p e d near refl refl) (near_kept p e d near refl) in
    let m = ended_carried t.0 y z d (BearerIsCut (is_up_at p.far)) cause 0 nothing_shown twins.0 t.1.pair refl alone tt down in
    (m.0, cut_took v y t.0 m.0 p e t.1 m.1, m.2, carries_then v t.0 m.0 y h twins.0 m.2 none_taken none_taken twins.1 m.3)
  where
    near_seen : (p : PairEnds) (e d : LinkEnd) → p.near ≡ Some e → d.fsm ≡ e.fsm → d.session ≡ e.session → ends_seen (with_near p d) ≡ ends_seen p
    near_seen p e d near fsm session =
        ap (λ (s : SendingEnd). record { bearer = p.bearer; near = s; far = end_seen p.contact p.far })
        (ap (λ (f : Fsm). end_seen p.contact (Some (record d { fsm = f }))) fsm ∙ (ap (λ (o : Option SessionEnd). end_seen p.contact (Some (record e { session = o }))) session ∙ ap (end_seen p.contact) (sym near)))

    near_kept : (p : PairEnds) (e d : LinkEnd) → p.near ≡ Some e → record_of d ≡ record_of e → records_of (with_near p d) ≡ records_of p
    near_kept p e d near same = ap (λ (o : Option Received). record { near = o; far = record_at p.far }) (same ∙ ap record_at (sym near))

cut_keeps_at : (v y : View) (p : PairEnds) (o : Option LinkEnd) (h : AreTwins v y) → IsOfPair v p → p.near ≡ o → IsPairOfEnds p → KeepsCarried v y h (cut_at p o) (cut_at_more p o)
cut_keeps_at v y p None h pair near may = quiet_carried v y p (rests p) h pair (takes_rest v y p pair) (numbers_same p) refl refl
cut_keeps_at v y p (Some e) h pair near may =
    let o = on_cut e.fsm (is_up_at p.far) in
    elim (cases_Bool (is_up_at p.far)) [
      | inl far ↦ cut_goes_on v y p e h pair near may (λ down. far)
      | inr alone ↦ elim (cases_Bool (is_down o.change)) [
        | inl down ↦ (let cause = down_cause o.change down in cut_ends v y p e cause.0 h pair near alone cause.1)
        | inr quiet ↦ cut_goes_on v y p e h pair near may (λ down. absurd (let wrong : true ≡ false = sym down ∙ quiet in let no : ⊥ = cc in no))
      ]
    ]

-- ---- whole calls

-- the links that are up have their sessions
pub are_up : (v y : View) (p : PairEnds) → ArePaired v y → IsOfPair v p → AreUp p
are_up v y p h pair = record { near = up_at p.bearer p.near pair.near; far = up_at (other p.bearer) p.far pair.far }
  where
    up_at : (n : ℕ) (o : Option LinkEnd) → (v.wires n).end ≡ o → UpWhere o
    up_at n o at e is up =
        let end = at ∙ is in
        let going = (h.here.ends n e end).going up in
        let on = session_of_up (v.wires n) e going.0 (record { end_is = end; up = up; session_is = going.1 }) in
        (going.0, record { end_is = is; up = up; session_is = going.1; epoch_is = going.2; bearer_is = refl; few = ((h.here.wires n).going going.0 on).sends.window })

-- the bearer of the near link is cut, and held ends are released
cut_near_keeps : (v y : View) (p : PairEnds) (h : AreTwins v y) → IsOfPair v p → IsPairOfEnds p → HeldUp p → KeepsCarried v y h (cut_near p) (both_more (cut_at_more p p.near) none_more)
cut_near_keeps v y p h pair may held = carried_then v y h (cut_at p p.near) released (cut_at_more p p.near) none_more (cut_keeps_at v y p p.near h pair refl may)
    (λ mid twins of_mid. released_carried mid y (cut_at p p.near).pair twins of_mid (are_up mid y (cut_at p p.near).pair twins.paired of_mid) ((cut_at_goes p p.near refl).goes.held held))

pub cut_carried : (v y : View) (b : ℕ) (p : PairEnds) (h : AreTwins v y) → IsOfPair v p → IsPairOfEnds p → HeldUp p → KeepsCarried v y h (at_bearer b p cut_near) (both_more (cut_at_more (facing b p) (facing b p).near) none_more)
cut_carried v y b p h pair ends held = carried_at v y h b p cut_near _ (cut_near_keeps v y (facing b p) h (of_facing v b p pair) (ends_facing b p ends) (held_facing b p held))

tick_at_link : (v y : View) (n : ℕ) (p : PairEnds) (shown : BroadcastState) (h : AreTwins v y) → IsOfPair v p → IsPairOfEnds (facing n p) → IsShowable shown → KeepsCarried v y h (at_bearer n p (tick_near shown)) (tick_more (facing n p))
tick_at_link v y n p shown h pair may showable = carried_at v y h n p (tick_near shown) (tick_more (facing n p)) (tick_carried v y (facing n p) shown h (of_facing v n p pair) may showable)

-- a tick passes at both links
pub ticked_carried : (v y : View) (p : PairEnds) (shown : BroadcastState) (h : AreTwins v y) → IsOfPair v p → IsPairOfEnds p → HeldUp p → IsShowable shown
    → KeepsCarried v y h (ticked shown p) (both_more (both_more (tick_more (facing 0 p)) (tick_more (facing 1 (at_bearer 0 p (tick_near shown)).pair))) none_more)
ticked_carried v y p shown h pair ends held showable =
    let one = at_bearer 0 p (tick_near shown) in
    let two : PairEnds → Course = λ z. at_bearer 1 z (tick_near shown) in
    let both = carried_then v y h one two (tick_more (facing 0 p)) (tick_more (facing 1 one.pair)) (tick_at_link v y 0 p shown h pair (ends_facing 0 p ends) showable) (λ mid twins of_mid. tick_at_link mid y 1 one.pair shown twins of_mid (ends_facing 1 one.pair (ticked_kept v y 0 p shown h.paired pair ends)) showable) in
    carried_then v y h (going_on one two) released (both_more (tick_more (facing 0 p)) (tick_more (facing 1 one.pair))) none_more both
    (λ mid twins of_mid. released_carried mid y (going_on one two).pair twins of_mid (are_up mid y (going_on one two).pair twins.paired of_mid) ((both_goes shown p).goes.held held))
