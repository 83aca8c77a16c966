-- An end that may go up does so by what shows the present: a RESET makes it answer, an ACTIVATE takes it up, and so does a STATE where it answers.
use Rattle.std.specs.Prelude.{◌==◌, ◌&&◌, ◌||◌, nat_lt, not, if◌then◌else◌}
use Rattle.std.proofs.Common.{◌≡◌, ◌≤◌, ◌<◌, ◌∙◌, ℕ, Bool, true, false, List, Option, Some, None, option_map, refl, sym, ap, subst, arith, eqb-true}
use Rattle.std.proofs.lemmas.Bool.{and_parts, true≢false}
use Rattle.std.proofs.lemmas.Bool.Decides.{nat_tests}
use Rattle.tipc_types.specs.LinkStates.{is_up}
use Rattle.tipc_types.specs.declared.link_words.BroadcastState.{BroadcastState}
use Rattle.tipc_types.specs.declared.link_words.LinkState.{LinkState}
use Rattle.tipc_types.specs.declared.link_words.LinkState.TheVariants.{Held, ResetReset, ResetUnknown, WorkingUnknown, WorkingWorking}
use Rattle.tipc_types.specs.declared.link_words.Why.TheVariants as why
use Rattle.tipc_outside.specs.declared.outgoing.Outgoing.{Outgoing}
use Rattle.tipc_header.specs.declared.packet.Header.{Header}
use Rattle.tipc_header.specs.declared.packet.Header.TheVariants as header
use Rattle.tipc_header.specs.declared.packet.Reset.{Reset}
use Rattle.tipc_header.specs.Spelling.{Fields}
use Rattle.tipc_link_fsm.specs.Table.{Fsm, Outcome, forget_peer, is_held, is_in_reset, is_last, is_peer, is_reset_reset, is_session, on_activate, on_reset, on_traffic}
use Rattle.tipc_link_fsm.proofs.Moves.{cases_on}
use Rattle.tipc_link.specs.Links.{LinkEnd, after, arrival_end, is_down, is_traffic, outcome_of}
use Rattle.tipc_pair.specs.Changeovers.{contact_ends, following, forgetting, forgotten, risen}
use Rattle.tipc_pair.specs.Courses.{Course, going_on, rests as nothing}
use Rattle.tipc_pair.specs.Facing.{PairEnds, facing, in_contact, is_up_at, other, with_near}
use Rattle.tipc_pair.specs.PairArrivals.{Heard, activate_higher, activates, behind, hears as heard_by, met, met_at, met_near, passing, reset_change, reset_given, reset_near}
use Rattle.tipc_pair.specs.PairTurns.{Outset, PairTurn, Reply}
use Rattle.tipc_pair.specs.PairTurns.Opening.{hears}
use Rattle.tipc_pair.proofs.EndSteps.{fsm_after, fsm_arrived}
use Rattle.tipc_pair.proofs.acts.Acts.Act.{counts as counting}
use Rattle.tipc_pair.proofs.acts.Acts.Acts.{raised}
use Rattle.tipc_pair.proofs.acts.Acting.{hears_ran, ran_bearer}
use Rattle.tipc_pair.proofs.acts.Walks.{tested}
use Rattle.tipc_pair.proofs.turns.PairKept.{facing_bearer}
use Rattle.tipc_paired.specs.Views.{fsm_in}
use Rattle.tipc_paired.proofs.wires.Wires.{same_some}
use Rattle.tipc_settling.specs.Beginnings.{is_answering}
use Rattle.tipc_settling.specs.Rises.{ActivatesTakeUp, AnswersAt, ResetsMakeAnswer, StatesTakeUp}
use Rattle.tipc_settling.specs.Stillness.{AnswersTo, Footing, HasNoEnd, IsStill, IsStillAt, IsStillEnd, ShowsNumber, ShowsPresent}
use Rattle.tipc_settling.proofs.Pairs.{May, act_still, contact_seen, following_same, near_still, still_facing}
use Rattle.tipc_settling.proofs.Rows.{peer_known, peer_named, reset_still, activate_still, traffic_still}
use Rattle.tipc_settling.proofs.Turns.{may_hear, names_none, opens_still, ran_still, released_still, rest_still}

-- ---- link states

-- a state that isn't held is up or in reset
is_free : (st : LinkState) → is_held st ≡ false → is_up st ≡ false → is_in_reset st ≡ true
is_free ResetUnknown free down = refl
is_free ResetReset free down = refl
is_free WorkingWorking free down = absurd (true≢false down)
is_free WorkingUnknown free down = absurd (true≢false down)
is_free Held free down = absurd (true≢false free)

not_so : (t : Bool) → (t ≡ true → ⊥) → t ≡ false
not_so true no_way = absurd (no_way refl)
not_so false no_way = refl

and_false : (b : Bool) → (b && false) ≡ false
and_false true = refl
and_false false = refl

-- the other bearer is another one
elsewhere : (b : ℕ) → b ≤ 1 → (other b == b) ≡ false
elsewhere b two = grind (arith, nat_tests, two)

pub same_number : (n : ℕ) → (n == n) ≡ true
same_number n = grind (arith, nat_tests)

pub not_less : (a b : ℕ) → b ≤ a → nat_lt a b ≡ false
not_less a b most = grind (arith, nat_tests, most)

module _ (own peer : Footing) (seen bearer : ℕ) where
  abbrev pub Stay : Fsm → Type 0
  Stay f = IsStillEnd own peer seen bearer f

  pub reset_answers : (es : ℕ) (held : Bool) (f : Fsm) → Stay f → es ≡ peer.epoch bearer → is_held f.state ≡ false → AnswersTo (peer.epoch bearer) (on_reset f es held).after
  unfolding on_reset
  reset_answers es held f h same free =
      cases_on (λ o. AnswersTo (peer.epoch bearer) o.after) (is_held f.state) _ _ (λ is. absurd (true≢false (sym is ∙ free))) (λ _.
      cases_on (λ o. AnswersTo (peer.epoch bearer) o.after) (nat_lt es f.highest || (is_up f.state && is_peer f.peer es)) _ _ (λ passed. by (is_up f.state) refl passed) (λ apart.
      cases_on (λ o. AnswersTo (peer.epoch bearer) o.after) (is_up f.state) _ _
      (λ up. let here : (is_up f.state && is_peer f.peer es) ≡ true = ap (λ b. b && is_peer f.peer es) up ∙ peer_known f.peer es (h.up up ∙ ap Some (sym same)) in
      absurd (true≢false (sym (either (nat_lt es f.highest) (is_up f.state && is_peer f.peer es) here) ∙ apart)))
      (λ down. record { knows = ap Some same; heard = refl })))
    where
      either : (a b : Bool) → b ≡ true → (a || b) ≡ true
      either true b is = refl
      either false b is = is

      by : (u : Bool) → is_up f.state ≡ u → (nat_lt es f.highest || (is_up f.state && is_peer f.peer es)) ≡ true → AnswersTo (peer.epoch bearer) f
      by true up passed = record { knows = h.up up; heard = ap (λ b. b || is_reset_reset f.state) up }
      by false down passed =
          absurd (let low : nat_lt es f.highest ≡ false = not_less es f.highest (let most = h.no_higher in omega (arith, most, same)) in
          true≢false (sym passed ∙ ap (λ b. b || (is_up f.state && is_peer f.peer es)) low ∙ ap (λ b. b && is_peer f.peer es) down))

  -- the row of an ACTIVATE at an end in reset fits
  pub activate_fits : (es er : ℕ) (f : Fsm) → Stay f → es ≡ peer.epoch bearer → er ≡ own.epoch bearer → is_held f.state ≡ false → is_last f.own ≡ false → is_up f.state ≡ false
      → ((is_in_reset f.state && not (is_last f.own)) && ((er == f.own) && not (nat_lt es f.highest))) ≡ true
  activate_fits es er f h theirs ours free more down =
      let low : nat_lt es f.highest ≡ false = not_less es f.highest (let most = h.no_higher in omega (arith, most, theirs)) in
      let same : (er == f.own) ≡ true = ap (λ n. n == f.own) (ours ∙ sym h.epoch) ∙ same_number f.own in
      ap (λ b. (b && not (is_last f.own)) && ((er == f.own) && not (nat_lt es f.highest))) (is_free f.state free down)
      ∙ ap (λ b. not b && ((er == f.own) && not (nat_lt es f.highest))) more
      ∙ ap (λ b. b && not (nat_lt es f.highest)) same ∙ ap (λ b. not b) low

  pub activate_rises : (es er : ℕ) (f : Fsm) → Stay f → es ≡ peer.epoch bearer → er ≡ own.epoch bearer → is_held f.state ≡ false → is_last f.own ≡ false → is_up (on_activate f es er).after.state ≡ true
  unfolding on_activate
  activate_rises es er f h theirs ours free more =
      cases_on (λ o. is_up o.after.state ≡ true) (is_held f.state) _ _ (λ is. absurd (true≢false (sym is ∙ free))) (λ _.
      cases_on (λ o. is_up o.after.state ≡ true) ((is_in_reset f.state && not (is_last f.own)) && ((er == f.own) && not (nat_lt es f.highest))) _ _ (λ fits. refl) (λ apart.
      cases_on (λ o. is_up o.after.state ≡ true) (is_up f.state && is_session f es er) _ _ (λ here. refl) (λ _. by (is_up f.state) refl apart)))
    where
      by : (u : Bool) → is_up f.state ≡ u → ((is_in_reset f.state && not (is_last f.own)) && ((er == f.own) && not (nat_lt es f.highest))) ≡ false → is_up f.state ≡ true
      by true up apart = up
      by false down apart = absurd (true≢false (sym (activate_fits es er f h theirs ours free more down) ∙ apart))

  -- what shows both present epochs is of the session
  pub traffic_session : (es er : ℕ) (f : Fsm) → Stay f → es ≡ peer.epoch bearer → er ≡ own.epoch bearer → AnswersTo (peer.epoch bearer) f → is_session f es er ≡ true
  traffic_session es er f h theirs ours answers =
      ap (λ b. b && (er == f.own)) (peer_known f.peer es (answers.knows ∙ ap Some (sym theirs))) ∙ (ap (λ n. n == f.own) (ours ∙ sym h.epoch) ∙ same_number f.own)

  -- an end that answers, and isn't taken up by it, is up
  pub traffic_up : (es er : ℕ) (f : Fsm) → Stay f → es ≡ peer.epoch bearer → er ≡ own.epoch bearer → AnswersTo (peer.epoch bearer) f → is_last f.own ≡ false → (is_session f es er && (is_reset_reset f.state && not (is_last f.own))) ≡ false → is_up f.state ≡ true
  traffic_up es er f h theirs ours answers more apart = by (is_up f.state) refl
    where
      by : (u : Bool) → is_up f.state ≡ u → is_up f.state ≡ true
      by true up = up
      by false down =
          absurd (
          let reset : is_reset_reset f.state ≡ true = ap (λ b. b || is_reset_reset f.state) (sym down) ∙ answers.heard in
          let all : (is_session f es er && (is_reset_reset f.state && not (is_last f.own))) ≡ true =
          ap (λ b. b && (is_reset_reset f.state && not (is_last f.own))) (traffic_session es er f h theirs ours answers) ∙ ap (λ b. b && not (is_last f.own)) reset ∙ ap (λ b. not b) more in
          true≢false (sym all ∙ apart))

  pub traffic_rises : (es er : ℕ) (f : Fsm) → Stay f → es ≡ peer.epoch bearer → er ≡ own.epoch bearer → AnswersTo (peer.epoch bearer) f → is_last f.own ≡ false → is_up (on_traffic f es er).after.state ≡ true
  unfolding on_traffic
  traffic_rises es er f h theirs ours answers more =
      cases_on (λ o. is_up o.after.state ≡ true) (is_session f es er && (is_reset_reset f.state && not (is_last f.own))) _ _ (λ fits. refl) (λ apart.
      cases_on (λ o. is_up o.after.state ≡ true) (is_session f es er && is_up f.state) _ _ (λ here. refl) (λ _. traffic_up es er f h theirs ours answers more apart))

-- ---- the near link

-- what holds of link states holds of the near end, where it is made
abbrev pub NearIs : (Fsm → Type 0) → PairEnds → Type 0
NearIs P x = (f : Fsm) × (fsm_in x.near ≡ Some f) × P f

-- it holds of the end after an outcome by which it doesn't go down, whatever follows
stepped_near : (P : Fsm → Type 0) (x : PairEnds) (e e' : LinkEnd) (o : Outcome) (epoch : ℕ) → e'.fsm ≡ o.after → is_down o.change ≡ false → P o.after → NearIs P (following (with_near x e') o.change epoch).pair
stepped_near P x e e' o epoch fsm up holds =
    let s = following_same (with_near x e') o.change epoch up in (o.after, s.near ∙ ap (λ (f : Fsm). Some f) fsm, holds)

module _ (own peer : Footing) where
  -- a RESET that shows the present comes to the near end
  given_answers : (es : ℕ) (held : Bool) (shown : BroadcastState) (x : PairEnds) (e : LinkEnd) → x.near ≡ Some e → IsStill own peer x → es ≡ peer.epoch x.bearer → x.seen ≡ peer.contact → is_held e.fsm.state ≡ false
      → NearIs (AnswersTo (peer.epoch x.bearer)) (reset_given es held shown x x.near).course.pair
  unfolding going_on
  given_answers es held shown x e near h same sees free =
      let k = near_still own peer x e near h in
      let o = on_reset e.fsm es held in
      let s = reset_still own peer x.seen x.bearer es held e.fsm k same sees in
      subst (λ end. NearIs (AnswersTo (peer.epoch x.bearer)) (reset_given es held shown x end).course.pair) (sym near)
      (stepped_near (AnswersTo (peer.epoch x.bearer)) x e (after e o) o es (fsm_after e o) s.up (reset_answers own peer x.seen x.bearer es held e.fsm k same free))

  near_answers : (es : ℕ) (shown : BroadcastState) (x : PairEnds) (e : LinkEnd) → x.near ≡ Some e → IsStill own peer x → es ≡ peer.epoch x.bearer → x.seen ≡ peer.contact → is_held e.fsm.state ≡ false
      → NearIs (AnswersTo (peer.epoch x.bearer)) (reset_near es shown x).course.pair
  near_answers es shown x e near h same sees free =
      let held = is_up_at x.far in
      let P : Heard → Type 0 = λ q. NearIs (AnswersTo (peer.epoch x.bearer)) q.course.pair in
      let s = reset_still own peer x.seen x.bearer es held e.fsm (near_still own peer x e near h) same sees in
      let calm : is_down (reset_change es held x.near) ≡ false = ap (λ end. is_down (reset_change es held end)) near ∙ s.up in
      tested P (is_down (reset_change es held x.near) && not held) (behind (reset_given es held shown x x.near).course (λ y. reset_given es false shown y y.near)) (reset_given es held shown x x.near)
      (λ falls. absurd (true≢false (sym (and_parts (is_down (reset_change es held x.near)) (not held) falls).0 ∙ calm)))
      (λ _. given_answers es held shown x e near h same sees free)

  met_rises : (x : PairEnds) (e : LinkEnd) (p : Fields) (es er by : ℕ) (shown : BroadcastState) → x.near ≡ Some e → is_down (outcome_of e.fsm p.header es er (is_up_at x.far)).change ≡ false
      → is_up (outcome_of e.fsm p.header es er (is_up_at x.far)).after.state ≡ true → NearIs (λ f. is_up f.state ≡ true) (met_near es er p by shown x).course.pair
  unfolding going_on
  met_rises x e p es er by shown near calm up =
      let o = outcome_of e.fsm p.header es er (is_up_at x.far) in
      subst (λ end. NearIs (λ f. is_up f.state ≡ true) (met_at es er p by shown x end).course.pair) (sym near)
      (stepped_near (λ f. is_up f.state ≡ true) x e (arrival_end e o p by) o es (fsm_arrived e o p by) calm up)

-- ---- behind what was heard

-- a footing on which the link of one bearer is up, or answers, where it does in this pair
abbrev pub footed : Footing → Footing → PairEnds → Footing
footed own peer y = record {
  contact = own.contact;
  epoch = own.epoch;
  up = λ b. (b == y.bearer) && is_up_at y.near;
  answers = λ b. (b == y.bearer) && is_answering (peer.epoch y.bearer) y.near;
  free = own.free;
  sees = y.seen == peer.contact;
  alone = own.alone;
}

pub answering_so : (epoch : ℕ) (e : LinkEnd) → is_answering epoch (Some e) ≡ true → AnswersTo epoch e.fsm
answering_so epoch e is =
    let both = and_parts (is_peer e.fsm.peer epoch) (is_up e.fsm.state || is_reset_reset e.fsm.state) is in record { knows = peer_named e.fsm.peer epoch both.0; heard = both.1 }

footed_near : (own peer : Footing) (y : PairEnds) (o : Option LinkEnd) → y.near ≡ o → IsStillAt own peer y.seen y.bearer (fsm_in o) → IsStillAt (footed own peer y) peer y.seen y.bearer (fsm_in o)
footed_near own peer y None near h = record {
  epoch = h.epoch;
  down = ap (λ o. (y.bearer == y.bearer) && is_up_at o) near ∙ and_false (y.bearer == y.bearer);
  unanswered = ap (λ o. (y.bearer == y.bearer) && is_answering (peer.epoch y.bearer) o) near ∙ and_false (y.bearer == y.bearer);
}
footed_near own peer y (Some e) near h = record {
  epoch = h.epoch;
  lasts = λ was. sym (ap is_up_at near) ∙ (and_parts (y.bearer == y.bearer) (is_up_at y.near) was).1;
  answers = λ was. answering_so (peer.epoch y.bearer) e (sym (ap (is_answering (peer.epoch y.bearer)) near) ∙ (and_parts (y.bearer == y.bearer) (is_answering (peer.epoch y.bearer) y.near) was).1);
  free = h.free;
  no_higher = h.no_higher;
  up = h.up;
  contact = h.contact;
  present = h.present;
}

footed_far : (own peer : Footing) (y : PairEnds) (o : Option LinkEnd) → y.bearer ≤ 1 → IsStillAt own peer y.seen (other y.bearer) (fsm_in o) → IsStillAt (footed own peer y) peer y.seen (other y.bearer) (fsm_in o)
footed_far own peer y None two h = record { epoch = h.epoch; down = ap (λ b. b && is_up_at y.near) (elsewhere y.bearer two); unanswered = ap (λ b. b && is_answering (peer.epoch y.bearer) y.near) (elsewhere y.bearer two) }
footed_far own peer y (Some e) two h = record {
  epoch = h.epoch;
  lasts = λ was. absurd (true≢false (sym (and_parts (other y.bearer == y.bearer) (is_up_at y.near) was).0 ∙ elsewhere y.bearer two));
  answers = λ was. absurd (true≢false (sym (and_parts (other y.bearer == y.bearer) (is_answering (peer.epoch y.bearer) y.near) was).0 ∙ elsewhere y.bearer two));
  free = h.free;
  no_higher = h.no_higher;
  up = h.up;
  contact = h.contact;
  present = h.present;
}

footed_still : (own peer : Footing) (y : PairEnds) → IsStill own peer y → IsStill (footed own peer y) peer y
footed_still own peer y h = record { two = h.two; contact = h.contact; seen = h.seen; sees = λ was. eqb-true y.seen peer.contact was; near = footed_near own peer y y.near refl h.near; far = footed_far own peer y y.far h.two h.far }

-- what the rest of a turn keeps of the near end behind what was heard
pub behind_heard : (own peer : Footing) (x x' : PairEnds) (bearer es er : ℕ) (p : Fields) (by : ℕ) (shown : BroadcastState) (messages : List (List ℕ)) (reply : Option Reply) (frames : List Outgoing) → x.bearer ≡ 0 → bearer ≤ 1
    → IsStill own peer x → ShowsPresent peer bearer es p → PairTurn x (hears bearer es er p by shown) messages reply x' frames
    → IsStill (footed own peer (heard_by p.header es er p by shown (facing bearer x)).course.pair) peer x'
unfolding going_on
behind_heard own peer x x' bearer es er p by shown messages reply frames zero_is one h shows t =
    let z = facing bearer x in
    let hz = still_facing own peer bearer x h in
    let on : z.bearer ≡ bearer = facing_bearer bearer x one h.two in
    let happened = t.happened in
    let a = happened.2 in
    let heard = heard_by p.header es er p by shown z in
    let same : es ≡ peer.epoch z.bearer = shows.epoch ∙ ap (λ b. peer.epoch b) (sym on) in
    let y = heard.course.pair in
    let first = ran_still own peer z heard.course (hears_ran (May own peer) p.header es er p by shown z (may_hear own peer p.header es er p by shown z refl hz.two hz same shows.number)) hz in
    let now = footed own peer y in
    let two = opens_still now peer y heard.outcome a.opened happened.1 (names_none now peer bearer z es er p by shown shows) (footed_still own peer y first) a.opens in
    let three = released_still now peer a.opened.pair two in
    let four : IsStill now peer happened.0.pair = subst (λ (d : Course). IsStill now peer d.pair) (sym a.course) three in
    let five : IsStill now peer t.first.course.pair = subst (λ (u : Outset). IsStill now peer u.course.pair) (sym happened.3) (still_facing now peer x.bearer happened.0.pair four) in
    rest_still now peer t.first.course.pair x' messages reply t.put_frames t.put t.puts t.after five

-- ---- the peer's contact number is shown for the first time

forgot_free : (f : Fsm) → is_held (forget_peer f).after.state ≡ false
unfolding forget_peer
forgot_free f = cases_on (λ (o : Outcome). is_held o.after.state ≡ false) (is_up f.state) _ _ (λ up. refl) (λ down. refl)

forgot_down : (f : Fsm) → is_up (forget_peer f).after.state ≡ false
unfolding forget_peer
forgot_down f = cases_on (λ (o : Outcome). is_up o.after.state ≡ false) (is_up f.state) _ _ (λ up. refl) (λ down. refl)

-- a pair whose end is in reset, and may go up, which has seen the peer's contact number
pub record Ready (own peer : Footing) (z y : PairEnds) : Type 0 where
  pub still : IsStill own peer y
  pub sees : y.seen ≡ peer.contact
  pub bearer : y.bearer ≡ z.bearer
  pub end : LinkEnd
  pub near : y.near ≡ Some end
  pub free : is_held end.fsm.state ≡ false
  pub down : is_up end.fsm.state ≡ false
  pub more : is_last end.fsm.own ≡ false

-- a pair to which the peer's present contact number, a higher one, was shown: there was no contact, and it has seen that number
pub record Risen (own peer : Footing) (z : PairEnds) (number : ℕ) : Type 0 where
  pub apart : in_contact z ≡ false
  pub rises : risen z number ≡ nothing (forgotten z number)
  pub still : IsStill own peer (forgotten z number)

pub risen_still : (own peer : Footing) (z : PairEnds) (number : ℕ) → IsStill own peer z → number ≡ peer.contact → (number == z.seen) ≡ false → Risen own peer z number
risen_still own peer z number h is differs = record {
  apart = apart;
  rises = rises;
  still = subst (λ (c : Course). IsStill own peer c.pair) rises (act_still own peer z (counting number) (risen z number) (is, unseen) (raised z number) h);
}
  where
    unseen : z.seen ≡ peer.contact → ⊥
    unseen sees = (let same : (number == z.seen) ≡ true = ap (λ n. n == z.seen) (is ∙ sym sees) ∙ same_number z.seen in true≢false (sym same ∙ differs))

    apart : in_contact z ≡ false
    apart = not_so (in_contact z) (λ there. unseen (contact_seen own peer z h there))

    rises : risen z number ≡ nothing (forgotten z number)
    rises = ap (λ b. if b then contact_ends (record z { seen = number }) (z.contact, z.seen) number else nothing (forgotten z number)) apart

-- and where its end was made, that is ready
pub risen_ready : (own peer : Footing) (z : PairEnds) (e : LinkEnd) (number : ℕ) → IsStill own peer z → z.near ≡ Some e → is_last e.fsm.own ≡ false → number ≡ peer.contact → (number == z.seen) ≡ false
    → (in_contact z ≡ false) × Ready own peer z (risen z number).pair
risen_ready own peer z e number h near more is differs = (r.apart, subst (λ (c : Course). Ready own peer z c.pair) (sym r.rises) ready)
  where
    r : Risen own peer z number
    r = risen_still own peer z number h is differs

    now : (forgotten z number).near ≡ Some (forgetting number e)
    now = ap (option_map (forgetting number)) near

    ready : Ready own peer z (forgotten z number)
    ready = record {
      still = r.still;
      sees = is;
      bearer = refl;
      end = forgetting number e;
      near = now;
      free = forgot_free e.fsm;
      down = forgot_down e.fsm;
      more = ap is_last (let then_is = near_still own peer (forgotten z number) (forgetting number e) now r.still in let before_is = near_still own peer z e near h in then_is.epoch ∙ sym before_is.epoch) ∙ more;
    }

-- ---- what is heard

module _ (own peer : Footing) where
  reset_heard : (es er : ℕ) (p : Fields) (said : Reset) (by : ℕ) (shown : BroadcastState) (z : PairEnds) (e : LinkEnd) → IsStill own peer z → z.near ≡ Some e → is_held e.fsm.state ≡ false → is_last e.fsm.own ≡ false
      → es ≡ peer.epoch z.bearer → said.contact ≡ peer.contact → NearIs (AnswersTo (peer.epoch z.bearer)) (heard_by (header.Reset said) es er p by shown z).course.pair
  unfolding going_on
  reset_heard es er p said by shown z e h near free more same number =
      let P : Heard → Type 0 = λ q. NearIs (AnswersTo (peer.epoch z.bearer)) q.course.pair in
      let n = said.contact in
      let most = h.seen in
      tested P (nat_lt n z.seen) (passing z why.Contact) (if n == z.seen then reset_near es shown z else behind (risen z n) (reset_near es shown))
      (λ lower. let below : n < z.seen = grind (arith, nat_tests, lower) in absurd (omega (arith, below, number, most)))
      (λ _. tested P (n == z.seen) (reset_near es shown z) (behind (risen z n) (reset_near es shown))
      (λ equal. let sees : z.seen ≡ peer.contact = grind (arith, nat_tests, equal, number) in near_answers own peer es shown z e near h same sees free)
      (λ differs.
      let r = (risen_ready own peer z e n h near more number differs).1 in
      let y = (risen z n).pair in
      subst (λ b. NearIs (AnswersTo (peer.epoch b)) (reset_near es shown y).course.pair) r.bearer
      (near_answers own peer es shown y r.end r.near r.still (same ∙ ap (λ b. peer.epoch b) (sym r.bearer)) r.sees r.free)))

  -- an ACTIVATE meets an end that may go up
  activate_met : (es er : ℕ) (p : Fields) (said : Reset) (by : ℕ) (shown : BroadcastState) (y : PairEnds) (e : LinkEnd) → p.header ≡ header.Activate said → IsStill own peer y → y.near ≡ Some e → y.seen ≡ peer.contact → is_held e.fsm.state ≡ false
      → is_last e.fsm.own ≡ false → es ≡ peer.epoch y.bearer → er ≡ own.epoch y.bearer → NearIs (λ f. is_up f.state ≡ true) (met_near es er p by shown y).course.pair
  activate_met es er p said by shown y e is h near sees free more theirs ours =
      let k = near_still own peer y e near h in
      let s = activate_still own peer y.seen y.bearer es er e.fsm k theirs sees in
      let outcome : (outcome_of e.fsm p.header es er (is_up_at y.far)) ≡ on_activate e.fsm es er = ap (λ h. outcome_of e.fsm h es er (is_up_at y.far)) is in
      met_rises own peer y e p es er by shown near (ap (λ (o : Outcome). is_down o.change) outcome ∙ s.up)
      (ap (λ (o : Outcome). is_up o.after.state) outcome ∙ activate_rises own peer y.seen y.bearer es er e.fsm k theirs ours free more)

  activate_heard : (es er : ℕ) (p : Fields) (said : Reset) (by : ℕ) (shown : BroadcastState) (z : PairEnds) (e : LinkEnd) → p.header ≡ header.Activate said → IsStill own peer z → z.near ≡ Some e → is_held e.fsm.state ≡ false → is_last e.fsm.own ≡ false
      → es ≡ peer.epoch z.bearer → er ≡ own.epoch z.bearer → said.contact ≡ peer.contact → NearIs (λ f. is_up f.state ≡ true) (heard_by (header.Activate said) es er p by shown z).course.pair
  unfolding going_on
  activate_heard es er p said by shown z e is h near free more theirs ours number =
      let P : Heard → Type 0 = λ q. NearIs (λ f. is_up f.state ≡ true) q.course.pair in
      let n = said.contact in
      let most = h.seen in
      let meet = met_near es er p by shown in
      tested P (nat_lt n z.seen) (passing z why.Contact) (if n == z.seen then meet z else activate_higher n meet z)
      (λ lower. let below : n < z.seen = grind (arith, nat_tests, lower) in absurd (omega (arith, below, number, most)))
      (λ _. tested P (n == z.seen) (meet z) (activate_higher n meet z)
      (λ equal. let sees : z.seen ≡ peer.contact = grind (arith, nat_tests, equal, number) in activate_met es er p said by shown z e is h near sees free more theirs ours)
      (λ differs.
      let both = risen_ready own peer z e n h near more number differs in
      let r = both.1 in
      let y = (risen z n).pair in
      subst (λ b. P (activates b (risen z n) (behind (risen z n) meet))) (sym both.0)
      (activate_met es er p said by shown y r.end is r.still r.near r.sees r.free r.more (theirs ∙ ap (λ b. peer.epoch b) (sym r.bearer)) (ours ∙ ap (λ b. own.epoch b) (sym r.bearer)))))

  -- a STATE or a numbered packet meets an end that answers
  pub traffic_outcome : (h : Header) (f : Fsm) (es er : ℕ) (held : Bool) → is_traffic h ≡ true → outcome_of f h es er held ≡ on_traffic f es er
  traffic_outcome (header.Reset said) f es er held is = absurd (true≢false (sym is))
  traffic_outcome (header.Activate said) f es er held is = absurd (true≢false (sym is))
  traffic_outcome (header.Discovery said) f es er held is = absurd (true≢false (sym is))
  traffic_outcome other f es er held is = refl

  traffic_met : (es er : ℕ) (p : Fields) (by : ℕ) (shown : BroadcastState) (y : PairEnds) (e : LinkEnd) → is_traffic p.header ≡ true → IsStill own peer y → y.near ≡ Some e → AnswersTo (peer.epoch y.bearer) e.fsm
      → is_last e.fsm.own ≡ false → es ≡ peer.epoch y.bearer → er ≡ own.epoch y.bearer → NearIs (λ f. is_up f.state ≡ true) (met_near es er p by shown y).course.pair
  traffic_met es er p by shown y e traffic h near answers more theirs ours =
      let k = near_still own peer y e near h in
      let s = traffic_still own peer y.seen y.bearer es er e.fsm k theirs in
      let outcome = traffic_outcome p.header e.fsm es er (is_up_at y.far) traffic in
      met_rises own peer y e p es er by shown near (ap (λ (o : Outcome). is_down o.change) outcome ∙ s.up)
      (ap (λ (o : Outcome). is_up o.after.state) outcome ∙ traffic_rises own peer y.seen y.bearer es er e.fsm k theirs ours answers more)

  traffic_heard : (h : Header) (es er : ℕ) (p : Fields) (by : ℕ) (shown : BroadcastState) (z : PairEnds) → is_traffic h ≡ true → NearIs (λ f. is_up f.state ≡ true) (met_near es er p by shown z).course.pair
      → NearIs (λ f. is_up f.state ≡ true) (heard_by h es er p by shown z).course.pair
  traffic_heard (header.Reset said) es er p by shown z is met = absurd (true≢false (sym is))
  traffic_heard (header.Activate said) es er p by shown z is met = absurd (true≢false (sym is))
  traffic_heard (header.Discovery said) es er p by shown z is met = absurd (true≢false (sym is))
  traffic_heard other es er p by shown z is met = met

-- ---- a whole turn

-- what the footing says of the near end is so at the end of the turn
up_then : (own peer : Footing) (y x' : PairEnds) (bearer : ℕ) → bearer ≤ 1 → y.bearer ≡ bearer → NearIs (λ f. is_up f.state ≡ true) y → IsStill (footed own peer y) peer x' → is_up_at (facing bearer x').near ≡ true
up_then own peer y x' bearer one on rises h =
    let w = facing bearer x' in
    let hw = still_facing (footed own peer y) peer bearer x' h in
    let here : w.bearer ≡ bearer = facing_bearer bearer x' one h.two in
    let was : (footed own peer y).up bearer ≡ true = ap (λ b. b && is_up_at y.near) (ap (λ n. n == y.bearer) (sym on) ∙ same_number y.bearer) ∙ up_near y.near rises.1 rises.2 in
    at w.near refl hw.near (ap (λ b. (footed own peer y).up b) here ∙ was)
  where
    up_near : (o : Option LinkEnd) → fsm_in o ≡ Some rises.0 → is_up rises.0.state ≡ true → is_up_at o ≡ true
    up_near None is up = absurd (let wrong : ⊥ = cc in wrong)
    up_near (Some e) is up = (let same : e.fsm ≡ rises.0 = cc in ap (λ (f : Fsm). is_up f.state) same ∙ up)

    at : (o : Option LinkEnd) → (facing bearer x').near ≡ o → IsStillAt (footed own peer y) peer (facing bearer x').seen (facing bearer x').bearer (fsm_in (facing bearer x').near) → (footed own peer y).up (facing bearer x').bearer ≡ true
        → is_up_at (facing bearer x').near ≡ true
    at None near k was = absurd (let none : HasNoEnd (footed own peer y) (facing bearer x').bearer = subst (λ o. IsStillAt (footed own peer y) peer (facing bearer x').seen (facing bearer x').bearer (fsm_in o)) near k in true≢false (sym was ∙ none.down))
    at (Some e) near k was =
        (let end : IsStillEnd (footed own peer y) peer (facing bearer x').seen (facing bearer x').bearer e.fsm = subst (λ o. IsStillAt (footed own peer y) peer (facing bearer x').seen (facing bearer x').bearer (fsm_in o)) near k in
        ap is_up_at near ∙ end.lasts was)

answers_then : (own peer : Footing) (y x' : PairEnds) (bearer : ℕ) → bearer ≤ 1 → y.bearer ≡ bearer → NearIs (AnswersTo (peer.epoch bearer)) y → IsStill (footed own peer y) peer x' → AnswersAt (peer.epoch bearer) (facing bearer x').near
answers_then own peer y x' bearer one on rises h =
    let w = facing bearer x' in
    let hw = still_facing (footed own peer y) peer bearer x' h in
    let here : w.bearer ≡ bearer = facing_bearer bearer x' one h.two in
    let says : AnswersTo (peer.epoch y.bearer) rises.0 = subst (λ b. AnswersTo (peer.epoch b) rises.0) (sym on) rises.2 in
    let was : (footed own peer y).answers bearer ≡ true =
    ap (λ b. b && is_answering (peer.epoch y.bearer) y.near) (ap (λ n. n == y.bearer) (sym on) ∙ same_number y.bearer) ∙ answering_near y.near rises.1 says in
    at w.near refl hw.near (ap (λ b. (footed own peer y).answers b) here ∙ was) here
  where
    answering_near : (o : Option LinkEnd) → fsm_in o ≡ Some rises.0 → AnswersTo (peer.epoch y.bearer) rises.0 → is_answering (peer.epoch y.bearer) o ≡ true
    answering_near None is says = absurd (let wrong : ⊥ = cc in wrong)
    answering_near (Some e) is says =
        (let same : e.fsm ≡ rises.0 = cc in
        let k = subst (AnswersTo (peer.epoch y.bearer)) (sym same) says in
        ap (λ b. b && (is_up e.fsm.state || is_reset_reset e.fsm.state)) (peer_known e.fsm.peer (peer.epoch y.bearer) k.knows) ∙ k.heard)

    at : (o : Option LinkEnd) → (facing bearer x').near ≡ o → IsStillAt (footed own peer y) peer (facing bearer x').seen (facing bearer x').bearer (fsm_in (facing bearer x').near) → (footed own peer y).answers (facing bearer x').bearer ≡ true
        → (facing bearer x').bearer ≡ bearer → AnswersAt (peer.epoch bearer) (facing bearer x').near
    at None near k was here = absurd (let none : HasNoEnd (footed own peer y) (facing bearer x').bearer = subst (λ o. IsStillAt (footed own peer y) peer (facing bearer x').seen (facing bearer x').bearer (fsm_in o)) near k in true≢false (sym was ∙ none.unanswered))
    at (Some e) near k was here =
        (let end : IsStillEnd (footed own peer y) peer (facing bearer x').seen (facing bearer x').bearer e.fsm = subst (λ o. IsStillAt (footed own peer y) peer (facing bearer x').seen (facing bearer x').bearer (fsm_in o)) near k in
        record { end = e; there = near; answers = subst (λ b. AnswersTo (peer.epoch b) e.fsm) here (end.answers was) })

-- the pair that heard is seen from the link that heard
pub heard_bearer : (own peer : Footing) (x : PairEnds) (bearer es er : ℕ) (p : Fields) (by : ℕ) (shown : BroadcastState) → bearer ≤ 1 → IsStill own peer x → ShowsPresent peer bearer es p
    → (heard_by p.header es er p by shown (facing bearer x)).course.pair.bearer ≡ bearer
heard_bearer own peer x bearer es er p by shown one h shows =
    let z = facing bearer x in
    let hz = still_facing own peer bearer x h in
    let on : z.bearer ≡ bearer = facing_bearer bearer x one h.two in
    let same : es ≡ peer.epoch z.bearer = shows.epoch ∙ ap (λ b. peer.epoch b) (sym on) in
    ran_bearer (May own peer) z (heard_by p.header es er p by shown z).course (hears_ran (May own peer) p.header es er p by shown z (may_hear own peer p.header es er p by shown z refl hz.two hz same shows.number)) hz.two ∙ on

pub resets_make_answer : ResetsMakeAnswer
resets_make_answer own peer x x' bearer es er p said by shown messages reply frames zero_is one h shows is rise t =
    let z = facing bearer x in
    let hz = still_facing own peer bearer x h in
    let on : z.bearer ≡ bearer = facing_bearer bearer x one h.two in
    let number : said.contact ≡ peer.contact = subst (ShowsNumber peer.contact) is shows.number in
    let heard = reset_heard own peer es er p said by shown z rise.end hz rise.there rise.free rise.more (shows.epoch ∙ ap (λ b. peer.epoch b) (sym on)) number in
    let near : NearIs (AnswersTo (peer.epoch bearer)) (heard_by p.header es er p by shown z).course.pair =
    subst (λ q. NearIs (AnswersTo (peer.epoch bearer)) (heard_by q es er p by shown z).course.pair) (sym is) (subst (λ b. NearIs (AnswersTo (peer.epoch b)) (heard_by (header.Reset said) es er p by shown z).course.pair) on heard) in
    answers_then own peer (heard_by p.header es er p by shown z).course.pair x' bearer one (heard_bearer own peer x bearer es er p by shown one h shows) near
    (behind_heard own peer x x' bearer es er p by shown messages reply frames zero_is one h shows t)

pub activates_take_up : ActivatesTakeUp
activates_take_up own peer x x' bearer es er p said by shown messages reply frames zero_is one h shows is back rise t =
    let z = facing bearer x in
    let hz = still_facing own peer bearer x h in
    let on : z.bearer ≡ bearer = facing_bearer bearer x one h.two in
    let number : said.contact ≡ peer.contact = subst (ShowsNumber peer.contact) is shows.number in
    let heard = activate_heard own peer es er p said by shown z rise.end is hz rise.there rise.free rise.more (shows.epoch ∙ ap (λ b. peer.epoch b) (sym on)) (back ∙ ap (λ b. own.epoch b) (sym on)) number in
    let near : NearIs (λ f. is_up f.state ≡ true) (heard_by p.header es er p by shown z).course.pair =
    subst (λ q. NearIs (λ f. is_up f.state ≡ true) (heard_by q es er p by shown z).course.pair) (sym is) heard in
    up_then own peer (heard_by p.header es er p by shown z).course.pair x' bearer one (heard_bearer own peer x bearer es er p by shown one h shows) near
    (behind_heard own peer x x' bearer es er p by shown messages reply frames zero_is one h shows t)

pub states_take_up : StatesTakeUp
states_take_up own peer x x' bearer es er p by shown messages reply frames zero_is one h shows traffic back rise answers t =
    let z = facing bearer x in
    let hz = still_facing own peer bearer x h in
    let on : z.bearer ≡ bearer = facing_bearer bearer x one h.two in
    let same : answers.end ≡ rise.end = same_some answers.end rise.end z.near answers.there rise.there in
    let says : AnswersTo (peer.epoch z.bearer) rise.end.fsm = subst (λ b. AnswersTo (peer.epoch b) rise.end.fsm) (sym on) (subst (λ (e : LinkEnd). AnswersTo (peer.epoch bearer) e.fsm) same answers.answers) in
    let met = traffic_met own peer es er p by shown z rise.end traffic hz rise.there says rise.more (shows.epoch ∙ ap (λ b. peer.epoch b) (sym on)) (back ∙ ap (λ b. own.epoch b) (sym on)) in
    up_then own peer (heard_by p.header es er p by shown z).course.pair x' bearer one (heard_bearer own peer x bearer es er p by shown one h shows) (traffic_heard own peer p.header es er p by shown z traffic met)
    (behind_heard own peer x x' bearer es er p by shown messages reply frames zero_is one h shows t)
