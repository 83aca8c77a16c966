-- While a world rises, each link that is up is answered by the other end.
use Rattle.std.proofs.Common.{◌≡◌, ◌≢◌, ◌≤◌, ◌⊎◌, ◌∙◌, ℕ, zero, suc, true, List, Option, Some, None, inl, inr, slice_get, slice_index_or, eqb-true, refl, sym, ap, subst, arith}
use Rattle.std.specs.Prelude.{◌==◌, ◌||◌}
use Rattle.std.proofs.lemmas.Bool.{and_parts, cases_eq}
use Rattle.tipc_types.specs.Address.{node_word}
use Rattle.tipc_types.specs.LinkStates.{is_up}
use Rattle.tipc_types.specs.declared.node_calls.Answer.{Answer}
use Rattle.tipc_outside.specs.declared.outgoing.Outgoing.{Outgoing}
use Rattle.tipc_header.specs.Frames.{kind_in}
use Rattle.tipc_header.specs.declared.frames.FrameKind.TheVariants.{Links}
use Rattle.tipc_header.specs.Spelling.{Fields, spelling}
use Rattle.tipc_journal.specs.Steps.{NodeStep}
use Rattle.tipc_link.specs.Links.{LinkEnd, is_traffic}
use Rattle.tipc_link_fsm.specs.Table.{is_reset_reset}
use Rattle.tipc_pair.specs.Facing.{facing, is_up_at}
use Rattle.tipc_paired.specs.Views.{epoch_in, es_of, fsm_in}
use Rattle.tipc_paired.proofs.wires.Frames.{es_of-frame}
use Rattle.tipc_two_nodes.specs.Sights.{AreSeen, Sight, pair_seen}
use Rattle.tipc_settling.specs.Beginnings.{epoch_at, standing}
use Rattle.tipc_settling.specs.Rises.{AnswersAt, HeardIn, ShowsAnswering}
use Rattle.tipc_settling.specs.Stillness.{AnswersTo, Footing, IsStill, IsStillAt, IsStillEnd, MayComeTo}
use Rattle.tipc_settling.proofs.Answering.{Wakes}
use Rattle.tipc_settling.proofs.AnswersTold.{events_hear_ups, events_tell_answer}
use Rattle.tipc_settling.proofs.Lasting.{answering_stays}
use Rattle.tipc_settling.proofs.Nodes.{events_still}
use Rattle.tipc_settling.proofs.Standing.{stands_anew}
use Rattle.tipc_settling.proofs.UpTold.{traffic_tells_up}
use Rattle.tipc_node.specs.Nodes.{pair_with}
use Rattle.tipc_node.specs.Telling.{IsTold}
use Rattle.tipc_node.specs.Turns.{IsFrom, NodeTurn, frames_to, is_out_to}
use Rattle.tipc_replay.specs.declared.air.Sent.{Sent}
use Rattle.tipc_replay.specs.declared.events.WorldEvent.{WorldEvent}
use Rattle.tipc_replay.specs.Air.{airborne, as_frame, goes}
use Rattle.tipc_replay.specs.Calls.{node_of}
use Rattle.tipc_replay.specs.Skies.{air_on}
use Rattle.tipc_replay.specs.Sound.{IsNumber}
use Rattle.tipc_replay.specs.States.{MemberState, contact_at, is_mended_at}
use Rattle.tipc_replay.specs.Views.{sight_at}
use Rattle.tipc_replay.proofs.calls.Outcomes.{some_is}
use Rattle.tipc_replay.proofs.InLists.{all_at, stands_passing}
use Rattle.tipc_replay.proofs.frames.Reaching.{placed}
use Rattle.tipc_world.specs.Ends.{ends_of, place_on}
use Rattle.tipc_world.specs.RisingWorlds.{AreUpsAnswered, left_as}
use Rattle.tipc_world.specs.RoundParts.{ComesFrom, FrameArrives, HappensWhole, IsKept}
use Rattle.tipc_world.specs.RoundParts.ComesFrom.{left, stood}
use Rattle.tipc_world.specs.States.{WorldState}
use Rattle.tipc_world.specs.StillWorlds.{IsStillNode, IsStillWorld, footing_at}
use Rattle.tipc_world.proofs.rounds.Flying.{comes_from}
use Rattle.tipc_world.proofs.rounds.Keeping.{here_is, other_stays}
use Rattle.tipc_world.proofs.rounds.StillWorlds.{IsSentFrom, no_end_below, node_number, seen_end, sender_there, sight_is, still_epoch}

-- ---- an event

-- What is shown of an event of a node beside what happened: its node was still with each other one, what came to it
-- shows the present, and an end that heard what takes it up is answered.
pub record IsAnsweredEvent (start old new : WorldState) (event : WorldEvent) (bytes : List ℕ) (answered : Answer) (h : HappensWhole old new event bytes answered) (s : NodeStep) : Type 0 where
  pub kept : IsKept old
  pub told : IsTold h.before.node
  pub turn : NodeTurn h.before.node h.after.node bytes s h.frames
  pub still : IsStillNode start (node_of event) h.before
  pub comes : (b : ℕ) → IsNumber b → node_of event ≢ b → MayComeTo (footing_at start b (node_of event)) b (pair_with h.before.node b) s.event bytes
  pub hears : (b bearer : ℕ) (k : MemberState) → node_of event ≢ b → bearer ≤ 1 → slice_index_or old.members b None ≡ Some k → HeardIn (footing_at start (node_of event) b) b bearer s.event bytes
      → AnswersAt ((footing_at start (node_of event) b).epoch bearer) (facing bearer (pair_with k.node (node_of event))).near
  pub mends : (b bearer : ℕ) → node_of event ≢ b → bearer ≤ 1 → HeardIn (footing_at start (node_of event) b) b bearer s.event bytes → is_mended_at start.members b bearer ≡ true

module _ (start old new : WorldState) (event : WorldEvent) (bytes : List ℕ) (answered : Answer) (h : HappensWhole old new event bytes answered) (s : NodeStep) (k : IsAnsweredEvent start old new event bytes answered h s) where
  abbrev n : ℕ
  n = node_of event

  n_is : IsNumber n
  n_is = node_number old n h.before k.kept h.was

  -- the node as the event left it, or another one as it was
  member_after : (m : MemberState) → slice_index_or new.members n None ≡ Some m → h.after ≡ m
  member_after m there = some_is h.after m (sym (here_is old new event bytes answered h) ∙ there)

  member_before : (a : ℕ) (m : MemberState) → (a ≡ n → ⊥) → slice_index_or new.members a None ≡ Some m → slice_index_or old.members a None ≡ Some m
  member_before a m other there = sym (other_stays old new event bytes answered h a other) ∙ there

  -- an end that answered goes on to
  stays_answering : (b bearer : ℕ) → IsNumber b → n ≢ b → bearer ≤ 1 → AnswersAt ((footing_at start b n).epoch bearer) (facing bearer (pair_with h.before.node b)).near → AnswersAt ((footing_at start b n).epoch bearer) (facing bearer (pair_with h.after.node b)).near
  stays_answering b bearer number apart on_one says =
      let own = footing_at start n b in
      let peer = footing_at start b n in
      let x = pair_with h.before.node b in
      let still = k.still b number apart in
      answering_stays own peer x (pair_with h.after.node b) bearer on_one
      (events_still (standing own peer x) peer h.before.node h.after.node bytes s h.frames b k.told k.turn (k.comes b number apart) (stands_anew own peer x still)) says

  -- a link of the node itself
  own_ups : (b bearer : ℕ) (m : MemberState) → AreUpsAnswered start old → slice_index_or old.members b None ≡ Some m → n ≢ b → bearer ≤ 1 → is_up_at (facing bearer (pair_with h.after.node b)).near ≡ true
      → AnswersAt ((footing_at start n b).epoch bearer) (facing bearer (pair_with m.node n)).near
  own_ups b bearer m r there apart on_one up =
      let number = node_number old b m k.kept there in
      elim (events_hear_ups (sight_at old.members old.air n b) (sight_at old.members old.air b n) (footing_at start n b) (footing_at start b n) h.before.node h.after.node bytes s h.frames b bearer k.told k.turn
      (k.kept.nodes.sound.pairs n b n_is number apart) (sight_is old n b h.before k.kept h.was) (k.comes b number apart) (k.still b number apart) on_one up) [
        | inl was ↦ r.ups n b bearer h.before m h.was there apart on_one was
        | inr heard ↦ k.hears b bearer m apart on_one there heard
      ]

  ups_after : AreUpsAnswered start old → (a b bearer : ℕ) (m l : MemberState) → slice_index_or new.members a None ≡ Some m → slice_index_or new.members b None ≡ Some l → a ≢ b → bearer ≤ 1
      → is_up_at (facing bearer (pair_with m.node b)).near ≡ true → AnswersAt ((footing_at start a b).epoch bearer) (facing bearer (pair_with l.node a)).near
  ups_after r a b bearer m l one two apart on_one up = by (cases_eq a n) (cases_eq b n)
    where
      by : (a ≡ n) ⊎ (a ≡ n → ⊥) → (b ≡ n) ⊎ (b ≡ n → ⊥) → AnswersAt ((footing_at start a b).epoch bearer) (facing bearer (pair_with l.node a)).near
      by (inl here) other =
          let away : n ≢ b = λ same. apart (here ∙ same) in
          let there = member_before b l (λ same. away (sym same)) two in
          let is : h.after ≡ m = member_after m (ap (λ j. slice_index_or new.members j None) (sym here) ∙ one) in
          let still_up : is_up_at (facing bearer (pair_with h.after.node b)).near ≡ true = ap (λ (q : MemberState). is_up_at (facing bearer (pair_with q.node b)).near) is ∙ up in
          subst (λ j. AnswersAt ((footing_at start j b).epoch bearer) (facing bearer (pair_with l.node j)).near) (sym here) (own_ups b bearer l r there away on_one still_up)
      by (inr away) (inl here) =
          let there = member_before a m away one in
          let number = node_number old a m k.kept there in
          let apart_n : n ≢ a = λ same. away (sym same) in
          let is : h.after ≡ l = member_after l (ap (λ j. slice_index_or new.members j None) (sym here) ∙ two) in
          let was = r.ups a n bearer m h.before there h.was away on_one (ap (λ j. is_up_at (facing bearer (pair_with m.node j)).near) (sym here) ∙ up) in
          let now = stays_answering a bearer number apart_n on_one was in
          subst (λ j. AnswersAt ((footing_at start a j).epoch bearer) (facing bearer (pair_with l.node a)).near) (sym here)
          (subst (λ (q : MemberState). AnswersAt ((footing_at start a n).epoch bearer) (facing bearer (pair_with q.node a)).near) is now)
      by (inr away) (inr off) = r.ups a b bearer m l (member_before a m away one) (member_before b l off two) apart on_one up

  mended_after : AreUpsAnswered start old → (a b bearer : ℕ) (m : MemberState) → slice_index_or new.members a None ≡ Some m → IsNumber b → a ≢ b → bearer ≤ 1 → is_up_at (facing bearer (pair_with m.node b)).near ≡ true → is_mended_at start.members b bearer ≡ true
  mended_after r a b bearer m one number apart on_one up = by (cases_eq a n)
    where
      by : (a ≡ n) ⊎ (a ≡ n → ⊥) → is_mended_at start.members b bearer ≡ true
      by (inr away) = r.mended a b bearer m (member_before a m away one) number apart on_one up
      by (inl here) =
          let away : n ≢ b = λ same. apart (here ∙ same) in
          let is : h.after ≡ m = member_after m (ap (λ j. slice_index_or new.members j None) (sym here) ∙ one) in
          let still_up : is_up_at (facing bearer (pair_with h.after.node b)).near ≡ true = ap (λ (q : MemberState). is_up_at (facing bearer (pair_with q.node b)).near) is ∙ up in
          elim (events_hear_ups (sight_at old.members old.air n b) (sight_at old.members old.air b n) (footing_at start n b) (footing_at start b n) h.before.node h.after.node bytes s h.frames b bearer k.told k.turn
          (k.kept.nodes.sound.pairs n b n_is number away) (sight_is old n b h.before k.kept h.was) (k.comes b number away) (k.still b number away) on_one still_up) [
            | inl was ↦ r.mended n b bearer h.before h.was number away on_one was
            | inr heard ↦ k.mends b bearer away on_one heard
          ]

  -- what left in the event
  left_tells : (j : ℕ) (o : Outgoing) (sender d : ℕ) (m : MemberState) → slice_get h.frames j ≡ Some o → goes sender d (airborne (contact_at old.members n) new.members n o) ≡ true → IsNumber d → sender ≢ d
      → slice_index_or new.members sender None ≡ Some m → ShowsAnswering (footing_at start d sender) (pair_with m.node d) o
  left_tells j o sender d m at goes_to number apart there =
      let both = and_parts (node_word n == node_word sender) (is_out_to d o) goes_to in
      let word : node_word n ≡ node_word sender = eqb-true (node_word n) (node_word sender) both.0 in
      let one : n ≡ sender = omega (arith, word) in
      let away : n ≢ d = λ same. apart (sym one ∙ same) in
      let all = events_tell_answer (sight_at old.members old.air n d) (sight_at old.members old.air d n) (footing_at start n d) (footing_at start d n) h.before.node h.after.node bytes s h.frames d k.told k.turn
      (k.kept.nodes.sound.pairs n d n_is number away) (sight_is old n d h.before k.kept h.was) (k.comes d number away) (k.still d number away) in
      let passed = stands_passing (is_out_to d) h.frames o (j, at) both.1 in
      let tells : ShowsAnswering (footing_at start d n) (pair_with h.after.node d) o = all_at (ShowsAnswering (footing_at start d n) (pair_with h.after.node d)) (frames_to d h.frames) passed.0 o all passed.1 in
      let is : h.after ≡ m = member_after m (ap (λ a. slice_index_or new.members a None) one ∙ there) in
      subst (λ a. ShowsAnswering (footing_at start d a) (pair_with m.node d) o) one (subst (λ (q : MemberState). ShowsAnswering (footing_at start d n) (pair_with q.node d) o) is tells)

  -- what was in the air
  stood_tells : AreUpsAnswered start old → (bearer place : ℕ) (f : Sent) (sender d : ℕ) (m : MemberState) → bearer ≤ 1 → place_on bearer (ends_of start.air) ≤ place → slice_get (air_on bearer old.air) place ≡ Some f → goes sender d f ≡ true
      → IsNumber d → sender ≢ d → slice_index_or new.members sender None ≡ Some m → ShowsAnswering (footing_at start d sender) (pair_with m.node d) (left_as bearer f)
  stood_tells r bearer place f sender d m on_one behind at goes_to number apart there = by (cases_eq sender n)
    where
      by : (sender ≡ n) ⊎ (sender ≡ n → ⊥) → ShowsAnswering (footing_at start d sender) (pair_with m.node d) (left_as bearer f)
      by (inr other) = r.told bearer place f sender d m on_one behind at goes_to number apart (member_before sender m other there)
      by (inl here) =
          let away : n ≢ d = λ same. apart (here ∙ same) in
          let is : h.after ≡ m = member_after m (ap (λ a. slice_index_or new.members a None) (sym here) ∙ there) in
          let was : ShowsAnswering (footing_at start d n) (pair_with h.before.node d) (left_as bearer f) =
          r.told bearer place f n d h.before on_one behind at (ap (λ a. goes a d f) (sym here) ∙ goes_to) number away h.was in
          let now : ShowsAnswering (footing_at start d n) (pair_with h.after.node d) (left_as bearer f) =
          λ es er p said es_fits er_fits fits same header_is present. stays_answering d bearer number away on_one (was es er p said es_fits er_fits fits same header_is present) in
          subst (λ a. ShowsAnswering (footing_at start d a) (pair_with m.node d) (left_as bearer f)) (sym here) (subst (λ (q : MemberState). ShowsAnswering (footing_at start d n) (pair_with q.node d) (left_as bearer f)) is now)

  -- so it is after the event
  pub answered_on : AreUpsAnswered start old → AreUpsAnswered start new
  answered_on r = record {
    ups = ups_after r;
    mended = mended_after r;
    told = λ bearer place f sender d m on_one behind at goes_to number apart there. by bearer place f sender d m on_one behind goes_to number apart there (comes_from old new event bytes answered h bearer place f on_one at);
  }
    where
      by : (bearer place : ℕ) (f : Sent) (sender d : ℕ) (m : MemberState) → bearer ≤ 1 → place_on bearer (ends_of start.air) ≤ place → goes sender d f ≡ true → IsNumber d → sender ≢ d → slice_index_or new.members sender None ≡ Some m
          → ComesFrom old new n h.frames bearer place f → ShowsAnswering (footing_at start d sender) (pair_with m.node d) (left_as bearer f)
      by bearer place f sender d m on_one behind goes_to number apart there (stood at) = stood_tells r bearer place f sender d m on_one behind at goes_to number apart there
      by bearer place f sender d m on_one behind goes_to number apart there (left j o at on is) =
          let went = ap (goes sender d) (sym is) ∙ goes_to in
          let tells = left_tells j o sender d m at went number apart there in
          subst (λ b. ShowsAnswering (footing_at start d sender) (pair_with m.node d) (left_as b f)) on
          (subst (λ q. ShowsAnswering (footing_at start d sender) (pair_with m.node d) (left_as o.bearer q)) (sym is) tells)

-- ---- what takes a link up

-- a node whose link is up answers
up_answers : (own peer : Footing) (seen bearer : ℕ) (e : LinkEnd) → IsStillEnd own peer seen bearer e.fsm → is_up e.fsm.state ≡ true → AnswersTo (peer.epoch bearer) e.fsm
up_answers own peer seen bearer e still up = record { knows = still.up up; heard = ap (λ b. b || is_reset_reset e.fsm.state) up }

-- the end of a still pair on a bearer
still_at : (own peer : Footing) (v : Sight) (bearer : ℕ) (e : LinkEnd) → bearer ≤ 1 → IsStill own peer (pair_seen v) → v.ends bearer ≡ Some e → IsStillEnd own peer v.node.seen bearer e.fsm
still_at own peer v zero e on_one h is = subst (IsStillAt own peer v.node.seen 0) (ap fsm_in is) h.near
still_at own peer v (suc zero) e on_one h is = subst (IsStillAt own peer v.node.seen 1) (ap fsm_in is) h.far
still_at own peer v (suc (suc more)) e on_one h is = absurd (omega (arith, on_one))

seen_near : (v : Sight) (bearer : ℕ) → bearer ≤ 1 → (facing bearer (pair_seen v)).near ≡ v.ends bearer
unfolding facing
seen_near v zero on_one = refl
seen_near v (suc zero) on_one = refl
seen_near v (suc (suc more)) on_one = absurd (omega (arith, on_one))

-- What arrives from a node that the present end heard, and takes that up, was sent by an end that answers it.
pub arrival_answered : (start old new : WorldState) (a : FrameArrives (ends_of start.air) old new) → IsKept old → IsStillWorld start old → AreUpsAnswered start old → (b : ℕ) (m : MemberState) (es er : ℕ) (p : Fields)
    → slice_index_or old.members b None ≡ Some m → a.node ≢ b → IsFrom b a.frame.frame es er p → kind_in a.frame.frame ≡ Links → es ≡ (footing_at start b a.node).epoch a.bearer → er ≡ (footing_at start a.node b).epoch a.bearer
    → Wakes p.header → AnswersAt ((footing_at start a.node b).epoch a.bearer) (facing a.bearer (pair_with m.node a.node)).near
arrival_answered start old new a kept g r b m es er p there apart brings kind_is theirs ours wakes = by wakes
  where
    n : ℕ
    n = a.node

    n_is : IsNumber n
    n_is = node_number old n a.arrives.before kept a.arrives.was

    sender : IsSentFrom old n a.bearer a.frame b
    sender = sender_there old n a.bearer a.place a.frame b es er p kept a.found brings kind_is

    v : Sight
    v = sight_at old.members old.air b n

    w : Sight
    w = sight_at old.members old.air n b

    sight : pair_seen v ≡ pair_with m.node n
    sight = sight_is old b n m kept there

    still : IsStill (footing_at start b n) (footing_at start n b) (pair_seen v)
    still = subst (IsStill (footing_at start b n) (footing_at start n b)) (sym sight) (g.nodes b m there n n_is (λ same. apart (sym same)))

    seen : AreSeen v w
    seen = kept.nodes.sound.pairs b n sender.number n_is sender.apart

    -- a STATE or a numbered packet is of a link that is up
    traffic_is : is_traffic p.header ≡ true → (o : Option LinkEnd) → v.ends a.bearer ≡ o → AnswersAt ((footing_at start n b).epoch a.bearer) (facing a.bearer (pair_seen v)).near
    traffic_is traffic None none =
        absurd (
        let below = no_end_below v w sender.place (as_frame a.bearer a.frame) seen sender.sent none in
        let under : es_of a.frame.frame ≡ es = ap es_of brings.frame_is ∙ es_of-frame es er (spelling p) brings.es_fits brings.er_fits in
        let now : epoch_at (pair_seen v) a.bearer ≡ v.node.contact = seen_end v a.bearer a.on_one ∙ ap (epoch_in v.node.contact) none in
        let epoch = still_epoch (footing_at start b n) (footing_at start n b) v a.bearer a.on_one still in
        omega (arith, below, under, now, epoch, theirs))
    traffic_is traffic (Some e) is =
        let end = still_at (footing_at start b n) (footing_at start n b) v a.bearer e a.on_one still is in
        let up = traffic_tells_up v w sender.place (as_frame a.bearer a.frame) e es er p seen sender.sent is brings.es_fits brings.er_fits brings.fits brings.frame_is (theirs ∙ sym end.epoch) traffic in
        record { end = e; there = seen_near v a.bearer a.on_one ∙ is; answers = up_answers (footing_at start b n) (footing_at start n b) v.node.seen a.bearer e end up }

    by : Wakes p.header → AnswersAt ((footing_at start n b).epoch a.bearer) (facing a.bearer (pair_with m.node n)).near
    by (inl notice) =
        r.told a.bearer a.place a.frame b n m a.on_one a.behind (placed old.air n a.bearer a.place a.frame a.found).0 sender.goes_here n_is sender.apart there es er p notice.0 brings.es_fits brings.er_fits brings.fits brings.frame_is notice.1 ours
    by (inr traffic) = subst (λ x. AnswersAt ((footing_at start n b).epoch a.bearer) (facing a.bearer x).near) sight (traffic_is traffic (v.ends a.bearer) refl)
