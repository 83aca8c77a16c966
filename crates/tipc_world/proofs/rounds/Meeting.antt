-- In the first round of a call that begins in a world in which no link is up, each node makes its end to each other one
-- on each bearer that they share.
use Rattle.std.specs.Prelude.{◌==◌, nat_le, not}
use Rattle.std.specs.List.{filter}
use Rattle.std.proofs.Common.{◌≡◌, ◌≢◌, ◌≤◌, ◌∙◌, ℕ, zero, suc, Bool, true, false, [], Some, None, length, slice_get, eq-eqb, inl, inr, refl, sym, ap, subst, arith}
use Rattle.std.proofs.lemmas.Bool.{and_parts, cases_eq, cases_lt, leb-true, true≢false}
use Rattle.std.proofs.lemmas.Bool.Decides.{nat_tests}
use Rattle.tipc_types.specs.Address.{node_word}
use Rattle.tipc_types.specs.declared.node_calls.Answer.TheVariants as answer
use Rattle.tipc_types.specs.declared.node_calls.EventNote.TheVariants as note
use Rattle.tipc_header.specs.declared.frames.FrameKind.TheVariants.{Finds}
use Rattle.tipc_header.specs.declared.packet.DiscoveryType.TheVariants.{Request}
use Rattle.tipc_header.specs.Frames.{kind_in}
use Rattle.tipc_discovery.specs.Hearing.{discovery_packet}
use Rattle.tipc_pair.specs.Facing.{facing, is_up_at}
use Rattle.tipc_settling.proofs.AnswersTold.{events_hear_ups}
use Rattle.tipc_settling.proofs.EndsMade.{events_keep_ends}
use Rattle.tipc_settling.proofs.Finding.{arrivals_find, nodes_ask, nothing_stops_finding}
use Rattle.tipc_node.specs.Discovery.{discovery_frame, request_on}
use Rattle.tipc_node.specs.Nodes.{end_with, is_mended_on, is_other, neighbour_of, pair_with, step_of}
use Rattle.tipc_node.specs.Sockets.{kept_answer}
use Rattle.tipc_node.specs.Turns.{IsFrom}
use Rattle.tipc_node.proofs.pairs.Strangers.{kept_abreast}
use Rattle.tipc_node.proofs.turns.Discovery.{discovery_from, discovery_kind}
use Rattle.tipc_replay.specs.declared.air.Sent.{Sent}
use Rattle.tipc_replay.specs.declared.events.WorldEvent.TheVariants.{Arrive, Call}
use Rattle.tipc_replay.specs.Air.{airborne, is_on}
use Rattle.tipc_replay.specs.Due.{is_for}
use Rattle.tipc_replay.specs.Sound.{IsNumber}
use Rattle.tipc_replay.specs.States.{MemberState, contact_at, pair_at}
use Rattle.tipc_replay.specs.Views.{sight_at}
use Rattle.tipc_replay.proofs.InLists.{stands_passing}
use Rattle.tipc_replay.proofs.frames.Reaching.{placed}
use Rattle.tipc_world.specs.declared.places.Places.{Places}
use Rattle.tipc_world.specs.CalmWorlds.{IsFromMended}
use Rattle.tipc_world.specs.Ends.{ends_of}
use Rattle.tipc_world.specs.Poised.{IsDownWorld}
use Rattle.tipc_world.specs.RisingWorlds.{AreSilentFor, AreUpsAnswered, IsRisingNode}
use Rattle.tipc_world.specs.RoundParts.{HasTickedOnce, IsKept, IsRound}
use Rattle.tipc_world.specs.Stages.{HasEnd, ShareBearer}
use Rattle.tipc_world.specs.States.{WorldState}
use Rattle.tipc_world.specs.StillWorlds.{footing_at}
use Rattle.tipc_world.specs.Steps.{by_in}
use Rattle.tipc_world.proofs.rounds.CalmWorlds.{mended_since}
use Rattle.tipc_world.proofs.rounds.FrameAges.{finds_young}
use Rattle.tipc_world.proofs.rounds.Guarded.{RoundGuarded}
use Rattle.tipc_world.proofs.rounds.HeardWorlds.{slice_there, unknown}
use Rattle.tipc_world.proofs.rounds.Leaving.{ArrivalMakes, ArrivalsLeave, AtNode, round_leaves_first, round_leaves_second}
use Rattle.tipc_world.proofs.rounds.Related.{RoundRelates}
use Rattle.tipc_world.proofs.rounds.Rising.{IsDownNode, down_nodes, first_round_rises, heard_all, rising_arrival, rising_begins, rising_is_still, silent_down}
use Rattle.tipc_world.proofs.rounds.RoundLaws.{round_ticks, tick_brings_first, tick_brings_second}
use Rattle.tipc_world.proofs.rounds.Stages.{number_of}
use Rattle.tipc_world.proofs.rounds.StillWorlds.{node_number, sight_is}
use Rattle.tipc_world.proofs.rounds.UpLinks.{near_is, other_is}

-- The first round of a call: it begins in a world in which no link is up, and nothing is lost in it.
pub record FirstRound (start : WorldState) (ends : Places) (now : WorldState) (r : IsRound (ends_of start.air) start ends now) : Type 0 where
  pub kept : IsKept start
  pub down : IsDownWorld start
  pub clear : start.lost ≡ false
  pub whole : now.lost ≡ false

module _ (start : WorldState) (ends : Places) (now : WorldState) (r : IsRound (ends_of start.air) start ends now) (k : FirstRound start ends now r) where
  pub rises : RoundRelates start (ends_of start.air) (IsRisingNode start 0) (IsFromMended start) (AreUpsAnswered start) r.ticked r.between now
  rises = first_round_rises start (ends_of start.air) ends now k.kept k.down (omega arith, omega arith) r k.whole k.clear

  guarded : RoundGuarded start (ends_of start.air) (IsRisingNode start 0) (IsFromMended start) r.ticked r.between now
  guarded =
      let q = rises in
      let ticks = q.ticks in
      let middle = q.middle in
      let round = q.round in
      record { ticks = ticks.guards; middle = middle.guards; round = round.guards }

  -- ---- a tick

  -- no link of the node is up when its tick has passed
  still_down : (b : ℕ) (t : HasTickedOnce start r.ticked b) → IsDownNode b t.ticks.after
  still_down b t j bearer number apart on_one = by (is_up_at (facing bearer (pair_with t.ticks.after.node j)).near) refl
    where
      m : MemberState
      m = t.ticks.before

      down : IsDownNode b m
      down = down_nodes start k.kept k.down b m t.was

      by : (up : Bool) → is_up_at (facing bearer (pair_with t.ticks.after.node j)).near ≡ up → is_up_at (facing bearer (pair_with t.ticks.after.node j)).near ≡ false
      by false is = is
      by true is =
          let turn = t.ticks.does.turn in
          let s = step_of (by_in t.before.members t.before.stamps (Call b note.Tick)) note.Tick turn.inside (kept_answer t.answered) in
          let none_silent : AreSilentFor 0 b m = λ i i_is i_apart on one. (let none = silent_down (facing on (pair_with m.node i)).near (down i on i_is i_apart one) in omega (arith, none)) in
          let heard = heard_all 0 b m (omega arith) (λ i. (kept_abreast m.node i turn.told_before).first) none_silent j number apart in
          let still = (rising_begins start k.kept k.down k.clear).nodes b m t.was j number apart in
          absurd (elim (events_hear_ups (sight_at start.members start.air b j) (sight_at start.members start.air j b) (footing_at start b j) (footing_at start j b) m.node t.ticks.after.node [] s t.ticks.frames j bearer turn.told_before turn.turn
          (k.kept.nodes.sound.pairs b j (node_number start b m k.kept t.was) number apart) (sight_is start b j m k.kept t.was) heard still.still on_one is) [
            | inl was ↦ true≢false (sym was ∙ down j bearer number apart on_one)
            | inr heard_it ↦ (let wrong : note.Tick ≡ note.Arrive bearer heard_it.number = heard_it.arrives in cc)
          ])

  -- and so it is with all its neighbours
  none_up : (b : ℕ) (t : HasTickedOnce start r.ticked b) (bearer : ℕ) → bearer ≤ 1 → (j : ℕ) → is_up_at (end_with bearer (neighbour_of t.ticks.after.node j)) ≡ false
  none_up b t bearer on_one j = elim (cases_lt j 1) [
    | inl low ↦ strange (unknown r.ticked b j t.ticks.after t.is (kept_ticked.nodes.sound.known b j (λ number. absurd (omega (arith, low, number.0)))))
    | inr from_one ↦ elim (cases_lt j 33) [
      | inr high ↦ strange (unknown r.ticked b j t.ticks.after t.is (kept_ticked.nodes.sound.known b j (λ number. absurd (omega (arith, high, number.1)))))
      | inl to_32 ↦ elim (cases_eq j b) [
        | inl same ↦ strange (unknown r.ticked b j t.ticks.after t.is (ap (λ i. pair_at r.ticked.members b i) same ∙ kept_ticked.nodes.sound.apart b))
        | inr other_one ↦ ap is_up_at (near_is t.ticks.after.node j bearer (neighbour_of t.ticks.after.node j)) ∙ still_down b t j bearer (from_one, omega (arith, to_32)) (λ same. other_one (sym same)) on_one
      ]
    ]
  ]
    where
      kept_ticked : IsKept r.ticked
      kept_ticked = (let g = guarded in let ticks = g.ticks in ticks.on.kept k.kept)

      strange : neighbour_of t.ticks.after.node j ≡ None → is_up_at (end_with bearer (neighbour_of t.ticks.after.node j)) ≡ false
      strange none = ap (λ x. is_up_at (end_with bearer x)) none

  -- ---- a request

  -- node b asks on a bearer
  record Asks (b n bearer : ℕ) (t : HasTickedOnce start r.ticked b) : Type 0 where
    place : ℕ
    at : slice_get (filter (is_on bearer) t.ticks.frames) place ≡ Some (request_on t.ticks.before.node bearer)
    meant : is_for (record { word = node_word b }) (request_on t.ticks.before.node bearer).to n ≡ true

  asks : (n b bearer : ℕ) → ShareBearer start n b bearer → (t : HasTickedOnce start r.ticked b) → Asks b n bearer t
  asks n b bearer shared t =
      let m = t.ticks.before in
      let n_is = number_of start n k.kept shared.here in
      let b_is = number_of start b k.kept shared.there in
      let world = rising_is_still start 0 start (rising_begins start k.kept k.down k.clear) in
      let mended : is_mended_on m.node.mended bearer ≡ true = sym (mended_since start start b m bearer world t.was) ∙ shared.mended_there in
      let o = request_on m.node bearer in
      let there = nodes_ask m.node t.ticks.after.node _ t.ticks.frames t.answered bearer t.ticks.does.performs shared.on_one mended (none_up b t bearer shared.on_one) in
      let on : slice_get t.ticks.frames there.0 ≡ Some o = slice_there t.ticks.frames there.0 o there.1 there.2 in
      let passed = stands_passing (is_on bearer) t.ticks.frames o (there.0, on) (eq-eqb bearer bearer refl) in
      record { place = passed.0; at = passed.1; meant = apart_words n b (λ same. shared.apart same) n_is b_is }
    where
      apart_words : (n b : ℕ) → n ≢ b → IsNumber n → IsNumber b → not (node_word b == node_word n) ≡ true
      apart_words n b apart n_is b_is =
          let differ : node_word b ≢ node_word n = λ same. apart (omega (arith, same)) in
          grind (arith, nat_tests, differ)

  -- it is a discovery packet of node b
  request_from : (b : ℕ) (t : HasTickedOnce start r.ticked b) (bearer : ℕ) → IsNumber b → IsFrom b (request_on t.ticks.before.node bearer).frame t.ticks.before.node.boot 0 (discovery_packet (node_word b) Request) × (kind_in (request_on t.ticks.before.node bearer).frame ≡ Finds)
  request_from b t bearer number =
      let m = t.ticks.before in
      let own : m.node.own ≡ node_word b = (k.kept.nodes.sound.numbered b m t.was).1 in
      let bounds = k.kept.nodes.bounded b m t.was in
      let boots = bounds.boot in (
        subst (λ w. IsFrom b (discovery_frame w m.node.boot Request) m.node.boot 0 (discovery_packet (node_word b) Request)) (sym own) (discovery_from b m.node.boot Request number.1 boots.1),
        subst (λ w. kind_in (discovery_frame w m.node.boot Request) ≡ Finds) (sym own) (discovery_kind (node_word b) m.node.boot Request (omega (arith, number))),
      )

  -- ---- an end is made

  stays_made : (n b bearer : ℕ) → ArrivalsLeave start (ends_of start.air) (IsRisingNode start 0) (IsFromMended start) n (λ m. HasEnd b bearer m)
  stays_made n b bearer old new a g next here was =
      let h = a.arrives in
      let t = h.does.turn in
      let s = step_of (by_in old.members old.stamps (Arrive a.node a.bearer a.place)) (note.Arrive a.bearer (length h.before.arrivals)) t.inside (answer.Arrived h.does.arrived) in
      events_keep_ends h.before.node h.after.node a.frame.frame s h.frames b bearer t.told_before t.turn was

  request_makes : (n b bearer : ℕ) → ShareBearer start n b bearer → (t : HasTickedOnce start r.ticked b)
      → ArrivalMakes start (ends_of start.air) (IsRisingNode start 0) (IsFromMended start) (λ m. HasEnd b bearer m) bearer n (airborne (contact_at t.before.members b) t.after.members b (request_on t.ticks.before.node bearer))
  request_makes n b bearer shared t old new a here on is g next said =
      let h = a.arrives in
      let m = h.before in
      let turn = h.does.turn in
      let b_is = number_of start b k.kept shared.there in
      let kept_old = g.on.kept k.kept in
      let bytes : a.frame.frame ≡ (request_on t.ticks.before.node bearer).frame = ap (λ (f : Sent). f.frame) is in
      let from = request_from b t bearer b_is in
      let p = discovery_packet (node_word b) Request in
      let brings : IsFrom b a.frame.frame t.ticks.before.node.boot 0 p = subst (λ bs. IsFrom b bs t.ticks.before.node.boot 0 p) (sym bytes) from.0 in
      let kind : kind_in a.frame.frame ≡ Finds = subst (λ bs. kind_in bs ≡ Finds) (sym bytes) from.1 in
      let world = rising_is_still start 0 old g in
      let shared_here : ShareBearer start a.node b a.bearer = subst (λ j. ShareBearer start j b a.bearer) (sym here) (subst (ShareBearer start n b) (sym on) shared) in
      let mended : is_mended_on m.node.mended a.bearer ≡ true = sym (mended_since start old a.node m a.bearer world h.was) ∙ shared_here.mended in
      let size = (kept_old.nodes.sound.frames a.bearer a.place a.frame (placed old.air a.node a.bearer a.place a.frame a.found).0).size in
      let both = and_parts (nat_le 16 (length a.frame.frame)) (nat_le (length a.frame.frame) 1516) size in
      let own = (kept_old.nodes.sound.numbered a.node m h.was).1 in
      let passes = nothing_stops_finding m.node a.bearer a.frame.frame b t.ticks.before.node.boot 0 p brings kind refl mended (leb-true 16 (length a.frame.frame) both.0) (leb-true (length a.frame.frame) 1516 both.1)
      (subst (λ w. is_other w (node_word b) ≡ true) (sym own) (other_is a.node b b_is shared_here.apart)) in
      subst (λ x. HasEnd b x h.after) on
      (arrivals_find m.node h.after.node _ a.bearer _ a.frame.frame h.frames h.does.arrived b t.ticks.before.node.boot 0 p h.does.arrives turn a.on_one passes brings kind)

  pub makes_ends : (n b bearer : ℕ) → ShareBearer start n b bearer → AtNode n (λ m. HasEnd b bearer m) now
  makes_ends n b zero shared =
      let n_is = number_of start n k.kept shared.here in
      let b_is = number_of start b k.kept shared.there in
      let t = round_ticks (ends_of start.air) start ends now r b k.whole b_is.0 b_is.1 shared.there in
      let ask = asks n b 0 shared t in
      let o = request_on t.ticks.before.node 0 in
      let f = airborne (contact_at t.before.members b) t.after.members b o in
      let at = tick_brings_first (ends_of start.air) start ends now r b n ask.place t o k.whole (omega arith, omega arith) n_is.1 shared.here ask.at ask.meant in
      round_leaves_first start (ends_of start.air) (IsRisingNode start 0) (IsFromMended start) (λ m. HasEnd b 0 m) (ends_of start.air) start ends now r at.place n f (omega arith, omega arith) at.behind (rising_arrival start 0 k.kept)
      (stays_made n b 0) (request_makes n b 0 shared t) at.arrives (let once = at.arrives in finds_young once.before.members f n 0 (request_from b t 0 b_is).1) k.whole guarded
  makes_ends n b (suc zero) shared =
      let n_is = number_of start n k.kept shared.here in
      let b_is = number_of start b k.kept shared.there in
      let t = round_ticks (ends_of start.air) start ends now r b k.whole b_is.0 b_is.1 shared.there in
      let ask = asks n b 1 shared t in
      let o = request_on t.ticks.before.node 1 in
      let f = airborne (contact_at t.before.members b) t.after.members b o in
      let at = tick_brings_second (ends_of start.air) start ends now r b n ask.place t o k.whole (omega arith, omega arith) n_is.1 shared.here ask.at ask.meant in
      round_leaves_second start (ends_of start.air) (IsRisingNode start 0) (IsFromMended start) (λ m. HasEnd b 1 m) (ends_of start.air) start ends now r at.place n f (omega arith, omega arith) at.behind (rising_arrival start 0 k.kept)
      (stays_made n b 1) (request_makes n b 1 shared t) at.arrives (let once = at.arrives in finds_young once.before.members f n 1 (request_from b t 1 b_is).1) k.whole guarded
  makes_ends n b (suc (suc more)) shared = absurd (let one = shared.on_one in omega (arith, one))
