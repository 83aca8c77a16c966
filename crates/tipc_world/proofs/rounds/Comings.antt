-- What each end says at a tick, and what the other end makes of it: it has seen the contact number, answers, or is up.
use Rattle.std.specs.Prelude.{◌==◌, ◌||◌, nat_le, not, if◌then◌else◌}
use Rattle.std.specs.List.{Contains}
use Rattle.std.proofs.Common.{◌≡◌, ◌≢◌, ◌≤◌, ◌+◌, ◌∙◌, ℕ, zero, suc, Bool, true, false, [], Option, Some, None, length, slice_get, slice_index_or, is_some, eq-eqb, inl, inr, refl, sym, ap, subst, arith}
use Rattle.std.proofs.lemmas.Bool.{and_parts, cases_eq, cases_lt, leb-true, true≢false}
use Rattle.tipc_types.specs.Address.{node_word}
use Rattle.tipc_types.specs.LinkStates.{is_up}
use Rattle.tipc_types.specs.declared.link_words.BroadcastState.{BroadcastState}
use Rattle.tipc_types.specs.declared.link_words.LinkState.{LinkState}
use Rattle.tipc_types.specs.declared.link_words.LinkState.TheVariants.{Held, ResetReset, ResetUnknown, WorkingUnknown, WorkingWorking}
use Rattle.tipc_types.specs.declared.node_calls.Answer.TheVariants as answer
use Rattle.tipc_types.specs.declared.node_calls.EventNote.TheVariants as note
use Rattle.tipc_outside.specs.declared.outgoing.Outgoing.{Outgoing}
use Rattle.tipc_header.specs.declared.frames.FrameKind.TheVariants.{Links}
use Rattle.tipc_header.specs.declared.packet.Header.{Header}
use Rattle.tipc_header.specs.declared.packet.Header.TheVariants as header
use Rattle.tipc_header.specs.declared.packet.Reset.{Reset}
use Rattle.tipc_header.specs.declared.packet.State.{State}
use Rattle.tipc_header.specs.Frames.{kind_in}
use Rattle.tipc_header.specs.Spelling.{Fields}
use Rattle.tipc_broadcast.specs.Casting.{shown}
use Rattle.tipc_link_fsm.specs.Table.{is_held, is_in_reset, is_last, is_reset_reset}
use Rattle.tipc_link.specs.Links.{LinkEnd, known, notice, notice_fields, shown_by}
use Rattle.tipc_link.specs.Sessions.{SessionEnd, state_fields, state_frame}
use Rattle.tipc_pair.specs.Facing.{PairEnds, facing, is_up_at, other, turned}
use Rattle.tipc_pair.specs.LinkReadings.{silence_in}
use Rattle.tipc_pair.proofs.turns.PairKept.{facing_bearer}
use Rattle.tipc_paired.specs.Views.{fsm_in}
use Rattle.tipc_two_nodes.specs.Sights.{AreSeen, Sight}
use Rattle.tipc_two_nodes.proofs.sights.Sights.{ends as end_of_sight}
use Rattle.tipc_settling.specs.Beginnings.{is_free_at}
use Rattle.tipc_settling.specs.Goings.{up_session}
use Rattle.tipc_settling.specs.Loads.{IsCalm}
use Rattle.tipc_settling.specs.Rises.{AnswersAt, CanRise, IsNotice, notice_in}
use Rattle.tipc_settling.specs.Silence.{IsSaidByTicks}
use Rattle.tipc_settling.specs.Stillness.{AnswersTo, AreHeard, Footing, IsStill, IsStillAt, IsStillEnd, MayComeTo}
use Rattle.tipc_settling.proofs.Answering.{either_so}
use Rattle.tipc_settling.proofs.Clear.{nothing_stops}
use Rattle.tipc_settling.proofs.HeardEnds.{heard_ends_answer}
use Rattle.tipc_settling.proofs.Lasting.{answering_stays, seen_stays, up_stays}
use Rattle.tipc_settling.proofs.Nodes.{events_add_silence, events_are_calm}
use Rattle.tipc_settling.proofs.NoticesTold.{nodes_say_notice}
use Rattle.tipc_settling.proofs.Pairs.{still_facing}
use Rattle.tipc_settling.proofs.Telling.{tick_tells}
use Rattle.tipc_settling.proofs.Waking.{arrivals_make_answer, arrivals_take_up, arrivals_take_up_answering, arrivals_tell_contact}
use Rattle.tipc_settling.proofs.WordsHeard.{arrivals_end_silence}
use Rattle.tipc_node.specs.Ends.{BothStand, StandsOn}
use Rattle.tipc_node.specs.Nodes.{end_with, is_mended_on, is_other, neighbour_of, pair_with, step_of, stop_of}
use Rattle.tipc_node.specs.Sockets.{kept_answer}
use Rattle.tipc_node.specs.Turns.{IsFrom}
use Rattle.tipc_node.proofs.pairs.Strangers.{kept_abreast, kept_by}
use Rattle.tipc_replay.specs.declared.air.Sent.{Sent}
use Rattle.tipc_replay.specs.declared.events.WorldEvent.TheVariants.{Arrive, Call}
use Rattle.tipc_replay.specs.Air.{airborne, is_on}
use Rattle.tipc_replay.specs.Due.{is_for}
use Rattle.tipc_replay.specs.Sound.{IsNumber}
use Rattle.tipc_replay.specs.States.{MemberState, contact_at, pair_at}
use Rattle.tipc_replay.specs.Views.{sight_at}
use Rattle.tipc_replay.proofs.InLists.{stands_passing}
use Rattle.tipc_replay.proofs.calls.Outcomes.{some_is}
use Rattle.tipc_replay.proofs.frames.Reaching.{placed}
use Rattle.tipc_world.specs.declared.places.Places.{Places}
use Rattle.tipc_world.specs.CalmWorlds.{IsFromMended}
use Rattle.tipc_world.specs.Ends.{ends_of}
use Rattle.tipc_world.specs.Poised.{IsDownWorld}
use Rattle.tipc_world.specs.RoundParts.{FrameArrives, HasTickedOnce, IsKept, IsRound}
use Rattle.tipc_world.specs.Stages.{HasEnd, IsMetNode, IsMetWorld, ShareBearer, MetRound}
use Rattle.tipc_world.specs.States.{WorldState}
use Rattle.tipc_world.specs.StillWorlds.{IsUnderPresent, footing_at}
use Rattle.tipc_world.specs.Steps.{by_in}
use Rattle.tipc_world.proofs.rounds.Beginning.{its_end}
use Rattle.tipc_world.proofs.rounds.CalmWorlds.{mended_since}
use Rattle.tipc_world.proofs.rounds.HeardWorlds.{IsAnyStill, seen_near, sight_own, sight_peer, slice_there, stranger_still, unknown}
use Rattle.tipc_world.proofs.rounds.Leaving.{ArrivalsLeave, AtNode}
use Rattle.tipc_world.proofs.rounds.Notices.{IsSaidAs, activate_from, reset_from, said_as}
use Rattle.tipc_world.proofs.rounds.Notices.IsSaidAs.{activates, resets}
use Rattle.tipc_world.proofs.rounds.Rising.{heard_all, rising_is_still}
use Rattle.tipc_world.proofs.rounds.Shown.{shown_fits}
use Rattle.tipc_world.proofs.rounds.Spelled.{state_from, state_kind}
use Rattle.tipc_world.proofs.rounds.Stages.{IsAmong, Lasts, brings, brings_it, guards, lasts_round, met_rises, number_of, ticks_at}
use Rattle.tipc_world.proofs.rounds.StillWorlds.{node_number, present_goes_on, shows_present, sight_is}
use Rattle.tipc_world.proofs.rounds.UpLinks.{near_is, other_is}

-- ---- the end of a node

-- the end that a node has made to another one
pub record IsEndThere (n b bearer : ℕ) (m : MemberState) : Type 0 where
  pub end : LinkEnd
  pub near : (facing bearer (pair_with m.node b)).near ≡ Some end
  pub with_it : end_with bearer (neighbour_of m.node b) ≡ Some end

end_there : (n b bearer : ℕ) (m : MemberState) → HasEnd b bearer m → IsEndThere n b bearer m
end_there n b bearer m made = by (facing bearer (pair_with m.node b)).near refl made
  where
    by : (o : Option LinkEnd) → (facing bearer (pair_with m.node b)).near ≡ o → is_some o ≡ true → IsEndThere n b bearer m
    by None none there = absurd (true≢false (sym there))
    by (Some e) is there = record { end = e; near = is; with_it = near_is m.node b bearer (neighbour_of m.node b) ∙ is }

-- a bearer is shared from either side
pub other_way : (start : WorldState) (n b bearer : ℕ) → ShareBearer start n b bearer → ShareBearer start b n bearer
other_way start n b bearer s = record { here = s.there; there = s.here; apart = λ same. s.apart (sym same); on_one = s.on_one; mended = s.mended_there; mended_there = s.mended }

-- the end of a still pair, on its bearer
pub still_end_at : (own peer : Footing) (bearer : ℕ) (x : PairEnds) (e : LinkEnd) → bearer ≤ 1 → IsStill own peer x → (facing bearer x).near ≡ Some e → IsStillEnd own peer (facing bearer x).seen bearer e.fsm
still_end_at own peer bearer x e on_one h near =
    let z = facing bearer x in
    let hz = still_facing own peer bearer x h in
    subst (λ k. IsStillEnd own peer z.seen k e.fsm) (facing_bearer bearer x on_one h.two) (subst (λ o. IsStillAt own peer z.seen z.bearer (fsm_in o)) near hz.near)

pub facing_seen : (bearer : ℕ) (x : PairEnds) → (facing bearer x).seen ≡ x.seen
unfolding facing
facing_seen bearer x = elim (x.bearer == bearer) as (λ t. (if t then x else turned x).seen ≡ x.seen) [ true ↦ refl | false ↦ refl ]

-- the end of a pair stands on its bearer as that is mended
end_mended : (mended : Bool × Bool) (x : PairEnds) (bearer : ℕ) (e : LinkEnd) → x.bearer ≡ 0 → bearer ≤ 1 → BothStand mended x → (facing bearer x).near ≡ Some e → e.mended ≡ is_mended_on mended bearer
unfolding facing
end_mended mended x zero e first on_one stand near =
    let here : x.near ≡ Some e = ap (λ k. (if k == 0 then x else turned x).near) (sym first) ∙ near in
    (its_end (StandsOn (is_mended_on mended x.bearer)) x.near e here stand.near).same ∙ ap (is_mended_on mended) first
end_mended mended x (suc zero) e first on_one stand near =
    let here : x.far ≡ Some e = ap (λ k. (if k == 1 then x else turned x).near) (sym first) ∙ near in
    (its_end (StandsOn (is_mended_on mended (other x.bearer))) x.far e here stand.far).same ∙ ap (λ k. is_mended_on mended (other k)) first
end_mended mended x (suc (suc more)) e first on_one stand near = absurd (omega (arith, on_one))

-- no end was held at the begin
free_so : (w : WorldState) (a b bearer : ℕ) (o : Option LinkEnd) → IsDownWorld w → (sight_at w.members w.air a b).ends bearer ≡ o → is_free_at o ≡ true
unfolding sight_at
free_so w a b bearer None down is = refl
free_so w a b bearer (Some e) down is = ap (λ t. not t) (down a b bearer e is).free

down_free : (start : WorldState) (a b bearer : ℕ) → IsDownWorld start → bearer ≤ 1 → (footing_at start a b).free bearer ≡ true
unfolding facing
down_free start a b zero down on_one = free_so start a b 0 _ down refl
down_free start a b (suc zero) down on_one = free_so start a b 1 _ down refl
down_free start a b (suc (suc more)) down on_one = absurd (omega (arith, on_one))

-- ---- what is said

-- A header of an end: a RESET of one that heard no reset, an ACTIVATE of one that did, or a STATE of one that is up.
pub data Word (e : LinkEnd) (h : Header) : Type 0 where
  says_reset : (said : Reset) → (is_up e.fsm.state || is_reset_reset e.fsm.state) ≡ false → h ≡ header.Reset said → Word e h
  says_activate : (said : Reset) → is_reset_reset e.fsm.state ≡ true → h ≡ header.Activate said → Word e h
  says_state : (said : State) → is_up e.fsm.state ≡ true → h ≡ header.State said → Word e h

-- the state of an end that isn't held
data IsFree (st : LinkState) : Type 0 where
  unknown_one : (is_up st || is_reset_reset st) ≡ false → is_in_reset st ≡ true → IsFree st
  heard_one : is_reset_reset st ≡ true → is_in_reset st ≡ true → IsFree st
  up_one : is_up st ≡ true → IsFree st

free_state : (st : LinkState) → is_held st ≡ false → IsFree st
free_state ResetUnknown free = unknown_one refl refl
free_state ResetReset free = heard_one refl refl
free_state WorkingWorking free = up_one refl
free_state WorkingUnknown free = up_one refl
free_state Held free = absurd (true≢false free)

-- nobody was in contact at the begin
down_so : (w : WorldState) (a b bearer : ℕ) (o : Option LinkEnd) → IsDownWorld w → (sight_at w.members w.air a b).ends bearer ≡ o → is_up_at o ≡ false
unfolding sight_at
down_so w a b bearer None down is = refl
down_so w a b bearer (Some e) down is = (down a b bearer e is).down

down_alone : (start : WorldState) (a b : ℕ) → IsDownWorld start → (footing_at start a b).alone ≡ true
down_alone start a b down =
    let v = sight_at start.members start.air a b in
    ap (λ t. not (t || is_up_at (v.ends 1))) (down_so start a b 0 (v.ends 0) down refl) ∙ ap (λ t. not t) (down_so start a b 1 (v.ends 1) down refl)

said_activate : (e : LinkEnd) → is_reset_reset e.fsm.state ≡ true → notice_in e.fsm.state e ≡ notice e (header.Activate (shown_by e))
said_activate e heard = by e.fsm.state heard
  where
    by : (st : LinkState) → is_reset_reset st ≡ true → notice_in st e ≡ notice e (header.Activate (shown_by e))
    by ResetReset is = refl
    by ResetUnknown is = absurd (true≢false (sym is))
    by WorkingWorking is = absurd (true≢false (sym is))
    by WorkingUnknown is = absurd (true≢false (sym is))
    by Held is = absurd (true≢false (sym is))

state_word : (e : LinkEnd) (s : SessionEnd) (shows : BroadcastState) (probe : Bool) → is_up e.fsm.state ≡ true → Word e (state_fields s shows probe).header
unfolding state_fields
state_word e s shows probe up = says_state _ up refl

module _ (start : WorldState) (most step : ℕ) (places : Places) (outset : WorldState) (ends : Places) (now : WorldState) (r : IsRound places outset ends now) (k : MetRound start most step places outset ends now r) where
  -- node b says this to node n at its tick
  record Says (b n bearer : ℕ) (t : HasTickedOnce outset r.ticked b) (e : LinkEnd) : Type 0 where
    frame : Outgoing
    among : IsAmong start most step places outset ends now r k b n bearer t frame
    packet : Fields
    from : IsFrom b frame.frame e.fsm.own (known e.fsm.peer) packet
    kind : kind_in frame.frame ≡ Links
    word : Word e packet.header

  kept_outset : IsKept outset
  kept_outset = k.met.on.kept k.kept

  -- no pair of the node goes up or down at its tick
  each_still : (b j : ℕ) (m : MemberState) → slice_index_or outset.members b None ≡ Some m → ((j : ℕ) → (pair_with m.node j).bearer ≡ 0) → IsAnyStill (pair_with m.node j)
  each_still b j m there firsts = elim (cases_lt j 1) [
    | inl low ↦ stranger_still m.node j (unknown outset b j m there (kept_outset.nodes.sound.known b j (λ number. absurd (omega (arith, low, number.0)))))
    | inr from_one ↦ elim (cases_lt j 33) [
      | inr high ↦ stranger_still m.node j (unknown outset b j m there (kept_outset.nodes.sound.known b j (λ number. absurd (omega (arith, high, number.1)))))
      | inl to_32 ↦ elim (cases_eq j b) [
        | inl same ↦ stranger_still m.node j (unknown outset b j m there (ap (λ i. pair_at outset.members b i) same ∙ kept_outset.nodes.sound.apart b))
        | inr other_one ↦
            let number : IsNumber j = (from_one, omega (arith, to_32)) in
            let apart : b ≢ j = λ same. other_one (sym same) in
            let q = (k.met.nodes b m there).rising in
            let p = q j number apart in
            record { own = footing_at start b j; peer = footing_at start j b; still = p.still; heard = heard_all most b m k.few firsts (λ i i_is i_apart. (q i i_is i_apart).silent) j number apart }
      ]
    ]
  ]

  tick_is_calm : (b : ℕ) (t : HasTickedOnce outset r.ticked b) → IsCalm t.ticks.before.node t.ticks.after.node
  tick_is_calm b t =
      let m = t.ticks.before in
      let turn = t.ticks.does.turn in
      let any = λ (j : ℕ). each_still b j m t.was (λ i. (kept_abreast m.node i turn.told_before).first) in
      let s = step_of (by_in t.before.members t.before.stamps (Call b note.Tick)) note.Tick turn.inside (kept_answer t.answered) in
      events_are_calm (λ j. (any j).own) (λ j. (any j).peer) m.node t.ticks.after.node [] s t.ticks.frames turn.told_before turn.turn (λ j. (any j).still) (λ j. (any j).heard) (λ j. tt)

  -- a frame that stands among those of a tick
  among_by : (b n bearer : ℕ) (t : HasTickedOnce outset r.ticked b) (o : Outgoing) → Contains t.ticks.frames o → o.bearer ≡ bearer → is_for (record { word = node_word b }) o.to n ≡ true → IsAmong start most step places outset ends now r k b n bearer t o
  among_by b n bearer t o there on meant =
      let at : slice_get t.ticks.frames there.0 ≡ Some o = slice_there t.ticks.frames there.0 o there.1 there.2 in
      let passed = stands_passing (is_on bearer) t.ticks.frames o (there.0, at) (eq-eqb o.bearer bearer on) in
      record { place = passed.0; at = passed.1; meant = meant }

  -- the end of node b to node n, which isn't held
  free_end : (b n bearer : ℕ) (m : MemberState) (e : LinkEnd) → ShareBearer start b n bearer → IsStill (footing_at start b n) (footing_at start n b) (pair_with m.node n) → (facing bearer (pair_with m.node n)).near ≡ Some e → is_held e.fsm.state ≡ false
  free_end b n bearer m e shared still near =
      (still_end_at (footing_at start b n) (footing_at start n b) bearer (pair_with m.node n) e shared.on_one still near).free (down_free start b n bearer k.down shared.on_one)

  says : (b n bearer : ℕ) → ShareBearer start b n bearer → (t : HasTickedOnce outset r.ticked b) → (e : IsEndThere b n bearer t.ticks.before) → Says b n bearer t e.end
  says b n bearer shared t e = by (free_state e.end.fsm.state (free_end b n bearer m e.end shared still e.near))
    where
      m : MemberState
      m = t.ticks.before

      n_is : IsNumber n
      n_is = number_of start n k.kept shared.there

      still : IsStill (footing_at start b n) (footing_at start n b) (pair_with m.node n)
      still = ((k.met.nodes b m t.was).rising n n_is shared.apart).still

      heard : AreHeard (pair_with m.node n)
      heard =
          (let turn = t.ticks.does.turn in
          let q = (k.met.nodes b m t.was).rising in
          heard_all most b m k.few (λ i. (kept_abreast m.node i turn.told_before).first) (λ i i_is i_apart. (q i i_is i_apart).silent) n n_is shared.apart)

      v : Sight
      v = sight_at outset.members outset.air b n

      u : Sight
      u = sight_at outset.members outset.air n b

      seen : AreSeen v u
      seen = kept_outset.nodes.sound.pairs b n (node_number outset b m kept_outset t.was) n_is shared.apart

      end_is : v.ends bearer ≡ Some e.end
      end_is = seen_near v bearer shared.on_one (sight_is outset b n m kept_outset t.was) e.near

      to_peer : e.end.peer ≡ node_word n
      to_peer = (let end = end_of_sight v u bearer e.end seen end_is in end.peer ∙ sight_peer outset b n)

      on_it : e.end.bearer ≡ bearer
      on_it = (let end = end_of_sight v u bearer e.end seen end_is in end.bearer_is)

      -- the bearer of the end is mended
      mended : e.end.mended ≡ true
      mended =
          (let right = kept_outset.nodes.ends b m t.was in
          let stand = kept_by (BothStand m.node.mended) m.node n (λ none. record { near = tt; far = tt }) (right.stand n) in
          let first = (kept_abreast m.node n t.ticks.does.turn.told_before).first in
          end_mended m.node.mended (pair_with m.node n) bearer e.end first shared.on_one stand e.near ∙ (sym (mended_since start outset b m bearer (rising_is_still start most outset (met_rises start most step outset k.met)) t.was) ∙ shared.mended))

      noticed : is_in_reset e.end.fsm.state ≡ true → Contains t.ticks.frames (notice_in e.end.fsm.state e.end)
      noticed reset = nodes_say_notice (footing_at start b n) (footing_at start n b) m.node t.ticks.after.node _ t.ticks.frames t.answered n bearer e.end t.ticks.does.performs t.ticks.does.turn (tick_is_calm b t) still heard shared.on_one e.with_it mended reset

      meant : (h : Header) → is_for (record { word = node_word b }) (notice e.end h).to n ≡ true
      meant h = eq-eqb e.end.peer (node_word n) to_peer

      -- a notice
      by_notice : is_in_reset e.end.fsm.state ≡ true → (is_up e.end.fsm.state || is_reset_reset e.end.fsm.state) ≡ false → IsSaidAs e.end (notice_in e.end.fsm.state e.end) → Says b n bearer t e.end
      by_notice reset unheard (resets is) =
          let from = reset_from v u b bearer e.end seen (sight_own outset b n) end_is in
          record {
            frame = notice e.end (header.Reset (shown_by e.end));
            among = among_by b n bearer t (notice e.end (header.Reset (shown_by e.end))) (subst (Contains t.ticks.frames) is (noticed reset)) on_it (meant (header.Reset (shown_by e.end)));
            packet = notice_fields e.end (header.Reset (shown_by e.end));
            from = from.from;
            kind = from.kind;
            word = says_reset (shown_by e.end) unheard refl;
          }
      by_notice reset unheard (activates heard_it is) = absurd (true≢false (sym (either_so (is_up e.end.fsm.state) (is_reset_reset e.end.fsm.state) heard_it) ∙ unheard))

      by_answer : is_in_reset e.end.fsm.state ≡ true → is_reset_reset e.end.fsm.state ≡ true → Says b n bearer t e.end
      by_answer reset heard_it =
          let from = activate_from v u b bearer e.end seen (sight_own outset b n) end_is in
          record {
            frame = notice e.end (header.Activate (shown_by e.end));
            among = among_by b n bearer t (notice e.end (header.Activate (shown_by e.end))) (subst (Contains t.ticks.frames) (said_activate e.end heard_it) (noticed reset)) on_it (meant (header.Activate (shown_by e.end)));
            packet = notice_fields e.end (header.Activate (shown_by e.end));
            from = from.from;
            kind = from.kind;
            word = says_activate (shown_by e.end) heard_it refl;
          }

      by_state : is_up e.end.fsm.state ≡ true → Says b n bearer t e.end
      by_state up =
          let end = end_of_sight v u bearer e.end seen end_is in
          let going = end.going up in
          let tell = tick_tells m.node t.ticks.after.node _ t.ticks.frames t.answered t.ticks.does.performs t.ticks.does.turn (tick_is_calm b t) n bearer shared.on_one going.0 (ap up_session e.with_it ∙ (ap (λ u. if u then e.end.session else None) up ∙ going.1)) in
          let o = state_frame going.0 (shown m.node.casting (node_word n)) tell.0 in
          let words = end.session going.0 going.1 in
          let from = state_from v u b bearer e.end going.0 (shown m.node.casting (node_word n)) tell.0 seen (sight_own outset b n) end_is up going.1 going.2 going.3 (shown_fits outset b n m kept_outset t.was (node_number outset b m kept_outset t.was) n_is shared.apart) in
          record {
            frame = o;
            among = among_by b n bearer t o tell.1 words.2 (eq-eqb going.0.peer (node_word n) (words.1 ∙ sight_peer outset b n));
            packet = state_fields going.0 (shown m.node.casting (node_word n)) tell.0;
            from = from;
            kind = state_kind going.0.epoch going.0.peer_epoch going.0 (shown m.node.casting (node_word n)) tell.0 from.fits;
            word = state_word e.end going.0 (shown m.node.casting (node_word n)) tell.0 up;
          }

      by : IsFree e.end.fsm.state → Says b n bearer t e.end
      by (unknown_one unheard reset) = by_notice reset unheard (said_as e.end reset)
      by (heard_one heard_it reset) = by_answer reset heard_it
      by (up_one up) = by_state up

  -- ---- what is heard

  -- a link packet of node b reached the end of a node: nothing stopped it, and it shows the present
  record Reached (old new : WorldState) (a : FrameArrives (ends_of start.air) old new) (b es er : ℕ) (p : Fields) : Type 0 where
    brings : IsFrom b a.frame.frame es er p
    kind : kind_in a.frame.frame ≡ Links
    passes : stop_of a.arrives.before.node a.bearer a.frame.frame ≡ None
    still : IsStill (footing_at start a.node b) (footing_at start b a.node) (pair_with a.arrives.before.node b)
    may : MayComeTo (footing_at start b a.node) b (pair_with a.arrives.before.node b) (note.Arrive a.bearer (length a.arrives.before.arrivals)) a.frame.frame
    rise : CanRise (facing a.bearer (pair_with a.arrives.before.node b)).near

  reached : (old new : WorldState) (a : FrameArrives (ends_of start.air) old new) → IsMetWorld start (most + 1) step old → (b es er : ℕ) (p : Fields) → ShareBearer start a.node b a.bearer → IsFrom b a.frame.frame es er p
      → kind_in a.frame.frame ≡ Links → Reached old new a b es er p
  reached old new a g b es er p shared brings_it kind_is =
      let n = a.node in
      let h = a.arrives in
      let m = h.before in
      let kept_old = g.on.kept k.kept in
      let number = number_of start b k.kept shared.there in
      let q = g.nodes n m h.was in
      let still = (q.rising b number shared.apart).still in
      let e = end_there n b a.bearer m (q.made b a.bearer shared) in
      let world = rising_is_still start (most + 1) old (met_rises start (most + 1) step old g) in
      let said = g.frames a.bearer a.place a.frame a.on_one a.behind (placed old.air n a.bearer a.place a.frame a.found).0 in
      let under : IsUnderPresent start a.bearer a.frame = λ sd d sd_is d_is two goes_to. (said sd d sd_is d_is two goes_to).present in
      let mended : is_mended_on m.node.mended a.bearer ≡ true = sym (mended_since start old n m a.bearer world h.was) ∙ shared.mended in
      let size = (kept_old.nodes.sound.frames a.bearer a.place a.frame (placed old.air n a.bearer a.place a.frame a.found).0).size in
      let both = and_parts (nat_le 16 (length a.frame.frame)) (nat_le (length a.frame.frame) 1516) size in
      let own = (kept_old.nodes.sound.numbered n m h.was).1 in
      let k_end = still_end_at (footing_at start n b) (footing_at start b n) a.bearer (pair_with m.node b) e.end a.on_one still e.near in
      record {
        brings = brings_it;
        kind = kind_is;
        passes = nothing_stops m.node a.bearer a.frame.frame b es er p brings_it kind_is mended (leb-true 16 (length a.frame.frame) both.0) (leb-true (length a.frame.frame) 1516 both.1)
            (subst (λ w. is_other w (node_word b) ≡ true) (sym own) (other_is n b number shared.apart)) (ap is_some e.with_it);
        still = still;
        may = λ fs fr q_packet brings_q kind_q. shows_present start k.kept old new a world under b fs fr q_packet brings_q kind_q;
        rise = record { end = e.end; there = e.near; free = k_end.free (down_free start n b a.bearer k.down a.on_one); more = ap is_last k_end.epoch ∙ present_goes_on start n b a.bearer k.kept a.on_one };
      }

  -- what arrives from node b is what it said
  record Heard (b n bearer : ℕ) (t : HasTickedOnce outset r.ticked b) (e : LinkEnd) (w : Says b n bearer t e) (old new : WorldState) (a : FrameArrives (ends_of start.air) old new) : Type 0 where
    shared : ShareBearer start a.node b a.bearer
    reaches : Reached old new a b e.fsm.own (known e.fsm.peer) w.packet

  heard_so : (n b bearer : ℕ) → ShareBearer start n b bearer → (t : HasTickedOnce outset r.ticked b) (e : LinkEnd) (w : Says b n bearer t e) (old new : WorldState) (a : FrameArrives (ends_of start.air) old new) → a.node ≡ n → a.bearer ≡ bearer
      → a.frame ≡ airborne (contact_at t.before.members b) t.after.members b w.frame → IsMetWorld start (most + 1) step old → Heard b n bearer t e w old new a
  heard_so n b bearer shared t e w old new a here on is g =
      let bytes : a.frame.frame ≡ w.frame.frame = ap (λ (f : Sent). f.frame) is in
      let shared_here : ShareBearer start a.node b a.bearer = subst (λ j. ShareBearer start j b a.bearer) (sym here) (subst (ShareBearer start n b) (sym on) shared) in
      record {
        shared = shared_here;
        reaches = reached old new a g b e.fsm.own (known e.fsm.peer) w.packet shared_here (subst (λ bs. IsFrom b bs e.fsm.own (known e.fsm.peer) w.packet) (sym bytes) w.from) (subst (λ bs. kind_in bs ≡ Links) (sym bytes) w.kind);
      }

  -- the end of node b to node n, and what it says in this round
  record Speaks (n b bearer : ℕ) : Type 0 where
    tick : HasTickedOnce outset r.ticked b
    end : IsEndThere b n bearer tick.ticks.before
    said : Says b n bearer tick end.end
    still_end : IsStillEnd (footing_at start b n) (footing_at start n b) (pair_with tick.ticks.before.node n).seen bearer end.end.fsm

  speaks : (n b bearer : ℕ) → ShareBearer start n b bearer → Speaks n b bearer
  speaks n b bearer shared =
      let back = other_way start n b bearer shared in
      let t = ticks_at start most step places outset ends now r k b shared.there in
      let q = k.met.nodes b t.ticks.before t.was in
      let e = end_there b n bearer t.ticks.before (q.made n bearer back) in
      let still = (q.rising n (number_of start n k.kept shared.here) back.apart).still in
      let x = pair_with t.ticks.before.node n in
      record {
        tick = t;
        end = e;
        said = says b n bearer back t e;
        still_end = subst (λ seen. IsStillEnd (footing_at start b n) (footing_at start n b) seen bearer e.end.fsm) (facing_seen bearer x) (still_end_at (footing_at start b n) (footing_at start n b) bearer x e.end shared.on_one still e.near);
      }

  -- where the link of node b is up, node n answers it when the round begins
  answered_at_outset : (n b bearer : ℕ) → ShareBearer start n b bearer → (s : Speaks n b bearer) → is_up s.end.end.fsm.state ≡ true → AtNode n (λ m. AnswersAt ((footing_at start b n).epoch bearer) (facing bearer (pair_with m.node b)).near) outset
  answered_at_outset n b bearer shared s up m there =
      let e = s.end in
      let t = s.tick in
      k.ups.ups b n bearer t.ticks.before m t.was there (λ same. shared.apart (sym same)) shared.on_one (ap is_up_at e.near ∙ up)

  -- ---- the contact number is seen

  pub sees : (n b bearer : ℕ) → ShareBearer start n b bearer → AtNode n (λ m. (pair_with m.node b).seen ≡ (footing_at start b n).contact) now
  sees n b bearer shared = by s.said.word
    where
      s : Speaks n b bearer
      s = speaks n b bearer shared

      number : IsNumber b
      number = number_of start b k.kept shared.there

      lasts : Lasts (footing_at start n b) (footing_at start b n) (λ x. x.seen ≡ (footing_at start b n).contact)
      lasts x x' h was = seen_stays (footing_at start n b) (footing_at start b n) x x' h was

      noticed : IsNotice s.said.packet.header → AtNode n (λ m. (pair_with m.node b).seen ≡ (footing_at start b n).contact) now
      noticed notice_is =
          brings start most step places outset ends now r k b n bearer s.tick s.said.frame (λ x. x.seen ≡ (footing_at start b n).contact) shared s.said.among s.said.kind lasts
          (λ old new a here on is g next said.
          let w = heard_so n b bearer shared s.tick s.end.end s.said old new a here on is g in
          let q = w.reaches in
          let h = a.arrives in
          subst (λ j. (pair_with h.after.node b).seen ≡ (footing_at start b j).contact) here
          (arrivals_tell_contact (footing_at start a.node b) (footing_at start b a.node) h.before.node h.after.node _ a.bearer _ a.frame.frame h.frames h.does.arrived b s.end.end.fsm.own (known s.end.end.fsm.peer) s.said.packet h.does.turn.told_before
          h.does.arrives q.passes q.brings q.kind q.still q.may notice_is))

      by : Word s.end.end s.said.packet.header → AtNode n (λ m. (pair_with m.node b).seen ≡ (footing_at start b n).contact) now
      by (says_reset said unheard is) = noticed (subst IsNotice (sym is) tt)
      by (says_activate said heard_it is) = noticed (subst IsNotice (sym is) tt)
      by (says_state said up is) =
          lasts_round start most step places outset ends now r k n b (λ x. x.seen ≡ (footing_at start b n).contact) shared.here number shared.apart lasts
          (λ m there.
          let answers = answered_at_outset n b bearer shared s up m there in
          let still = ((k.met.nodes n m there).rising b number shared.apart).still in
          let end = still_end_at (footing_at start n b) (footing_at start b n) bearer (pair_with m.node b) answers.end shared.on_one still answers.there in
          sym (facing_seen bearer (pair_with m.node b)) ∙ end.contact answers.answers.knows)

  -- ---- the end answers

  -- a link that is up answers
  up_answering : (n b bearer : ℕ) (x : PairEnds) → bearer ≤ 1 → IsStill (footing_at start n b) (footing_at start b n) x → is_up_at (facing bearer x).near ≡ true → AnswersAt ((footing_at start b n).epoch bearer) (facing bearer x).near
  up_answering n b bearer x on_one still up = at (facing bearer x).near refl up
    where
      at : (o : Option LinkEnd) → (facing bearer x).near ≡ o → is_up_at o ≡ true → AnswersAt ((footing_at start b n).epoch bearer) (facing bearer x).near
      at None near is = absurd (true≢false (sym is))
      at (Some e) near is =
          let end = still_end_at (footing_at start n b) (footing_at start b n) bearer x e on_one still near in
          record { end = e; there = near; answers = record { knows = end.up is; heard = ap (λ t. t || is_reset_reset e.fsm.state) is } }

  -- an ACTIVATE of an end that answers takes the other one up
  taken_up : (n b bearer : ℕ) → ShareBearer start n b bearer → (s : Speaks n b bearer) → (said : Reset) → s.said.packet.header ≡ header.Activate said → AnswersTo ((footing_at start n b).epoch bearer) s.end.end.fsm
      → AtNode n (λ m. is_up_at (facing bearer (pair_with m.node b)).near ≡ true) now
  taken_up n b bearer shared s said is answers =
      brings start most step places outset ends now r k b n bearer s.tick s.said.frame (λ x. is_up_at (facing bearer x).near ≡ true) shared s.said.among s.said.kind
      (λ x x' h was. up_stays (footing_at start n b) (footing_at start b n) x x' bearer shared.on_one h was)
      (λ old new a here on is_frame g next told.
      let w = heard_so n b bearer shared s.tick s.end.end s.said old new a here on is_frame g in
      let q = w.reaches in
      let h = a.arrives in
      let knows : known s.end.end.fsm.peer ≡ (footing_at start a.node b).epoch a.bearer = ap known answers.knows ∙ (ap (λ j. (footing_at start j b).epoch bearer) (sym here) ∙ ap (footing_at start a.node b).epoch (sym on)) in
      subst (λ x. is_up_at (facing x (pair_with h.after.node b)).near ≡ true) on
      (arrivals_take_up (footing_at start a.node b) (footing_at start b a.node) h.before.node h.after.node _ a.bearer _ a.frame.frame h.frames h.does.arrived b s.end.end.fsm.own (known s.end.end.fsm.peer) s.said.packet said h.does.turn.told_before
      h.does.arrives q.passes q.brings q.kind q.still q.may is knows q.rise))

  pub answers : (n b bearer : ℕ) → ShareBearer start n b bearer → AtNode b (λ m. (pair_with m.node n).seen ≡ (footing_at start n b).contact) outset
      → AtNode n (λ m. AnswersAt ((footing_at start b n).epoch bearer) (facing bearer (pair_with m.node b)).near) now
  answers n b bearer shared sees_it = by s.said.word
    where
      s : Speaks n b bearer
      s = speaks n b bearer shared

      number : IsNumber b
      number = number_of start b k.kept shared.there

      lasts : Lasts (footing_at start n b) (footing_at start b n) (λ x. AnswersAt ((footing_at start b n).epoch bearer) (facing bearer x).near)
      lasts x x' h was = answering_stays (footing_at start n b) (footing_at start b n) x x' bearer shared.on_one h was

      -- node b answers where it heard a reset
      speaker_answers : is_reset_reset s.end.end.fsm.state ≡ true → AnswersTo ((footing_at start n b).epoch bearer) s.end.end.fsm
      speaker_answers heard_it =
          let m = s.tick.ticks.before in
          let x = pair_with m.node n in
          let still = ((k.met.nodes b m s.tick.was).rising n (number_of start n k.kept shared.here) (λ same. shared.apart (sym same))).still in
          heard_ends_answer (footing_at start b n) (footing_at start n b) x bearer s.end.end shared.on_one still (kept_abreast m.node n s.tick.ticks.does.turn.told_before) (down_alone start n b k.down) (sees_it m s.tick.was) s.end.near
          (either_so (is_up s.end.end.fsm.state) (is_reset_reset s.end.end.fsm.state) heard_it)

      by : Word s.end.end s.said.packet.header → AtNode n (λ m. AnswersAt ((footing_at start b n).epoch bearer) (facing bearer (pair_with m.node b)).near) now
      by (says_reset said unheard is) =
          brings start most step places outset ends now r k b n bearer s.tick s.said.frame (λ x. AnswersAt ((footing_at start b n).epoch bearer) (facing bearer x).near) shared s.said.among s.said.kind lasts
          (λ old new a here on is_frame g next told.
          let w = heard_so n b bearer shared s.tick s.end.end s.said old new a here on is_frame g in
          let q = w.reaches in
          let h = a.arrives in
          subst (λ j. AnswersAt ((footing_at start b j).epoch bearer) (facing bearer (pair_with h.after.node b)).near) here
          (subst (λ x. AnswersAt ((footing_at start b a.node).epoch x) (facing x (pair_with h.after.node b)).near) on
          (arrivals_make_answer (footing_at start a.node b) (footing_at start b a.node) h.before.node h.after.node _ a.bearer _ a.frame.frame h.frames h.does.arrived b s.end.end.fsm.own (known s.end.end.fsm.peer) s.said.packet said h.does.turn.told_before
          h.does.arrives q.passes q.brings q.kind q.still q.may is q.rise)))
      by (says_activate said heard_it is) =
          λ m there.
          let up = taken_up n b bearer shared s said is (speaker_answers heard_it) m there in
          let g = (guards start most step places outset ends now r k).round in
          up_answering n b bearer (pair_with m.node b) shared.on_one ((g.nodes n m there).rising b number shared.apart).still up
      by (says_state said up is) =
          lasts_round start most step places outset ends now r k n b (λ x. AnswersAt ((footing_at start b n).epoch bearer) (facing bearer x).near) shared.here number shared.apart lasts (answered_at_outset n b bearer shared s up)

  -- ---- the link is up

  pub goes_up : 1 ≤ step → (n b bearer : ℕ) → ShareBearer start n b bearer → AtNode n (λ m. is_up_at (facing bearer (pair_with m.node b)).near ≡ true) now
  goes_up so n b bearer shared = by s.said.word
    where
      s : Speaks n b bearer
      s = speaks n b bearer shared

      -- node b answers when the round begins
      speaker : AnswersTo ((footing_at start n b).epoch bearer) s.end.end.fsm
      speaker =
          let m = s.tick.ticks.before in
          let a = (k.met.nodes b m s.tick.was).answers so n bearer (other_way start n b bearer shared) in
          let same : a.end ≡ s.end.end = some_is a.end s.end.end (sym a.there ∙ s.end.near) in
          subst (λ (e : LinkEnd). AnswersTo ((footing_at start n b).epoch bearer) e.fsm) same a.answers

      by : Word s.end.end s.said.packet.header → AtNode n (λ m. is_up_at (facing bearer (pair_with m.node b)).near ≡ true) now
      by (says_reset said unheard is) = absurd (true≢false (sym speaker.heard ∙ unheard))
      by (says_activate said heard_it is) = taken_up n b bearer shared s said is speaker
      by (says_state said up is) =
          brings start most step places outset ends now r k b n bearer s.tick s.said.frame (λ x. is_up_at (facing bearer x).near ≡ true) shared s.said.among s.said.kind
          (λ x x' h was. up_stays (footing_at start n b) (footing_at start b n) x x' bearer shared.on_one h was)
          (λ old new a here on is_frame g next told.
          let w = heard_so n b bearer shared s.tick s.end.end s.said old new a here on is_frame g in
          let q = w.reaches in
          let h = a.arrives in
          let shared_here = w.shared in
          let knows : known s.end.end.fsm.peer ≡ (footing_at start a.node b).epoch a.bearer = ap known speaker.knows ∙ (ap (λ j. (footing_at start j b).epoch bearer) (sym here) ∙ ap (footing_at start a.node b).epoch (sym on)) in
          let hearer = (g.nodes a.node h.before h.was).answers so b a.bearer shared_here in
          subst (λ x. is_up_at (facing x (pair_with h.after.node b)).near ≡ true) on
          (arrivals_take_up_answering (footing_at start a.node b) (footing_at start b a.node) h.before.node h.after.node _ a.bearer _ a.frame.frame h.frames h.does.arrived b s.end.end.fsm.own (known s.end.end.fsm.peer) s.said.packet said h.does.turn.told_before
          h.does.arrives q.passes q.brings q.kind q.still q.may is knows q.rise hearer))

  -- ---- the link is heard

  -- arrivals make no link silent
  never_silent : (n b bearer : ℕ) → ArrivalsLeave start (ends_of start.air) (IsMetNode start (most + 1) step) (IsFromMended start) n (λ m. silence_in (facing bearer (pair_with m.node b)).near ≡ 0)
  never_silent n b bearer old new a g next here was =
      let h = a.arrives in
      let t = h.does.turn in
      let s = step_of (by_in old.members old.stamps (Arrive a.node a.bearer a.place)) (note.Arrive a.bearer (length h.before.arrivals)) t.inside (answer.Arrived h.does.arrived) in
      let no_more = events_add_silence h.before.node h.after.node a.frame.frame s h.frames b bearer t.told_before t.turn in
      omega (arith, no_more, was)

  -- an end that is up neither heard a reset alone, nor none
  not_reset : (st : LinkState) → is_up st ≡ true → is_reset_reset st ≡ true → ⊥
  not_reset ResetReset up is = true≢false (sym up)
  not_reset ResetUnknown up is = true≢false (sym up)
  not_reset Held up is = true≢false (sym up)
  not_reset WorkingWorking up is = true≢false (sym is)
  not_reset WorkingUnknown up is = true≢false (sym is)

  pub hears_on : 2 ≤ step → (n b bearer : ℕ) → ShareBearer start n b bearer → AtNode n (λ m. silence_in (facing bearer (pair_with m.node b)).near ≡ 0) now
  hears_on so n b bearer shared = by s.said.word
    where
      s : Speaks n b bearer
      s = speaks n b bearer shared

      up : is_up s.end.end.fsm.state ≡ true
      up = (let q = k.met.nodes b s.tick.ticks.before s.tick.was in sym (ap is_up_at s.end.near) ∙ q.up so n bearer (other_way start n b bearer shared))

      by : Word s.end.end s.said.packet.header → AtNode n (λ m. silence_in (facing bearer (pair_with m.node b)).near ≡ 0) now
      by (says_reset said unheard is) = absurd (true≢false (sym (ap (λ t. t || is_reset_reset s.end.end.fsm.state) up) ∙ unheard))
      by (says_activate said heard_it is) = absurd (not_reset s.end.end.fsm.state up heard_it)
      by (says_state said was_up is) =
          brings_it start most step places outset ends now r k b n bearer s.tick s.said.frame (λ x. silence_in (facing bearer x).near ≡ 0) shared s.said.among s.said.kind (never_silent n b bearer)
          (λ old new a here on is_frame g next told.
          let w = heard_so n b bearer shared s.tick s.end.end s.said old new a here on is_frame g in
          let q = w.reaches in
          let h = a.arrives in
          let from = s.still_end in
          let knows : known s.end.end.fsm.peer ≡ (footing_at start a.node b).epoch a.bearer = ap known (from.up up) ∙ (ap (λ j. (footing_at start j b).epoch bearer) (sym here) ∙ ap (footing_at start a.node b).epoch (sym on)) in
          let hearer = (g.nodes a.node h.before h.was).up so b a.bearer w.shared in
          subst (λ x. silence_in (facing x (pair_with h.after.node b)).near ≡ 0) on
          (arrivals_end_silence (footing_at start a.node b) (footing_at start b a.node) h.before.node h.after.node _ a.bearer _ a.frame.frame h.frames h.does.arrived b s.end.end.fsm.own (known s.end.end.fsm.peer) s.said.packet
          h.does.arrives h.does.turn q.passes q.brings q.kind q.still (q.may s.end.end.fsm.own (known s.end.end.fsm.peer) s.said.packet q.brings q.kind) knows (subst IsSaidByTicks (sym is) tt) hearer))
