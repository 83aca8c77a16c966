-- While a world settles in which no link was up, nothing goes down in its first four rounds, and each link that is up
-- is answered.
use Rattle.std.proofs.Common.{◌≡◌, ◌≢◌, ◌≤◌, ◌+◌, ◌∙◌, ℕ, zero, suc, Bool, true, false, [], Option, Some, None, inl, inr, length, slice_get, refl, sym, ap, subst, arith}
use Rattle.std.proofs.lemmas.Bool.{true≢false}
use Rattle.tipc_types.specs.declared.link_words.Why.{Why}
use Rattle.tipc_types.specs.declared.node_calls.Answer.TheVariants as answer
use Rattle.tipc_types.specs.declared.node_calls.EventNote.TheVariants as note
use Rattle.tipc_link.specs.Links.{LinkEnd}
use Rattle.tipc_pair.specs.Facing.{PairEnds, facing, is_up_at}
use Rattle.tipc_pair.specs.LinkReadings.{silence_in}
use Rattle.tipc_pair.proofs.Facings.{facing_near, facing_one}
use Rattle.tipc_pair.proofs.turns.Moves.{down_silence}
use Rattle.tipc_two_nodes.specs.Sights.{pair_seen}
use Rattle.tipc_settling.specs.Rises.{AnswersAt, ShowsAnswering}
use Rattle.tipc_settling.specs.Stillness.{AreHeard}
use Rattle.tipc_settling.proofs.AnswersTold.{events_hear_ups}
use Rattle.tipc_settling.proofs.Nodes.{events_add_silence}
use Rattle.tipc_node.specs.Nodes.{NodeState, pair_with, step_of, stop_of}
use Rattle.tipc_node.specs.Sockets.{kept_answer}
use Rattle.tipc_node.proofs.pairs.Strangers.{kept_abreast}
use Rattle.tipc_replay.specs.declared.events.WorldEvent.TheVariants.{Arrive, Call}
use Rattle.tipc_replay.specs.Sound.{IsNumber}
use Rattle.tipc_replay.specs.States.{MemberState, is_mended_at}
use Rattle.tipc_replay.specs.Views.{sight_at}
use Rattle.tipc_world.specs.declared.places.Places.{Places}
use Rattle.tipc_world.specs.CalmWorlds.{IsFromMended}
use Rattle.tipc_world.specs.Ends.{ends_of, AreBefore}
use Rattle.tipc_world.specs.Poised.{IsDownWorld}
use Rattle.tipc_world.specs.RisingWorlds.{AreSilentFor, AreUpsAnswered, IsRisingNode, IsRisingPair, IsRisingWorld, IsSilentFor, left_as}
use Rattle.tipc_world.specs.RoundParts.{EachNode, IsKept, IsRound}
use Rattle.tipc_world.specs.States.{WorldState}
use Rattle.tipc_world.specs.StillWorlds.{HasHeardAll, IsStillWorld, IsUnderPresent, footing_at}
use Rattle.tipc_world.specs.Steps.{by_in}
use Rattle.tipc_world.proofs.rounds.Answered.{answered_on, arrival_answered}
use Rattle.tipc_world.proofs.rounds.Beginning.{down_may_be_still}
use Rattle.tipc_world.proofs.rounds.CalmWorlds.{arrival_keeps, comes_on_mended, said_since, tick_keeps}
use Rattle.tipc_world.proofs.rounds.Flying.{none_behind}
use Rattle.tipc_world.proofs.rounds.Guarded.{ArrivalsGuarded, StaysGuarded, TicksGuarded}
use Rattle.tipc_world.proofs.rounds.Keeping.{settles_same}
use Rattle.tipc_world.proofs.rounds.Related.{ArrivalsRelate, RoundRelates, TicksRelate, round_related}
use Rattle.tipc_world.proofs.rounds.StillWorlds.{arrival_still, begins_still_all, node_number, sender_there, shows_present, sight_is, tick_still}

-- ---- silence

-- a pair, seen from bearer 0's link, was heard where no link of it was silent for more than three ticks
heard_of : (most : ℕ) (x : PairEnds) → x.bearer ≡ 0 → most ≤ 3 → IsSilentFor most x → AreHeard x
heard_of most x zero_is few silent =
    let here : facing 0 x ≡ x = facing_near 0 x zero_is in
    let one : (facing 1 x).near ≡ x.far = facing_one x (omega (arith, zero_is)) ∙ ap (λ (z : PairEnds). z.far) here in
    let near_silent = silent 0 (omega arith) in
    let far_silent = silent 1 (omega arith) in
    let near_is : silence_in (facing 0 x).near ≡ silence_in x.near = ap (λ (z : PairEnds). silence_in z.near) here in
    let far_is : silence_in (facing 1 x).near ≡ silence_in x.far = ap silence_in one in
    record { near = omega (arith, near_silent, near_is, few); far = omega (arith, far_silent, far_is, few) }

longer : (most : ℕ) (x : PairEnds) → IsSilentFor most x → IsSilentFor (most + 1) x
longer most x silent bearer on_one = (let now = silent bearer on_one in omega (arith, now))

-- ---- what rising is beside stillness

pub rising_is_still : (start : WorldState) (most : ℕ) (w : WorldState) → IsRisingWorld start most w → IsStillWorld start w
rising_is_still start most w g = record {
  on = g.on;
  nodes = λ n m there b number apart. (g.nodes n m there b number apart).still;
  frames = λ bearer place f on_one behind there s d s_is d_is apart goes_to. (g.frames bearer place f on_one behind there s d s_is d_is apart goes_to).present;
}

rising_longer : (start : WorldState) (most : ℕ) (w : WorldState) → IsRisingWorld start most w → IsRisingWorld start (most + 1) w
rising_longer start most w g = record {
  on = g.on;
  nodes = λ n m there b number apart. (let k = g.nodes n m there b number apart in record { still = k.still; silent = longer most (pair_with m.node b) k.silent });
  frames = g.frames;
}

-- ---- an event

pub heard_all : (most n : ℕ) (m : MemberState) → most ≤ 3 → ((b : ℕ) → (pair_with m.node b).bearer ≡ 0) → AreSilentFor most n m → HasHeardAll n m
heard_all most n m few firsts silent b number apart = heard_of most (pair_with m.node b) (firsts b) few (silent b number apart)

pub rising_tick : (start : WorldState) (most : ℕ) → IsKept start → most ≤ 3 → TicksGuarded start (ends_of start.air) (IsRisingNode start (most + 1)) (AreSilentFor most) (IsFromMended start)
rising_tick start most kept few old new node answered h g next ready =
    let still = rising_is_still start (most + 1) old g in
    let t = h.does.turn in
    let s = step_of (by_in old.members old.stamps (Call node note.Tick)) note.Tick t.inside (kept_answer answered) in
    let stays = tick_still start (ends_of start.air) kept old new node answered h still next (heard_all most node h.before few (λ b. (kept_abreast h.before.node b t.told_before).first) ready) in
    record {
      node = λ b number apart. record {
        still = stays.node b number apart;
        silent = λ bearer on_one. (
            let grows = events_add_silence h.before.node h.after.node [] s h.frames b bearer t.told_before t.turn in
            let was = ready b number apart bearer on_one in
            omega (arith, grows, was));
      };
      sent = said_since start old new (Call node note.Tick) [] answered h s (g.on.kept kept) still t.turn (tick_keeps h.before.node.mended) stays.sent;
    }

pub rising_arrival : (start : WorldState) (most : ℕ) → IsKept start → ArrivalsGuarded start (ends_of start.air) (IsRisingNode start most) (IsFromMended start)
rising_arrival start most kept old new a g next said = by (stop_of a.arrives.before.node a.bearer a.frame.frame) refl
  where
    still : IsStillWorld start old
    still = rising_is_still start most old g

    by : (o : Option Why) → stop_of a.arrives.before.node a.bearer a.frame.frame ≡ o
        → StaysGuarded (IsRisingNode start most) (IsFromMended start) old new (Arrive a.node a.bearer a.place) a.arrives.after a.arrives.frames
    by (Some reason) stops =
        let same = a.arrives.does.arrives.stopped reason stops in
        record {
          node = λ b number apart. subst (IsRisingPair (footing_at start a.node b) (footing_at start b a.node) most) (sym (ap (λ (m : NodeState). pair_with m b) same.0)) (g.nodes a.node a.arrives.before a.arrives.was b number apart);
          sent = λ k o at. absurd (let none : slice_get [] k ≡ Some o = sym (ap (λ os. slice_get os k) same.1) ∙ at in cc);
        }
    by None free =
        let h = a.arrives in
        let t = h.does.turn in
        let number_of = length h.before.arrivals in
        let s = step_of (by_in old.members old.stamps (Arrive a.node a.bearer a.place)) (note.Arrive a.bearer number_of) t.inside (answer.Arrived h.does.arrived) in
        let under : IsUnderPresent start a.bearer a.frame = λ sd d sd_is d_is apart goes_to. (said sd d sd_is d_is apart goes_to).present in
        let stays = arrival_still start kept old new a still next under in
        let mended_here = comes_on_mended h.before.node.own h.before.node.mended h.before.node.neighbours a.bearer a.frame.frame free in
        record {
          node = λ b number apart. record {
            still = stays.node b number apart;
            silent = λ bearer on_one. (
                let grows = events_add_silence h.before.node h.after.node a.frame.frame s h.frames b bearer t.told_before t.turn in
                let was = (g.nodes a.node h.before h.was b number apart).silent bearer on_one in
                omega (arith, grows, was));
          };
          sent = said_since start old new (Arrive a.node a.bearer a.place) a.frame.frame a.answered h s (g.on.kept kept) still t.turn (λ opening suits. arrival_keeps h.before.node.mended a.bearer number_of opening mended_here suits) stays.sent;
        }

-- ---- links that are up are answered

tick_answered : (start : WorldState) (most : ℕ) → IsKept start → most ≤ 3 → TicksRelate start (ends_of start.air) (IsRisingNode start (most + 1)) (AreSilentFor most) (IsFromMended start) (AreUpsAnswered start)
tick_answered start most kept few old new node answered h g next ready r =
    let t = h.does.turn in
    let s = step_of (by_in old.members old.stamps (Call node note.Tick)) note.Tick t.inside (kept_answer answered) in
    let heard = heard_all most node h.before few (λ b. (kept_abreast h.before.node b t.told_before).first) ready in
    answered_on start old new (Call node note.Tick) [] answered h s
    (record {
      kept = g.on.kept kept;
      told = t.told_before;
      turn = t.turn;
      still = λ b number apart. (g.nodes node h.before h.was b number apart).still;
      comes = heard;
      hears = λ b bearer k apart on_one there by. absurd (let wrong : note.Tick ≡ note.Arrive bearer by.number = by.arrives in cc);
      mends = λ b bearer apart on_one by. absurd (let wrong : note.Tick ≡ note.Arrive bearer by.number = by.arrives in cc);
    }) r

arrival_relates : (start : WorldState) (most : ℕ) → IsKept start → ArrivalsRelate start (ends_of start.air) (IsRisingNode start most) (IsFromMended start) (AreUpsAnswered start)
arrival_relates start most kept old new a g next said r =
    let h = a.arrives in
    let t = h.does.turn in
    let number_of = length h.before.arrivals in
    let s = step_of (by_in old.members old.stamps (Arrive a.node a.bearer a.place)) (note.Arrive a.bearer number_of) t.inside (answer.Arrived h.does.arrived) in
    let kept_old = g.on.kept kept in
    let still = rising_is_still start most old g in
    let under : IsUnderPresent start a.bearer a.frame = λ sd d sd_is d_is apart goes_to. (said sd d sd_is d_is apart goes_to).present in
    answered_on start old new (Arrive a.node a.bearer a.place) a.frame.frame a.answered h s
    (record {
      kept = kept_old;
      told = t.told_before;
      turn = t.turn;
      still = λ b number apart. (g.nodes a.node h.before h.was b number apart).still;
      comes = λ b number apart es er p brings kind_is. shows_present start kept old new a still under b es er p brings kind_is;
      hears = λ b bearer k apart on_one there by. (
          let on : a.bearer ≡ bearer = (let arrives : note.Arrive a.bearer number_of ≡ note.Arrive bearer by.number = by.arrives in cc) in
          let shows = shows_present start kept old new a still under b by.es by.er by.packet by.from by.kind in
          subst (λ x. AnswersAt ((footing_at start a.node b).epoch x) (facing x (pair_with k.node a.node)).near) on
          (arrival_answered start old new a kept_old still r b k by.es by.er by.packet there apart by.from by.kind shows.epoch (by.ours ∙ ap (λ x. (footing_at start a.node b).epoch x) (sym on)) by.wakes));
      mends = λ b bearer apart on_one by. (
          let on : a.bearer ≡ bearer = (let arrives : note.Arrive a.bearer number_of ≡ note.Arrive bearer by.number = by.arrives in cc) in
          let sender = sender_there old a.node a.bearer a.place a.frame b by.es by.er by.packet kept_old a.found by.from by.kind in
          subst (λ x. is_mended_at start.members b x ≡ true) on (said b a.node sender.number (node_number old a.node h.before kept_old h.was) sender.apart sender.goes_here).mended);
    }) r

-- ---- the first round

-- no link of node n to another one is up
abbrev pub IsDownNode : ℕ → MemberState → Type 0
IsDownNode n m = (b bearer : ℕ) → IsNumber b → n ≢ b → bearer ≤ 1 → is_up_at (facing bearer (pair_with m.node b)).near ≡ false

-- a link that isn't up isn't silent
pub silent_down : (o : Option LinkEnd) → is_up_at o ≡ false → silence_in o ≡ 0
silent_down None down = refl
silent_down (Some e) down = down_silence e down

-- where no link was up a tick takes none up, and so none is silent
first_tick : (start : WorldState) → IsKept start → TicksGuarded start (ends_of start.air) (IsRisingNode start 0) IsDownNode (IsFromMended start)
first_tick start kept old new node answered h g next ready =
    let still = rising_is_still start 0 old g in
    let t = h.does.turn in
    let s = step_of (by_in old.members old.stamps (Call node note.Tick)) note.Tick t.inside (kept_answer answered) in
    let kept_old = g.on.kept kept in
    let n_is = node_number old node h.before kept_old h.was in
    let none_silent : AreSilentFor 0 node h.before = λ b number apart bearer on_one. (let none = silent_down (facing bearer (pair_with h.before.node b)).near (ready b bearer number apart on_one) in omega (arith, none)) in
    let heard = heard_all 0 node h.before (omega arith) (λ b. (kept_abreast h.before.node b t.told_before).first) none_silent in
    let stays = tick_still start (ends_of start.air) kept old new node answered h still next heard in
    record {
      node = λ b number apart. record {
        still = stays.node b number apart;
        silent = λ bearer on_one. (let none = silent_down (facing bearer (pair_with h.after.node b)).near (down_on b bearer number apart on_one heard kept_old n_is (is_up_at (facing bearer (pair_with h.after.node b)).near) refl) in omega (arith, none));
      };
      sent = said_since start old new (Call node note.Tick) [] answered h s kept_old still t.turn (tick_keeps h.before.node.mended) stays.sent;
    }
  where
    down_on : (b bearer : ℕ) → IsNumber b → node ≢ b → bearer ≤ 1 → HasHeardAll node h.before → IsKept old → IsNumber node → (up : Bool) → is_up_at (facing bearer (pair_with h.after.node b)).near ≡ up → is_up_at (facing bearer (pair_with h.after.node b)).near ≡ false
    down_on b bearer number apart on_one heard kept_old n_is false is = is
    down_on b bearer number apart on_one heard kept_old n_is true is =
        let t = h.does.turn in
        let s = step_of (by_in old.members old.stamps (Call node note.Tick)) note.Tick t.inside (kept_answer answered) in
        absurd (elim (events_hear_ups (sight_at old.members old.air node b) (sight_at old.members old.air b node) (footing_at start node b) (footing_at start b node) h.before.node h.after.node [] s h.frames b bearer t.told_before t.turn
        (kept_old.nodes.sound.pairs node b n_is number apart) (sight_is old node b h.before kept_old h.was) (heard b number apart) (g.nodes node h.before h.was b number apart).still on_one is) [
          | inl was ↦ true≢false (sym was ∙ ready b bearer number apart on_one)
          | inr by ↦ (let wrong : note.Tick ≡ note.Arrive bearer by.number = by.arrives in cc)
        ])

-- and each link that is up is answered
first_answered : (start : WorldState) → IsKept start → TicksRelate start (ends_of start.air) (IsRisingNode start 0) IsDownNode (IsFromMended start) (AreUpsAnswered start)
first_answered start kept old new node answered h g next ready =
    let t = h.does.turn in
    let none_silent : AreSilentFor 0 node h.before = λ b number apart bearer on_one. (let none = silent_down (facing bearer (pair_with h.before.node b)).near (ready b bearer number apart on_one) in omega (arith, none)) in
    tick_answered start 0 kept (omega arith) old new node answered h (rising_more start old g) next none_silent
  where
    rising_more : (start w : WorldState) → IsRisingWorld start 0 w → IsRisingWorld start 1 w
    rising_more start w g = rising_longer start 0 w g

-- ---- a round

-- In a round that begins when no link was silent for more than so many ticks, up to three.
pub round_rises : (start : WorldState) (most : ℕ) (places : Places) (outset : WorldState) (ends : Places) (now : WorldState) → IsKept start → most ≤ 3 → AreBefore (ends_of start.air) places
    → (r : IsRound places outset ends now) → now.lost ≡ false → IsRisingWorld start most outset → AreUpsAnswered start outset
    → RoundRelates start (ends_of start.air) (IsRisingNode start (most + 1)) (IsFromMended start) (AreUpsAnswered start) r.ticked r.between now
round_rises start most places outset ends now kept few behind r whole g ups =
    round_related start (ends_of start.air) (IsRisingNode start (most + 1)) (AreSilentFor most) (IsFromMended start) (AreUpsAnswered start) places outset ends now (rising_tick start most kept few) (rising_arrival start (most + 1) kept)
    (tick_answered start most kept few) (arrival_relates start (most + 1) kept) behind r whole (record { guards = rising_longer start most outset g; related = ups })
    (λ n m there b number apart. (g.nodes n m there b number apart).silent)

-- ---- the begin

-- no link is up at the begin
down_end : (w : WorldState) (a b bearer : ℕ) (o : Option LinkEnd) → IsDownWorld w → (sight_at w.members w.air a b).ends bearer ≡ o → is_up_at o ≡ false
unfolding sight_at
down_end w a b bearer None down is = refl
down_end w a b bearer (Some e) down is = (down a b bearer e is).down

down_near : (w : WorldState) (a b bearer : ℕ) → bearer ≤ 1 → IsDownWorld w → is_up_at (facing bearer (pair_seen (sight_at w.members w.air a b))).near ≡ false
unfolding facing
down_near w a b zero on_one down = down_end w a b 0 _ down refl
down_near w a b (suc zero) on_one down = down_end w a b 1 _ down refl
down_near w a b (suc (suc more)) on_one down = absurd (omega (arith, on_one))

pub rising_begins : (start : WorldState) → IsKept start → IsDownWorld start → start.lost ≡ false → IsRisingWorld start 0 start
rising_begins start kept down clear = record {
  on = settles_same start clear;
  nodes = λ n m there b number apart. record {
    still = begins_still_all start kept (down_may_be_still start down) n m there b number apart;
    silent = λ bearer on_one. (
        let none = silent_down (facing bearer (pair_seen (sight_at start.members start.air n b))).near (down_near start n b bearer on_one down) in
        let same : silence_in (facing bearer (pair_seen (sight_at start.members start.air n b))).near ≡ silence_in (facing bearer (pair_with m.node b)).near = ap (λ (x : PairEnds). silence_in (facing bearer x).near) (sight_is start n b m kept there) in
        omega (arith, none, same));
  };
  frames = none_behind (IsFromMended start) start;
}

pub ups_begin_answered : (start : WorldState) → IsKept start → IsDownWorld start → AreUpsAnswered start start
ups_begin_answered start kept down = record {
  ups = λ a b bearer m k one two apart on_one up. absurd (
      true≢false (sym up ∙ (ap (λ (x : PairEnds). is_up_at (facing bearer x).near) (sym (sight_is start a b m kept one)) ∙ down_near start a b bearer on_one down)));
  mended = λ a b bearer m one number apart on_one up. absurd (
      true≢false (sym up ∙ (ap (λ (x : PairEnds). is_up_at (facing bearer x).near) (sym (sight_is start a b m kept one)) ∙ down_near start a b bearer on_one down)));
  told = λ bearer place f s d k on_one behind there goes_to number apart is. none_behind (λ x q. ShowsAnswering (footing_at start d s) (pair_with k.node d) (left_as x q)) start bearer place f on_one behind there;
}

-- ---- the first round as a whole

pub down_nodes : (start : WorldState) → IsKept start → IsDownWorld start → EachNode IsDownNode start
down_nodes start kept down n m there b bearer number apart on_one = ap (λ (x : PairEnds). is_up_at (facing bearer x).near) (sym (sight_is start n b m kept there)) ∙ down_near start n b bearer on_one down

-- In the first round of a call that begins in a world in which no link is up, no link is silent.
pub first_round_rises : (start : WorldState) (places : Places) (ends : Places) (now : WorldState) → IsKept start → IsDownWorld start → AreBefore (ends_of start.air) places → (r : IsRound places start ends now) → now.lost ≡ false → start.lost ≡ false
    → RoundRelates start (ends_of start.air) (IsRisingNode start 0) (IsFromMended start) (AreUpsAnswered start) r.ticked r.between now
first_round_rises start places ends now kept down behind r whole clear =
    round_related start (ends_of start.air) (IsRisingNode start 0) IsDownNode (IsFromMended start) (AreUpsAnswered start) places start ends now (first_tick start kept) (rising_arrival start 0 kept)
    (first_answered start kept) (arrival_relates start 0 kept) behind r whole (record { guards = rising_begins start kept down clear; related = ups_begin_answered start kept down }) (down_nodes start kept down)
