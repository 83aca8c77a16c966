-- Each round in which all ends are made takes the ends on each shared bearer one step further: they see the contact
-- number, answer, and are up.
use Rattle.std.specs.List.{filter}
use Rattle.std.proofs.Common.{◌≡◌, ◌≢◌, ◌≤◌, ◌+◌, ◌*◌, ◌∙◌, ℕ, zero, suc, true, List, [], Some, None, length, slice_get, slice_index_or, eqb-true, sym, subst, arith}
use Rattle.tipc_types.specs.Address.{node_word}
use Rattle.tipc_types.specs.declared.node_calls.Answer.TheVariants as answer
use Rattle.tipc_types.specs.declared.node_calls.EventNote.TheVariants as note
use Rattle.tipc_outside.specs.declared.outgoing.Outgoing.{Outgoing}
use Rattle.tipc_header.specs.declared.frames.FrameKind.TheVariants.{Links}
use Rattle.tipc_header.specs.Frames.{kind_in}
use Rattle.tipc_pair.specs.Facing.{PairEnds}
use Rattle.tipc_settling.specs.Beginnings.{standing}
use Rattle.tipc_settling.specs.Stillness.{AreHeard, Footing, IsStill}
use Rattle.tipc_settling.proofs.EndsMade.{events_keep_ends}
use Rattle.tipc_settling.proofs.Lasting.{answering_stays, up_stays}
use Rattle.tipc_settling.proofs.Nodes.{events_still}
use Rattle.tipc_settling.proofs.Standing.{stands_anew}
use Rattle.tipc_node.specs.Nodes.{pair_with, step_of}
use Rattle.tipc_node.specs.Sockets.{kept_answer}
use Rattle.tipc_node.proofs.pairs.Strangers.{kept_abreast}
use Rattle.tipc_replay.specs.declared.events.WorldEvent.TheVariants.{Arrive, Call}
use Rattle.tipc_replay.specs.Air.{airborne, is_on}
use Rattle.tipc_replay.specs.Due.{is_for}
use Rattle.tipc_replay.specs.Sound.{IsNumber}
use Rattle.tipc_replay.specs.States.{MemberState, contact_at}
use Rattle.tipc_replay.proofs.InLists.{stands_passed}
use Rattle.tipc_replay.proofs.calls.Calls.{the_some}
use Rattle.tipc_replay.proofs.calls.Outcomes.{some_is}
use Rattle.tipc_replay.proofs.frames.Reaching.{placed}
use Rattle.tipc_world.specs.declared.places.Places.{Places}
use Rattle.tipc_world.specs.CalmWorlds.{IsFromMended}
use Rattle.tipc_world.specs.Courses.{numbers}
use Rattle.tipc_world.specs.Ends.{ends_of}
use Rattle.tipc_world.specs.RisingWorlds.{AreSilentFor, IsRisingWorld}
use Rattle.tipc_world.specs.RoundParts.{EachNode, FrameArrives, Guards, HasTickedOnce, IsKept, IsRound}
use Rattle.tipc_world.specs.Stages.{IsMetNode, IsMetWorld, ShareBearer, MetRound}
use Rattle.tipc_world.specs.States.{WorldState, is_there}
use Rattle.tipc_world.specs.StillWorlds.{HasHeardAll, IsStillWorld, IsUnderPresent, footing_at}
use Rattle.tipc_world.specs.Steps.{by_in}
use Rattle.tipc_world.proofs.rounds.Guarded.{ArrivalsGuarded, RoundGuarded, TicksGuarded, place_there, round_guarded}
use Rattle.tipc_world.proofs.rounds.Leaving.{ArrivalMakes, ArrivalsLeave, AtNode, arrivals_leave, round_leaves_first, round_leaves_second}
use Rattle.tipc_world.proofs.rounds.Pacing.{pair_first}
use Rattle.tipc_world.proofs.rounds.Parts.{goes_whole}
use Rattle.tipc_world.proofs.rounds.Rising.{heard_all, rising_arrival, rising_is_still, rising_tick}
use Rattle.tipc_world.proofs.rounds.RoundLaws.{round_ticks, tick_brings_first, tick_brings_second}
use Rattle.tipc_world.proofs.rounds.StillWorlds.{node_number, shows_present}
use Rattle.tipc_world.proofs.rounds.TickAges.{young_first, young_second}

-- ---- worlds whose ends are made

pub met_rises : (start : WorldState) (most step : ℕ) (w : WorldState) → IsMetWorld start most step w → IsRisingWorld start most w
met_rises start most step w g = record { on = g.on; nodes = λ n m there. (g.nodes n m there).rising; frames = g.frames }

-- the number of a node that is there at the begin
pub number_of : (start : WorldState) (n : ℕ) → IsKept start → is_there start n ≡ true → IsNumber n
number_of start n kept there = (let m = the_some (slice_index_or start.members n None) there in node_number start n m.0 kept m.1)

met_tick : (start : WorldState) (most step : ℕ) → IsKept start → most ≤ 3 → TicksGuarded start (ends_of start.air) (IsMetNode start (most + 1) step) (AreSilentFor most) (IsFromMended start)
met_tick start most step kept few old new node answered h g next ready =
    let t = h.does.turn in
    let s = step_of (by_in old.members old.stamps (Call node note.Tick)) note.Tick t.inside (kept_answer answered) in
    let rises = rising_tick start most kept few old new node answered h (met_rises start (most + 1) step old g) next ready in
    let was = g.nodes node h.before h.was in
    let heard = heard_all most node h.before few (λ b. (kept_abreast h.before.node b t.told_before).first) ready in
    record {
      node = record {
        rising = rises.node;
        made = λ b bearer shared. events_keep_ends h.before.node h.after.node [] s h.frames b bearer t.told_before t.turn (was.made b bearer shared);
        answers = λ so b bearer shared. (
            let number = number_of start b kept shared.there in
            let own = footing_at start node b in
            let peer = footing_at start b node in
            let x = pair_with h.before.node b in
            let still = (was.rising b number shared.apart).still in
            answering_stays own peer x (pair_with h.after.node b) bearer shared.on_one
            (events_still (standing own peer x) peer h.before.node h.after.node [] s h.frames b t.told_before t.turn (heard b number shared.apart) (stands_anew own peer x still)) (was.answers so b bearer shared));
        up = λ so b bearer shared. (
            let number = number_of start b kept shared.there in
            let own = footing_at start node b in
            let peer = footing_at start b node in
            let x = pair_with h.before.node b in
            let still = (was.rising b number shared.apart).still in
            up_stays own peer x (pair_with h.after.node b) bearer shared.on_one
            (events_still (standing own peer x) peer h.before.node h.after.node [] s h.frames b t.told_before t.turn (heard b number shared.apart) (stands_anew own peer x still)) (was.up so b bearer shared));
      };
      sent = rises.sent;
    }

-- a pair that is still on this footing before an arrival is so behind it
arrival_stays : (start : WorldState) (most step : ℕ) → IsKept start → (old new : WorldState) (a : FrameArrives (ends_of start.air) old new) → IsMetWorld start most step old → (now : Footing) (b : ℕ) → IsNumber b → a.node ≢ b
    → IsStill now (footing_at start b a.node) (pair_with a.arrives.before.node b) → IsStill now (footing_at start b a.node) (pair_with a.arrives.after.node b)
arrival_stays start most step kept old new a g now b number apart still =
    let h = a.arrives in
    let t = h.does.turn in
    let s = step_of (by_in old.members old.stamps (Arrive a.node a.bearer a.place)) (note.Arrive a.bearer (length h.before.arrivals)) t.inside (answer.Arrived h.does.arrived) in
    let said = g.frames a.bearer a.place a.frame a.on_one a.behind (placed old.air a.node a.bearer a.place a.frame a.found).0 in
    let under : IsUnderPresent start a.bearer a.frame = λ sd d sd_is d_is two goes_to. (said sd d sd_is d_is two goes_to).present in
    let world = rising_is_still start most old (met_rises start most step old g) in
    events_still now (footing_at start b a.node) h.before.node h.after.node a.frame.frame s h.frames b t.told_before t.turn (λ es er p brings kind_is. shows_present start kept old new a world under b es er p brings kind_is) still

met_arrival : (start : WorldState) (most step : ℕ) → IsKept start → ArrivalsGuarded start (ends_of start.air) (IsMetNode start most step) (IsFromMended start)
met_arrival start most step kept old new a g next said =
    let h = a.arrives in
    let t = h.does.turn in
    let s = step_of (by_in old.members old.stamps (Arrive a.node a.bearer a.place)) (note.Arrive a.bearer (length h.before.arrivals)) t.inside (answer.Arrived h.does.arrived) in
    let rises = rising_arrival start most kept old new a (met_rises start most step old g) next said in
    let was = g.nodes a.node h.before h.was in
    record {
      node = record {
        rising = rises.node;
        made = λ b bearer shared. events_keep_ends h.before.node h.after.node a.frame.frame s h.frames b bearer t.told_before t.turn (was.made b bearer shared);
        answers = λ so b bearer shared. (
            let number = number_of start b kept shared.there in
            let own = footing_at start a.node b in
            let peer = footing_at start b a.node in
            let x = pair_with h.before.node b in
            let still = (was.rising b number shared.apart).still in
            answering_stays own peer x (pair_with h.after.node b) bearer shared.on_one
            (arrival_stays start most step kept old new a g (standing own peer x) b number shared.apart (stands_anew own peer x still)) (was.answers so b bearer shared));
        up = λ so b bearer shared. (
            let number = number_of start b kept shared.there in
            let own = footing_at start a.node b in
            let peer = footing_at start b a.node in
            let x = pair_with h.before.node b in
            let still = (was.rising b number shared.apart).still in
            up_stays own peer x (pair_with h.after.node b) bearer shared.on_one
            (arrival_stays start most step kept old new a g (standing own peer x) b number shared.apart (stands_anew own peer x still)) (was.up so b bearer shared));
      };
      sent = rises.sent;
    }

-- what a still pair has come to, and keeps
abbrev pub Lasts : Footing → Footing → (PairEnds → Type 0) → Type 0
Lasts own peer Q = (x x' : PairEnds) → IsStill (standing own peer x) peer x' → Q x → Q x'

lasts_arrivals : (start : WorldState) (most step n b : ℕ) (Q : PairEnds → Type 0) → IsKept start → IsNumber b → n ≢ b → Lasts (footing_at start n b) (footing_at start b n) Q
    → ArrivalsLeave start (ends_of start.air) (IsMetNode start most step) (IsFromMended start) n (λ m. Q (pair_with m.node b))
lasts_arrivals start most step n b Q kept number apart lasts old new a g next here was =
    let h = a.arrives in
    let away : a.node ≢ b = λ same. apart (sym here ∙ same) in
    let x = pair_with h.before.node b in
    let rises = (g.nodes a.node h.before h.was).rising in
    let still = (rises b number away).still in
    let kept_on : IsStill (standing (footing_at start a.node b) (footing_at start b a.node) x) (footing_at start b a.node) (pair_with h.after.node b) =
    arrival_stays start most step kept old new a g (standing (footing_at start a.node b) (footing_at start b a.node) x) b number away (stands_anew (footing_at start a.node b) (footing_at start b a.node) x still) in
    lasts x (pair_with h.after.node b) (subst (λ k. IsStill (standing (footing_at start k b) (footing_at start b k) x) (footing_at start b k) (pair_with h.after.node b)) here kept_on) was

-- ---- one round

-- what stands among the frames on a bearer is on it
on_bearer : (frames : List Outgoing) (bearer place : ℕ) (o : Outgoing) → slice_get (filter (is_on bearer) frames) place ≡ Some o → o.bearer ≡ bearer
on_bearer frames bearer place o at = eqb-true o.bearer bearer (stands_passed (is_on bearer) frames o (place, at)).1

module _ (start : WorldState) (most step : ℕ) (places : Places) (outset : WorldState) (ends : Places) (now : WorldState) (r : IsRound places outset ends now) (k : MetRound start most step places outset ends now r) where
  longer : Guards start (ends_of start.air) (IsMetNode start (most + 1) step) (IsFromMended start) outset
  longer =
      let g = k.met in
      record {
        on = g.on;
        nodes = λ n m there. (let q = g.nodes n m there in record { rising = λ b number apart. (let p = q.rising b number apart in record { still = p.still; silent = λ bearer on_one. (let few_ticks = p.silent bearer on_one in omega (arith, few_ticks)) }); made = q.made; answers = q.answers; up = q.up });
        frames = g.frames;
      }

  pub guards : RoundGuarded start (ends_of start.air) (IsMetNode start (most + 1) step) (IsFromMended start) r.ticked r.between now
  guards =
      round_guarded start (ends_of start.air) (IsMetNode start (most + 1) step) (AreSilentFor most) (IsFromMended start) places outset ends now (met_tick start most step k.kept k.few) (met_arrival start (most + 1) step k.kept) k.behind r k.whole longer
      (λ n m there b number apart. ((k.met.nodes n m there).rising b number apart).silent)

  pub number_at : (n : ℕ) → is_there start n ≡ true → IsNumber n
  number_at n there = number_of start n k.kept there

  pub there_at : (n : ℕ) → is_there start n ≡ true → is_there outset n ≡ true
  there_at n there = k.met.on.nodes n ∙ there

  pub ticks_at : (n : ℕ) → is_there start n ≡ true → HasTickedOnce outset r.ticked n
  ticks_at n there = (let number = number_at n there in round_ticks places outset ends now r n k.whole number.0 number.1 (there_at n there))

  -- ---- what lasts

  -- what a pair has come to when the round begins it has at its end
  pub lasts_round : (n b : ℕ) (Q : PairEnds → Type 0) → is_there start n ≡ true → IsNumber b → n ≢ b → Lasts (footing_at start n b) (footing_at start b n) Q → AtNode n (λ m. Q (pair_with m.node b)) outset → AtNode n (λ m. Q (pair_with m.node b)) now
  lasts_round n b Q there number apart lasts so =
      let t = ticks_at n there in
      let h = t.ticks in
      let turn = h.does.turn in
      let own = footing_at start n b in
      let peer = footing_at start b n in
      let x = pair_with h.before.node b in
      let s = step_of (by_in t.before.members t.before.stamps (Call n note.Tick)) note.Tick turn.inside (kept_answer t.answered) in
      let q = (k.met.nodes n h.before t.was).rising in
      let heard : AreHeard x = heard_all most n h.before k.few (λ j. (kept_abreast h.before.node j turn.told_before).first) (λ j j_is j_apart. (q j j_is j_apart).silent) b number apart in
      let kept_on = events_still (standing own peer x) peer h.before.node h.after.node [] s h.frames b turn.told_before turn.turn heard (stands_anew own peer x (q b number apart).still) in
      let ticked : AtNode n (λ m. Q (pair_with m.node b)) r.ticked = λ m is. subst (λ (l : MemberState). Q (pair_with l.node b)) (some_is h.after m (sym t.is ∙ is)) (lasts x (pair_with h.after.node b) kept_on (so h.before t.was)) in
      let leave = lasts_arrivals start (most + 1) step n b Q k.kept number apart lasts in
      let clear_between = goes_whole _ _ r.between _ _ now r.second_part k.whole in
      let between = arrivals_leave start (ends_of start.air) (IsMetNode start (most + 1) step) (IsFromMended start) n (λ m. Q (pair_with m.node b)) 0 (numbers * places.first) r.ticked (numbers * length r.ticked.air.first) r.arrivals r.between (omega arith)
      (place_there places.first (ends_of start.air).first k.behind.0) (met_arrival start (most + 1) step k.kept) leave r.first_part clear_between guards.ticks ticked in
      arrivals_leave start (ends_of start.air) (IsMetNode start (most + 1) step) (IsFromMended start) n (λ m. Q (pair_with m.node b)) 1 (numbers * places.second) r.between (numbers * length r.ticked.air.second) r.others now (omega arith)
      (place_there places.second (ends_of start.air).second k.behind.1) (met_arrival start (most + 1) step k.kept) leave r.second_part k.whole guards.middle between

  -- ---- what a frame of a tick brings

  -- among the frames of a tick is this one, for node n
  pub record IsAmong (b n bearer : ℕ) (t : HasTickedOnce outset r.ticked b) (o : Outgoing) : Type 0 where
    pub place : ℕ
    pub at : slice_get (filter (is_on bearer) t.ticks.frames) place ≡ Some o
    pub meant : is_for (record { word = node_word b }) o.to n ≡ true

  -- no node was silent for long when the round began
  heard_outset : EachNode HasHeardAll outset
  heard_outset n m there = heard_all most n m k.few (λ j. pair_first outset n j m (k.met.on.kept k.kept) there) (λ b number apart. ((k.met.nodes n m there).rising b number apart).silent)

  still_outset : IsStillWorld start outset
  still_outset = rising_is_still start most outset (met_rises start most step outset k.met)

  -- A frame of the link leaves node n so at the end of the round, where its arrival makes it so and all others leave it
  -- so.
  pub brings_it : (b n bearer : ℕ) (t : HasTickedOnce outset r.ticked b) (o : Outgoing) (Q : PairEnds → Type 0) → ShareBearer start n b bearer → IsAmong b n bearer t o → kind_in o.frame ≡ Links
      → ArrivalsLeave start (ends_of start.air) (IsMetNode start (most + 1) step) (IsFromMended start) n (λ m. Q (pair_with m.node b))
      → ArrivalMakes start (ends_of start.air) (IsMetNode start (most + 1) step) (IsFromMended start) (λ m. Q (pair_with m.node b)) bearer n (airborne (contact_at t.before.members b) t.after.members b o)
      → AtNode n (λ m. Q (pair_with m.node b)) now
  brings_it b n zero t o Q shared among kind leave makes =
      let n_is = number_at n shared.here in
      let f = airborne (contact_at t.before.members b) t.after.members b o in
      let at = tick_brings_first places outset ends now r b n among.place t o k.whole k.within n_is.1 (there_at n shared.here) among.at among.meant in
      let from_places : places.first ≤ at.place = (let one = k.within.0 in let two = at.behind in omega (arith, one, two)) in
      round_leaves_first start (ends_of start.air) (IsMetNode start (most + 1) step) (IsFromMended start) (λ m. Q (pair_with m.node b)) places outset ends now r at.place n f k.behind from_places (met_arrival start (most + 1) step k.kept)
      leave makes at.arrives (young_first start places outset ends now k.kept k.behind r k.whole still_outset heard_outset b n at.place t o (on_bearer t.ticks.frames 0 among.place o among.at) kind shared.here n_is at.arrives) k.whole guards
  brings_it b n (suc zero) t o Q shared among kind leave makes =
      let n_is = number_at n shared.here in
      let f = airborne (contact_at t.before.members b) t.after.members b o in
      let at = tick_brings_second places outset ends now r b n among.place t o k.whole k.within n_is.1 (there_at n shared.here) among.at among.meant in
      let from_places : places.second ≤ at.place = (let one = k.within.1 in let two = at.behind in omega (arith, one, two)) in
      round_leaves_second start (ends_of start.air) (IsMetNode start (most + 1) step) (IsFromMended start) (λ m. Q (pair_with m.node b)) places outset ends now r at.place n f k.behind from_places (met_arrival start (most + 1) step k.kept)
      leave makes at.arrives (young_second start places outset ends now k.kept k.behind r k.whole still_outset heard_outset b n at.place t o (on_bearer t.ticks.frames 1 among.place o among.at) kind shared.here n_is at.arrives) k.whole guards
  brings_it b n (suc (suc more)) t o Q shared among kind leave makes = absurd (let one = shared.on_one in omega (arith, one))

  pub brings : (b n bearer : ℕ) (t : HasTickedOnce outset r.ticked b) (o : Outgoing) (Q : PairEnds → Type 0) → ShareBearer start n b bearer → IsAmong b n bearer t o → kind_in o.frame ≡ Links → Lasts (footing_at start n b) (footing_at start b n) Q
      → ArrivalMakes start (ends_of start.air) (IsMetNode start (most + 1) step) (IsFromMended start) (λ m. Q (pair_with m.node b)) bearer n (airborne (contact_at t.before.members b) t.after.members b o)
      → AtNode n (λ m. Q (pair_with m.node b)) now
  brings b n bearer t o Q shared among kind lasts makes = brings_it b n bearer t o Q shared among kind (lasts_arrivals start (most + 1) step n b Q k.kept (number_at b shared.there) shared.apart lasts) makes
