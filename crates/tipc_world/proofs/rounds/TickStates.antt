-- In a round of a calm world each link that is up tells the STATE of its session, as it stood when the round began; and
-- that is heard at the other end.
use Rattle.std.specs.Prelude.{if◌then◌else◌, slice_get}
use Rattle.std.specs.List.{filter}
use Rattle.std.proofs.Common.{◌≡◌, ◌≢◌, ◌≤◌, ◌<◌, ◌+◌, ◌*◌, ◌∙◌, ℕ, zero, suc, Bool, true, false, List, [], Some, None, get_or, length, slice_index_or, is_some, eq-eqb, refl, sym, ap, subst, arith}
use Rattle.std.proofs.lemmas.Bool.{or_parts}
use Rattle.std.proofs.lemmas.Option.{slice_get-get_or}
use Rattle.tipc_types.specs.Address.{node_word}
use Rattle.tipc_types.specs.declared.link_words.BroadcastState.{BroadcastState}
use Rattle.tipc_types.specs.declared.node_calls.Answer.{Answer}
use Rattle.tipc_types.specs.declared.node_calls.Arrival.{Arrival}
use Rattle.tipc_types.specs.declared.node_calls.By.{By}
use Rattle.tipc_outside.specs.declared.outgoing.Outgoing.{Outgoing}
use Rattle.tipc_header.specs.declared.frames.FrameKind.TheVariants.{Links}
use Rattle.tipc_header.specs.Frames.{kind_in}
use Rattle.tipc_header.specs.Spelling.{Fields}
use Rattle.tipc_broadcast.specs.Casting.{shown}
use Rattle.tipc_link.specs.Links.{is_traffic, known}
use Rattle.tipc_link.specs.Sessions.{SessionEnd, state_fields, state_frame}
use Rattle.tipc_paired.proofs.wires.Wires.{map_at}
use Rattle.tipc_node.specs.Arrivals.{Arrives}
use Rattle.tipc_node.specs.Nodes.{stop_of}
use Rattle.tipc_node.specs.Turns.{IsFrom}
use Rattle.tipc_settling.specs.Loads.{IsCalm}
use Rattle.tipc_settling.specs.Repairs.{NodeHears, session_with}
use Rattle.tipc_settling.proofs.Telling.{tick_tells}
use Rattle.tipc_replay.specs.declared.air.Sent.{Sent}
use Rattle.tipc_replay.specs.declared.events.WorldEvent.{WorldEvent}
use Rattle.tipc_replay.specs.declared.events.WorldEvent.TheVariants.{Arrive}
use Rattle.tipc_replay.specs.Air.{airborne, is_on}
use Rattle.tipc_replay.specs.Due.{age_of, frame_for, is_for, kept_for}
use Rattle.tipc_replay.specs.Skies.{air_on}
use Rattle.tipc_replay.specs.Sound.{IsNumber}
use Rattle.tipc_replay.specs.States.{MemberState, contact_at}
use Rattle.tipc_replay.specs.Views.{sight_at}
use Rattle.tipc_replay.proofs.InLists.{stands_passing}
use Rattle.tipc_replay.proofs.frames.Reaching.{placed}
use Rattle.tipc_world.specs.declared.places.Places.{Places}
use Rattle.tipc_world.specs.declared.settling.Receivers.TheVariants.{Any}
use Rattle.tipc_world.specs.CalmWorlds.{IsCalmWorld}
use Rattle.tipc_world.specs.Courses.{numbers}
use Rattle.tipc_world.specs.Ends.{AreBefore, ends_of, place_on}
use Rattle.tipc_world.specs.Poised.{IsPoised}
use Rattle.tipc_world.specs.RoundParts.{EachNode, FrameArrives, HappensWhole, HasArrivedOnce, HasTickedOnce, IsKept, IsRound}
use Rattle.tipc_world.specs.Settling.{arrival_asked}
use Rattle.tipc_world.specs.States.{WorldState}
use Rattle.tipc_world.specs.StillWorlds.{HasHeardAll, footing_at}
use Rattle.tipc_world.specs.YoungWorlds.{ArriveYoung}
use Rattle.tipc_world.specs.Steps.{by_in}
use Rattle.tipc_world.proofs.Continuing.{longer}
use Rattle.tipc_world.proofs.casts.Telling.{TellsCast, tells_cast}
use Rattle.tipc_world.proofs.rounds.AnyPeer.{arrival_is_calm, tick_is_calm}
use Rattle.tipc_world.proofs.rounds.Flying.{flown}
use Rattle.tipc_world.proofs.rounds.Going.{Going, arrivals_going, begins_going, one_arrives, ticks_going}
use Rattle.tipc_world.proofs.rounds.Guarded.{place_there}
use Rattle.tipc_world.proofs.rounds.Keeping.{here_is, other_stays}
use Rattle.tipc_world.proofs.rounds.Pacing.{same_session}
use Rattle.tipc_world.proofs.rounds.Parts.{goes_whole}
use Rattle.tipc_world.proofs.rounds.RoundLaws.{round_arrives_first, round_arrives_second, round_ticks}
use Rattle.tipc_world.proofs.rounds.SessionsHear.{clear_here, session_hears}
use Rattle.tipc_world.proofs.rounds.Shown.{shown_fits}
use Rattle.tipc_world.proofs.rounds.Spelled.{state_from, state_kind}
use Rattle.tipc_world.proofs.rounds.UpLinks.{UpSide, UpSides, both_up, sight_words, up_side, up_sides}
use Rattle.tipc_world.proofs.rounds.Walking.{arrivals_go_on}

-- ---- the STATE

-- a STATE is of a session
state_traffic : (s : SessionEnd) (seen : BroadcastState) (probe : Bool) → is_traffic (state_fields s seen probe).header ≡ true
unfolding state_fields
state_traffic s seen probe = refl

-- the frame of node b to node n that tells the STATE of its session
pub record SaysState (start : WorldState) (b n bearer : ℕ) (s : SessionEnd) (seen : BroadcastState) (probe : Bool) : Type 0 where
  pub from : IsFrom b (state_frame s seen probe).frame ((footing_at start b n).epoch bearer) ((footing_at start n b).epoch bearer) (state_fields s seen probe)
  pub kind : kind_in (state_frame s seen probe).frame ≡ Links
  pub on_bearer : (state_frame s seen probe).bearer ≡ bearer
  pub meant : is_for (record { word = node_word b }) (state_frame s seen probe).to n ≡ true

says_state : (start w : WorldState) (b n bearer : ℕ) (m : MemberState) (probe : Bool) → IsKept w → IsNumber b → IsNumber n → b ≢ n → slice_index_or w.members b None ≡ Some m → (u : UpSide start w b n bearer m)
    → SaysState start b n bearer u.session (shown m.node.casting (node_word n)) probe
says_state start w b n bearer m probe kept b_is n_is apart there u =
    let v = sight_at w.members w.air b n in
    let o = sight_at w.members w.air n b in
    let s = u.session in
    let seen = shown m.node.casting (node_word n) in
    let h = kept.nodes.sound.pairs b n b_is n_is apart in
    let e = u.link.end in
    let own_epoch : s.epoch ≡ e.fsm.own = u.epoch ∙ sym u.own in
    let peer_epoch : e.fsm.peer ≡ Some s.peer_epoch = u.peer ∙ ap Some (sym u.peer_epoch) in
    let from = state_from v o b bearer e s seen probe h (sight_words w b n).0 u.end_is u.link.up u.has own_epoch peer_epoch (shown_fits w b n m kept there b_is n_is apart) in
    record {
      from = subst (λ er. IsFrom b (state_frame s seen probe).frame ((footing_at start b n).epoch bearer) er (state_fields s seen probe)) (ap known u.peer)
          (subst (λ es. IsFrom b (state_frame s seen probe).frame es (known e.fsm.peer) (state_fields s seen probe)) u.own from);
      kind = state_kind s.epoch s.peer_epoch s seen probe from.fits;
      on_bearer = u.on_bearer;
      meant = eq-eqb s.peer (node_word n) u.peer_word;
    }

-- ---- it leaves at a tick

-- what stands at a place of a list
pub slice_there : {A : Type 0} (xs : List A) (k : ℕ) (x : A) → k < length xs → get_or xs k x ≡ x → slice_get xs k ≡ Some x
slice_there xs k x within is = slice_get-get_or xs k x within ∙ ap Some is

-- the STATE of the session that stands at the begin of a round is among the frames of the node's tick
record TellsState (start outset ticked : WorldState) (b n bearer : ℕ) (t : HasTickedOnce outset ticked b) (u : UpSide start outset b n bearer t.ticks.before) : Type 0 where
  probe : Bool
  place : ℕ
  says : SaysState start b n bearer u.session (shown t.ticks.before.node.casting (node_word n)) probe
  at : slice_get (filter (is_on bearer) t.ticks.frames) place ≡ Some (state_frame u.session (shown t.ticks.before.node.casting (node_word n)) probe)

tick_state : (start outset ticked : WorldState) (b n bearer : ℕ) (t : HasTickedOnce outset ticked b) (u : UpSide start outset b n bearer t.ticks.before) → IsKept start → IsCalmWorld start outset → EachNode HasHeardAll outset → IsCalmWorld start t.before → IsNumber b → IsNumber n
    → b ≢ n → bearer ≤ 1 → TellsState start outset ticked b n bearer t u
tick_state start outset ticked b n bearer t u kept_start g heard g_before b_is n_is apart on_one =
    let kept = g.on.kept kept_start in
    let m = t.ticks.before in
    let seen = shown m.node.casting (node_word n) in
    let calm = tick_is_calm start t.before t.after b t.answered t.ticks (g_before.on.kept kept_start) g_before (heard b m t.was) in
    let tell = tick_tells m.node t.ticks.after.node _ t.ticks.frames t.answered t.ticks.does.performs t.ticks.does.turn calm n bearer on_one u.session u.in_session in
    let says = says_state start outset b n bearer m tell.0 kept b_is n_is apart t.was u in
    let o = state_frame u.session seen tell.0 in
    let on : slice_get t.ticks.frames tell.1.0 ≡ Some o = slice_there t.ticks.frames tell.1.0 o tell.1.1 tell.1.2 in
    let passed = stands_passing (is_on bearer) t.ticks.frames o (tell.1.0, on) (eq-eqb o.bearer bearer says.on_bearer) in
    record { probe = tell.0; place = passed.0; says = says; at = passed.1 }

-- ---- it is heard

-- Node n heard a frame of node b in a round: the worlds before and after, the sessions at both ends before, what the
-- session at n became, and what both went on from since the round began; from there on all sessions go on to its end.
pub record IsHeardOnce (start outset ticked now : WorldState) (b n bearer : ℕ) (p : Fields) : Type 0 where
  pub before : WorldState
  pub behind : length (air_on bearer ticked.air) ≤ length (air_on bearer before.air)
  pub since : Going start outset before
  pub member : MemberState
  pub member_is : slice_index_or before.members n None ≡ Some member
  pub sides : UpSides start before n b bearer member
  pub after : WorldState
  pub step : Going start before after
  pub others : (i : ℕ) → (i ≡ n → ⊥) → slice_index_or after.members i None ≡ slice_index_or before.members i None
  pub new : MemberState
  pub new_is : slice_index_or after.members n None ≡ Some new
  pub frames : List Outgoing
  pub by : ℕ
  pub hears : NodeHears new.node frames b bearer by p sides.here.session
  pub leaves : (k : ℕ) (o : Outgoing) → o.bearer ≡ bearer → slice_get frames k ≡ Some o → (place : ℕ) × (length (air_on bearer before.air) ≤ place) × (slice_get (air_on bearer after.air) place ≡ Some (airborne (contact_at before.members n) after.members n o))
  pub calm : IsCalmWorld start after
  pub later : Going start after now
  -- the frame, and what the node did
  pub sent : Sent
  pub sent_at : ℕ
  pub found : frame_for before.air n bearer sent_at ≡ Some sent
  pub brings : IsFrom b sent.frame ((footing_at start b n).epoch bearer) ((footing_at start n b).epoch bearer) p
  pub kind : kind_in sent.frame ≡ Links
  pub caller : By
  pub arrived : Arrival
  pub arrives : Arrives member.node new.node caller bearer by sent.frame frames arrived
  pub free : stop_of member.node bearer sent.frame ≡ None
  pub quiet : IsCalm member.node new.node

-- a frame in the air of its bearer
left_behind : (old new : WorldState) (n bearer place : ℕ) (bytes : List ℕ) (answered : Answer) (h : HappensWhole old new (Arrive n bearer place) bytes answered) → bearer ≤ 1 → (k : ℕ) (o : Outgoing) → o.bearer ≡ bearer → slice_get h.frames k ≡ Some o
    → (at : ℕ) × (length (air_on bearer old.air) ≤ at) × (slice_get (air_on bearer new.air) at ≡ Some (airborne (contact_at old.members n) new.members n o))
left_behind old new n bearer place bytes answered h on_one k o on at =
    let passed = stands_passing (is_on bearer) h.frames o (k, at) (eq-eqb o.bearer bearer on) in
    let leaving = map_at (airborne (contact_at old.members n) new.members n) (filter (is_on bearer) h.frames) passed.0 o passed.1 in
    (length (air_on bearer old.air) + passed.0, omega arith, flown old new (Arrive n bearer place) bytes answered h bearer passed.0 (airborne (contact_at old.members n) new.members n o) on_one leaving)

-- the arrival of a frame of a link that is up
pub heard_once : (start outset ticked part now part_now : WorldState) (b n bearer from end place : ℕ) (f : Sent) (p : Fields) → IsKept start → IsPoised start → IsNumber b → IsNumber n → n ≢ b → bearer ≤ 1 → (footing_at start n b).up bearer ≡ true
    → place_on bearer (ends_of start.air) ≤ from → from ≤ place → Going start outset part → (once : HasArrivedOnce bearer from end part part_now place n f) → age_of once.before.members f n bearer ≤ 30000 → ((w : WorldState) → IsCalmWorld start w → Going start once.after part_now → Going start once.after now)
    → part_now.lost ≡ false → IsFrom b f.frame ((footing_at start b n).epoch bearer) ((footing_at start n b).epoch bearer) p → kind_in f.frame ≡ Links → is_traffic p.header ≡ true → length (air_on bearer ticked.air) ≤ length (air_on bearer part.air)
    → (h : IsHeardOnce start outset ticked now b n bearer p) × (h.sent ≡ f)
heard_once start outset ticked part now part_now b n bearer from end place f p kept poised b_is n_is apart on_one up behind at going once young rest whole brings kind_is traffic longer_part =
    let before = arrivals_going start outset bearer (numbers * from) part (numbers * place + n) once.earlier once.before kept poised on_one (place_there from (place_on bearer (ends_of start.air)) behind) once.front once.clear going in
    let clear_part = goes_whole _ _ part _ _ once.before once.front once.clear in
    let on = arrivals_going start part bearer (numbers * from) part (numbers * place + n) once.earlier once.before kept poised on_one (place_there from (place_on bearer (ends_of start.air)) behind) once.front once.clear (begins_going start part clear_part going.calm) in
    let more = longer part once.before on.on.grown bearer in
    let h = once.arrives young in
    let a : FrameArrives (ends_of start.air) once.before once.after = record {
      node = n;
      bearer = bearer;
      place = place;
      frame = f;
      answered = once.answered;
      on_one = on_one;
      behind = omega (arith, behind, at);
      found = once.here;
      fresh = young;
      arrives = h;
    } in
    let said = before.calm.frames bearer place f on_one (omega (arith, behind, at)) (placed once.before.air n bearer place f once.here).0 in
    let sides = up_sides start once.before n b bearer h.before kept poised before.calm b_is apart on_one h.was up in
    let hears = session_hears start kept poised once.before once.after a before.calm said b b_is apart ((footing_at start b n).epoch bearer) ((footing_at start n b).epoch bearer) p brings kind_is traffic refl refl sides.here in
    let clear_after = goes_whole (arrival_asked Any bearer) (numbers * place + n + 1) once.after (numbers * end) once.later part_now once.rest whole in
    let free = clear_here start kept once.before once.after a before.calm b b_is apart ((footing_at start b n).epoch bearer) ((footing_at start n b).epoch bearer) p brings kind_is sides.here in
    let next = one_arrives start once.before kept poised once.before once.after once.clear a (begins_going start once.before once.clear before.calm) in
    let last = arrivals_going start once.after bearer (numbers * place + n + 1) once.after (numbers * end) once.later part_now kept poised on_one (omega (arith, behind, at)) once.rest whole (begins_going start once.after clear_after next.calm) in
    let heard : IsHeardOnce start outset ticked now b n bearer p = record {
      before = once.before;
      behind = omega (arith, longer_part, more);
      since = before;
      member = h.before;
      member_is = h.was;
      sides = sides;
      after = once.after;
      step = next;
      others = other_stays once.before once.after (Arrive n bearer place) f.frame once.answered h;
      new = h.after;
      new_is = here_is once.before once.after (Arrive n bearer place) f.frame once.answered h;
      frames = h.frames;
      by = length h.before.arrivals;
      hears = hears;
      leaves = left_behind once.before once.after n bearer place f.frame once.answered h on_one;
      calm = next.calm;
      later = rest once.after next.calm last;
      sent = f;
      sent_at = place;
      found = once.here;
      brings = brings;
      kind = kind_is;
      caller = by_in once.before.members once.before.stamps (Arrive n bearer place);
      arrived = h.does.arrived;
      arrives = h.does.arrives;
      free = free;
      quiet = arrival_is_calm start kept poised once.before once.after a before.calm said free;
    } in
    (heard, refl)

-- ---- in a round

-- what a round of a calm world begins with
pub record CalmRound (start : WorldState) (places : Places) (outset : WorldState) (ends : Places) (now : WorldState) (r : IsRound places outset ends now) : Type 0 where
  pub kept : IsKept start
  pub poised : IsPoised start
  pub behind : AreBefore (ends_of start.air) places
  pub within : AreBefore places (ends_of outset.air)
  pub whole : now.lost ≡ false
  pub calm : IsCalmWorld start outset
  pub heard : EachNode HasHeardAll outset
  pub young : ArriveYoung places outset ends now r

-- the worlds of a round
record RoundGoes (start : WorldState) (places : Places) (outset : WorldState) (ends : Places) (now : WorldState) (r : IsRound places outset ends now) : Type 0 where
  clear_between : r.between.lost ≡ false
  clear_ticked : r.ticked.lost ≡ false
  ticked : Going start outset r.ticked
  between : Going start outset r.between

round_goes : (start : WorldState) (places : Places) (outset : WorldState) (ends : Places) (now : WorldState) (r : IsRound places outset ends now) → CalmRound start places outset ends now r → RoundGoes start places outset ends now r
round_goes start places outset ends now r k =
    let clear_between = goes_whole _ _ r.between _ _ now r.second_part k.whole in
    let clear_ticked = goes_whole _ _ r.ticked _ _ r.between r.first_part clear_between in
    let clear_outset = goes_whole _ _ outset _ _ r.ticked r.tick_part clear_ticked in
    let ticked = ticks_going start outset numbers r.ticks r.ticked k.kept r.tick_part clear_ticked (begins_going start outset clear_outset k.calm) k.heard in
    let between = arrivals_going start outset 0 (numbers * places.first) r.ticked (numbers * length r.ticked.air.first) r.arrivals r.between k.kept k.poised (omega arith) (place_there places.first (ends_of start.air).first k.behind.0) r.first_part clear_between ticked in
    record { clear_between = clear_between; clear_ticked = clear_ticked; ticked = ticked; between = between }

pub clear_ticked : {start : WorldState} {places : Places} {outset : WorldState} {ends : Places} {now : WorldState} {r : IsRound places outset ends now} → CalmRound start places outset ends now r → r.ticked.lost ≡ false
clear_ticked {start} {places} {outset} {ends} {now} {r} k = (round_goes start places outset ends now r k).clear_ticked

-- the second part of the arrivals goes on
second_goes : (start base : WorldState) (places : Places) (outset : WorldState) (ends : Places) (now : WorldState) (r : IsRound places outset ends now) → CalmRound start places outset ends now r → Going start base r.between → Going start base now
second_goes start base places outset ends now r k going =
    arrivals_going start base 1 (numbers * places.second) r.between (numbers * length r.ticked.air.second) r.others now k.kept k.poised (omega arith) (place_there places.second (ends_of start.air).second k.behind.1) r.second_part k.whole going

-- all sessions go on through a round
pub round_going : (start : WorldState) (places : Places) (outset : WorldState) (ends : Places) (now : WorldState) (r : IsRound places outset ends now) → CalmRound start places outset ends now r → Going start outset now
round_going start places outset ends now r k = second_goes start outset places outset ends now r k (round_goes start places outset ends now r k).between

-- a frame that stands in the air after the ticks is heard once in the round
pub frame_heard : (start : WorldState) (places : Places) (outset : WorldState) (ends : Places) (now : WorldState) (r : IsRound places outset ends now) (b n bearer place : ℕ) (f : Sent) (p : Fields) → CalmRound start places outset ends now r → IsNumber b → IsNumber n → n ≢ b
    → bearer ≤ 1 → (footing_at start n b).up bearer ≡ true → place_on bearer places ≤ place → frame_for r.ticked.air n bearer place ≡ Some f → IsFrom b f.frame ((footing_at start b n).epoch bearer) ((footing_at start n b).epoch bearer) p → kind_in f.frame ≡ Links
    → is_traffic p.header ≡ true → (h : IsHeardOnce start outset r.ticked now b n bearer p) × (h.sent ≡ f)
frame_heard start places outset ends now r b n zero place f p k b_is n_is apart on_one up from here brings kind_is traffic =
    let goes = round_goes start places outset ends now r k in
    let there = (both_up start b n 0 k.kept k.poised (λ same. apart (sym same)) on_one (both_up start n b 0 k.kept k.poised apart on_one up).0).1 in
    let once = round_arrives_first places outset ends now r place n f k.whole n_is.1 (k.calm.on.nodes n ∙ there) from here in
    heard_once start outset r.ticked r.ticked now r.between b n 0 places.first (length r.ticked.air.first) place f p k.kept k.poised b_is n_is apart on_one up k.behind.0 from goes.ticked once (k.young.first place n f n_is once)
    (λ w g going. second_goes start once.after places outset ends now r k going) goes.clear_between brings kind_is traffic (omega arith)
frame_heard start places outset ends now r b n (suc zero) place f p k b_is n_is apart on_one up from here brings kind_is traffic =
    let goes = round_goes start places outset ends now r k in
    let there = (both_up start b n 1 k.kept k.poised (λ same. apart (sym same)) on_one (both_up start n b 1 k.kept k.poised apart on_one up).0).1 in
    let once = round_arrives_second places outset ends now r place n f k.whole n_is.1 (k.calm.on.nodes n ∙ there) from here in
    heard_once start outset r.ticked r.between now now b n 1 places.second (length r.ticked.air.second) place f p k.kept k.poised b_is n_is apart on_one up k.behind.1 from goes.between once (k.young.second place n f n_is once)
    (λ w g going. going) k.whole brings kind_is traffic (longer r.ticked r.between (arrivals_go_on 0 places.first r.ticked _ r.arrivals r.between (omega arith) r.first_part goes.clear_between).grown 1)
frame_heard start places outset ends now r b n (suc (suc more)) place f p k b_is n_is apart on_one up from here brings kind_is traffic = absurd (omega (arith, on_one))

-- A frame of any kind arrived at node n in a round: the worlds before and after, and what all went on from since the
-- round began.
pub record ArrivedOnce (start outset now : WorldState) (n bearer : ℕ) (f : Sent) : Type 0 where
  pub place : ℕ
  pub behind : place_on bearer (ends_of start.air) ≤ place
  pub answered : Answer
  pub before : WorldState
  pub since : Going start outset before
  pub found : frame_for before.air n bearer place ≡ Some f
  pub fresh : age_of before.members f n bearer ≤ 30000
  pub after : WorldState
  pub arrives : HappensWhole before after (Arrive n bearer place) f.frame answered
  pub step : Going start before after
  pub later : Going start after now

arrive_once : (start outset part now part_now : WorldState) (n bearer from end place : ℕ) (f : Sent) → IsKept start → IsPoised start → bearer ≤ 1 → place_on bearer (ends_of start.air) ≤ from → from ≤ place → Going start outset part → (once : HasArrivedOnce bearer from end part part_now place n f)
    → age_of once.before.members f n bearer ≤ 30000 → ((w : WorldState) → IsCalmWorld start w → Going start once.after part_now → Going start once.after now) → part_now.lost ≡ false → ArrivedOnce start outset now n bearer f
arrive_once start outset part now part_now n bearer from end place f kept poised on_one behind at going once young rest whole =
    let before = arrivals_going start outset bearer (numbers * from) part (numbers * place + n) once.earlier once.before kept poised on_one (place_there from (place_on bearer (ends_of start.air)) behind) once.front once.clear going in
    let h = once.arrives young in
    let a : FrameArrives (ends_of start.air) once.before once.after = record {
      node = n;
      bearer = bearer;
      place = place;
      frame = f;
      answered = once.answered;
      on_one = on_one;
      behind = omega (arith, behind, at);
      found = once.here;
      fresh = young;
      arrives = h;
    } in
    let clear_after = goes_whole (arrival_asked Any bearer) (numbers * place + n + 1) once.after (numbers * end) once.later part_now once.rest whole in
    let next = one_arrives start once.before kept poised once.before once.after once.clear a (begins_going start once.before once.clear before.calm) in
    let last = arrivals_going start once.after bearer (numbers * place + n + 1) once.after (numbers * end) once.later part_now kept poised on_one (omega (arith, behind, at)) once.rest whole (begins_going start once.after clear_after next.calm) in
    record {
      place = place;
      behind = omega (arith, behind, at);
      answered = once.answered;
      before = once.before;
      since = before;
      found = once.here;
      fresh = young;
      after = once.after;
      arrives = h;
      step = next;
      later = rest once.after next.calm last;
    }

-- so does each one that stands in the air after the ticks and is for that node
pub frame_arrives : (start : WorldState) (places : Places) (outset : WorldState) (ends : Places) (now : WorldState) (r : IsRound places outset ends now) (n bearer place : ℕ) (f : Sent) → CalmRound start places outset ends now r → IsNumber n → bearer ≤ 1 → is_some (slice_index_or outset.members n None) ≡ true
    → place_on bearer places ≤ place → frame_for r.ticked.air n bearer place ≡ Some f → ArrivedOnce start outset now n bearer f
frame_arrives start places outset ends now r n zero place f k n_is on_one there from here =
    let goes = round_goes start places outset ends now r k in
    let once = round_arrives_first places outset ends now r place n f k.whole n_is.1 there from here in
    arrive_once start outset r.ticked now r.between n 0 places.first (length r.ticked.air.first) place f k.kept k.poised on_one k.behind.0 from goes.ticked once (k.young.first place n f n_is once)
    (λ w g going. second_goes start once.after places outset ends now r k going) goes.clear_between
frame_arrives start places outset ends now r n (suc zero) place f k n_is on_one there from here =
    let goes = round_goes start places outset ends now r k in
    let once = round_arrives_second places outset ends now r place n f k.whole n_is.1 there from here in
    arrive_once start outset r.between now now n 1 places.second (length r.ticked.air.second) place f k.kept k.poised on_one k.behind.1 from goes.between once (k.young.second place n f n_is once) (λ w g going. going) k.whole
frame_arrives start places outset ends now r n (suc (suc more)) place f k n_is on_one there from here = absurd (omega (arith, on_one))

-- the STATE of a session as it stood when the round began is heard once in the round
pub record StateHeard (start outset ticked now : WorldState) (b n bearer : ℕ) (told : SessionEnd) : Type 0 where
  pub seen : BroadcastState
  pub probe : Bool
  pub heard : IsHeardOnce start outset ticked now b n bearer (state_fields told seen probe)
  pub tells : TellsCast start outset b n heard.sent seen

-- no frame was lost before an event by which none was
pub clear_before : (old new : WorldState) (event : WorldEvent) (bytes : List ℕ) (answered : Answer) → HappensWhole old new event bytes answered → new.lost ≡ false → old.lost ≡ false
clear_before old new event bytes answered h whole = (let step = h.happened.step in (or_parts old.lost step.lost (sym step.lost_is ∙ whole)).0)

-- a frame that stands in the air is found by a node that it is for
pub found_here : (w : WorldState) (n bearer place : ℕ) (f : Sent) → slice_get (air_on bearer w.air) place ≡ Some f → is_for f.from f.to n ≡ true → frame_for w.air n bearer place ≡ Some f
unfolding frame_for
found_here w n bearer place f stands meant = ap (λ k. kept_for k n) stands ∙ ap (λ t. if t then Some f else None) meant

-- the end of the air on a bearer
pub on_places : (w : WorldState) (bearer : ℕ) → bearer ≤ 1 → place_on bearer (ends_of w.air) ≡ length (air_on bearer w.air)
on_places w zero on_one = refl
on_places w (suc zero) on_one = refl
on_places w (suc (suc more)) on_one = absurd (omega (arith, on_one))

-- places that are within an air
on_place : (places : Places) (w : WorldState) (bearer : ℕ) → bearer ≤ 1 → AreBefore places (ends_of w.air) → place_on bearer places ≤ length (air_on bearer w.air)
on_place places w zero on_one within = within.0
on_place places w (suc zero) on_one within = within.1
on_place places w (suc (suc more)) on_one within = absurd (omega (arith, on_one))

told_heard : (start : WorldState) (places : Places) (outset : WorldState) (ends : Places) (now : WorldState) (r : IsRound places outset ends now) (b n bearer : ℕ) (t : HasTickedOnce outset r.ticked b) (u : UpSide start outset b n bearer t.ticks.before) → CalmRound start places outset ends now r
    → IsNumber b → IsNumber n → b ≢ n → bearer ≤ 1 → (footing_at start n b).up bearer ≡ true → (tells : TellsState start outset r.ticked b n bearer t u)
    → (h : IsHeardOnce start outset r.ticked now b n bearer (state_fields u.session (shown t.ticks.before.node.casting (node_word n)) tells.probe))
    × (h.sent ≡ airborne (contact_at t.before.members b) t.after.members b (state_frame u.session (shown t.ticks.before.node.casting (node_word n)) tells.probe))
told_heard start places outset ends now r b n bearer t u k b_is n_is apart on_one up tells =
    let seen = shown t.ticks.before.node.casting (node_word n) in
    let o = state_frame u.session seen tells.probe in
    let f = airborne (contact_at t.before.members b) t.after.members b o in
    let place = length (air_on bearer t.before.air) + tells.place in
    let stands = t.flies bearer tells.place f on_one (map_at (airborne (contact_at t.before.members b) t.after.members b) (filter (is_on bearer) t.ticks.frames) tells.place o tells.at) in
    let within = on_place places outset bearer on_one k.within in
    let longer = t.behind bearer in
    let back : n ≢ b = λ same. apart (sym same) in
    let from : place_on bearer places ≤ place = omega (arith, within, longer) in
    let here = found_here r.ticked n bearer place f stands tells.says.meant in
    let p = state_fields u.session seen tells.probe in
    let traffic = state_traffic u.session seen tells.probe in
    frame_heard start places outset ends now r b n bearer place f p k b_is n_is back on_one up from here tells.says.from tells.says.kind traffic

-- a node's tick in a round, and what all went on from by then
pub ticking : (start : WorldState) (places : Places) (outset : WorldState) (ends : Places) (now : WorldState) (r : IsRound places outset ends now) (b : ℕ) → CalmRound start places outset ends now r → IsNumber b → is_some (slice_index_or outset.members b None) ≡ true
    → (t : HasTickedOnce outset r.ticked b) × Going start outset t.before
ticking start places outset ends now r b k b_is there =
    let goes = round_goes start places outset ends now r k in
    let t = round_ticks places outset ends now r b k.whole b_is.0 b_is.1 there in
    let clear = clear_before t.before t.after _ [] t.answered t.ticks (goes_whole _ _ t.after _ _ r.ticked t.rest goes.clear_ticked) in
    (t, ticks_going start outset b t.earlier t.before k.kept t.front clear (begins_going start outset (goes_whole _ _ outset _ _ t.before t.front clear) k.calm) k.heard)

pub state_heard : (start : WorldState) (places : Places) (outset : WorldState) (ends : Places) (now : WorldState) (r : IsRound places outset ends now) (b n bearer : ℕ) (m : MemberState) → CalmRound start places outset ends now r → IsNumber b → IsNumber n → b ≢ n → bearer ≤ 1
    → slice_index_or outset.members b None ≡ Some m → (u : UpSide start outset b n bearer m) → (footing_at start b n).up bearer ≡ true → StateHeard start outset r.ticked now b n bearer u.session
state_heard start places outset ends now r b n bearer m k b_is n_is apart on_one there u up =
    let goes = round_goes start places outset ends now r k in
    let other = both_up start b n bearer k.kept k.poised apart on_one up in
    let t = round_ticks places outset ends now r b k.whole b_is.0 b_is.1 (ap is_some there) in
    let clear = clear_before t.before t.after _ [] t.answered t.ticks (goes_whole _ _ t.after _ _ r.ticked t.rest goes.clear_ticked) in
    let before = ticks_going start outset b t.earlier t.before k.kept t.front clear (begins_going start outset (goes_whole _ _ outset _ _ t.before t.front clear) k.calm) k.heard in
    let same : t.ticks.before ≡ m = (let both : Some t.ticks.before ≡ Some m = sym t.was ∙ there in cc) in
    let side : UpSide start outset b n bearer t.ticks.before = up_side start outset b n bearer t.ticks.before (k.calm.on.kept k.kept) n_is apart on_one t.was (k.calm.nodes b t.ticks.before t.was n n_is apart) up in
    let one : side.session ≡ u.session = same_session (session_with m.node n bearer) side.session u.session (subst (λ (q : MemberState). session_with q.node n bearer ≡ Some side.session) same side.in_session) u.in_session in
    let tells = tick_state start outset r.ticked b n bearer t side k.kept k.calm k.heard before.calm b_is n_is apart on_one in
    let seen = shown t.ticks.before.node.casting (node_word n) in
    let o = state_frame side.session seen tells.probe in
    let beside = tells_cast start outset r.ticked b n bearer t o k.kept k.poised k.calm before (k.heard b t.ticks.before t.was) n_is apart on_one up (eq-eqb side.session.peer (node_word n) side.peer_word) in
    let told = told_heard start places outset ends now r b n bearer t side k b_is n_is apart on_one other.0 tells in
    subst (StateHeard start outset r.ticked now b n bearer) one (record { seen = seen; probe = tells.probe; heard = told.0; tells = subst (λ f. TellsCast start outset b n f seen) (sym told.1) beside })
