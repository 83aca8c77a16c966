-- In a poised world that settles no frame is too old when it arrives: between its sending and its arrival each link
-- numbers at most three windows.
use Rattle.std.proofs.Common.{◌≡◌, ◌≤◌, ◌<◌, ◌+◌, ◌*◌, ◌∙◌, ℕ, false, List, [], Some, None, length, get_or, slice_index_or, inl, inr, refl, sym, ap, subst, arith}
use Rattle.std.specs.Prelude.{◌/◌, is_some, slice_get}
use Rattle.std.proofs.lemmas.Option.{slice_get-get_or}
use Rattle.tipc_types.specs.Prefixes.{IsPrefixOf}
use Rattle.tipc_types.specs.declared.node_calls.Answer.{Answer}
use Rattle.tipc_types.specs.declared.node_calls.EventNote.TheVariants as note
use Rattle.tipc_outside.specs.declared.outgoing.Outgoing.{Outgoing}
use Rattle.tipc_replay.specs.declared.air.Sent.{Sent}
use Rattle.tipc_replay.specs.declared.events.WorldEvent.{WorldEvent}
use Rattle.tipc_replay.specs.declared.events.WorldEvent.TheVariants.{Arrive, Call}
use Rattle.tipc_replay.specs.Air.{airborne}
use Rattle.tipc_replay.specs.Calls.{node_of}
use Rattle.tipc_replay.specs.Due.{age_of}
use Rattle.tipc_replay.specs.Skies.{air_on}
use Rattle.tipc_replay.specs.Sound.{IsNumber}
use Rattle.tipc_replay.specs.States.{MemberState, contact_at}
use Rattle.tipc_replay.proofs.journals.Stepping.{get_prefix}
use Rattle.tipc_replay.proofs.frames.Reaching.{placed}
use Rattle.tipc_world.specs.declared.places.Places.{Places}
use Rattle.tipc_world.specs.declared.settling.Receivers.TheVariants.{Any}
use Rattle.tipc_world.specs.CalmWorlds.{IsCalmNode, IsCalmWorld, IsFromMended}
use Rattle.tipc_world.specs.Courses.{Goes, numbers}
use Rattle.tipc_world.specs.Ends.{AreBefore, ends_of, place_on}
use Rattle.tipc_world.specs.Poised.{IsPoised}
use Rattle.tipc_world.specs.RoundParts.{EachNode, FrameArrives, HappensWhole, HasArrivedOnce, HoldsBehind, IsKept, IsRound, SettlesOn}
use Rattle.tipc_world.specs.Settling.{arrival_asked, tick_asked}
use Rattle.tipc_world.specs.States.{WorldState}
use Rattle.tipc_world.specs.StillWorlds.{HasHeardAll}
use Rattle.tipc_world.specs.YoungWorlds.{AreYoung, ArriveYoung, CastsNothing, IsSince, NumbersFew}
use Rattle.tipc_world.proofs.rounds.CalmWorlds.{calm_arrival, calm_tick}
use Rattle.tipc_world.proofs.rounds.Events.{arrives_at, tick_either}
use Rattle.tipc_world.proofs.rounds.Flying.{more_behind, none_behind}
use Rattle.tipc_world.proofs.rounds.FrameAges.{age_since}
use Rattle.tipc_world.proofs.rounds.Guarded.{guarded_on, place_there}
use Rattle.tipc_world.proofs.rounds.Keeping.{arrival_on, here_is, nodes_keep, other_stays, settles_more, settles_same, tick_on}
use Rattle.tipc_world.proofs.rounds.Pacing.{IsPaced, arrival_paced, numbers_few, paced_begins, tick_paced}
use Rattle.tipc_world.proofs.rounds.Parts.{goes_keep, goes_rises, goes_whole, takes_whole}
use Rattle.tipc_world.proofs.rounds.Since.{casts_nothing, sent_since, since_earlier}

-- ---- counts

numbers_same : (start w : WorldState) (most : ℕ) → NumbersFew start w w most
numbers_same start w most = record { more = λ a b bearer a_is b_is apart on_one up. omega arith; few = λ a b bearer a_is b_is apart on_one up. omega arith }

numbers_then : (start a b c : WorldState) (first then : ℕ) → NumbersFew start a b first → NumbersFew start b c then → NumbersFew start a c (first + then)
numbers_then start a b c first then h k = record {
  more = λ n m bearer n_is m_is apart on_one up. (let one = h.more n m bearer n_is m_is apart on_one up in let two = k.more n m bearer n_is m_is apart on_one up in omega (arith, one, two));
  few = λ n m bearer n_is m_is apart on_one up. (let one = h.few n m bearer n_is m_is apart on_one up in let two = k.few n m bearer n_is m_is apart on_one up in omega (arith, one, two));
}

-- ---- what is carried from a moment on

-- The world goes on calmly from a moment; each node is paced since; and the frames behind some places were sent since
-- the moment, or an earlier one.
record Runs (start first base : WorldState) (places : Places) (w : WorldState) : Type 0 where
  calm : IsCalmWorld start w
  on : SettlesOn base w
  paced : EachNode (IsPaced start base) w
  frames : HoldsBehind places (IsSince start first) w

-- what is the same all along
record Course (start first base : WorldState) : Type 0 where
  kept : IsKept start
  poised : IsPoised start
  calm : IsCalmWorld start base
  most : ℕ
  few : NumbersFew start first base most

-- one event: the node stays paced, and what leaves does so since the moment
one_runs : (start first base : WorldState) (places : Places) (old new : WorldState) (event : WorldEvent) (bytes : List ℕ) (answered : Answer) (h : HappensWhole old new event bytes answered) → Course start first base → Runs start first base places old
    → SettlesOn old new → IsCalmWorld start new → (IsPaced start base (node_of event) h.before → IsPaced start base (node_of event) h.after) → ((paced : EachNode (IsPaced start base) new) → (k : ℕ) (o : Outgoing) → slice_get h.frames k ≡ Some o → IsSince start base o.bearer (airborne (contact_at old.members (node_of event)) new.members (node_of event) o))
    → Runs start first base places new
one_runs start first base places old new event bytes answered h c r next calm one sent =
    let paced = nodes_keep (IsPaced start base) old new event bytes answered h one r.paced in
    record {
      calm = calm;
      on = settles_more base old new r.on next;
      paced = paced;
      frames = more_behind (IsSince start first) places old new event bytes answered h r.frames (λ k o at. since_earlier start first base o.bearer (airborne (contact_at old.members (node_of event)) new.members (node_of event) o) c.most c.few (sent paced k o at));
    }

-- ---- a tick

-- before the tick of a number: the nodes from there on have heard all others
record BeforeTick (start first base : WorldState) (places : Places) (number : ℕ) (w : WorldState) : Type 0 where
  runs : Runs start first base places w
  later : (n : ℕ) (m : MemberState) → number ≤ n → slice_index_or w.members n None ≡ Some m → HasHeardAll n m

one_tick : (start first base : WorldState) (places : Places) (number : ℕ) (old new : WorldState) (answered : Answer) → Course start first base → old.lost ≡ false → HappensWhole old new (Call number note.Tick) [] answered
    → BeforeTick start first base places number old → BeforeTick start first base places (number + 1) new
one_tick start first base places number old new answered c clear h b =
    let next = tick_on old new number answered clear h in
    let calm = b.runs.calm in
    let ready = b.later number h.before (omega arith) h.was in
    let stays = calm_tick start c.kept old new number answered h calm next ready in
    let after : IsCalmWorld start new = guarded_on start (ends_of start.air) (IsCalmNode start) (IsFromMended start) old new (Call number note.Tick) [] answered h calm next stays in
    record {
      runs = one_runs start first base places old new (Call number note.Tick) [] answered h c b.runs next after (tick_paced start base old new number answered h (calm.on.kept c.kept) calm ready)
          (λ paced. sent_since start base old new number h.after h.frames (after.on.kept c.kept) after (numbers_few start base new c.kept c.poised c.calm after paced) (casts_nothing start base new paced)
          (here_is old new (Call number note.Tick) [] answered h) h.does.turn.turn.routed stays.sent);
      later = λ n m above there. b.later n m (omega (arith, above)) (sym (other_stays old new (Call number note.Tick) [] answered h n (λ same. let wrong : ⊥ = omega (arith, above, same) in wrong)) ∙ there);
    }

no_tick : (start first base : WorldState) (places : Places) (number : ℕ) (old new : WorldState) → new ≡ old → BeforeTick start first base places number old → BeforeTick start first base places (number + 1) new
no_tick start first base places number old new same b = record {
  runs = subst (Runs start first base places) (sym same) b.runs;
  later = λ n m above there. b.later n m (omega (arith, above)) (sym (ap (λ (w : WorldState). slice_index_or w.members n None) same) ∙ there);
}

ticks_run : (start first base : WorldState) (places : Places) (count : ℕ) (now : WorldState) → Course start first base → Goes tick_asked 1 base numbers count now → now.lost ≡ false → Runs start first base places base → EachNode HasHeardAll base → Runs start first base places now
ticks_run start first base places count now c goes whole runs heard =
    let last = goes_keep tick_asked (BeforeTick start first base places) 1 base numbers count now
    (λ number before made after above below taken clear b.
    let was_clear = takes_whole tick_asked number before made after taken clear in
    elim (tick_either number before made after taken clear) [
      | inl same ↦ no_tick start first base places number before after same b
      | inr ticked ↦ one_tick start first base places number before after ticked.0 c was_clear ticked.1 b
    ])
    goes whole (record { runs = runs; later = λ n m above there. heard n m there }) in
    last.runs

-- ---- an arrival

-- a frame that stands at a place of the longer air stood there in the shorter one, which has the place
pub stood_there : (xs ys : List Sent) (place : ℕ) (f : Sent) → IsPrefixOf xs ys → place < length xs → slice_get ys place ≡ Some f → slice_get xs place ≡ Some f
stood_there xs ys place f front within there =
    let here = slice_get-get_or xs place f within in
    let later = get_prefix xs ys place (get_or xs place f) front here in
    let both : Some (get_or xs place f) ≡ Some f = sym later ∙ there in
    here ∙ both

one_arrival : (start first base : WorldState) (places : Places) (old new : WorldState) → Course start first base → old.lost ≡ false → (a : FrameArrives (ends_of start.air) old new) → a.place < length (air_on a.bearer base.air) → Runs start first base places old
    → Runs start first base places new
one_arrival start first base places old new c clear a within r =
    let h = a.arrives in
    let next = arrival_on (ends_of start.air) old new clear a in
    let at = (placed old.air a.node a.bearer a.place a.frame a.found).0 in
    let said = r.calm.frames a.bearer a.place a.frame a.on_one a.behind at in
    let stays = calm_arrival start c.kept c.poised old new a r.calm next said in
    let event = Arrive a.node a.bearer a.place in
    let after : IsCalmWorld start new = guarded_on start (ends_of start.air) (IsCalmNode start) (IsFromMended start) old new event a.frame.frame a.answered h r.calm next stays in
    let stood = stood_there (air_on a.bearer base.air) (air_on a.bearer old.air) a.place a.frame (r.on.grown.air a.bearer) within at in
    let here = sym (r.on.nodes a.node) ∙ ap (λ o. is_some o) h.was in
    one_runs start first base places old new event a.frame.frame a.answered h c r next after (arrival_paced start base c.kept c.poised c.calm old new a r.calm said stood here)
    (λ paced. sent_since start base old new a.node h.after h.frames (after.on.kept c.kept) after (numbers_few start base new c.kept c.poised c.calm after paced) (casts_nothing start base new paced)
    (here_is old new event a.frame.frame a.answered h) h.does.turn.turn.routed stays.sent)

arrivals_run : (start first base : WorldState) (places : Places) (bearer from : ℕ) (outset : WorldState) (end count : ℕ) (now : WorldState) → Course start first base → bearer ≤ 1 → place_on bearer (ends_of start.air) ≤ from / numbers → end ≤ numbers * length (air_on bearer base.air)
    → Goes (arrival_asked Any bearer) from outset end count now → now.lost ≡ false → Runs start first base places outset → Runs start first base places now
arrivals_run start first base places bearer from outset end count now c on_one behind within goes whole runs = goes_keep (arrival_asked Any bearer) (λ number. Runs start first base places) from outset end count now
    (λ number before made after above below taken clear r.
    let was_clear = takes_whole (arrival_asked Any bearer) number before made after taken clear in
    let at : from / numbers ≤ number / numbers = omega (arith, above) in
    let place : number / numbers < length (air_on bearer base.air) = omega (arith, below, within) in
    elim (arrives_at (ends_of start.air) bearer number before made after on_one (omega (arith, behind, at)) taken clear) [
      | inl same ↦ subst (Runs start first base places) (sym same) r
      | inr arrived ↦
          let in_time : arrived.0.place < length (air_on arrived.0.bearer base.air) = subst (λ k. arrived.0.place < length (air_on k base.air)) (sym arrived.1) (subst (λ k. k < length (air_on bearer base.air)) (sym arrived.2) place) in
          one_arrival start first base places before after c was_clear arrived.0 in_time r
    ]) goes whole runs

-- ---- an age in the arrivals

-- A frame that arrives once, behind some places: it was sent since an earlier moment, and since then at most three
-- windows were numbered on each link.
once_young : (start first outset base : WorldState) (places : Places) (bearer from end : ℕ) (before_part now : WorldState) (place n : ℕ) (f : Sent) → Course start first base → NumbersFew start first outset 50 → NumbersFew start outset base 50 → bearer ≤ 1 → place_on bearer (ends_of start.air) ≤ from
    → place_on bearer places ≤ from → end ≤ length (air_on bearer base.air) → IsNumber n → (once : HasArrivedOnce bearer from end before_part now place n f) → Runs start first base places before_part → age_of once.before.members f n bearer ≤ 30000
once_young start first outset base places bearer from end before_part now place n f c one two on_one behind from_places within n_is once runs =
    let high = n_is.1 in
    let last = goes_rises (arrival_asked Any bearer) (numbers * place + n + 1) once.after (numbers * end) once.later now once.rest in
    let from_first = goes_rises (arrival_asked Any bearer) (numbers * from) before_part (numbers * place + n) once.earlier once.before once.front in
    let r = arrivals_run start first base places bearer (numbers * from) before_part (numbers * place + n) once.earlier once.before c on_one (place_there from (place_on bearer (ends_of start.air)) behind) (omega (arith, last, within)) once.front once.clear runs in
    let at = (placed once.before.air n bearer place f once.here).0 in
    let since = r.frames bearer place f on_one (omega (arith, from_first, from_places, high)) at in
    let said = r.calm.frames bearer place f on_one (omega (arith, from_first, behind, high)) at in
    let three = numbers_few start base once.before c.kept c.poised c.calm r.calm r.paced in
    let few = numbers_then start first outset once.before 50 100 one (numbers_then start outset base once.before 50 50 two three) in
    let age = age_since start first once.before n bearer place 150 f c.kept c.poised r.calm few (casts_nothing start base once.before r.paced) since said on_one once.here n_is in
    omega (arith, age)

-- ---- a round

-- so it is when the call begins
pub begins_young : (start : WorldState) → AreYoung start (ends_of start.air) start
begins_young start = record { base = start; numbers = numbers_same start start 50; casts = λ n here. refl; frames = none_behind (IsSince start start) start }

-- each node is paced from a moment on
all_paced : (start base : WorldState) → IsKept base → CastsNothing start base → EachNode (IsPaced start base) base
all_paced start base kept casts n m there = paced_begins start base n m kept there (casts n (ap (λ o. is_some o) there))

-- In a round whose frames are young when it begins, none is too old when it arrives, and its frames are young when it
-- ends.
pub round_young : (start : WorldState) (places : Places) (outset : WorldState) (ends : Places) (now : WorldState) → IsKept start → IsPoised start → AreBefore (ends_of start.air) places
    → (r : IsRound places outset ends now) → now.lost ≡ false → IsCalmWorld start outset → EachNode HasHeardAll outset → AreYoung start places outset → ArriveYoung places outset ends now r × AreYoung start ends now
round_young start places outset ends now kept poised behind r whole calm heard young =
    let first = young.base in
    let clear_between = goes_whole _ _ r.between _ _ now r.second_part whole in
    let clear_ticked = goes_whole _ _ r.ticked _ _ r.between r.first_part clear_between in
    let clear_outset = goes_whole _ _ outset _ _ r.ticked r.tick_part clear_ticked in
    let one = young.numbers in
    let course : Course start first outset = record { kept = kept; poised = poised; calm = calm; most = 50; few = one } in
    let begins : Runs start first outset places outset = record { calm = calm; on = settles_same outset clear_outset; paced = all_paced start outset (calm.on.kept kept) young.casts; frames = young.frames } in
    let ticked = ticks_run start first outset places r.ticks r.ticked course r.tick_part clear_ticked begins heard in
    let two = numbers_few start outset r.ticked kept poised calm ticked.calm ticked.paced in
    let casts = casts_nothing start outset r.ticked ticked.paced in
    let paced = all_paced start r.ticked (ticked.calm.on.kept kept) casts in
    let later : Course start first r.ticked = record { kept = kept; poised = poised; calm = ticked.calm; most = 100; few = numbers_then start first outset r.ticked 50 50 one two } in
    let arrives : Runs start first r.ticked places r.ticked = record { calm = ticked.calm; on = settles_same r.ticked clear_ticked; paced = paced; frames = ticked.frames } in
    let zero = place_there places.first (ends_of start.air).first behind.0 in
    let between = arrivals_run start first r.ticked places 0 (numbers * places.first) r.ticked (numbers * length r.ticked.air.first) r.arrivals r.between later (omega arith) zero (omega arith) r.first_part clear_between arrives in
    let same : Course start r.ticked r.ticked = record { kept = kept; poised = poised; calm = ticked.calm; most = 0; few = numbers_same start r.ticked 0 } in
    let again : Runs start r.ticked r.ticked (ends_of r.ticked.air) r.ticked = record { calm = ticked.calm; on = settles_same r.ticked clear_ticked; paced = paced; frames = none_behind (IsSince start r.ticked) r.ticked } in
    let middle = arrivals_run start r.ticked r.ticked (ends_of r.ticked.air) 0 (numbers * places.first) r.ticked (numbers * length r.ticked.air.first) r.arrivals r.between same (omega arith) zero (omega arith) r.first_part clear_between again in
    let last = arrivals_run start r.ticked r.ticked (ends_of r.ticked.air) 1 (numbers * places.second) r.between (numbers * length r.ticked.air.second) r.others now same (omega arith) (place_there places.second (ends_of start.air).second behind.1) (omega arith) r.second_part whole middle in (
      record {
        first = λ place n f n_is once. once_young start first outset r.ticked places 0 places.first (length r.ticked.air.first) r.ticked r.between place n f later one two (omega arith) behind.0 (omega arith) (omega arith) n_is once arrives;
        second = λ place n f n_is once. once_young start first outset r.ticked places 1 places.second (length r.ticked.air.second) r.between now place n f later one two (omega arith) behind.1 (omega arith) (omega arith) n_is once between;
      },
      record {
        base = r.ticked;
        numbers = numbers_few start r.ticked now kept poised ticked.calm last.calm last.paced;
        casts = casts_nothing start r.ticked now last.paced;
        frames = subst (λ k. HoldsBehind k (IsSince start r.ticked) now) (sym r.ends_are) last.frames;
      },
    )
