-- Every event keeps the journals of all nodes lawful, and tells how long their links were silent.
use Rattle.std.proofs.Common.{length-append, ◌≡◌, ◌≤◌, ◌+◌, ◌==◌, ℕ, Bool, true, false, List, [], ◌∷◌, ◌++◌, Option, Some, None, if◌then◌else◌, length, slice_get, slice_index_or, slice_set, refl, sym, ap, ◌∙◌, subst, inl, inr, eqb-true, get_or-set_same, get_or-set_other, arith}
use Rattle.std.specs.Prelude.{option_and_then, option_map}
use Rattle.std.proofs.lemmas.Bool.{cases_eq}
use Rattle.tipc_types.specs.Address.{node_word}
use Rattle.tipc_types.specs.declared.node_calls.Answer.{Answer}
use Rattle.tipc_types.specs.declared.node_calls.By.{By}
use Rattle.tipc_types.specs.declared.node_calls.EventNote.{EventNote}
use Rattle.tipc_types.specs.declared.node_calls.EventNote.TheVariants as note
use Rattle.tipc_outside.specs.declared.outgoing.Outgoing.{Outgoing}
use Rattle.tipc_broadcast.specs.Casting.{booted}
use Rattle.tipc_journal.specs.declared.entries.Entry.{Entry}
use Rattle.tipc_journal.specs.Steps.{NodeStep}
use Rattle.tipc_node.specs.declared.neighbours.Neighbour.{Neighbour}
use Rattle.tipc_node.specs.Calls.{Performs}
use Rattle.tipc_node.specs.Nodes.{NodeState, neighbour_of}
use Rattle.tipc_node.specs.Telling.{IsTold}
use Rattle.tipc_node.specs.Turns.{HaveJoined, NodeTurn, pair_in}
use Rattle.tipc_replay.specs.declared.air.Arrived.{Arrived}
use Rattle.tipc_replay.specs.declared.air.Sent.{Sent}
use Rattle.tipc_replay.specs.declared.events.WorldEvent.{WorldEvent}
use Rattle.tipc_replay.specs.declared.events.WorldEvent.TheVariants.{Restart, Call, Arrive}
use Rattle.tipc_replay.specs.Calls.{HasNextBoot, node_of}
use Rattle.tipc_replay.specs.Causes.{arrived_frame, frame_in}
use Rattle.tipc_replay.specs.Effects.{HasEffect, Makes, Meets}
use Rattle.tipc_replay.specs.Due.{frame_for, unarrived}
use Rattle.tipc_replay.specs.Events.{JoinsAt}
use Rattle.tipc_replay.specs.Members.{IsNewcomer, IsRestarted}
use Rattle.tipc_replay.specs.Sound.{IsSound}
use Rattle.tipc_replay.specs.States.{MemberState, contact_at}
use Rattle.tipc_replay.specs.Skies.{AirState, air_on, empty_air, with_both}
use Rattle.tipc_types.specs.Prefixes.{IsPrefixOf}
use Rattle.tipc_pair.specs.Facing.{alone}
use Rattle.tipc_replay.proofs.pairs.Standing.{after_number, neighbour_number}
use Rattle.tipc_replay.specs.Steps.{Becomes, Happens, IsArrival, Stage, Turns}
use Rattle.tipc_replay.specs.Castings.{AreCasting}
use Rattle.tipc_replay.specs.Steady.{IsSteady}
use Rattle.tipc_replay.specs.Watched.{AreTraced, AreWatched, IsWatched}
use Rattle.tipc_replay.proofs.casts.CastGiven.{casts_brought}
use Rattle.tipc_replay.proofs.casts.SteadyTurns.{CameOut}
use Rattle.tipc_replay.proofs.journals.TurnCastsTraced.{AreCastsBrought, casts_traced_wider, fresh_casts_traced, turn_casts_spelled, turn_casts_traced}
use Rattle.tipc_replay.proofs.pairs.Bringing.{are_brought}
use Rattle.tipc_replay.proofs.frames.Coming.{nothing_out, one_receiver, spoken_to, to_all_nodes}
use Rattle.tipc_replay.proofs.Growing.{prefix_same}
use Rattle.tipc_replay.proofs.journals.Kept.{IsKept, get_last, kept_of, kept_wider, restarted_kept, seen_by, started_kept, watched_of}
use Rattle.tipc_replay.proofs.LookUps.{place_within}
use Rattle.tipc_replay.proofs.pairs.PairedEvents.{IsReady, comes_out, made_step, met_step}
use Rattle.tipc_replay.proofs.frames.Reaching.{placed}
use Rattle.tipc_replay.proofs.frames.Released.{came}
use Rattle.tipc_replay.proofs.journals.Stepping.{Widens, get_prefix}
use Rattle.tipc_replay.proofs.journals.TunnelsTaken.{TakesTunnels, arrival_takes}
use Rattle.tipc_replay.proofs.journals.TurnKept.{turn_kept}
use Rattle.tipc_replay.proofs.streams.TurnStreams.{AreBrought}
use Rattle.tipc_replay.proofs.journals.TurnTraced.{AreCarried, IsCarried, traced_wider, turn_spelled, turn_traced}
-- ---- the air and the arrivals
use Rattle.tipc_name_dist.proofs.Applied.{same_number as itself}

-- each air grows
abbrev pub GrowsAir : AirState → AirState → Type 0
GrowsAir old new = (bearer : ℕ) → IsPrefixOf (air_on bearer old) (air_on bearer new)

-- an event's frames come into the air
with_longer : (air : AirState) (first second : List Sent) → GrowsAir air (with_both air first second)
with_longer air first second bearer = elim (bearer == 0) as (λ b. IsPrefixOf (if b then air.first else (if bearer == 1 then air.second else [])) (if b then air.first ++ first else (if bearer == 1 then air.second ++ second else []))) [
  | true ↦ (first, refl)
  | false ↦ elim (bearer == 1) as (λ b. IsPrefixOf (if b then air.second else []) (if b then air.second ++ second else [])) [ true ↦ (second, refl) | false ↦ ([], refl) ]
]

air_longer : (old new : Stage) (a : ℕ) (before after : MemberState) (frames : List Outgoing) (lost : Bool) → Turns old new a before after frames lost → GrowsAir old.air new.air
air_longer old new a before after frames lost t =
    subst (GrowsAir old.air) (sym (came old.air new.air (contact_at old.members a) new.members a frames lost t.leaves).1) (with_longer old.air _ _)

air_widens : (air air' : AirState) (m : MemberState) → GrowsAir air air' → Widens (seen_by air m) (seen_by air' m)
air_widens air air' m longer = record { air = longer; arrivals = prefix_same m.arrivals m.arrivals refl }

-- what its neighbours have while the air grows
traced_in : (air air' : AirState) (m : MemberState) → GrowsAir air air' → IsWatched air m → AreTraced (seen_by air' m) m.node.neighbours
traced_in air air' m longer w = traced_wider (seen_by air m) (seen_by air' m) m.node.neighbours (air_widens air air' m longer) w.traced

-- a node to which nothing happens while the air grows
pub watched_wider : (air air' : AirState) (m : MemberState) → GrowsAir air air' → IsWatched air m → IsWatched air' m
watched_wider air air' m longer w =
    watched_of air' m (kept_wider (seen_by air m) (seen_by air' m) m.past m.node.journal (pair_in m.node) (air_widens air air' m longer) (kept_of air m w)) (traced_in air air' m longer w)
    (casts_traced_wider (seen_by air m) (seen_by air' m) m.node (air_widens air air' m longer) w.casts)

-- what a node keeps while the air grows
kept_in : (air air' : AirState) (m : MemberState) → GrowsAir air air' → IsWatched air m → IsKept (seen_by air' m) m.past m.node.journal (pair_in m.node)
kept_in air air' m longer w = kept_wider (seen_by air m) (seen_by air' m) m.past m.node.journal (pair_in m.node) (air_widens air air' m longer) (kept_of air m w)

-- ---- a turn

-- a node took a turn while the air and its arrivals grew
pub turn_watched : (s : Stage) (air' : AirState) (a : ℕ) (m m' : MemberState) (bytes : List ℕ) (step : NodeStep) (frames : List Outgoing) → IsSound s.members s.air → slice_index_or s.members a None ≡ Some m → GrowsAir s.air air' → IsPrefixOf m.arrivals m'.arrivals → m'.past ≡ m.past
    → IsWatched s.air m → IsTold m.node → IsTold m'.node → HaveJoined m.node
    → (t : NodeTurn m.node m'.node bytes step frames) → AreCarried (seen_by air' m') step bytes → TakesTunnels m.node step bytes → AreBrought a m.node m'.node bytes step frames t → AreCasting s.members s.air → CameOut s a step.event bytes → IsWatched air' m'
turn_watched s air' a m m' bytes step frames sound was longer more past w told told' joined t carried answers brings casting came =
    let cast : AreCastsBrought m.node m'.node bytes step frames t = λ b h. (let peer = neighbour_number s.members s.air a b m sound was h.there in casts_brought s a m m' bytes step t.deeds b sound was came casting peer.0 peer.1 h) in
    let seen = seen_by air' m' in
    let grown : Widens (seen_by s.air m) seen = record { air = longer; arrivals = more } in
    let traced = traced_wider (seen_by s.air m) seen m.node.neighbours grown w.traced in
    let casts = casts_traced_wider (seen_by s.air m) seen m.node grown w.casts in
    let kept = kept_wider (seen_by s.air m) seen m.past m.node.journal (pair_in m.node) grown (kept_of s.air m w) in
    watched_of air' m' (subst (λ js. IsKept seen js m'.node.journal (pair_in m'.node)) (sym past)
    (turn_kept seen m.past a m.node m'.node bytes step frames t kept told told' carried answers (turn_spelled seen a m.node m'.node bytes step frames t traced carried brings)
    joined (turn_casts_spelled seen m.node m'.node bytes step frames t casts carried cast) (λ b. neighbour_number s.members s.air a b m sound was)))
    (turn_traced seen a m.node m'.node bytes step frames t traced carried brings (λ b. after_number s.members s.air a b m m'.node bytes step frames sound was t))
    (turn_casts_traced seen m.node m'.node bytes step frames t casts carried)

-- an arrival isn't performed as a call
never_arrives : (n n' : NodeState) (by : By) (call : EventNote) (frames : List Outgoing) (answered : Answer) → Performs n by call n' frames answered → (bearer number : ℕ) → call ≡ note.Arrive bearer number → ⊥
never_arrives n n' by call frames answered h bearer number is = (subst (λ c. Performs n by c n' frames answered) is h).choice

make_watched : (s : Stage) (air' : AirState) (a : ℕ) (by : By) (call : EventNote) (m m' : MemberState) (frames : List Outgoing) (answered : Answer) → IsSteady s.members s.air → GrowsAir s.air air' → slice_index_or s.members a None ≡ Some m
    → IsWatched s.air m → Makes by call m m' frames answered → IsWatched air' m'
make_watched s air' a by call m m' frames answered steady longer was w h =
    let step = made_step by call m m' frames answered h in
    turn_watched s air' a m m' [] step frames steady.sound was longer (prefix_same m.arrivals m'.arrivals (ap (λ (x : MemberState). x.arrivals) h.after)) (ap (λ (x : MemberState). x.past) h.after) w h.turn.told_before h.turn.told h.turn.joined_before h.turn.turn
    (λ bearer number is. absurd (never_arrives m.node m'.node _ call frames answered h.performs bearer number is))
    (λ bearer number place e is there tunnel. absurd (never_arrives m.node m'.node _ call frames answered h.performs bearer number is)) (are_brought s a m m' [] step frames steady.sound was h.turn.turn (nothing_out s a _))
    steady.casts (λ bearer number is. absurd (never_arrives m.node m'.node _ call frames answered h.performs bearer number is))

-- ---- an arrival

arrived_last : (air air' : AirState) (arrivals : List Arrived) (bearer place : ℕ) (f : Sent) → GrowsAir air air' → slice_get (air_on bearer air) place ≡ Some f
    → arrived_frame (record { air = air'; arrivals = arrivals ++ record { bearer = bearer; frame = place } ∷ [] }) bearer (length arrivals) ≡ Some f
unfolding arrived_frame
arrived_last air air' arrivals bearer place f longer there =
    ap (option_and_then (frame_in air' bearer)) (get_last arrivals (record { bearer = bearer; frame = place })) ∙ ap (λ b. if b then slice_get (air_on bearer air') place else None) (itself bearer)
    ∙ get_prefix (air_on bearer air) (air_on bearer air') place f (longer bearer) there

-- there are two bearers
bearer_is : (air : AirState) (bearer k : ℕ) (f : Sent) → slice_get (air_on bearer air) k ≡ Some f → bearer ≤ 1
bearer_is air bearer k f there = first (bearer == 0) refl there
  where
    second : (b : Bool) → (bearer == 1) ≡ b → slice_get (if b then air.second else []) k ≡ Some f → bearer ≤ 1
    second true is e = (let one = eqb-true bearer 1 is in omega (arith, one))
    second false is e = absurd cc

    first : (b : Bool) → (bearer == 0) ≡ b → slice_get (if b then air.first else (if bearer == 1 then air.second else [])) k ≡ Some f → bearer ≤ 1
    first true is e = (let none = eqb-true bearer 0 is in omega (arith, none))
    first false is e = second (bearer == 1) refl e

-- the frame of that place arrived at a node
frame_carried : (s : Stage) (air' : AirState) (a bearer place : ℕ) (f : Sent) (arrivals : List Arrived) → IsSound s.members s.air → GrowsAir s.air air' → frame_for s.air a bearer place ≡ Some f
    → IsCarried (record { air = air'; arrivals = arrivals ++ record { bearer = bearer; frame = place } ∷ [] }) bearer (length arrivals) f.frame
frame_carried s air' a bearer place f arrivals sound longer there =
    let spoken = spoken_to s a bearer place f sound there in
    record {
      frame = f;
      arrived = arrived_last s.air air' arrivals bearer place f longer (placed s.air a bearer place f there).0;
      bytes_are = refl;
      sender = spoken.sender;
      from = spoken.from;
      one = λ link. one_receiver s a bearer place f sound there link;
      all = λ kind. to_all_nodes s a bearer place f sound there kind;
      es = spoken.said.es;
      er = spoken.said.er;
      packet = spoken.said.packet;
      is_from = spoken.said.is_from;
    }

are_carried : (s : Stage) (air' : AirState) (a bearer place : ℕ) (f : Sent) (arrivals arrivals' : List Arrived) (step : NodeStep) → IsSound s.members s.air → GrowsAir s.air air' → frame_for s.air a bearer place ≡ Some f
    → arrivals' ≡ arrivals ++ record { bearer = bearer; frame = place } ∷ [] → step.event ≡ note.Arrive bearer (length arrivals) → AreCarried (record { air = air'; arrivals = arrivals' }) step f.frame
are_carried s air' a bearer place f arrivals arrivals' step sound longer there more call bearer' number is =
    let both : note.Arrive bearer (length arrivals) ≡ note.Arrive bearer' number = sym call ∙ is in
    let bearers : bearer ≡ bearer' = cc in
    let numbers : length arrivals ≡ number = cc in
    let last : Arrived = record { bearer = bearer; frame = place } in (
      subst (λ k. k ≤ 1) bearers (bearer_is s.air bearer place f (placed s.air a bearer place f there).0),
      subst (λ j. IsCarried (record { air = air'; arrivals = arrivals' }) j number f.frame) bearers (subst (λ k. IsCarried (record { air = air'; arrivals = arrivals' }) bearer k f.frame) numbers
          (subst (λ zs. IsCarried (record { air = air'; arrivals = zs }) bearer (length arrivals) f.frame) (sym more) (frame_carried s air' a bearer place f arrivals sound longer there))),
      ap length more ∙ length-append arrivals (last ∷ []) ∙ ap (λ k. k + 1) numbers,
    )

meet_watched : (s : Stage) (air' : AirState) (a : ℕ) (by : By) (bearer place : ℕ) (f : Sent) (m m' : MemberState) (frames : List Outgoing) (answered : Answer) → IsSteady s.members s.air → GrowsAir s.air air' → slice_index_or s.members a None ≡ Some m
    → IsWatched s.air m → frame_for s.air a bearer place ≡ Some f → unarrived s.members s.air a bearer place ≡ None → Meets by bearer place f.frame m m' frames answered → IsWatched air' m'
meet_watched s air' a by bearer place f m m' frames answered steady longer was w there free h =
    let sound = steady.sound in
    let step = met_step by bearer place f.frame m m' frames answered h in
    let more : m'.arrivals ≡ m.arrivals ++ record { bearer = bearer; frame = place } ∷ [] = ap (λ (x : MemberState). x.arrivals) h.after in
    turn_watched s air' a m m' f.frame step frames sound was longer (record { bearer = bearer; frame = place } ∷ [], more) (ap (λ (x : MemberState). x.past) h.after) w h.turn.told_before h.turn.told h.turn.joined_before h.turn.turn
    (are_carried s air' a bearer place f m.arrivals m'.arrivals step sound longer there more refl)
    (arrival_takes m.node m'.node _ bearer (length m.arrivals) f.frame frames h.arrived h.turn.inside h.arrives h.turn.turn)
    (are_brought s a m m' f.frame step frames sound was h.turn.turn (comes_out s a bearer place f sound there free (length m.arrivals))) steady.casts
    (λ k number is.
    let same : bearer ≡ k = cc in
    subst (λ j. (spot : ℕ) × (g : Sent) × (frame_for s.air a j spot ≡ Some g) × (unarrived s.members s.air a j spot ≡ None) × (f.frame ≡ g.frame)) same (place, f, there, free, refl))

-- ---- a boot begins

-- a node whose parts are these
watched_as : (air : AirState) (m : MemberState) (arrivals : List Arrived) (past : List (List Entry)) (journal : List Entry) → m.arrivals ≡ arrivals → m.past ≡ past → m.node.journal ≡ journal
    → IsKept (record { air = air; arrivals = arrivals }) past journal (pair_in m.node) → ((p : ℕ) → neighbour_of m.node p ≡ None) → (own boot : ℕ) → m.node.casting ≡ booted own boot → IsWatched air m
watched_as air m arrivals past journal arrivals_are past_is journal_is h alone own boot casting =
    watched_of air m (subst (λ zs. IsKept (record { air = air; arrivals = zs }) m.past m.node.journal (pair_in m.node)) (sym arrivals_are)
    (subst (λ js. IsKept (record { air = air; arrivals = arrivals }) js m.node.journal (pair_in m.node)) (sym past_is)
    (subst (λ j. IsKept (record { air = air; arrivals = arrivals }) past j (pair_in m.node)) (sym journal_is) h)))
    (λ p x is. absurd (let none = alone p in let wrong : None ≡ Some x = sym none ∙ is in cc)) (fresh_casts_traced (seen_by air m) m.node own boot casting alone)

restart_watched : (air air' : AirState) (m m' : MemberState) → GrowsAir air air' → IsWatched air m → IsRestarted m m' → IsWatched air' m'
restart_watched air air' m m' longer w r =
    watched_as air' m' m.arrivals (m.past ++ m.node.journal ∷ []) [] r.arrivals r.past r.node.no_history
    (restarted_kept (seen_by air' m) m.past m.node.journal (pair_in m.node) (pair_in m'.node) (kept_in air air' m longer w) (λ p. ap (λ o. option_map (λ (x : Neighbour). x.pair) o) (r.node.alone p))) r.node.alone m.node.own (m.node.boot + 1) r.node.casting

newcomer_watched : (air : AirState) (m : MemberState) (n first : ℕ) → IsNewcomer m n first → IsWatched air m
newcomer_watched air m n first c =
    watched_as air m [] [] [] c.arrivals c.past c.node.no_history
    (started_kept (record { air = air; arrivals = [] }) [] (pair_in m.node) (λ k j there. absurd cc) (λ p. ap (λ o. option_map (λ (x : Neighbour). x.pair) o) (c.node.alone p))) c.node.alone (node_word n) first c.node.casting

-- ---- all events

does_watched : (s : Stage) (air' : AirState) (by : By) (event : WorldEvent) (bytes : List ℕ) (m m' : MemberState) (frames : List Outgoing) (answered : Answer) → IsSteady s.members s.air → GrowsAir s.air air'
    → slice_index_or s.members (node_of event) None ≡ Some m → IsWatched s.air m → IsReady s.members s.air event bytes m → HasEffect by event bytes m m' frames answered → IsWatched air' m'
does_watched s air' by (Restart a) bytes m m' frames answered steady longer here w ready h = restart_watched s.air air' m m' longer w h.0
does_watched s air' by (Call a call) bytes m m' frames answered steady longer here w ready h = make_watched s air' a by call m m' frames answered steady longer here w h
does_watched s air' by (Arrive a bearer place) bytes m m' frames answered steady longer here w ready h =
    meet_watched s air' a by bearer place ready.0 m m' frames answered steady longer here w ready.1 ready.2 (subst (λ bs. Meets by bearer place bs m m' frames answered) ready.3 h)

-- ---- the world

set_watched : (members : List (Option MemberState)) (air air' : AirState) (a : ℕ) (before after : MemberState) → slice_index_or members a None ≡ Some before → AreWatched members air → GrowsAir air air' → IsWatched air' after
    → AreWatched (slice_set members a (Some after)) air'
set_watched members air air' a before after was all longer new n m there = elim (cases_eq n a) [
  | inl same ↦
      let here : slice_index_or (slice_set members a (Some after)) a None ≡ Some after = get_or-set_same members a (Some after) None (place_within members a before was) in
      let is : after ≡ m = (let e : Some after ≡ Some m = sym here ∙ ap (λ k. slice_index_or (slice_set members a (Some after)) k None) (sym same) ∙ there in cc) in
      subst (IsWatched air') is new
  | inr apart ↦ watched_wider air air' m longer (all n m (sym (get_or-set_other members a n (Some after) None apart) ∙ there))
]

happens_watched : (old new : Stage) (by : By) (event : WorldEvent) (bytes : List ℕ) (answered : Answer) (lost : Bool) → IsSteady old.members old.air → (h : Happens old new by event bytes answered lost)
    → IsReady old.members old.air event bytes h.before → AreWatched new.members new.air
happens_watched old new by event bytes answered lost steady h ready =
    let a = node_of event in
    let longer = air_longer old new a h.before h.after h.frames lost h.turns in
    subst (λ ms. AreWatched ms new.air) (sym h.turns.members)
    (set_watched old.members old.air new.air a h.before h.after h.turns.was steady.watched longer
    (does_watched old new.air by event bytes h.before h.after h.frames answered steady longer h.turns.was (steady.watched a h.before h.turns.was) ready h.does))

arrival_watched : (old new : Stage) (by : By) (node bearer place : ℕ) (answered : Answer) (lost : Bool) → IsSteady old.members old.air → IsArrival old new by node bearer place answered lost
    → AreWatched new.members new.air
arrival_watched old new by node bearer place answered lost steady h = case (unarrived old.members old.air node bearer place) refl
  where
    case : (o : Option Answer) → unarrived old.members old.air node bearer place ≡ o → AreWatched new.members new.air
    case (Some reason) stops = subst (λ (s : Stage). AreWatched s.members s.air) (sym (h.none reason stops).1) steady.watched
    case None free =
        let a = h.arrives free in
        happens_watched old new by (Arrive node bearer place) a.0.frame answered lost steady a.2 (a.0, a.1, free, refl)

-- after one event
pub becomes_watched : (old new : Stage) (by : By) (event : WorldEvent) (answered : Answer) (lost : Bool) → IsSteady old.members old.air → HasNextBoot old.members event
    → Becomes old by event new answered lost → AreWatched new.members new.air
becomes_watched old new by (Restart node) answered lost steady boots h =
    happens_watched old new by (Restart node) [] answered lost steady h (let next = boots h.before h.turns.was in omega arith)
becomes_watched old new by (Call node call) answered lost steady boots h = happens_watched old new by (Call node call) [] answered lost steady h tt
becomes_watched old new by (Arrive node bearer place) answered lost steady boots h = arrival_watched old new by node bearer place answered lost steady h

-- where no nodes are
pub start_watched : AreWatched [] empty_air
start_watched n m there = absurd cc

-- a node comes in
pub joined_watched : (old new : List (Option MemberState)) (air : AirState) (n first : ℕ) → JoinsAt old new n first → AreWatched old air → AreWatched new air
joined_watched old new air n first j all k m there = elim (cases_eq k n) [
  | inl same ↦
      let is : j.newcomer ≡ m = (let e : Some j.newcomer ≡ Some m = sym j.here ∙ ap (λ i. slice_index_or new i None) (sym same) ∙ there in cc) in
      subst (IsWatched air) is (newcomer_watched air j.newcomer n first j.fresh)
  | inr apart ↦ all k m (sym (j.others k apart) ∙ there)
]
