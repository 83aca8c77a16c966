-- What one event of a round keeps: the nodes that are there, their boots, their mended bearers, and all that is
-- promised of the world.
use Rattle.std.proofs.Common.{◌≡◌, ◌∙◌, ℕ, Bool, true, false, List, [], Option, Some, None, Ok, if◌then◌else◌, is_some, option_map, unwrap_or, slice_index_or, slice_set, inl, inr, refl, sym, ap, subst, get_or-set_same, get_or-set_other}
use Rattle.std.specs.Prelude.{◌&&◌}
use Rattle.std.proofs.lemmas.Bool.{cases_eq}
use Rattle.tipc_types.specs.declared.link_words.Why.{Why}
use Rattle.tipc_types.specs.declared.node_calls.Answer.{Answer}
use Rattle.tipc_types.specs.declared.node_calls.Arrival.{Arrival}
use Rattle.tipc_types.specs.declared.node_calls.By.{By}
use Rattle.tipc_types.specs.declared.node_calls.EventNote.TheVariants as call
use Rattle.tipc_outside.specs.declared.outgoing.Outgoing.{Outgoing}
use Rattle.tipc_header.specs.declared.frames.FrameKind.{FrameKind}
use Rattle.tipc_header.specs.declared.frames.FrameKind.TheVariants.{Casts, Finds, Links}
use Rattle.tipc_header.specs.Frames.{kind_in}
use Rattle.tipc_node.specs.Arrivals.{Arrives}
use Rattle.tipc_node.specs.Discovery.{found_node, has_found}
use Rattle.tipc_node.specs.Nodes.{NodeState, is_mended_on, stop_of}
use Rattle.tipc_replay.specs.declared.events.WorldEvent.{WorldEvent}
use Rattle.tipc_replay.specs.declared.events.WorldEvent.TheVariants.{Arrive, Call}
use Rattle.tipc_replay.specs.Calls.{CanHappenAt, HasNextBoot, counts_at, is_recorded, node_of}
use Rattle.tipc_replay.specs.Effects.{Makes, Meets}
use Rattle.tipc_replay.specs.States.{MemberState, ReplayState, boot_at, is_mended_at}
use Rattle.tipc_replay.specs.Steady.{IsSteady as AreNodesSteady}
use Rattle.tipc_replay.specs.Steps.{stage, Becomes, Stage}
use Rattle.tipc_replay.proofs.Answering.{becomes_answered}
use Rattle.tipc_replay.proofs.calls.Outcomes.{some_is}
use Rattle.tipc_replay.proofs.LookUps.{place_within}
use Rattle.tipc_replay.proofs.Receiving.{becomes_received}
use Rattle.tipc_replay.proofs.SoundWorlds.{becomes_sound}
use Rattle.tipc_replay.proofs.Staying.{at_is}
use Rattle.tipc_replay.proofs.casts.Casts.{becomes_casting}
use Rattle.tipc_replay.proofs.casts.Meeting.{becomes_met}
use Rattle.tipc_replay.proofs.frames.AgedKept.{becomes_aged}
use Rattle.tipc_replay.proofs.journals.KeptWorlds.{becomes_watched}
use Rattle.tipc_replay.proofs.names.Sharing.{becomes_shared}
use Rattle.tipc_replay.proofs.states.CastLinksKept.{becomes_cast}
use Rattle.tipc_replay.proofs.states.EndsKept.{becomes_bounded, becomes_named, becomes_numbers, becomes_packed, becomes_right}
use Rattle.tipc_replay.proofs.states.PlainKept.{becomes_plain}
use Rattle.tipc_world.specs.declared.places.Places.{Places}
use Rattle.tipc_world.specs.Limits.{IsAnswered}
use Rattle.tipc_world.specs.RoundParts.{FrameArrives, HappensWhole, IsKept, RoundStep, SettlesOn, idles, one_arrives, one_ticks}
use Rattle.tipc_world.specs.States.{WorldState}
use Rattle.tipc_world.specs.Steps.{by_in}
use Rattle.tipc_world.proofs.Advancing.{world_of, Counts, Steps}
use Rattle.tipc_world.proofs.Boots.{steady_after}
use Rattle.tipc_world.proofs.Continuing.{grows_more, grows_same}
use Rattle.tipc_world.proofs.Staying.{stays, Stays}

-- ---- what is always kept

-- nodes and the air between them stay steady through an event
becomes_steady : (old new : Stage) (by : By) (event : WorldEvent) (answered : Answer) (lost : Bool) → CanHappenAt old.members event → HasNextBoot old.members event → AreNodesSteady old.members old.air
    → Becomes old by event new answered lost → AreNodesSteady new.members new.air
becomes_steady old new by event answered lost can next h becomes =
    let sound = becomes_sound old new by event answered lost h next becomes in
    let shared = becomes_shared old new by event answered lost h.sound h.shared becomes in
    record {
      sound = sound;
      watched = becomes_watched old new by event answered lost h next becomes;
      shared = shared;
      answered = becomes_answered old new by event answered lost sound shared h.answered becomes;
      received = becomes_received old new by event answered lost h.received becomes;
      met = becomes_met old new by event answered lost h.sound sound next becomes h.met;
      plain = becomes_plain old new by event answered lost becomes h.plain;
      aged = becomes_aged old new by event answered lost h.sound sound becomes h.aged;
      casts = becomes_casting old new by event answered lost h.sound h.met h.plain h.aged next becomes h.casts;
      cast_links = becomes_cast old new by event answered lost can becomes h.cast_links;
      ends = becomes_right old new by event answered lost can becomes h.ends;
      bounded = becomes_bounded old new by event answered lost becomes h.bounded;
      numbers = becomes_numbers old new by event answered lost becomes h.numbers;
      packed = becomes_packed old new by event answered lost becomes h.packed;
      originals = becomes_named old new by event answered lost becomes h.numbers h.originals;
    }

-- the nodes and the air of a world
abbrev nodes_of : WorldState → ReplayState
nodes_of w = record { members = w.members; air = w.air; lost = w.lost }

-- a world is kept through an event
pub answered_kept : (old new : WorldState) (event : WorldEvent) (answered : Answer) → CanHappenAt old.members event → HasNextBoot old.members event → IsAnswered old event new answered → IsKept old → IsKept new
answered_kept old new event answered can next done kept =
    let step = done.step in
    let happened : Steps (nodes_of old) (nodes_of new) old.stamps event answered = record { lost = step.lost; becomes = step.becomes; lost_is = step.lost_is } in
    let counted : Counts (world_of (nodes_of old) old.events old.stamps) event (counts_at old.members old.air event) new.events new.stamps = record {
      counted_is = refl;
      recorded = is_recorded event;
      recorded_is = refl;
      call = is_recorded event && counts_at old.members old.air event;
      call_is = refl;
      events_are = step.events;
      stamps_are = step.stamps;
    } in
    record {
      nodes = becomes_steady (stage old.members old.air) (stage new.members new.air) (by_in old.members old.stamps event) event answered step.lost can next kept.nodes step.becomes;
      counts = steady_after (nodes_of old) (nodes_of new) event old.events old.stamps new.events new.stamps (counts_at old.members old.air event) answered happened counted done.free kept.counts;
    }

-- ---- what stays of each node

-- what is read of a node that stays in an event stays at each node
pub look_stays : {A : Type 0} (look : Option MemberState → A) (old new : WorldState) (event : WorldEvent) (bytes : List ℕ) (answered : Answer) (h : HappensWhole old new event bytes answered) → look (Some h.after) ≡ look (Some h.before)
    → (n : ℕ) → look (slice_index_or new.members n None) ≡ look (slice_index_or old.members n None)
look_stays look old new event bytes answered h same n =
    let a = node_of event in
    subst (λ ms. look (slice_index_or ms n None) ≡ look (slice_index_or old.members n None)) (sym h.members) (elim (cases_eq n a) [
      | inl here ↦
          ap (λ k. look (slice_index_or (slice_set old.members a (Some h.after)) k None)) here
          ∙ (ap look (get_or-set_same old.members a (Some h.after) None (place_within old.members a h.before h.was)) ∙ (same ∙ (sym (ap look h.was) ∙ ap (λ k. look (slice_index_or old.members k None)) (sym here))))
      | inr other ↦ ap look (get_or-set_other old.members a n (Some h.after) None other)
    ])

-- every other node is as it was
pub other_stays : (old new : WorldState) (event : WorldEvent) (bytes : List ℕ) (answered : Answer) → HappensWhole old new event bytes answered → (n : ℕ) → (n ≡ node_of event → ⊥)
    → slice_index_or new.members n None ≡ slice_index_or old.members n None
other_stays old new event bytes answered h n other =
    ap (λ ms. slice_index_or ms n None) h.members ∙ get_or-set_other old.members (node_of event) n (Some h.after) None other

-- and this one is as the event left it
pub here_is : (old new : WorldState) (event : WorldEvent) (bytes : List ℕ) (answered : Answer) (h : HappensWhole old new event bytes answered) → slice_index_or new.members (node_of event) None ≡ Some h.after
here_is old new event bytes answered h =
    ap (λ ms. slice_index_or ms (node_of event) None) h.members
    ∙ get_or-set_same old.members (node_of event) (Some h.after) None (place_within old.members (node_of event) h.before h.was)

-- what holds of each node holds of each after an event, where it is so of the one at which it happened
pub nodes_keep : (P : ℕ → MemberState → Type 0) (old new : WorldState) (event : WorldEvent) (bytes : List ℕ) (answered : Answer) (h : HappensWhole old new event bytes answered)
    → (P (node_of event) h.before → P (node_of event) h.after) → ((n : ℕ) (m : MemberState) → slice_index_or old.members n None ≡ Some m → P n m)
    → (n : ℕ) (m : MemberState) → slice_index_or new.members n None ≡ Some m → P n m
nodes_keep P old new event bytes answered h one all n m there = elim (cases_eq n (node_of event)) [
  | inl here ↦
      let there_here : slice_index_or new.members (node_of event) None ≡ Some m = ap (λ k. slice_index_or new.members k None) (sym here) ∙ there in
      let is : h.after ≡ m = some_is h.after m (sym (here_is old new event bytes answered h) ∙ there_here) in
      subst (λ k. P k m) (sym here) (subst (P (node_of event)) is (one (all (node_of event) h.before h.was)))
  | inr other ↦ all n m (sym (other_stays old new event bytes answered h n other) ∙ there)
]

-- ---- its bearers and its boot

-- a tick mends and cuts none
tick_mended : (by : By) (m m' : MemberState) (frames : List Outgoing) (answered : Answer) → Makes by call.Tick m m' frames answered → m'.node.mended ≡ m.node.mended
tick_mended by m m' frames answered h = ap (λ (n : NodeState). n.mended) h.performs.carried.0

-- and no arrival does
heard_mended : (n n' : NodeState) (by : By) (bearer number : ℕ) (bytes : List ℕ) (frames : List Outgoing) (answered : Arrival) (kind : FrameKind) → Arrives n n' by bearer number bytes frames answered
    → stop_of n bearer bytes ≡ None → kind_in bytes ≡ kind → n'.mended ≡ n.mended
heard_mended n n' by bearer number bytes frames answered Links a passes is = ap (λ (m : NodeState). m.mended) (a.heard passes is).after
heard_mended n n' by bearer number bytes frames answered Casts a passes is = ap (λ (m : NodeState). m.mended) (a.cast passes is).after
heard_mended n n' by bearer number bytes frames answered Finds a passes is =
    let d = a.discovered passes is in
    ap (λ (m : NodeState). m.mended) d.after ∙ by_found (has_found n bearer d.peer) d.peer
  where
    by_found : (found : Bool) (peer : ℕ) → (if found then n else found_node n peer bearer).mended ≡ n.mended
    by_found true peer = refl
    by_found false peer = refl

arrival_mended : (by : By) (bearer place : ℕ) (bytes : List ℕ) (m m' : MemberState) (frames : List Outgoing) (answered : Answer) → Meets by bearer place bytes m m' frames answered → m'.node.mended ≡ m.node.mended
arrival_mended by bearer place bytes m m' frames answered h = on (stop_of m.node bearer bytes) refl
  where
    on : (o : Option Why) → stop_of m.node bearer bytes ≡ o → m'.node.mended ≡ m.node.mended
    on (Some reason) is = ap (λ (n : NodeState). n.mended) (h.arrives.stopped reason is).0
    on None is = heard_mended m.node m'.node by bearer _ bytes frames h.arrived (kind_in bytes) h.arrives is refl

-- ---- one event of a round

-- what is read of the bearers of a node, and of its boot
abbrev pub mended_in : ℕ → Option MemberState → Bool
mended_in bearer o = unwrap_or (option_map (λ (m : MemberState). is_mended_on m.node.mended bearer) o) false

abbrev boot_in : Option MemberState → ℕ
boot_in o = unwrap_or (option_map (λ (m : MemberState). m.node.boot) o) 1

boot_read : (w : WorldState) (n : ℕ) → boot_at w.members n ≡ boot_in (slice_index_or w.members n None)
unfolding boot_at
boot_read w n = ap boot_in (at_is w.members n)

pub mended_read : (w : WorldState) (n bearer : ℕ) → is_mended_at w.members n bearer ≡ mended_in bearer (slice_index_or w.members n None)
mended_read w n bearer = ap (mended_in bearer) (at_is w.members n)

event_on : (old new : WorldState) (event : WorldEvent) (bytes : List ℕ) (answered : Answer) (h : HappensWhole old new event bytes answered) → old.lost ≡ false → CanHappenAt old.members event → HasNextBoot old.members event
    → h.after.node.mended ≡ h.before.node.mended → h.after.node.boot ≡ h.before.node.boot → SettlesOn old new
event_on old new event bytes answered h clear can next mended boot =
    let s : Stays old new = stays old new event (Ok answered) h.happened tt in record {
      nodes = s.nodes;
      boots = λ n. boot_read new n ∙ (look_stays boot_in old new event bytes answered h boot n ∙ sym (boot_read old n));
      mended = λ n bearer. mended_read new n bearer ∙ (look_stays (mended_in bearer) old new event bytes answered h (ap (λ ms. is_mended_on ms bearer) mended) n ∙ sym (mended_read old n bearer));
      grown = s.grown;
      whole = clear;
      kept = answered_kept old new event answered can next h.happened;
    }

pub settles_same : (w : WorldState) → w.lost ≡ false → SettlesOn w w
settles_same w clear = record { nodes = λ n. refl; boots = λ n. refl; mended = λ n bearer. refl; grown = grows_same w; whole = clear; kept = λ kept. kept }

pub settles_more : (a b c : WorldState) → SettlesOn a b → SettlesOn b c → SettlesOn a c
settles_more a b c p q = record {
  nodes = λ n. q.nodes n ∙ p.nodes n;
  boots = λ n. q.boots n ∙ p.boots n;
  mended = λ n bearer. q.mended n bearer ∙ p.mended n bearer;
  grown = grows_more a b c p.grown q.grown;
  whole = p.whole;
  kept = λ kept. q.kept (p.kept kept);
}

-- nothing happened
pub same_on : (old new : WorldState) → old.lost ≡ false → new ≡ old → SettlesOn old new
same_on old new clear same = subst (SettlesOn old) (sym same) (settles_same old clear)

-- a node ticked
pub tick_on : (old new : WorldState) (node : ℕ) (answered : Answer) → old.lost ≡ false → HappensWhole old new (Call node call.Tick) [] answered → SettlesOn old new
tick_on old new node answered clear h =
    event_on old new (Call node call.Tick) [] answered h clear (ap is_some h.was, tt) tt (tick_mended _ h.before h.after h.frames answered h.does) h.does.turn.turn.boot

-- a frame arrived
pub arrival_on : (from : Places) (old new : WorldState) → old.lost ≡ false → FrameArrives from old new → SettlesOn old new
arrival_on from old new clear a =
    let h = a.arrives in
    event_on old new (Arrive a.node a.bearer a.place) a.frame.frame a.answered h clear (ap is_some h.was, a.on_one) tt (arrival_mended _ a.bearer a.place a.frame.frame h.before h.after h.frames a.answered h.does) h.does.turn.turn.boot

pub step_on : (from : Places) (old new : WorldState) → old.lost ≡ false → RoundStep from old new → SettlesOn old new
step_on from old new clear (idles same) = same_on old new clear same
step_on from old new clear (one_ticks node answered h) = tick_on old new node answered clear h
step_on from old new clear (one_arrives arrived) = arrival_on from old new clear arrived
