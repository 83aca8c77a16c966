-- What arrived at each node was for it, through every event.
use Rattle.std.proofs.Common.{◌≡◌, ℕ, Bool, List, [], ◌∷◌, ◌++◌, Option, Some, None, slice_get, slice_index_or, slice_set, refl, sym, ap, subst, ◌∙◌, inl, inr, get_or-set_same, get_or-set_other}
use Rattle.std.proofs.lemmas.Bool.{cases_eq}
use Rattle.tipc_types.specs.declared.node_calls.Answer.{Answer}
use Rattle.tipc_types.specs.declared.node_calls.By.{By}
use Rattle.tipc_outside.specs.declared.outgoing.Outgoing.{Outgoing}
use Rattle.tipc_replay.specs.declared.air.Arrived.{Arrived}
use Rattle.tipc_replay.specs.declared.air.Sent.{Sent}
use Rattle.tipc_replay.specs.declared.events.WorldEvent.{WorldEvent}
use Rattle.tipc_replay.specs.declared.events.WorldEvent.TheVariants.{Restart, Call, Arrive}
use Rattle.tipc_replay.specs.Calls.{node_of}
use Rattle.tipc_replay.specs.Due.{frame_for, kept_for, unarrived}
use Rattle.tipc_replay.specs.Effects.{HasEffect}
use Rattle.tipc_replay.specs.Events.{JoinsAt}
use Rattle.tipc_replay.specs.Received.{AreReceived, HasReceived, IsReceived}
use Rattle.tipc_replay.specs.Skies.{AirState, air_on, empty_air}
use Rattle.tipc_replay.specs.States.{MemberState}
use Rattle.tipc_replay.specs.Steps.{Becomes, Happens, IsArrival, Stage}
use Rattle.tipc_replay.proofs.calls.Journals.{get_more}
use Rattle.tipc_replay.proofs.calls.Outcomes.{some_is}
use Rattle.tipc_replay.proofs.Growing.{happens_grows}
use Rattle.tipc_replay.proofs.journals.KeptWorlds.{GrowsAir}
use Rattle.tipc_replay.proofs.journals.Stepping.{get_prefix}
use Rattle.tipc_replay.proofs.LookUps.{place_within}

-- ---- while the air grows

-- a frame that is for a node stays where it is
frame_stays : (air air' : AirState) (n bearer place : ℕ) (f : Sent) → GrowsAir air air' → frame_for air n bearer place ≡ Some f → frame_for air' n bearer place ≡ Some f
unfolding frame_for
frame_stays air air' n bearer place f longer is = case (slice_get (air_on bearer air) place) refl
  where
    case : (o : Option Sent) → slice_get (air_on bearer air) place ≡ o → kept_for (slice_get (air_on bearer air') place) n ≡ Some f
    case None none = absurd (let wrong : None ≡ Some f = sym (ap (λ o. kept_for o n) none) ∙ is in cc)
    case (Some g) there =
        ap (λ o. kept_for o n) (get_prefix (air_on bearer air) (air_on bearer air') place g (longer bearer) there) ∙ (sym (ap (λ o. kept_for o n) there) ∙ is)

received_wider : (air air' : AirState) (n : ℕ) (arrivals : List Arrived) → GrowsAir air air' → HasReceived air n arrivals → HasReceived air' n arrivals
received_wider air air' n arrivals longer h k x there = let one = h k x there in (one.0, frame_stays air air' n x.bearer x.frame one.0 longer one.1)

-- one more arrives
received_more : (air : AirState) (n bearer place : ℕ) (f : Sent) (arrivals : List Arrived) → frame_for air n bearer place ≡ Some f → HasReceived air n arrivals → HasReceived air n (arrivals ++ record { bearer = bearer; frame = place } ∷ [])
received_more air n bearer place f arrivals is h k x there = elim (get_more arrivals (record { bearer = bearer; frame = place }) k x there) [
  | inl old ↦ h k x old
  | inr last ↦ subst (IsReceived air n) last.1 (f, is)
]

-- ---- one node

-- the frame of an event, where it is an arrival
abbrev IsFor : AirState → WorldEvent → Type 0
IsFor air (Arrive node bearer place) = (f : Sent) × (frame_for air node bearer place ≡ Some f)
IsFor air other = Unit {0}

does_receive : (air : AirState) (by : By) (event : WorldEvent) (bytes : List ℕ) (m m' : MemberState) (frames : List Outgoing) (answered : Answer) → IsFor air event → HasEffect by event bytes m m' frames answered
    → HasReceived air (node_of event) m.arrivals → HasReceived air (node_of event) m'.arrivals
does_receive air by (Restart node) bytes m m' frames answered is h had = subst (HasReceived air node) (sym h.0.arrivals) had
does_receive air by (Call node call) bytes m m' frames answered is h had = subst (HasReceived air node) (sym (ap (λ (x : MemberState). x.arrivals) h.after)) had
does_receive air by (Arrive node bearer place) bytes m m' frames answered is h had =
    subst (HasReceived air node) (sym (ap (λ (x : MemberState). x.arrivals) h.after)) (received_more air node bearer place is.0 m.arrivals is.1 had)

-- ---- all nodes

set_received : (members : List (Option MemberState)) (air air' : AirState) (a : ℕ) (before after : MemberState) → slice_index_or members a None ≡ Some before → AreReceived members air → GrowsAir air air' → HasReceived air' a after.arrivals
    → AreReceived (slice_set members a (Some after)) air'
set_received members air air' a before after was all longer new n m there = elim (cases_eq n a) [
  | inl same ↦
      let here : slice_index_or (slice_set members a (Some after)) a None ≡ Some after = get_or-set_same members a (Some after) None (place_within members a before was) in
      let is : after ≡ m = some_is after m (sym here ∙ ap (λ k. slice_index_or (slice_set members a (Some after)) k None) (sym same) ∙ there) in
      subst (λ k. HasReceived air' k m.arrivals) (sym same) (subst (λ (x : MemberState). HasReceived air' a x.arrivals) is new)
  | inr apart ↦ received_wider air air' n m.arrivals longer (all n m (sym (get_or-set_other members a n (Some after) None apart) ∙ there))
]

happens_received : (old new : Stage) (by : By) (event : WorldEvent) (bytes : List ℕ) (answered : Answer) (lost : Bool) → IsFor old.air event → AreReceived old.members old.air → Happens old new by event bytes answered lost → AreReceived new.members new.air
happens_received old new by event bytes answered lost is all h =
    let a = node_of event in
    let longer = (happens_grows old new by event bytes answered lost h).air in
    subst (λ ms. AreReceived ms new.air) (sym h.turns.members)
    (set_received old.members old.air new.air a h.before h.after h.turns.was all longer
    (received_wider old.air new.air a h.after.arrivals longer (does_receive old.air by event bytes h.before h.after h.frames answered is h.does (all a h.before h.turns.was))))

arrival_received : (old new : Stage) (by : By) (node bearer place : ℕ) (answered : Answer) (lost : Bool) → AreReceived old.members old.air → IsArrival old new by node bearer place answered lost → AreReceived new.members new.air
arrival_received old new by node bearer place answered lost all h = case (unarrived old.members old.air node bearer place) refl
  where
    case : (o : Option Answer) → unarrived old.members old.air node bearer place ≡ o → AreReceived new.members new.air
    case (Some why) stops = subst (λ (s : Stage). AreReceived s.members s.air) (sym (h.none why stops).1) all
    case None free = let a = h.arrives free in happens_received old new by (Arrive node bearer place) a.0.frame answered lost (a.0, a.1) all a.2

-- after one event
pub becomes_received : (old new : Stage) (by : By) (event : WorldEvent) (answered : Answer) (lost : Bool) → AreReceived old.members old.air → Becomes old by event new answered lost → AreReceived new.members new.air
becomes_received old new by (Restart node) answered lost all h = happens_received old new by (Restart node) [] answered lost tt all h
becomes_received old new by (Call node call) answered lost all h = happens_received old new by (Call node call) [] answered lost tt all h
becomes_received old new by (Arrive node bearer place) answered lost all h = arrival_received old new by node bearer place answered lost all h

-- where no nodes are
pub start_received : AreReceived [] empty_air
start_received n m there = absurd cc

-- a node comes in
pub joined_received : (old new : List (Option MemberState)) (air : AirState) (n first : ℕ) → JoinsAt old new n first → AreReceived old air → AreReceived new air
joined_received old new air n first j all k m there = elim (cases_eq k n) [
  | inl same ↦
      let is : j.newcomer ≡ m = some_is j.newcomer m (sym j.here ∙ ap (λ i. slice_index_or new i None) (sym same) ∙ there) in
      subst (λ (x : MemberState). HasReceived air k x.arrivals) is (subst (HasReceived air k) (sym j.fresh.arrivals) (λ i x at. absurd cc))
  | inr apart ↦ all k m (sym (j.others k apart) ∙ there)
]
