-- One number of a round, where no frame is lost: nothing, a tick, or an arrival, whose frames are all in the air.
use Rattle.std.proofs.Common.{◌≡◌, ◌≤◌, ℕ, Bool, true, false, List, [], Option, Some, None, Ok, if◌then◌else◌, length, take, inl, inr, ◌⊎◌, refl, sym, ap, subst, ◌∙◌, arith, is_some}
use Rattle.std.specs.Prelude.{◌&&◌, ◌+◌, ◌/◌, ◌%◌, is_none, nat_lt}
use Rattle.std.proofs.lemmas.Bool.{and_parts, ltb-false, or_parts}
use Rattle.std.proofs.lemmas.List.{take_all}
use Rattle.tipc_types.specs.Limits.{most_age}
use Rattle.tipc_types.specs.declared.node_calls.Answer.{Answer}
use Rattle.tipc_types.specs.declared.node_calls.Answer.TheVariants as answer
use Rattle.tipc_types.specs.declared.node_calls.EventNote.TheVariants as call
use Rattle.tipc_outside.specs.declared.outgoing.Outgoing.{Outgoing}
use Rattle.tipc_outside.specs.Frames.{frames_leaving}
use Rattle.tipc_outside.proofs.Adding.{alone_leaving, grows_all}
use Rattle.tipc_replay.specs.declared.air.Sent.{Sent}
use Rattle.tipc_replay.specs.declared.events.WorldEvent.{WorldEvent}
use Rattle.tipc_replay.specs.declared.events.WorldEvent.TheVariants.{Arrive, Call}
use Rattle.tipc_replay.specs.Air.{Leaves, with_leaving}
use Rattle.tipc_replay.specs.Calls.{node_of}
use Rattle.tipc_replay.specs.Due.{age_of, frame_for, stopped_by_age, unarrived}
use Rattle.tipc_replay.specs.Skies.{AirState}
use Rattle.tipc_replay.specs.States.{MemberState, contact_at}
use Rattle.tipc_replay.specs.Steps.{stage, Happens, Stage}
use Rattle.tipc_replay.proofs.calls.Calls.{the_some}
use Rattle.tipc_replay.proofs.calls.Outcomes.{some_is}
use Rattle.tipc_world.specs.declared.places.Places.{Places}
use Rattle.tipc_world.specs.declared.settling.Receivers.TheVariants.{Any}
use Rattle.tipc_world.specs.Courses.{Maybe, Takes, numbers}
use Rattle.tipc_world.specs.Ends.{place_on}
use Rattle.tipc_world.specs.Events.{counts}
use Rattle.tipc_world.specs.Limits.{IsAnswered}
use Rattle.tipc_world.specs.RoundParts.{FrameArrives, HappensWhole, RoundStep, idles, one_arrives, one_ticks}
use Rattle.tipc_world.specs.Settling.{arrival_asked, tick_asked}
use Rattle.tipc_world.specs.States.{WorldState, is_there}
use Rattle.tipc_world.specs.Steps.{by_in, IsStep}

-- ---- all frames are in the air

-- what left came into the air whole, where no frame was lost
all_leave : (old new : AirState) (met : ℕ → Option (ℕ × ℕ)) (members : List (Option MemberState)) (a : ℕ) (frames : List Outgoing) (lost : Bool) → Leaves old new met members a frames lost → lost ≡ false
    → new ≡ with_leaving old met members a frames
all_leave old new met members a frames lost l clear =
    let box = l.box in
    let none = or_parts _ _ (sym l.emits.lost_is ∙ clear) in
    let unlost = or_parts box.first.lost box.behind.lost none.0 in
    let all = grows_all l.boxed.behind unlost.1 in
    let boxed : frames_leaving box ≡ frames = alone_leaving l.boxed ∙ take_all l.boxed.behind.count frames (omega (arith, all.1)) in
    let came : take l.emits.count (frames_leaving box) ≡ frames_leaving box = take_all l.emits.count (frames_leaving box) (ltb-false l.emits.count (length (frames_leaving box)) none.1) in
    l.emits.air ∙ ap (with_leaving old met members a) (came ∙ boxed)

-- the event of a step lost no frame
none_lost : (old new : WorldState) (event : WorldEvent) (answered : Answer) (step : IsStep old event new answered) → new.lost ≡ false → step.lost ≡ false
none_lost old new event answered step whole = (or_parts old.lost step.lost (sym step.lost_is ∙ whole)).1

pub happens_whole : (old new : WorldState) (event : WorldEvent) (bytes : List ℕ) (answered : Answer) (done : IsAnswered old event new answered) → new.lost ≡ false
    → Happens (stage old.members old.air) (stage new.members new.air) (by_in old.members old.stamps event) event bytes answered done.step.lost → HappensWhole old new event bytes answered
happens_whole old new event bytes answered done whole h = record {
  happened = done;
  before = h.before;
  after = h.after;
  frames = h.frames;
  was = h.turns.was;
  members = h.turns.members;
  does = h.does;
  air = all_leave old.air new.air (contact_at old.members (node_of event)) new.members (node_of event) h.frames done.step.lost h.turns.leaves (none_lost old new event answered done.step whole);
}

-- ---- a tick

pub tick_whole : (old new : WorldState) (node : ℕ) (answered : Answer) → IsAnswered old (Call node call.Tick) new answered → new.lost ≡ false → HappensWhole old new (Call node call.Tick) [] answered
tick_whole old new node answered done whole = happens_whole old new (Call node call.Tick) [] answered done whole done.step.becomes

-- ---- an arrival

-- why a frame that is there doesn't arrive
by_its_age : (w : WorldState) (node bearer place : ℕ) (f : Sent) → frame_for w.air node bearer place ≡ Some f
    → unarrived w.members w.air node bearer place ≡ (if nat_lt most_age (age_of w.members f node bearer) then Some (answer.TooOld (age_of w.members f node bearer)) else None)
unfolding unarrived
by_its_age w node bearer place f here = ap (stopped_by_age w.members node bearer) here

-- a world with the same parts
same_world : (old new : WorldState) → new.members ≡ old.members → new.air ≡ old.air → new.events ≡ old.events → new.stamps ≡ old.stamps → new.lost ≡ old.lost → new ≡ old
same_world old new members air events stamps lost = λ i. record { members = members i; air = air i; events = events i; stamps = stamps i; lost = lost i }

-- a frame that is too old changes nothing
nothing_arrives : (old new : WorldState) (node bearer place : ℕ) (answered why : Answer) → IsAnswered old (Arrive node bearer place) new answered → new.lost ≡ false
    → unarrived old.members old.air node bearer place ≡ Some why → new ≡ old
nothing_arrives old new node bearer place answered why done whole stops =
    let step = done.step in
    let same = (step.becomes.none why stops).1 in
    let uncounted : counts old (Arrive node bearer place) ≡ false = ap is_none stops in
    let clear = (or_parts old.lost step.lost (sym step.lost_is ∙ whole)).0 in
    same_world old new (ap (λ (s : Stage). s.members) same) (ap (λ (s : Stage). s.air) same)
    (step.events ∙ ap (λ t. if t then old.events + 1 else old.events) uncounted)
    (step.stamps ∙ ap (λ t. if t then old.stamps + 1 else old.stamps) uncounted) (whole ∙ sym clear)

-- a frame that is for a node and isn't too old has its effect there
pub arrival_whole : (old new : WorldState) (node bearer place : ℕ) (f : Sent) (answered : Answer) → frame_for old.air node bearer place ≡ Some f → IsAnswered old (Arrive node bearer place) new answered → new.lost ≡ false
    → nat_lt most_age (age_of old.members f node bearer) ≡ false → HappensWhole old new (Arrive node bearer place) f.frame answered
arrival_whole old new node bearer place f answered here done whole fresh =
    let free = by_its_age old node bearer place f here ∙ ap (λ t. if t then Some (answer.TooOld (age_of old.members f node bearer)) else None) fresh in
    let a = done.step.becomes.arrives free in
    let same : a.0 ≡ f = some_is a.0 f (sym a.1 ∙ here) in
    happens_whole old new (Arrive node bearer place) f.frame answered done whole
    (subst (λ (g : Sent). Happens (stage old.members old.air) (stage new.members new.air) (by_in old.members old.stamps (Arrive node bearer place)) (Arrive node bearer place) g.frame answered done.step.lost) same a.2)

-- ---- what a number comes to

-- a number of the ticks
pub tick_either : (number : ℕ) (old : WorldState) (made : Bool) (new : WorldState) → Takes tick_asked number old (Ok made) new → new.lost ≡ false
    → (new ≡ old) ⊎ ((answered : Answer) × HappensWhole old new (Call number call.Tick) [] answered)
tick_either number old made new h whole = by (is_there old number) h
  where
    by : (t : Bool) → Maybe (if t then Some (Call number call.Tick) else None) old (Ok made) new → (new ≡ old) ⊎ ((answered : Answer) × HappensWhole old new (Call number call.Tick) [] answered)
    by true h = inr (h.1.0, tick_whole old new number h.1.0 h.1.1.answered whole)
    by false h = inl h.1

pub tick_step : (from : Places) (number : ℕ) (old : WorldState) (made : Bool) (new : WorldState) → Takes tick_asked number old (Ok made) new → new.lost ≡ false → RoundStep from old new
tick_step from number old made new h whole = elim (tick_either number old made new h whole) [
  | inl same ↦ idles same
  | inr ticked ↦ one_ticks number ticked.0 ticked.1
]

-- nothing, or the arrival of the frame at this place of a bearer
abbrev pub ArrivesAt : Places → WorldState → WorldState → ℕ → ℕ → Type 0
ArrivesAt from old new bearer place = (new ≡ old) ⊎ ((a : FrameArrives from old new) × (a.bearer ≡ bearer) × (a.place ≡ place))

-- an arrival that happened
arrival_at : (from : Places) (node bearer place : ℕ) (old new : WorldState) (f : Sent) (answered : Answer) → bearer ≤ 1 → place_on bearer from ≤ place → frame_for old.air node bearer place ≡ Some f
    → IsAnswered old (Arrive node bearer place) new answered → new.lost ≡ false → ArrivesAt from old new bearer place
arrival_at from node bearer place old new f answered on_one behind here done whole = by (nat_lt most_age (age_of old.members f node bearer)) refl
  where
    age : ℕ
    age = age_of old.members f node bearer

    by : (t : Bool) → nat_lt most_age age ≡ t → ArrivesAt from old new bearer place
    by true old_one = inl (nothing_arrives old new node bearer place answered (answer.TooOld age) done whole
        (by_its_age old node bearer place f here ∙ ap (λ t. if t then Some (answer.TooOld age) else None) old_one))
    by false fresh = inr (
      record {
        node = node;
        bearer = bearer;
        place = place;
        frame = f;
        answered = answered;
        on_one = on_one;
        behind = behind;
        found = here;
        fresh = ltb-false most_age age fresh;
        arrives = arrival_whole old new node bearer place f answered here done whole fresh;
      },
      refl,
      refl,
    )

-- a number of the arrivals on a bearer
pub arrives_at : (from : Places) (bearer number : ℕ) (old : WorldState) (made : Bool) (new : WorldState) → bearer ≤ 1 → place_on bearer from ≤ number / numbers → Takes (arrival_asked Any bearer) number old (Ok made) new
    → new.lost ≡ false → ArrivesAt from old new bearer (number / numbers)
arrives_at from bearer number old made new on_one behind h whole = by (is_there old node && is_some (frame_for old.air node bearer place)) refl h
  where
    place : ℕ
    place = number / numbers

    node : ℕ
    node = number % numbers

    by : (t : Bool) → (is_there old node && is_some (frame_for old.air node bearer place)) ≡ t → Maybe (if t then Some (Arrive node bearer place) else None) old (Ok made) new → ArrivesAt from old new bearer place
    by false none h = inl h.1
    by true is h =
        let found = the_some (frame_for old.air node bearer place) (and_parts (is_there old node) (is_some (frame_for old.air node bearer place)) is).1 in
        arrival_at from node bearer place old new found.0 h.1.0 on_one behind found.1 h.1.1.answered whole

pub arrive_either : (from : Places) (bearer number : ℕ) (old : WorldState) (made : Bool) (new : WorldState) → bearer ≤ 1 → place_on bearer from ≤ number / numbers → Takes (arrival_asked Any bearer) number old (Ok made) new
    → new.lost ≡ false → (new ≡ old) ⊎ FrameArrives from old new
arrive_either from bearer number old made new on_one behind h whole = elim (arrives_at from bearer number old made new on_one behind h whole) [
  | inl same ↦ inl same
  | inr arrived ↦ inr arrived.0
]

pub arrive_step : (from : Places) (bearer number : ℕ) (old : WorldState) (made : Bool) (new : WorldState) → bearer ≤ 1 → place_on bearer from ≤ number / numbers → Takes (arrival_asked Any bearer) number old (Ok made) new
    → new.lost ≡ false → RoundStep from old new
arrive_step from bearer number old made new on_one behind h whole = elim (arrive_either from bearer number old made new on_one behind h whole) [
  | inl same ↦ idles same
  | inr arrived ↦ one_arrives arrived
]
