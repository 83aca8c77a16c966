-- Every event keeps the calls of all nodes in order, whatever the chooser gives.
use Rattle.std.proofs.Common.{◌≡◌, ◌+◌, ℕ, Bool, true, List, [], Option, Some, None, if◌then◌else◌, slice_index_or, slice_set, refl, sym, ap, subst, ◌∙◌}
use Rattle.std.specs.Prelude.{is_none, is_some}
use Rattle.tipc_types.specs.declared.identity.Addr.{Addr}
use Rattle.tipc_types.specs.declared.node_calls.Answer.{Answer}
use Rattle.tipc_types.specs.declared.node_calls.Answer.TheVariants as answer
use Rattle.tipc_types.specs.declared.node_calls.EventNote.{EventNote}
use Rattle.tipc_types.specs.declared.node_calls.EventNote.TheVariants as note
use Rattle.tipc_outside.specs.declared.outgoing.Outgoing.{Outgoing}
use Rattle.tipc_pick.specs.Choosing.{Choosing}
use Rattle.tipc_journal.specs.declared.entries.Entry.{Entry}
use Rattle.tipc_journal.specs.Counting.{is_sent_by_name}
use Rattle.tipc_journal.specs.Licensed.{IsPicked}
use Rattle.tipc_node.specs.Calls.{CallTurn}
use Rattle.tipc_node.specs.Nodes.{step_of}
use Rattle.tipc_node.specs.Sockets.{kept_answer}
use Rattle.tipc_node.specs.Works.{addr_of_word}
use Rattle.tipc_replay.specs.declared.events.WorldEvent.{WorldEvent}
use Rattle.tipc_replay.specs.declared.events.WorldEvent.TheVariants.{Restart, Call, Arrive}
use Rattle.tipc_world.specs.Answered.{AreOrderly}
use Rattle.tipc_replay.specs.Calls.{is_call_at, is_recorded, node_of, CanHappenAt}
use Rattle.tipc_replay.specs.Choices.{Chooses, ChoosesAt, after_choice}
use Rattle.tipc_replay.specs.Effects.{HasEffect, Makes, Meets}
use Rattle.tipc_replay.specs.Due.{unarrived}
use Rattle.tipc_world.specs.Steps.{by_in}
use Rattle.tipc_replay.specs.Sound.{IsNumber}
use Rattle.tipc_replay.specs.States.{MemberState, ReplayState}
use Rattle.tipc_replay.specs.Steps.{stage, Becomes, Happens, IsArrival, Stage}
use Rattle.tipc_world.proofs.Advancing.{by_is, next_by, step_of as world_step, world_of, Counts, HaveNumbers, Steps}
use Rattle.tipc_replay.proofs.calls.Calls.{the_some}
use Rattle.tipc_replay.proofs.pairs.PairedEvents.{made_step, met_step}
use Rattle.tipc_world.proofs.calls.Quiet.{restart_orderly}
use Rattle.tipc_world.proofs.calls.Recording.{Records, recorded_orderly}

-- ---- what the journal keeps of an answer

-- of a message that was given it keeps only that one was, which is no send
kept_picked : (gives : ℕ → ℕ → ℕ → Type 0) (turn : ℕ) (own : Addr) (journal : List Entry) (call : EventNote) (answered : Answer) → IsPicked gives turn own journal call answered → IsPicked gives turn own journal call (kept_answer answered)
kept_picked gives turn own journal (note.SendName port kind instance importance body) (answer.Received message) h = tt
kept_picked gives turn own journal (note.SendName port kind instance importance body) other h = h
kept_picked gives turn own journal other answered h = tt

kept_named : (call : EventNote) (answered : Answer) → is_sent_by_name call (kept_answer answered) ≡ is_sent_by_name call answered
kept_named (note.SendName port kind instance importance body) (answer.Received message) = refl
kept_named (note.SendName port kind instance importance body) other = refl
kept_named other answered = refl

-- ---- a call, and an arrival

-- a node recorded a call
records : (a recorded : ℕ) (m m' : MemberState) (event : EventNote) (bytes : List ℕ) (kept : Answer) (frames : List Outgoing) → IsNumber a → m'.past ≡ m.past → m'.calls ≡ m.calls + 1
    → (h : CallTurn m.node m'.node (next_by recorded m) event bytes kept frames) → Records a recorded m m' (step_of (next_by recorded m) event h.inside kept)
records a recorded m m' event bytes kept frames number past calls h =
    record {
      from_one = number.0;
      to_32 = number.1;
      past = past;
      journal = h.turn.journal;
      calls = calls;
      whole = h.told_before.whole;
      inside = h.turn.inside;
      stamp = refl;
      caller = refl;
      call = refl;
    }

made_orderly : {P : Type 0} (gives : P → ℕ → ℕ → ℕ → Type 0) (members : List (Option MemberState)) (a recorded : ℕ) (call : EventNote) (m m' : MemberState) (frames : List Outgoing) (answered : Answer) (chooser chooser' : Choosing P)
    → HaveNumbers members → slice_index_or members a None ≡ Some m → Makes (next_by recorded m) call m m' frames answered → Chooses gives m (Call a call) answered chooser chooser' → AreOrderly gives members recorded chooser
    → AreOrderly gives (slice_set members a (Some m')) (recorded + 1) chooser'
made_orderly gives members a recorded call m m' frames answered chooser chooser' numbers was h c orderly =
    let number = numbers a m was in
    let kept = records a recorded m m' call [] (kept_answer answered) frames number.0 (ap (λ (x : MemberState). x.past) h.after) (ap (λ (x : MemberState). x.calls) h.after) h.turn in
    recorded_orderly gives members a recorded m m' (made_step (next_by recorded m) call m m' frames answered h) chooser chooser' was kept
    (λ turn at. kept_picked (gives chooser.pick) turn _ m.node.journal call answered (subst (λ w. IsPicked (gives chooser.pick) turn (addr_of_word w) m.node.journal call answered) number.1 (c.picked turn at)))
    (c.turns ∙ ap (after_choice chooser) (sym (kept_named call answered))) orderly

met_orderly : {P : Type 0} (gives : P → ℕ → ℕ → ℕ → Type 0) (members : List (Option MemberState)) (a recorded bearer place : ℕ) (bytes : List ℕ) (m m' : MemberState) (frames : List Outgoing) (answered : Answer)
    (chooser chooser' : Choosing P) → HaveNumbers members → slice_index_or members a None ≡ Some m → Meets (next_by recorded m) bearer place bytes m m' frames answered → Chooses gives m (Arrive a bearer place) answered chooser chooser'
    → AreOrderly gives members recorded chooser → AreOrderly gives (slice_set members a (Some m')) (recorded + 1) chooser'
met_orderly gives members a recorded bearer place bytes m m' frames answered chooser chooser' numbers was h c orderly =
    let number = numbers a m was in
    let kept = records a recorded m m' _ bytes (answer.Arrived h.arrived) frames number.0 (ap (λ (x : MemberState). x.past) h.after) (ap (λ (x : MemberState). x.calls) h.after) h.turn in
    recorded_orderly gives members a recorded m m' (met_step (next_by recorded m) bearer place bytes m m' frames answered h) chooser chooser' was kept (λ turn at. tt) c.turns orderly

-- ---- all events

does_orderly : {P : Type 0} (gives : P → ℕ → ℕ → ℕ → Type 0) (members : List (Option MemberState)) (recorded : ℕ) (event : WorldEvent) (bytes : List ℕ) (m m' : MemberState) (frames : List Outgoing) (answered : Answer)
    (chooser chooser' : Choosing P) → HaveNumbers members → slice_index_or members (node_of event) None ≡ Some m → HasEffect (next_by recorded m) event bytes m m' frames answered → Chooses gives m event answered chooser chooser'
    → AreOrderly gives members recorded chooser → AreOrderly gives (slice_set members (node_of event) (Some m')) (if is_recorded event then recorded + 1 else recorded) chooser'
does_orderly gives members recorded (Restart a) bytes m m' frames answered chooser chooser' numbers was h c orderly =
    subst (AreOrderly gives (slice_set members a (Some m')) recorded) (sym c.turns) (restart_orderly gives members recorded a chooser m m' was h.0 orderly)
does_orderly gives members recorded (Call a call) bytes m m' frames answered chooser chooser' numbers was h c orderly = made_orderly gives members a recorded call m m' frames answered chooser chooser' numbers was h c orderly
does_orderly gives members recorded (Arrive a bearer place) bytes m m' frames answered chooser chooser' numbers was h c orderly =
    met_orderly gives members a recorded bearer place bytes m m' frames answered chooser chooser' numbers was h c orderly

happens_orderly : {P : Type 0} (gives : P → ℕ → ℕ → ℕ → Type 0) (old new : Stage) (recorded : ℕ) (event : WorldEvent) (bytes : List ℕ) (answered : Answer) (lost : Bool) (chooser chooser' : Choosing P) → HaveNumbers old.members
    → Happens old new (by_in old.members recorded event) event bytes answered lost → ChoosesAt gives old.members event answered chooser chooser' → AreOrderly gives old.members recorded chooser
    → AreOrderly gives new.members (if is_recorded event then recorded + 1 else recorded) chooser'
happens_orderly gives old new recorded event bytes answered lost chooser chooser' numbers h c orderly =
    subst (λ ms. AreOrderly gives ms (if is_recorded event then recorded + 1 else recorded) chooser') (sym h.turns.members)
    (does_orderly gives old.members recorded event bytes h.before h.after h.frames answered chooser chooser' numbers h.turns.was
    (subst (λ by. HasEffect by event bytes h.before h.after h.frames answered) (by_is old.members recorded event h.before h.turns.was) h.does) (c h.before h.turns.was) orderly)

-- a frame arrives, or none does and the chooser stays
arrival_orderly : {P : Type 0} (gives : P → ℕ → ℕ → ℕ → Type 0) (old new : Stage) (recorded node bearer place : ℕ) (answered : Answer) (lost : Bool) (chooser chooser' : Choosing P) (why : Option Answer)
    → unarrived old.members old.air node bearer place ≡ why → is_some (slice_index_or old.members node None) ≡ true → HaveNumbers old.members → IsArrival old new (by_in old.members recorded (Arrive node bearer place)) node bearer place answered lost
    → ChoosesAt gives old.members (Arrive node bearer place) answered chooser chooser' → AreOrderly gives old.members recorded chooser → AreOrderly gives new.members (if is_none why then recorded + 1 else recorded) chooser'
arrival_orderly gives old new recorded node bearer place answered lost chooser chooser' None free there numbers h c orderly =
    let a = h.arrives free in
    happens_orderly gives old new recorded (Arrive node bearer place) a.0.frame answered lost chooser chooser' numbers a.2 c orderly
arrival_orderly gives old new recorded node bearer place answered lost chooser chooser' (Some why) stops there numbers h c orderly =
    let m = the_some (slice_index_or old.members node None) there in
    subst (AreOrderly gives new.members recorded) (sym (c m.0 m.1).turns) (subst (λ (s : Stage). AreOrderly gives s.members recorded chooser) (sym (h.none why stops).1) orderly)

becomes_orderly : {P : Type 0} (gives : P → ℕ → ℕ → ℕ → Type 0) (old new : Stage) (recorded : ℕ) (event : WorldEvent) (answered : Answer) (lost : Bool) (chooser chooser' : Choosing P) → CanHappenAt old.members event
    → HaveNumbers old.members → Becomes old (by_in old.members recorded event) event new answered lost → ChoosesAt gives old.members event answered chooser chooser' → AreOrderly gives old.members recorded chooser
    → AreOrderly gives new.members (if is_call_at old.members old.air event then recorded + 1 else recorded) chooser'
becomes_orderly gives old new recorded (Restart node) answered lost chooser chooser' can numbers h c orderly = happens_orderly gives old new recorded (Restart node) [] answered lost chooser chooser' numbers h c orderly
becomes_orderly gives old new recorded (Call node call) answered lost chooser chooser' can numbers h c orderly = happens_orderly gives old new recorded (Call node call) [] answered lost chooser chooser' numbers h c orderly
becomes_orderly gives old new recorded (Arrive node bearer place) answered lost chooser chooser' can numbers h c orderly =
    arrival_orderly gives old new recorded node bearer place answered lost chooser chooser' (unarrived old.members old.air node bearer place) refl can.0 numbers h c orderly

-- after an event of a world
pub orderly_after : {P : Type 0} (gives : P → ℕ → ℕ → ℕ → Type 0) (r r' : ReplayState) (event : WorldEvent) (events stamps events' stamps' : ℕ) (counted : Bool) (answered : Answer) (chooser chooser' : Choosing P)
    → CanHappenAt r.members event → HaveNumbers r.members → Steps r r' stamps event answered → Counts (world_of r events stamps) event counted events' stamps'
    → ChoosesAt gives r.members event answered chooser chooser' → AreOrderly gives r.members stamps chooser → AreOrderly gives r'.members stamps' chooser'
orderly_after gives r r' event events stamps events' stamps' counted answered chooser chooser' can numbers step counts c orderly =
    let now = world_step r r' event events stamps events' stamps' counted answered step counts in
    subst (λ n. AreOrderly gives r'.members n chooser') (sym now.stamps)
    (becomes_orderly gives (stage r.members r.air) (stage r'.members r'.air) stamps event answered step.lost chooser chooser' can numbers step.becomes c orderly)
