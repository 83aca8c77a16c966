-- Every event leaves each two nodes paired.
use Rattle.std.proofs.Common.{◌≡◌, ◌<◌, ◌+◌, ◌^◌, ℕ, Bool, List, [], Option, Some, None, length, sym, ap, subst}
use Rattle.tipc_types.specs.declared.node_calls.Answer.{Answer}
use Rattle.tipc_types.specs.declared.node_calls.By.{By}
use Rattle.tipc_types.specs.declared.node_calls.Answer.TheVariants as answer
use Rattle.tipc_types.specs.declared.node_calls.EventNote.{EventNote}
use Rattle.tipc_types.specs.declared.node_calls.EventNote.TheVariants as note
use Rattle.tipc_outside.specs.declared.outgoing.Outgoing.{Outgoing}
use Rattle.tipc_journal.specs.Steps.{NodeStep}
use Rattle.tipc_node.specs.Nodes.{step_of}
use Rattle.tipc_node.specs.Sockets.{kept_answer}
use Rattle.tipc_node.specs.Calls.{Performs}
use Rattle.tipc_two_nodes.specs.Sights.{Comes}
use Rattle.tipc_replay.specs.declared.air.Sent.{Sent}
use Rattle.tipc_replay.specs.Skies.{AirState}
use Rattle.tipc_replay.specs.declared.events.WorldEvent.{WorldEvent}
use Rattle.tipc_replay.specs.declared.events.WorldEvent.TheVariants.{Restart, Call, Arrive}
use Rattle.tipc_replay.specs.Calls.{node_of}
use Rattle.tipc_replay.specs.Effects.{HasEffect, Makes, Meets}
use Rattle.tipc_replay.specs.Due.{frame_for, unarrived}
use Rattle.tipc_replay.specs.Sound.{IsSound}
use Rattle.tipc_replay.specs.States.{MemberState}
use Rattle.tipc_replay.specs.Steps.{Happens, Stage, Turns}
use Rattle.tipc_replay.proofs.pairs.Bringing.{are_brought}
use Rattle.tipc_replay.proofs.frames.Coming.{ComesOut, comes, nothing_out}
use Rattle.tipc_replay.proofs.pairs.PairedStarts.{restart_pairs}
use Rattle.tipc_replay.proofs.pairs.PairedTurns.{TakesTurn, turn_pairs}
use Rattle.tipc_replay.proofs.pairs.Turning.{AllPaired, sight_in}

-- ---- a call, and an arrival

-- the step of a call
abbrev pub made_step : (by : By) (call : EventNote) (m m' : MemberState) (frames : List Outgoing) (answered : Answer) → Makes by call m m' frames answered → NodeStep
made_step by call m m' frames answered h = step_of by call h.turn.inside (kept_answer answered)

pub made_turn : (by : By) (call : EventNote) (m m' : MemberState) (frames : List Outgoing) (answered : Answer) (h : Makes by call m m' frames answered) → TakesTurn m m' [] (made_step by call m m' frames answered h) frames
made_turn by call m m' frames answered h = record {
  turn = h.turn.turn;
  told = h.turn.told_before;
  past = ap (λ (n : MemberState). n.past) h.after;
  bearer = 0;
  on = λ k number is. absurd (subst (λ c. Performs m.node by c m'.node frames answered) is h.performs).choice;
  counts = ap (λ (n : MemberState). n.counts) h.after;
}

-- the step of an arrival
abbrev pub met_step : (by : By) (bearer place : ℕ) (bytes : List ℕ) (m m' : MemberState) (frames : List Outgoing) (answered : Answer) → Meets by bearer place bytes m m' frames answered → NodeStep
met_step by bearer place bytes m m' frames answered h = step_of by (note.Arrive bearer (length m.arrivals)) h.turn.inside (answer.Arrived h.arrived)

pub met_turn : (by : By) (bearer place : ℕ) (bytes : List ℕ) (m m' : MemberState) (frames : List Outgoing) (answered : Answer) (h : Meets by bearer place bytes m m' frames answered)
    → TakesTurn m m' bytes (met_step by bearer place bytes m m' frames answered h) frames
met_turn by bearer place bytes m m' frames answered h = record {
  turn = h.turn.turn;
  told = h.turn.told_before;
  past = ap (λ (n : MemberState). n.past) h.after;
  bearer = bearer;
  on = λ k number is. (let same : bearer ≡ k = cc in sym same);
  counts = ap (λ (n : MemberState). n.counts) h.after;
}

-- what arrives came out of the air
pub comes_out : (s : Stage) (a bearer place : ℕ) (f : Sent) → IsSound s.members s.air → frame_for s.air a bearer place ≡ Some f → unarrived s.members s.air a bearer place ≡ None → (number : ℕ) → ComesOut s a (note.Arrive bearer number) f.frame
comes_out s a bearer place f sound there free number k i b es er p is from link =
    let same : bearer ≡ k = cc in subst (λ j. Comes (sight_in s a b) (sight_in s b a) j es er p) same (comes s a bearer place f b es er p sound there free from link)

taken_pairs : (old new : Stage) (a : ℕ) (m m' : MemberState) (bytes : List ℕ) (s : NodeStep) (frames : List Outgoing) (lost : Bool) → IsSound old.members old.air → Turns old new a m m' frames lost
    → TakesTurn m m' bytes s frames → ComesOut old a s.event bytes → AllPaired new
taken_pairs old new a m m' bytes s frames lost sound t turn out =
    turn_pairs old new a m m' bytes s frames lost sound t turn out (are_brought old a m m' bytes s frames sound t.was turn.turn out)

-- ---- all events

-- What an event needs besides. A restart begins a boot whose number has 32 bits. The bytes that arrive are those of the frame, which isn't too
-- old.
abbrev pub IsReady : List (Option MemberState) → AirState → WorldEvent → List ℕ → MemberState → Type 0
IsReady members air (Restart node) bytes m = m.node.boot + 1 < 2 ^ 32
IsReady members air (Call node call) bytes m = Unit {0}
IsReady members air (Arrive node bearer place) bytes m = (f : Sent) × (frame_for air node bearer place ≡ Some f) × (unarrived members air node bearer place ≡ None) × (bytes ≡ f.frame)

pub ready_out : (s : Stage) (a bearer place : ℕ) (bytes : List ℕ) (m : MemberState) → IsSound s.members s.air → IsReady s.members s.air (Arrive a bearer place) bytes m → (number : ℕ) → ComesOut s a (note.Arrive bearer number) bytes
ready_out s a bearer place bytes m sound ready number = subst (ComesOut s a (note.Arrive bearer number)) (sym ready.3) (comes_out s a bearer place ready.0 sound ready.1 ready.2 number)

pub does_pair : (old new : Stage) (by : By) (event : WorldEvent) (bytes : List ℕ) (before after : MemberState) (frames : List Outgoing) (answered : Answer) (lost : Bool) → IsSound old.members old.air
    → Turns old new (node_of event) before after frames lost → IsReady old.members old.air event bytes before → HasEffect by event bytes before after frames answered → AllPaired new
does_pair old new by (Restart a) bytes before after frames answered lost sound t ready h = restart_pairs old new a before after frames lost sound.pairs t h.0 h.1 ready
does_pair old new by (Call a call) bytes before after frames answered lost sound t ready h =
    taken_pairs old new a before after [] (made_step by call before after frames answered h) frames lost sound t (made_turn by call before after frames answered h) (nothing_out old a call)
does_pair old new by (Arrive a bearer place) bytes before after frames answered lost sound t ready h =
    taken_pairs old new a before after bytes (met_step by bearer place bytes before after frames answered h) frames lost sound t (met_turn by bearer place bytes before after frames answered h)
    (ready_out old a bearer place bytes before sound ready (length before.arrivals))

-- after every event each two nodes are paired
pub happens_pairs : (old new : Stage) (by : By) (event : WorldEvent) (bytes : List ℕ) (answered : Answer) (lost : Bool) → IsSound old.members old.air → (h : Happens old new by event bytes answered lost)
    → IsReady old.members old.air event bytes h.before → AllPaired new
happens_pairs old new by event bytes answered lost sound h ready = does_pair old new by event bytes h.before h.after h.frames answered lost sound h.turns ready h.does
