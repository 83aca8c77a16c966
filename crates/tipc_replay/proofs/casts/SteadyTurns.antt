-- A turn of a node in a world in which every node is a caster, and every other one its member: what is known of the world before it.
use Rattle.std.proofs.Common.{◌≡◌, ℕ, Bool, List, [], Some, None, ap, subst, sym}
use Rattle.tipc_types.specs.declared.node_calls.Answer.{Answer}
use Rattle.tipc_types.specs.declared.node_calls.By.{By}
use Rattle.tipc_types.specs.declared.node_calls.EventNote.{EventNote}
use Rattle.tipc_types.specs.declared.node_calls.EventNote.TheVariants as event
use Rattle.tipc_outside.specs.declared.outgoing.Outgoing.{Outgoing}
use Rattle.tipc_send_window.specs.Sending.{IsSending}
use Rattle.tipc_journal.specs.Steps.{NodeStep}
use Rattle.tipc_node.specs.Calls.{Performs}
use Rattle.tipc_node.specs.Telling.{IsTold}
use Rattle.tipc_replay.specs.declared.air.Sent.{Sent}
use Rattle.tipc_replay.specs.declared.events.WorldEvent.TheVariants.{Arrive}
use Rattle.tipc_replay.specs.Aged.{AreAged}
use Rattle.tipc_replay.specs.Due.{frame_for, unarrived}
use Rattle.tipc_replay.specs.Effects.{Makes, Meets}
use Rattle.tipc_replay.specs.Met.{AreMet}
use Rattle.tipc_replay.specs.Plain.{AllPlain}
use Rattle.tipc_replay.specs.Sound.{IsSound}
use Rattle.tipc_replay.specs.States.{MemberState}
use Rattle.tipc_replay.specs.Steps.{Stage, Turns}
use Rattle.tipc_replay.proofs.frames.Coming.{ComesOut}
use Rattle.tipc_replay.proofs.pairs.PairedEvents.{IsReady, comes_out, made_step, made_turn, met_step, met_turn}
use Rattle.tipc_replay.proofs.pairs.PairedTurns.{TakesTurn}

-- the frame that arrives in a step at node n stands in the air, is for that node, and isn't too old
abbrev pub CameOut : Stage → ℕ → EventNote → List ℕ → Type 0
CameOut s n note bytes = (bearer number : ℕ) → note ≡ event.Arrive bearer number
    → (place : ℕ) × (f : Sent) × (frame_for s.air n bearer place ≡ Some f) × (unarrived s.members s.air n bearer place ≡ None) × (bytes ≡ f.frame)

-- so it came out of the air
pub came_comes : (s : Stage) (n : ℕ) (note : EventNote) (bytes : List ℕ) → IsSound s.members s.air → CameOut s n note bytes → ComesOut s n note bytes
came_comes s n note bytes sound came bearer number b es er p is =
    let c = came bearer number is in
    subst (λ (e : EventNote). ComesOut s n e bytes) (sym is) (subst (ComesOut s n (event.Arrive bearer number)) (sym c.4) (comes_out s n bearer c.0 c.1 sound c.2 c.3 number)) bearer number b es er p is

-- node n took a turn
pub record SteadyTurn (old new : Stage) (n : ℕ) (m m' : MemberState) (bytes : List ℕ) (s : NodeStep) (frames : List Outgoing) (lost : Bool) : Type 0 where
  pub sound : IsSound old.members old.air
  pub met : AreMet old.members old.air
  pub plain : AllPlain old.members
  pub aged : AreAged old.members old.air
  pub turns : Turns old new n m m' frames lost
  pub turn : TakesTurn m m' bytes s frames
  pub came : CameOut old n s.event bytes
  pub told_then : IsTold m'.node
  pub counted : m'.casts ≡ m.casts
  pub sending : IsSending m'.node.casting.sending

-- in a call, in which nothing arrives
pub of_call : (old new : Stage) (by : By) (n : ℕ) (call : EventNote) (m m' : MemberState) (frames : List Outgoing) (answered : Answer) (lost : Bool) → IsSound old.members old.air → AreMet old.members old.air → AllPlain old.members
    → AreAged old.members old.air → Turns old new n m m' frames lost → (h : Makes by call m m' frames answered) → SteadyTurn old new n m m' [] (made_step by call m m' frames answered h) frames lost
of_call old new by n call m m' frames answered lost sound met plain aged t h = record {
  sound = sound;
  met = met;
  plain = plain;
  aged = aged;
  turns = t;
  turn = made_turn by call m m' frames answered h;
  came = λ bearer number is. absurd (subst (λ c. Performs m.node by c m'.node frames answered) is h.performs).choice;
  told_then = h.turn.told;
  counted = ap (λ (x : MemberState). x.casts) h.after;
  sending = h.turn.sending;
}

-- and in an arrival
pub of_arrival : (old new : Stage) (by : By) (n bearer place : ℕ) (bytes : List ℕ) (m m' : MemberState) (frames : List Outgoing) (answered : Answer) (lost : Bool) → IsSound old.members old.air → AreMet old.members old.air
    → AllPlain old.members → AreAged old.members old.air → Turns old new n m m' frames lost → IsReady old.members old.air (Arrive n bearer place) bytes m → (h : Meets by bearer place bytes m m' frames answered)
    → SteadyTurn old new n m m' bytes (met_step by bearer place bytes m m' frames answered h) frames lost
of_arrival old new by n bearer place bytes m m' frames answered lost sound met plain aged t ready h = record {
  sound = sound;
  met = met;
  plain = plain;
  aged = aged;
  turns = t;
  turn = met_turn by bearer place bytes m m' frames answered h;
  came = λ k number is.
      let same : bearer ≡ k = cc in
      subst (λ j. (spot : ℕ) × (f : Sent) × (frame_for old.air n j spot ≡ Some f) × (unarrived old.members old.air n j spot ≡ None) × (bytes ≡ f.frame)) same (place, ready.0, ready.1, ready.2, ready.3);
  told_then = h.turn.told;
  counted = ap (λ (x : MemberState). x.casts) h.after;
  sending = h.turn.sending;
}
