-- A node between which and another one nothing goes down tells that one by an ACTIVATE that its end answers; and its links go up by what they hear.
use Rattle.std.specs.Prelude.{All}
use Rattle.std.proofs.Common.{◌≡◌, ◌∙◌, ℕ, List, Option, Some, None, inl, inr, map, refl, sym, ap, subst}
use Rattle.std.proofs.lemmas.List.Elements.{All-nil}
use Rattle.tipc_types.specs.declared.link_words.Why.{Why}
use Rattle.tipc_types.specs.declared.node_calls.Answer.TheVariants as answer
use Rattle.tipc_types.specs.declared.node_calls.EventNote.{EventNote}
use Rattle.tipc_types.specs.declared.node_calls.EventNote.TheVariants as event
use Rattle.tipc_outside.specs.declared.outgoing.Outgoing.{Outgoing}
use Rattle.tipc_pair.specs.Facing.{PairEnds, facing, is_up_at}
use Rattle.tipc_pair.specs.LinkReadings.{AreAbreast}
use Rattle.tipc_pair.specs.PairTurns.{MakesNew, Opening, PairTurn, Suits}
use Rattle.tipc_pair.specs.PairTurns.Opening.{cuts, hears, makes, mends, rests, ticks}
use Rattle.tipc_node.specs.Messages.{bytes_of}
use Rattle.tipc_node.specs.Nodes.{pair_with, step_of, stop_of}
use Rattle.tipc_node.specs.Turns.{IsBrought, frames_to}
use Rattle.tipc_node.proofs.pairs.Strangers.{kept_abreast}
use Rattle.tipc_settling.specs.Rises.{ArrivalsTellAnswer, EventsHearUps, EventsTellAnswer, HeardIn, HeardOn, ShowsAnswering}
use Rattle.tipc_settling.specs.Stillness.{Footing, IsStill, MayCome}
use Rattle.tipc_settling.proofs.AnswerTurns.{turns_tell_answer, ups_were_heard}
use Rattle.tipc_settling.proofs.Nodes.{may_come}

pub events_tell_answer : EventsTellAnswer
events_tell_answer v w own peer n n' bytes s frames b told turn seen same may h =
    let at = turn.turns b in
    let back = sym same in
    let messages = map (bytes_of n.own) at.messages in
    subst (All (ShowsAnswering peer (pair_with n' b))) (sym at.frames_are)
    (turns_tell_answer v w own peer at.opening messages at.reply (pair_with n' b) at.own_frames seen (subst AreAbreast back (kept_abreast n b told)) (subst (IsStill own peer) back h) at.on_one
    (subst (λ (x : PairEnds). MakesNew x at.opening) back at.anew)
    (subst (λ (x : PairEnds). MayCome peer x at.opening) back (may_come peer b (pair_with n b) s.event bytes at.opening may at.suits at.brought))
    (subst (λ (x : PairEnds). PairTurn x at.opening messages at.reply (pair_with n' b) at.own_frames) back at.turn))

pub arrivals_tell_answer : ArrivalsTellAnswer
arrivals_tell_answer v w own peer n n' by bearer number bytes frames answered b arrives turn seen same may still = at (stop_of n bearer bytes) refl
  where
    at : (o : Option Why) → stop_of n bearer bytes ≡ o → All (ShowsAnswering peer (pair_with n' b)) (frames_to b frames)
    at (Some reason) is = subst (λ (fs : List Outgoing). All (ShowsAnswering peer (pair_with n' b)) (frames_to b fs)) (sym (arrives.stopped reason is).1) (All-nil _)
    at None is = events_tell_answer v w own peer n n' bytes (step_of by (event.Arrive bearer number) turn.inside (answer.Arrived answered)) frames b turn.told_before turn.turn seen same (may is) still

-- ---- by what a link went up

-- what is heard at the pair was brought by the event
heard_in : (own : Footing) (b bearer : ℕ) (note : EventNote) (bytes : List ℕ) (opening : Opening) → Suits note opening → IsBrought b bytes opening → HeardOn own bearer opening → HeardIn own b bearer note bytes
heard_in own b bearer note bytes rests suits brought heard = absurd heard
heard_in own b bearer note bytes (makes on is_mended) suits brought heard = absurd heard
heard_in own b bearer note bytes (mends on) suits brought heard = absurd heard
heard_in own b bearer note bytes (cuts on) suits brought heard = absurd heard
heard_in own b bearer note bytes (ticks shown) suits brought heard = absurd heard
heard_in own b bearer note bytes (hears on es er p number shown) suits brought heard = record {
  number = number;
  arrives = suits ∙ ap (λ k. event.Arrive k number) heard.0;
  es = es;
  er = er;
  packet = p;
  from = brought.0;
  kind = brought.1;
  ours = heard.1;
  wakes = heard.2;
}

pub events_hear_ups : EventsHearUps
events_hear_ups v w own peer n n' bytes s frames b bearer told turn seen same may h two up =
    let at = turn.turns b in
    let back = sym same in
    let messages = map (bytes_of n.own) at.messages in
    elim (ups_were_heard v w own peer at.opening messages at.reply (pair_with n' b) at.own_frames bearer seen (subst AreAbreast back (kept_abreast n b told)) (subst (IsStill own peer) back h) at.on_one
    (subst (λ (x : PairEnds). MakesNew x at.opening) back at.anew)
    (subst (λ (x : PairEnds). MayCome peer x at.opening) back (may_come peer b (pair_with n b) s.event bytes at.opening may at.suits at.brought))
    (subst (λ (x : PairEnds). PairTurn x at.opening messages at.reply (pair_with n' b) at.own_frames) back at.turn) two up) [
      | inl was ↦ inl (ap (λ (x : PairEnds). is_up_at (facing bearer x).near) back ∙ was)
      | inr heard ↦ inr (heard_in own b bearer s.event bytes at.opening at.suits at.brought heard)
    ]
