-- A frame that arrives at a node, be it stopped or not, leaves its pairs still.
use Rattle.std.specs.Prelude.{All, count_by}
use Rattle.std.proofs.Common.{◌≡◌, ◌∙◌, ℕ, true, List, [], Option, Some, None, append-nil, filter, length, refl, sym, ap, subst}
use Rattle.std.proofs.lemmas.List.Elements.{All-nil, filter-append}
use Rattle.std.proofs.lemmas.List.Sums.{length-filter}
use Rattle.tipc_types.specs.declared.link_words.Why.{Why}
use Rattle.tipc_types.specs.declared.node_calls.Answer.TheVariants as answer
use Rattle.tipc_types.specs.declared.node_calls.Arrival.TheVariants as arrival
use Rattle.tipc_types.specs.declared.node_calls.By.{By}
use Rattle.tipc_types.specs.declared.node_calls.EventNote.TheVariants as event
use Rattle.tipc_outside.specs.declared.outgoing.Outgoing.{Outgoing}
use Rattle.tipc_header.specs.Frames.{is_of_link}
use Rattle.tipc_journal.specs.declared.entries.Entry.{Entry}
use Rattle.tipc_journal.specs.Steps.{step_entries}
use Rattle.tipc_paired.specs.Views.{es_of}
use Rattle.tipc_node.specs.Nodes.{NodeState, is_change, pair_with, step_of, stop_of, stopped_node}
use Rattle.tipc_node.specs.Turns.{frames_to}
use Rattle.tipc_settling.specs.Events.{ArrivalsAreCalm, ArrivalsSendUnderPresent, ArrivalsStayStill}
use Rattle.tipc_settling.specs.Stillness.{IsStill}
use Rattle.tipc_settling.proofs.Nodes.{events_are_calm, events_send_under_present, events_still}

-- a node at which a frame was stopped has the pairs that it had
stopped_pair : (n n' : NodeState) (by : By) (bearer number : ℕ) (reason : Why) (b : ℕ) → n' ≡ stopped_node n by bearer number reason → pair_with n' b ≡ pair_with n b
stopped_pair n n' by bearer number reason b is = ap (λ (m : NodeState). pair_with m b) is

-- and tells of no link
stopped_calm : (n n' : NodeState) (by : By) (bearer number : ℕ) (reason : Why) → n' ≡ stopped_node n by bearer number reason → length (filter is_change n'.journal) ≡ length (filter is_change n.journal)
stopped_calm n n' by bearer number reason is =
    let more = step_entries (step_of by (event.Arrive bearer number) [] (answer.Arrived (arrival.Ignored reason))) in
    ap (λ (m : NodeState). length (filter is_change m.journal)) is
    ∙ ap (λ (es : List Entry). length es) (filter-append is_change n.journal more ∙ append-nil (filter is_change n.journal))

pub arrivals_stay_still : ArrivalsStayStill
arrivals_stay_still own peer n n' by bearer number bytes frames answered b arrives turn may still = at (stop_of n bearer bytes) refl
  where
    at : (o : Option Why) → stop_of n bearer bytes ≡ o → IsStill own peer (pair_with n' b)
    at (Some reason) is = subst (IsStill own peer) (sym (stopped_pair n n' by bearer number reason b (arrives.stopped reason is).0)) still
    at None is = events_still own peer n n' bytes (step_of by (event.Arrive bearer number) turn.inside (answer.Arrived answered)) frames b turn.told_before turn.turn (may is) still

pub arrivals_are_calm : ArrivalsAreCalm
arrivals_are_calm own peer n n' by bearer number bytes frames answered arrives turn still may up = at (stop_of n bearer bytes) refl
  where
    at : (o : Option Why) → stop_of n bearer bytes ≡ o → count_by is_change n'.journal ≡ count_by is_change n.journal
    at (Some reason) is = sym (length-filter is_change n'.journal) ∙ stopped_calm n n' by bearer number reason (arrives.stopped reason is).0 ∙ length-filter is_change n.journal
    at None is = events_are_calm own peer n n' bytes (step_of by (event.Arrive bearer number) turn.inside (answer.Arrived answered)) frames turn.told_before turn.turn still (may is) (up is)

pub arrivals_send_under_present : ArrivalsSendUnderPresent
arrivals_send_under_present v w own peer n n' by bearer number bytes frames answered b arrives turn seen same may still = at (stop_of n bearer bytes) refl
  where
    at : (o : Option Why) → stop_of n bearer bytes ≡ o → All (λ (o : Outgoing). is_of_link o.frame ≡ true → es_of o.frame ≡ own.epoch o.bearer) (frames_to b frames)
    at (Some reason) is = subst (λ (fs : List Outgoing). All (λ (o : Outgoing). is_of_link o.frame ≡ true → es_of o.frame ≡ own.epoch o.bearer) (frames_to b fs)) (sym (arrives.stopped reason is).1) (All-nil _)
    at None is = events_send_under_present v w own peer n n' bytes (step_of by (event.Arrive bearer number) turn.inside (answer.Arrived answered)) frames b turn.told_before turn.turn seen same (may is) still
