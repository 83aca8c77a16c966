use Rattle.std.proofs.Common.{◌≤◌, ◌-◌, ◌∙◌, ◌%◌, ◌^◌, ap, subst, refl, length}
use Rattle.tipc_types.specs.declared.message_forms.Flow.TheVariants.{Broadcast}
use Rattle.tipc_journal.specs.Room.{free_entries}
use Rattle.tipc_pair.specs.Messages.{OpensTo, opened_in}
use Rattle.tipc_pair.proofs.turns.Faults.{opens_sound}
use Rattle.tipc_node.specs.Nodes.{arrival_answer, deliveries_of}
use Rattle.tipc_node.proofs.work.Casts.{cast_prepared}
use Rattle.tipc_node.proofs.casts.prepare_cast.Goals as goal

pub prepare_deliveries-requires-clause-sound : goal.prepare_deliveries-requires-clause-sound
prepare_deliveries-requires-clause-sound c = opens_sound c.in_ok-casts.casts c.opened.new.casts c.outcome.result.now c.in_ok-given.given c.in_ok-given.ensures

pub returns-clause-prepared : goal.returns-clause-prepared
returns-clause-prepared c =
    let d = c.args.due.now in
    let x = c.args.neighbour.now in
    let given = c.in_ok-given.given in
    let opens = subst (λ o. OpensTo x.casts o given c.opened.new.casts) c.outcome.ensures
    (subst (λ begun. OpensTo begun c.outcome.result.now given c.opened.new.casts) c.in_ok-casts.ensures c.in_ok-given.ensures) in
    let deliveries = c.in_ok-deliveries.ensures ∙ ap (λ contact. deliveries_of Broadcast d.peer contact (opened_in given)) c.contact_numbers-contact.ensures in
    let answer = c.arrival_answer-answer.ensures ∙ ap (arrival_answer given) c.as_slice-2.ensures.value in
    let few = subst (λ ds. length ds ≤ free_entries - 4) c.as_slice.ensures.value (c.are_few.ensures.0 c.if-not-are_few.false) in
    cast_prepared c.args.broadcast.now x d _ (d.first % 2 ^ 32) (d.second % 2 ^ 32) given c.requires.at.5 refl refl c.in_ok-arriving.ensures.arriving opens deliveries answer few
