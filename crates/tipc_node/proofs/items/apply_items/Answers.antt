use Rattle.std.proofs.Common.{Option, fold, ap, sym, ◌∙◌}
use Rattle.std.specs.Prelude.{option_to_list}
use Rattle.tipc_journal.specs.declared.entries.Entry.{Entry}
use Rattle.tipc_sockets.specs.Telling.{after_entry}
use Rattle.tipc_sockets.proofs.Learning.{applying_next}
use Rattle.tipc_node.proofs.work.Delivering.{misfit_told}
use Rattle.tipc_node.proofs.work.Returning.{on_ok}
use Rattle.tipc_node.proofs.items.apply_items.Goals as goal

pub loop-place-preserved : goal.loop-place-preserved
loop-place-preserved c =
    let now = c.loop-place in
    let told = c.in_ok-entry.ensures in (
      applying_next c.args.from.word c.args.withdrawal c.args.items.now c.args.sockets.now now.sockets c.apply_item.new.sockets c.args.inside.now.items now.inside.items c.push.new.self.items now.place c.in-Some.entry
          now.invariant.0 c.loop-place-test.true (sym c.in-Some.is ∙ told.told) (told.after ∙ ap (λ (o : Option Entry). fold after_entry now.sockets (option_to_list o)) c.in-Some.is) c.in_ok-push.ensures.items,
      c.apply_item.ensures.own ∙ now.invariant.1,
    )

pub returns-in_default-clause-told : goal.returns-in_default-clause-told
returns-in_default-clause-told c =
    let now = c.loop-place in
    on_ok c.tell_misfit.result
    (λ told. misfit_told c.args.from.word c.args.withdrawal c.args.items.now c.args.sockets.now now.sockets c.args.inside.now.items now.inside.items c.tell_misfit.new.inside.items now.place now.invariant.0 c.loop-place-test.true
    (sym c.in_default.is ∙ c.in_ok-entry.ensures.told) told)
    c.tell_misfit.ensures.told

pub returns-in_default-clause-own : goal.returns-in_default-clause-own
returns-in_default-clause-own c = c.apply_item.ensures.own ∙ c.loop-place.invariant.1

pub returns-in_err-entry-clause-own : goal.returns-in_err-entry-clause-own
returns-in_err-entry-clause-own c = c.apply_item.ensures.own ∙ c.loop-place.invariant.1

pub returns-in_err-push-clause-own : goal.returns-in_err-push-clause-own
returns-in_err-push-clause-own c = c.apply_item.ensures.own ∙ c.loop-place.invariant.1
