use Rattle.std.proofs.Common.{◌≤◌, ◌*◌, List, length, sym, ap, ◌∙◌, subst, sum_by}
use Rattle.std.specs.List.{All}
use Rattle.std.proofs.lemmas.List.{take_all}
use Rattle.tipc_message.specs.Wire.{IsCarried}
use Rattle.tipc_journal.specs.Room.{counted_bytes}
use Rattle.tipc_types.specs.declared.message_forms.Message.{Message}
use Rattle.tipc_name_dist.specs.Items.{tellings}
use Rattle.tipc_node.proofs.work.Tellings.{tellings_carried, tellings_few, tellings_light}
use Rattle.tipc_node.proofs.tellings.tellings.Goals as goal

pub returns-clause-carried : goal.returns-clause-carried
returns-clause-carried c =
    let ps = c.args.publications.now in
    let all = c.loop-p.invariant ∙ ap (tellings c.args.withdrawal) (take_all c.loop-p.p-index ps c.loop-p-test.false) in
    subst (All IsCarried) (sym all) (tellings_carried c.args.withdrawal ps)

pub returns-clause-few : goal.returns-clause-few
returns-clause-few c =
    let ps = c.args.publications.now in
    let all = c.loop-p.invariant ∙ ap (tellings c.args.withdrawal) (take_all c.loop-p.p-index ps c.loop-p-test.false) in
    subst (λ (ms : List Message). length ms ≤ length ps) (sym all) (tellings_few c.args.withdrawal ps)

pub returns-clause-light : goal.returns-clause-light
returns-clause-light c =
    let ps = c.args.publications.now in
    let all = c.loop-p.invariant ∙ ap (tellings c.args.withdrawal) (take_all c.loop-p.p-index ps c.loop-p-test.false) in
    subst (λ (ms : List Message). sum_by counted_bytes ms ≤ 20 * length ps) (sym all) (tellings_light c.args.withdrawal ps)
