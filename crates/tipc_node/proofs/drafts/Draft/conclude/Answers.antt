use Rattle.std.proofs.Common.{◌++◌, List, ap, length, sum_by, sym, subst, ◌∙◌, arith}
use Rattle.tipc_outside.specs.Frames.{Adds, made_behind, no_frames}
use Rattle.tipc_journal.specs.declared.entries.Entry.{Entry}
use Rattle.tipc_journal.specs.Room.{entry_bytes}
use Rattle.tipc_journal.specs.Steps.{step_entries}
use Rattle.tipc_node.specs.Drafts.{DraftState}
use Rattle.tipc_node.specs.Nodes.{step_of}
use Rattle.tipc_node.proofs.drafts.Draft.conclude.Goals as goal

pub record-requires-clause-few : goal.record-requires-clause-few
record-requires-clause-few c =
    let same = ap (λ v. length v.items) c.replace-inside.ensures.value ∙ ap (λ (z : DraftState). length z.work.inside) c.self.view_is in
    let few = c.requires.few in
    omega (arith, same, few)

pub record-requires-clause-spare : goal.record-requires-clause-spare
record-requires-clause-spare c =
    let same = ap (λ v. length v.items) c.replace-inside.ensures.value ∙ ap (λ (z : DraftState). length z.work.inside) c.self.view_is in
    let spare = c.requires.spare in
    omega (arith, same, spare)

pub record-requires-clause-bytes : goal.record-requires-clause-bytes
record-requires-clause-bytes c =
    let same = ap (λ v. sum_by entry_bytes v.items) c.replace-inside.ensures.value ∙ ap (λ (z : DraftState). sum_by entry_bytes z.work.inside) c.self.view_is in
    let bytes = c.requires.bytes in
    omega (arith, same, bytes)

pub returns-clause-journal : goal.returns-clause-journal
returns-clause-journal c =
    let same = ap (λ v. v.items) c.replace-inside.ensures.value ∙ ap (λ (z : DraftState). z.work.inside) c.self.view_is in
    c.record.ensures.journal ∙ ap (λ (es : List Entry). c.args.journal.now.entries ++ step_entries (step_of c.args.by c.args.note es c.args.answer)) same

pub returns-clause-frames : goal.returns-clause-frames
returns-clause-frames c = λ frames adds.
    c.append.ensures (made_behind frames) (subst (λ b. Adds no_frames b frames) (sym (c.replace.ensures.value ∙ ap (λ (z : DraftState). z.out) c.self.view_is)) adds)
