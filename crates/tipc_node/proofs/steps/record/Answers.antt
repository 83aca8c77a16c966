use Rattle.std.proofs.Common.{◌≡◌, [], ◌++◌, refl, sym, ap, ◌∙◌, rules}
use Rattle.tipc_journal.specs.declared.entries.Entry.TheVariants.{Step, Answered}
use Rattle.tipc_journal.proofs.StepRooms.{first_room, last_room, next_room}
use Rattle.tipc_node.proofs.steps.record.Goals as goal

pub commit-requires-clause-room : goal.commit-requires-clause-room
commit-requires-clause-room c =
    let r = c.requires in
    first_room c.args.journal.now.entries c.args.inside.items (Step c.args.by c.args.event) (record { room = r.room; few = r.few; bytes = r.bytes }) refl

pub commit-requires-in-Some-clause-room : goal.commit-requires-in-Some-clause-room
commit-requires-in-Some-clause-room c =
    let r = c.requires in
    let now = c.loop-entry.journal.entries in
    next_room now c.pop_front.new.self.items c.args.journal.now.entries (Step c.args.by c.args.event) c.in-Some.entry c.args.inside.items (record { room = r.room; few = r.few; bytes = r.bytes }) refl
    (ap (λ es. now ++ es) (sym c.in-Some.ensures.items) ∙ c.loop-entry.invariant.0)

pub commit-requires-2-clause-room : goal.commit-requires-2-clause-room
commit-requires-2-clause-room c =
    let r = c.requires in
    let now = c.loop-entry.journal.entries in
    let empty : c.loop-entry.waiting.items ≡ [] = search rules in
    last_room now c.args.journal.now.entries (Step c.args.by c.args.event) (Answered c.args.by.caller c.args.by.call c.args.answer) c.args.inside.items (record { room = r.room; few = r.few; bytes = r.bytes }) refl refl
    (ap (λ es. now ++ es) (sym empty) ∙ c.loop-entry.invariant.0)
