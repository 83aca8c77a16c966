use Rattle.std.proofs.Common.{◌+◌, ◌++◌, ◌∷◌, [], ap, refl, ◌∙◌, append_assoc, arith}
use Rattle.std.proofs.lemmas.List.Sums.{sum_by_push}
use Rattle.tipc_journal.specs.declared.entries.Entry.TheVariants.{Step, Answered}
use Rattle.tipc_journal.specs.Room.{JournalState, entry_bytes}
use Rattle.tipc_journal.proofs.StepRooms.{first_room, last_room, next_room}
use Rattle.tipc_node.proofs.steps.record_entry.Goals as goal

pub commit-requires-clause-room : goal.commit-requires-clause-room
commit-requires-clause-room c =
    let r = c.requires in
    let one = sum_by_push entry_bytes [] c.args.inside in
    let bytes = r.bytes in
    first_room c.args.journal.now.entries (c.args.inside ∷ []) (Step c.args.by c.args.event) (record { room = r.room; few = omega arith; bytes = omega (arith, one, bytes) }) refl

pub commit-requires-2-clause-room : goal.commit-requires-2-clause-room
commit-requires-2-clause-room c =
    let r = c.requires in
    let one = sum_by_push entry_bytes [] c.args.inside in
    let bytes = r.bytes in
    let now = c.commit.new.self.entries in
    next_room now [] c.args.journal.now.entries (Step c.args.by c.args.event) c.args.inside (c.args.inside ∷ []) (record { room = r.room; few = omega arith; bytes = omega (arith, one, bytes) }) refl
    (ap (λ (j : JournalState). j.entries ++ c.args.inside ∷ []) c.commit.ensures.value ∙ append_assoc c.args.journal.now.entries (Step c.args.by c.args.event ∷ []) (c.args.inside ∷ []))

pub commit-requires-3-clause-room : goal.commit-requires-3-clause-room
commit-requires-3-clause-room c =
    let r = c.requires in
    let one = sum_by_push entry_bytes [] c.args.inside in
    let bytes = r.bytes in
    let now = c.commit-2.new.self.entries in
    let first = ap (λ (j : JournalState). j.entries) c.commit.ensures.value in
    let second = ap (λ (j : JournalState). j.entries) c.commit-2.ensures.value in
    last_room now c.args.journal.now.entries (Step c.args.by c.args.event) (Answered c.args.by.caller c.args.by.call c.args.answer) (c.args.inside ∷ []) (record { room = r.room; few = omega arith; bytes = omega (arith, one, bytes) }) refl refl
    (ap (λ es. es ++ []) (second ∙ ap (λ es. es ++ c.args.inside ∷ []) first) ∙ search (append_assoc))
