use Rattle.std.proofs.Common.{◌∷◌, [], ap, length, length-append, refl, arith}
use Rattle.tipc_journal.specs.declared.entries.Entry.TheVariants.{Step, Answered}
use Rattle.tipc_journal.specs.Room.{JournalState, message_bytes}
use Rattle.tipc_journal.proofs.StepRooms.{short_room}
use Rattle.tipc_node.proofs.steps.record_one.Goals as goal

pub commit-requires-clause-room : goal.commit-requires-clause-room
commit-requires-clause-room c =
    let same = ap (λ (j : JournalState). j.entries) c.release.ensures in
    let long = ap length same in
    short_room c.args.journal.now.entries c.release.new.self.entries (Step c.args.by c.args.event) 0 c.requires.room (omega arith) (omega (arith, long)) (ap message_bytes same) refl

pub commit-requires-2-clause-room : goal.commit-requires-2-clause-room
commit-requires-2-clause-room c =
    let same = ap (λ (j : JournalState). j.entries) c.release.ensures in
    let long = ap length same in
    let first = ap (λ (j : JournalState). length j.entries) c.commit.ensures.value in
    let one = length-append c.release.new.self.entries ((Step c.args.by c.args.event) ∷ []) in
    let before = c.commit.ensures.bytes in
    let kept = ap message_bytes same in
    short_room c.args.journal.now.entries c.commit.new.self.entries c.args.inside 1 c.requires.room (omega arith) (omega (arith, long, first, one)) (omega (arith, before, kept)) c.requires.bytes

pub commit-requires-3-clause-room : goal.commit-requires-3-clause-room
commit-requires-3-clause-room c =
    let same = ap (λ (j : JournalState). j.entries) c.release.ensures in
    let long = ap length same in
    let first = ap (λ (j : JournalState). length j.entries) c.commit.ensures.value in
    let one = length-append c.release.new.self.entries ((Step c.args.by c.args.event) ∷ []) in
    let second = ap (λ (j : JournalState). length j.entries) c.commit-2.ensures.value in
    let two = length-append c.commit.new.self.entries (c.args.inside ∷ []) in
    let light = c.requires.bytes in
    let heavy = c.commit-2.ensures.bytes in
    let before = c.commit.ensures.bytes in
    let kept = ap message_bytes same in
    short_room c.args.journal.now.entries c.commit-2.new.self.entries (Answered c.args.by.caller c.args.by.call c.args.answer) 2 c.requires.room (omega arith) (omega (arith, long, first, one, second, two)) (omega (arith, light, heavy, before, kept)) refl
