use Rattle.std.proofs.Common.{◌≡◌, sym, ap, ◌∙◌}
use Rattle.tipc_header.specs.Faults.{fault_of}
use Rattle.tipc_fragments.specs.Cutting.{piece_of}
use Rattle.tipc_fragments.specs.Joining.{grown, whole_of}
use Rattle.tipc_fragments.proofs.JoinLaws.{after-more, answer_of-last, answer_of-more, answer_of-not_next, answer_of-too_long, finished_fault, finished_ok}
use Rattle.tipc_fragments.proofs.joining.Joiner.add.Goals as goal

pub returns-then-not-is_next-clause-fault : goal.returns-then-not-is_next-clause-fault
returns-then-not-is_next-clause-fault c =
    (answer_of-not_next _ _ _ (sym c.is_next.ensures ∙ c.if-not-is_next.true), c.clear.ensures)

pub returns-then-not-has_room-clause-fault : goal.returns-then-not-has_room-clause-fault
returns-then-not-has_room-clause-fault c = (
  answer_of-too_long _ _ _ (sym c.is_next.ensures ∙ c.if-not-is_next.false) (sym c.has_room.ensures ∙ c.if-not-has_room.true),
  c.clear-then-not-has_room.ensures,
)

-- the message is whole
pub returns-then-is_last-clause-ok : goal.returns-then-is_last-clause-ok
returns-then-is_last-clause-ok c =
    let s = c.args.self.now in
    let p = piece_of c.args.kind c.args.number c.args.piece.now in
    let whole = grown s p.bytes c.args.by in
    let last = answer_of-last s p c.args.by (sym c.is_next.ensures ∙ c.if-not-is_next.false) (sym c.has_room.ensures ∙ c.if-not-has_room.false) (sym c.is_last.ensures ∙ c.if-is_last.true) in
    let same : c.finish.result ≡ whole_of whole = c.finish.ensures.answer ∙ ap whole_of c.in_ok-grow.ensures.ok in
    rw same (finished_ok s p c.args.by whole (fault_of whole.bytes) c.finish.new.self last c.finish.ensures.after)

pub returns-then-is_last-clause-fault : goal.returns-then-is_last-clause-fault
returns-then-is_last-clause-fault c =
    let s = c.args.self.now in
    let p = piece_of c.args.kind c.args.number c.args.piece.now in
    let whole = grown s p.bytes c.args.by in
    let last = answer_of-last s p c.args.by (sym c.is_next.ensures ∙ c.if-not-is_next.false) (sym c.has_room.ensures ∙ c.if-not-has_room.false) (sym c.is_last.ensures ∙ c.if-is_last.true) in
    let same : c.finish.result ≡ whole_of whole = c.finish.ensures.answer ∙ ap whole_of c.in_ok-grow.ensures.ok in
    rw same (finished_fault s p c.args.by whole (fault_of whole.bytes) c.finish.new.self last c.finish.ensures.after)

-- more is to come
pub returns-else-is_last-clause-ok : goal.returns-else-is_last-clause-ok
returns-else-is_last-clause-ok c =
    let s = c.args.self.now in
    let p = piece_of c.args.kind c.args.number c.args.piece.now in
    let more = answer_of-more s p c.args.by (sym c.is_next.ensures ∙ c.if-not-is_next.false) (sym c.has_room.ensures ∙ c.if-not-has_room.false) (sym c.is_last.ensures ∙ c.if-is_last.false) in
    (more, c.in_ok-grow.ensures.ok ∙ sym (after-more s p c.args.by more))
