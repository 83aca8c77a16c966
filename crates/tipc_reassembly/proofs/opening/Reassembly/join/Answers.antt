use Rattle.std.proofs.Common.{◌≡◌, ◌∷◌, [], sym, ◌∙◌}
use Rattle.tipc_reassembly.specs.declared.opening.Opened.TheVariants.{Passed}
use Rattle.tipc_reassembly.proofs.AnswerLaws.{answer_fault, answer_whole, makes, one_pushed}
use Rattle.tipc_reassembly.proofs.opening.Reassembly.join.Goals.{in-Ok-More, in-Ok-Whole, in-Err+in_ok-faulty-in-Err}
use Rattle.tipc_reassembly.proofs.opening.Reassembly.join.Goals as goal

pub joined-requires : goal.joined-requires
joined-requires c =
    let is = rw c.in-Ok-Whole.field-0-is at c.in-Ok-Whole.ensures.ok in
    (answer_whole _ _ _ _ _ is.0).packet

pub returns-clause-ok : goal.returns-clause-ok
returns-clause-ok c =
    let empty = c.reserve.ensures.items ∙ c.new-opened.ensures.items in
    elim c.match-add.branch [
      | in-Ok-More w ↦ (
          let is = rw w.in-Ok-More.field-0-is at w.in-Ok-More.ensures.ok in
          let list : c.from_vec.result ≡ [] = c.from_vec.ensures ∙ rw w.opened-is empty in
          makes _ _ _ _ _ _ _ c.self.view_is is.0 list is.1
          )
      | in-Ok-Whole w ↦ (
          let is = rw w.in-Ok-Whole.field-0-is at w.in-Ok-Whole.ensures.ok in
          let list : c.from_vec.result ≡ w.joined.result ∷ [] = one_pushed _ _ _ _ c.from_vec.ensures (rw w.opened-is w.push_reserved.ensures.items) empty in
          makes _ _ _ _ _ _ _ c.self.view_is is.0 (list ∙ sym w.joined.ensures) is.1
          )
      | in-Err+in_ok-faulty-in-Err w ↦ (
          let passed = w.in_ok-faulty-in-Err.ensures.ok in
          let is = answer_fault _ _ _ _ _ passed.1 w.in-Err.ensures.fault in
          let list : c.from_vec.result ≡ Passed 0 ∷ [] = rw (sym passed.0) (one_pushed _ _ _ _ c.from_vec.ensures (rw w.opened-is w.push_reserved-in-Err.ensures.items) empty) in
          makes _ _ _ _ _ _ _ c.self.view_is is.0 list is.1
          )
    ]
