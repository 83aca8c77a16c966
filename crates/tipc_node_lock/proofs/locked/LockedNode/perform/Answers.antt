use Rattle.std.proofs.Common.{ap, ◌∙◌}
use Rattle.tipc_node_lock.specs.Passes.{PassState}
use Rattle.tipc_node_lock.proofs.Telling.{made_same, made_told, moves_behind}
use Rattle.tipc_node_lock.proofs.locked.LockedNode.perform.Goals as goal

pub move_all-requires : goal.move_all-requires
move_all-requires g c = record { seat = ap (λ (p : PassState). p.seat.of_table) c.in_ok-answer.ensures.records.made ∙ c.requires.seat }

pub returns-clause-section : goal.returns-clause-section
returns-clause-section g c =
    (c.make.new.self, c.make.new.pass, c.in_ok-answer.ensures, moves_behind _ _ _ _ c.move_all.ensures.moves c.move_all.ensures.rests)

pub returns-clause-told : goal.returns-clause-told
returns-clause-told g c = made_told _ _ _ _ _ _ _ _ _ c.in_ok-answer.ensures.records c.move_all.ensures.moves

pub returns-clause-same : goal.returns-clause-same
returns-clause-same g c = made_same _ _ _ _ _ _ _ _ _ c.in_ok-answer.ensures.records c.move_all.ensures.moves
