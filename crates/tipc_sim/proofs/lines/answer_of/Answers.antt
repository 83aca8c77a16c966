use Rattle.std.proofs.Common.{◌||◌, ◌∙◌, ap, sym}
use Rattle.tipc_world.specs.States.{is_there}
use Rattle.tipc_sim.proofs.NodeLaws.{can_happen, event_makes_none}
use Rattle.tipc_sim.proofs.lines.answer_of.Goals as goal

pub make-requires : goal.make-requires
make-requires g c = can_happen c.args.world.now.state c.args.notes.now c.args.line c.in-Ok.event c.requires.can c.in-Ok.ensures.event

pub returns-in_ok-make-in-Ok-clause-nodes : goal.returns-in_ok-make-in-Ok-clause-nodes
returns-in_ok-make-in-Ok-clause-nodes g c =
    λ n. c.make.ensures.continues.nodes n
    ∙ sym (ap (λ b. b || is_there c.args.world.now.state n) (event_makes_none c.args.line c.args.notes.now c.in-Ok.event n c.in-Ok.ensures.event))
