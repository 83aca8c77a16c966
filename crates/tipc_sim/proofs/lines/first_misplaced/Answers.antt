use Rattle.std.proofs.Common.{◌∙◌, rules, tests}
use Rattle.std.proofs.lemmas.Iterator.{YieldsList-from_slice}
use Rattle.std.proofs.lemmas.Iterator.Search.{find_from_yields_List}
use Rattle.tipc_world.specs.States.{is_there}
use Rattle.tipc_sim.specs.Nodes.{is_misplaced}
use Rattle.tipc_sim.proofs.lines.first_misplaced.Goals as goal

pub returns : goal.returns
returns g c = c.copied.ensures ∙ find_from_yields_List (is_misplaced (is_there c.args.world.now.state)) _ _ _ c.find.ensures.ran (YieldsList-from_slice c.args.nodes.now cc) (λ x b q k. search (rules, tests))
