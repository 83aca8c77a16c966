use Rattle.tipc_world.proofs.calls.Merged.{answer_adds, stop_adds}
use Rattle.tipc_world.proofs.Staying.{stays}
use Rattle.tipc_world.proofs.worlds.World.step.Goals as goal

pub returns-clause-nodes : goal.returns-clause-nodes
returns-clause-nodes g c = (stays _ _ _ _ c.advance-answer.ensures.answered c.advance-answer.ensures.stops).nodes

pub returns-clause-grows : goal.returns-clause-grows
returns-clause-grows g c = (stays _ _ _ _ c.advance-answer.ensures.answered c.advance-answer.ensures.stops).grown

pub returns-clause-recorded : goal.returns-clause-recorded
returns-clause-recorded g c = answer_adds _ _ _ _ c.good.ensures.merged c.good-2.ensures.merged c.advance-answer.ensures.answered

pub returns-clause-kept : goal.returns-clause-kept
returns-clause-kept g c = stop_adds _ _ _ _ c.good.ensures.merged c.good-2.ensures.merged c.advance-answer.ensures.stops
