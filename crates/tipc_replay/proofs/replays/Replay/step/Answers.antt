use Rattle.tipc_replay.proofs.Staying.{stays}
use Rattle.tipc_replay.proofs.replays.Replay.step.Goals as goal

pub returns-clause-nodes : goal.returns-clause-nodes
returns-clause-nodes g c = (stays _ _ _ c.args.by c.args.event c.happen-happened.result c.happen-happened.ensures.happened c.happen-happened.ensures.err).nodes

pub returns-clause-grows : goal.returns-clause-grows
returns-clause-grows g c = (stays _ _ _ c.args.by c.args.event c.happen-happened.result c.happen-happened.ensures.happened c.happen-happened.ensures.err).grown
