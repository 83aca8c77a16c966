use Rattle.tipc_sim.proofs.HeadLaws.{head_unwritten}
use Rattle.tipc_sim.proofs.running.write_head.Goals as goal

pub returns-in_default-clause-part : goal.returns-in_default-clause-part
returns-in_default-clause-part g c = head_unwritten (g.K.Sink.contents c.args.sink.now) c.args.seed
