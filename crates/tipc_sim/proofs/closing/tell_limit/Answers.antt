use Rattle.tipc_sim.proofs.OutputLaws.{limit_unwritten}
use Rattle.tipc_sim.proofs.closing.tell_limit.Goals as goal

pub returns-in_default-clause-part : goal.returns-in_default-clause-part
returns-in_default-clause-part g c = λ other. limit_unwritten (g.K.Sink.contents c.args.sink.now) c.args.number c.args.which
