use Rattle.tipc_sim.proofs.OutputLaws.{bad_unwritten}
use Rattle.tipc_sim.proofs.closing.refuse.Goals as goal

pub returns-in_default-clause-part : goal.returns-in_default-clause-part
returns-in_default-clause-part g c = λ other. bad_unwritten (g.K.Sink.contents c.args.sink.now) c.args.number c.args.place c.args.why
