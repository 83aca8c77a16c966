use Rattle.std.proofs.Common.{ap, Err}
use Rattle.std.proofs.lemmas.Result.{err_from_is_err_and}
use Rattle.tipc_sim.proofs.OutputLaws.{stopped}
use Rattle.tipc_sim.proofs.reading.read_within.Goals as goal

pub returns-in_err-script-clause-stopped : goal.returns-in_err-script-clause-stopped
returns-in_err-script-clause-stopped g c =
    let read = c.in_err-script.ensures in
    let given = err_from_is_err_and c.from_residual.result c.from_residual.ensures.1 in
    rw (given.1, given.2) (stopped c.in_err-script.field-0.0 (g.S.Source.left c.args.source.now) (λ is. read.long (ap (λ stop. Err stop) is)) (λ is. read.uncounted (ap (λ stop. Err stop) is)))
