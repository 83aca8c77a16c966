use Rattle.std.proofs.lemmas.Result.{err_from_is_err_and}
use Rattle.tipc_sim.proofs.lines.repeat_on.Goals as goal

pub returns-in_err-count-clause-comes : goal.returns-in_err-count-clause-comes
returns-in_err-count-clause-comes g c = λ notes.
    let p = err_from_is_err_and c.from_residual.result c.from_residual.ensures.1 in
    rw (p.1, p.2) c.in_err-count.ensures.comes
