use Rattle.std.proofs.Common.{subst, sym, arith}
use Rattle.std.proofs.lemmas.Result.{err_from_is_err_and}
use Rattle.tipc_world.specs.Ends.{ends_of, AreBefore}
use Rattle.tipc_world.proofs.CourseLaws.{delivers_halt}
use Rattle.tipc_world.proofs.Continuing.{before_longer}
use Rattle.tipc_world.proofs.settling.deliver.Goals as goal

pub returns-in_err-deliver_both-clause-comes : goal.returns-in_err-deliver_both-clause-comes
returns-in_err-deliver_both-clause-comes g c =
    let p = err_from_is_err_and c.from_residual.result c.from_residual.ensures.1 in
    rw (p.1, p.2) (delivers_halt c.args.places c.ends-ends.result c.args.world.now.state c.deliver_both.new.world.state c.in_err-deliver_both.field-0.0 c.ends-ends.ensures c.in_err-deliver_both.ensures.comes)

pub returns-clause-behind : goal.returns-clause-behind
returns-clause-behind g c =
    before_longer c.ends-ends.result c.args.world.now.state c.deliver_both.new.world.state c.deliver_both.ensures.continues.grown
    (subst (λ k. AreBefore k (ends_of c.args.world.now.state.air)) (sym c.ends-ends.ensures) (omega arith, omega arith))
