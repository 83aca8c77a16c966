use Rattle.std.proofs.lemmas.Result.{err_from_is_err_and}
use Rattle.tipc_sim.proofs.CourseLaws.{mends_cut_comes, mends_cut_halts}
use Rattle.tipc_sim.proofs.linking.mend_cut.Goals as goal

pub returns-in_err-make-clause-comes : goal.returns-in_err-make-clause-comes
returns-in_err-make-clause-comes g c =
    let p = err_from_is_err_and c.from_residual.result c.from_residual.ensures.1 in
    rw (p.1, p.2) (mends_cut_halts c.args.node c.args.bearer c.args.world.now.state c.make.new.world.state c.in_err-make.field-0.0 c.is_mended.result c.is_mended.ensures c.if-not-is_mended.true c.in_err-make.ensures.comes)

pub returns-in_ok-make-clause-comes : goal.returns-in_ok-make-clause-comes
returns-in_ok-make-clause-comes g c =
    mends_cut_comes c.args.node c.args.bearer c.args.world.now.state c.make.new.world.state c.in_ok-make.field-0 c.is_mended.result c.is_mended.ensures c.if-not-is_mended.true c.in_ok-make.ensures.comes
