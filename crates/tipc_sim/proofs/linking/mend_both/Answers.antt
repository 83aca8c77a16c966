use Rattle.std.proofs.lemmas.Result.{err_from_is_err_and}
use Rattle.tipc_sim.specs.Meanings.{MendsCut}
use Rattle.tipc_world.proofs.CourseLaws.{then_came, then_stopped}
use Rattle.tipc_world.proofs.Continuing.{continues_more}
use Rattle.tipc_sim.proofs.linking.mend_both.Goals as goal

pub returns-in_err-mend_cut-clause-comes : goal.returns-in_err-mend_cut-clause-comes
returns-in_err-mend_cut-clause-comes g c =
    let p = err_from_is_err_and c.from_residual.result c.from_residual.ensures.1 in
    rw (p.1, p.2) (then_stopped (MendsCut c.args.first c.args.bearer) (MendsCut c.args.second c.args.bearer) c.args.world.now.state c.mend_cut.new.world.state c.in_err-mend_cut.field-0.0 c.in_err-mend_cut.ensures.comes)

pub returns-clause-comes : goal.returns-clause-comes
returns-clause-comes g c =
    then_came (MendsCut c.args.first c.args.bearer) (MendsCut c.args.second c.args.bearer) c.args.world.now.state c.mend_cut.new.world.state c.mend_cut-2.new.world.state _ c.mend_cut-2.result
    c.in_ok-mend_cut.ensures.comes c.mend_cut-2.ensures.comes

pub returns-clause-continues : goal.returns-clause-continues
returns-clause-continues g c = continues_more c.args.world.now c.mend_cut.new.world c.mend_cut-2.new.world c.mend_cut.ensures.continues c.mend_cut-2.ensures.continues
