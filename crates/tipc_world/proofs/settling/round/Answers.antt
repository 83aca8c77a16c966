use Rattle.std.proofs.lemmas.Result.{err_from_is_err_and}
use Rattle.tipc_world.specs.Courses.{TakesAll}
use Rattle.tipc_world.specs.Settling.{tick_asked, Delivers}
use Rattle.tipc_world.proofs.Continuing.{before_longer, continues_more}
use Rattle.tipc_world.proofs.CourseLaws.{then_stopped}
use Rattle.tipc_world.proofs.settling.round.Goals as goal

pub returns-in_err-tick_all-clause-comes : goal.returns-in_err-tick_all-clause-comes
returns-in_err-tick_all-clause-comes g c =
    let p = err_from_is_err_and c.from_residual.result c.from_residual.ensures.1 in
    rw (p.1, p.2) (then_stopped (TakesAll tick_asked 1 33) (Delivers c.args.places) c.args.world.now.state c.tick_all.new.world.state c.in_err-tick_all.field-0.0 c.in_err-tick_all.ensures.comes)

pub deliver-requires : goal.deliver-requires
deliver-requires g c = before_longer c.args.places c.args.world.now.state c.tick_all.new.world.state c.tick_all.ensures.continues.grown c.requires

pub returns-clause-continues : goal.returns-clause-continues
returns-clause-continues g c = continues_more c.args.world.now c.tick_all.new.world c.deliver.new.world c.tick_all.ensures.continues c.deliver.ensures.continues
