use Rattle.std.proofs.Common.{arith}
use Rattle.std.proofs.lemmas.Result.{err_from_is_err_and}
use Rattle.tipc_world.proofs.Arrivals.{for_it, one_reached, one_stopped}
use Rattle.tipc_world.proofs.worlds.World.take.Goals as goal

pub reach-requires : goal.reach-requires
reach-requires g c = record { bearer = c.requires; is_for = for_it c.args.self.now.state.air c.args.bearer c.args.place c.in-Some.node c.in-Some.ensures.only }

pub returns-in_err-reached-clause-comes : goal.returns-in_err-reached-clause-comes
returns-in_err-reached-clause-comes g c =
    let p = err_from_is_err_and c.from_residual.result c.from_residual.ensures.1 in
    let range = c.in-Some.ensures.range in
    rw (p.1, p.2) (one_stopped c.args.among c.args.bearer c.args.place c.in-Some.node c.args.self.now.state c.in_err-reached.field-0.0 c.reach.new.self.state (omega (arith, range)) c.in-Some.ensures.only c.in_err-reached.ensures.comes)

pub returns-clause-comes : goal.returns-clause-comes
returns-clause-comes g c =
    let range = c.in-Some.ensures.range in
    rw c.counted.ensures (one_reached c.args.among c.args.bearer c.args.place c.in-Some.node c.args.self.now.state c.in_ok-reached.reached c.reach.new.self.state (omega (arith, range)) c.in-Some.ensures.only c.reach.ensures.continues.grown
    c.in_ok-reached.ensures.comes)
