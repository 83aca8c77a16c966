use Rattle.std.proofs.Common.{◌*◌, Err}
use Rattle.std.proofs.lemmas.Result.{err_from_is_err_and}
use Rattle.tipc_world.specs.declared.settling.Receivers.TheVariants.{Both}
use Rattle.tipc_world.specs.Courses.{numbers, Drains}
use Rattle.tipc_world.specs.Settling.{arrival_asked}
use Rattle.tipc_sim.specs.Meanings.{MendsBoth}
use Rattle.tipc_sim.proofs.CourseLaws.{links_halt}
use Rattle.tipc_world.proofs.CourseLaws.{then_came, then_stopped}
use Rattle.tipc_world.proofs.Continuing.{continues_more}
use Rattle.tipc_sim.proofs.linking.link.Goals as goal

pub returns-in_err-empty_air-clause-comes : goal.returns-in_err-empty_air-clause-comes
returns-in_err-empty_air-clause-comes g c =
    let start = c.args.world.now.state in
    let now = c.empty_air.new.world.state in
    let place = c.air_len-place.result in
    let p = err_from_is_err_and c.from_residual-in_err-empty_air.result c.from_residual-in_err-empty_air.ensures.1 in
    rw (p.1, p.2) (links_halt c.args.first c.args.second c.args.bearer place start now c.in_err-empty_air.field-0.0 c.air_len-place.ensures.len
    (then_came (MendsBoth c.args.first c.args.second c.args.bearer) (Drains (arrival_asked (Both c.args.first c.args.second) c.args.bearer) c.args.bearer (numbers * place)) start c.mend_both.new.world.state now _ (Err c.in_err-empty_air.field-0.0)
    c.in_ok-mend_both.ensures.comes c.in_err-empty_air.ensures.comes))

pub returns-in_err-empty_air-clause-continues : goal.returns-in_err-empty_air-clause-continues
returns-in_err-empty_air-clause-continues g c = continues_more c.args.world.now c.mend_both.new.world c.empty_air.new.world c.mend_both.ensures.continues c.empty_air.ensures.continues

pub returns-clause-continues : goal.returns-clause-continues
returns-clause-continues g c = continues_more c.args.world.now c.mend_both.new.world c.empty_air.new.world c.mend_both.ensures.continues c.empty_air.ensures.continues

pub returns-in_err-mend_both-clause-comes : goal.returns-in_err-mend_both-clause-comes
returns-in_err-mend_both-clause-comes g c =
    let place = c.air_len-place.result in
    let p = err_from_is_err_and c.from_residual.result c.from_residual.ensures.1 in
    rw (p.1, p.2) (links_halt c.args.first c.args.second c.args.bearer place c.args.world.now.state c.mend_both.new.world.state c.in_err-mend_both.field-0.0 c.air_len-place.ensures.len
    (then_stopped (MendsBoth c.args.first c.args.second c.args.bearer) (Drains (arrival_asked (Both c.args.first c.args.second) c.args.bearer) c.args.bearer (numbers * place)) c.args.world.now.state c.mend_both.new.world.state
    c.in_err-mend_both.field-0.0 c.in_err-mend_both.ensures.comes))
