use Rattle.std.proofs.Common.{refl}
use Rattle.std.proofs.lemmas.Result.{err_from_is_err_and}
use Rattle.tipc_report.specs.declared.told.Told.TheVariants.{Pumped}
use Rattle.tipc_sim.proofs.MessageLaws.{second_halts}
use Rattle.tipc_world.proofs.Continuing.{continues_more}
use Rattle.tipc_sim.proofs.messages.pump_both.Goals as goal

pub returns-in_err-empty_air-2-clause-comes : goal.returns-in_err-empty_air-2-clause-comes
returns-in_err-empty_air-2-clause-comes g c =
    let p = err_from_is_err_and c.from_residual-in_err-empty_air-2.result c.from_residual-in_err-empty_air-2.ensures.1 in
    let first = c.in_ok-empty_air.field-0 in
    rw (p.1, p.2) (second_halts c.args.places c.args.world.now.state c.empty_air.new.world.state c.empty_air-2.new.world.state (Pumped first) c.in_err-empty_air-2.field-0.0 (first, c.in_ok-empty_air.ensures.comes, refl) c.in_err-empty_air-2.ensures.comes)

pub returns-in_err-empty_air-2-clause-continues : goal.returns-in_err-empty_air-2-clause-continues
returns-in_err-empty_air-2-clause-continues g c = continues_more c.args.world.now c.empty_air.new.world c.empty_air-2.new.world c.empty_air.ensures.continues c.empty_air-2.ensures.continues

pub returns-clause-comes : goal.returns-clause-comes
returns-clause-comes g c =
    let first = c.in_ok-empty_air.field-0 in
    let second = c.in_ok-empty_air-2.field-0 in
    (c.empty_air.new.world.state, Pumped first, Pumped second, (first, c.in_ok-empty_air.ensures.comes, refl), (second, c.in_ok-empty_air-2.ensures.comes, refl), rw (c.air_len-first.ensures.len, c.air_len.ensures.len) refl)

pub returns-clause-continues : goal.returns-clause-continues
returns-clause-continues g c = continues_more c.args.world.now c.empty_air.new.world c.empty_air-2.new.world c.empty_air.ensures.continues c.empty_air-2.ensures.continues
