use Rattle.std.proofs.Common.{ap, subst}
use Rattle.tipc_report.specs.Text.{limit_line}
use Rattle.tipc_sim.specs.Happenings.{IsLimited, scene}
use Rattle.tipc_sim.proofs.RunLaws.{limit_told}
use Rattle.tipc_sim.proofs.running.run_line.Goals as goal

pub returns-in-Err-Limit-clause-kept : goal.returns-in-Err-Limit-clause-kept
returns-in-Err-Limit-clause-kept g c = λ other. (c.in-Err-Limit.ensures.limited c.in-Err-Limit.limit c.in-Err-Limit.field-0-is).kept

pub returns-in-Err-Limit-clause-run : goal.returns-in-Err-Limit-clause-run
returns-in-Err-Limit-clause-run g c =
    let old = scene c.args.world.now.state c.args.notes.now in
    let new = scene c.do_line.new.world.state c.do_line.new.notes in
    let told = c.tell_limit.ensures in
    let stop = c.in-Err-Limit.limit in
    let limited = subst (λ line. IsLimited line old stop c.do_line.new.world.state) c.in-Ok.ensures.line (c.in-Err-Limit.ensures.limited stop c.in-Err-Limit.field-0-is) in
    limit_told c.args.from c.args.number c.args.text.now old new (g.K.Sink.contents c.args.sink.now) (g.K.Sink.contents c.tell_limit.new.sink) (limit_line c.args.number c.which_of.result) c.tell_limit.result
    (stop, c.in-Ok.ensures.fault, limited, ap (limit_line c.args.number) c.which_of.ensures) told.status told.limit told.part
