use Rattle.std.proofs.Common.{[], ap, subst, sym, ◌∙◌}
use Rattle.tipc_report.specs.Text.{seed_line}
use Rattle.tipc_load.specs.Load.{generated}
use Rattle.tipc_sim.specs.Lines.{IsWithin}
use Rattle.tipc_sim.specs.Reports.{Reports}
use Rattle.tipc_sim.proofs.HeadLaws.{head_cut, unbegun, with_head}
use Rattle.tipc_sim.proofs.LoadLaws.{generated_within, no_bad_line}
use Rattle.tipc_sim.proofs.RunLaws.{limit_reached}
use Rattle.tipc_sim.proofs.WorldLaws.{empty_good}
use Rattle.tipc_sim.proofs.running.run_generated.Goals as goal

pub returns-in_default-clause-good : goal.returns-in_default-clause-good
returns-in_default-clause-good g c = empty_good g.P.Pick.gives c.args.world.now c.requires.empty c.requires.start

pub returns-in_default-clause-report : goal.returns-in_default-clause-report
returns-in_default-clause-report g c = unbegun c.args.seed (generated c.args.seed) c.args.world.now.state (g.K.Sink.contents c.args.sink.now)

pub returns-in-Err-clause-good : goal.returns-in-Err-clause-good
returns-in-Err-clause-good g c = empty_good g.P.Pick.gives c.args.world.now c.requires.empty c.requires.start

pub returns-in-Err-clause-report : goal.returns-in-Err-clause-report
returns-in-Err-clause-report g c =
    head_cut (seed_line c.args.seed) (generated c.args.seed) c.in-Err.status c.args.world.now.state (g.K.Sink.contents c.args.sink.now) (g.K.Sink.contents c.write_head.new.sink) c.in-Err.ensures.part c.in-Err.ensures.status

pub run_lines-requires-clause-within : goal.run_lines-requires-clause-within
run_lines-requires-clause-within g c =
    let same = c.as_slice.ensures.value ∙ c.in-Ok.ensures ∙ ap generated c.from.ensures in
    subst IsWithin (sym same) (generated_within c.args.seed)

pub run_lines-requires-clause-good : goal.run_lines-requires-clause-good
run_lines-requires-clause-good g c = empty_good g.P.Pick.gives c.args.world.now c.requires.empty c.requires.start

pub returns-clause-report : goal.returns-clause-report
returns-clause-report g c =
    let same = c.as_slice.ensures.value ∙ c.in-Ok.ensures ∙ ap generated c.from.ensures in
    let before = g.K.Sink.contents c.args.sink.now in
    let between = g.K.Sink.contents c.write_head.new.sink in
    let after = g.K.Sink.contents c.run_lines.new.sink in
    let lines = subst (λ script. Reports [] 1048 script c.run_lines.result c.args.world.now.state c.run_lines.new.world.state between after) same c.run_lines.ensures.report in
    with_head (seed_line c.args.seed) (generated c.args.seed) c.run_lines.result c.args.world.now.state c.run_lines.new.world.state before between after c.in_default-write_head.ensures.ok lines

pub returns-clause-sound : goal.returns-clause-sound
returns-clause-sound g c =
    let same = c.as_slice.ensures.value ∙ c.in-Ok.ensures ∙ ap generated c.from.ensures in
    let between = g.K.Sink.contents c.write_head.new.sink in
    let after = g.K.Sink.contents c.run_lines.new.sink in
    let lines = subst (λ script. Reports [] 1048 script c.run_lines.result c.args.world.now.state c.run_lines.new.world.state between after) same c.run_lines.ensures.report in
    no_bad_line c.args.seed c.run_lines.result c.args.world.now.state c.run_lines.new.world.state between after lines

pub returns-clause-limit : goal.returns-clause-limit
returns-clause-limit g c =
    let same = c.as_slice.ensures.value ∙ c.in-Ok.ensures ∙ ap generated c.from.ensures in
    let between = g.K.Sink.contents c.write_head.new.sink in
    let after = g.K.Sink.contents c.run_lines.new.sink in
    let lines = subst (λ script. Reports [] 1048 script c.run_lines.result c.args.world.now.state c.run_lines.new.world.state between after) same c.run_lines.ensures.report in
    λ is. limit_reached [] (generated c.args.seed) c.run_lines.result c.args.world.now.state c.run_lines.new.world.state between after (generated_within c.args.seed) is lines
