use Rattle.std.proofs.Common.{Some, ap, subst, sym, ◌∙◌}
use Rattle.tipc_sim.specs.Steps.{IsLinesStatus}
use Rattle.tipc_sim.proofs.LoadLaws.{generated_sound, generated_within}
use Rattle.tipc_sim.proofs.WorldLaws.{empty_good}
use Rattle.tipc_sim.proofs.running.run.Goals as goal

pub returns-in_default-clause-good : goal.returns-in_default-clause-good
returns-in_default-clause-good g c = empty_good g.P.Pick.gives c.args.world.now c.requires.empty c.requires.start

pub returns-in-Run-clause-complete : goal.returns-in-Run-clause-complete
returns-in-Run-clause-complete g c = let is = sym c.form_of.ensures ∙ c.in-Some.is ∙ ap Some c.in-Run.is in rw is c.run_source.ensures.complete

pub returns-in-Run-clause-complete_frames : goal.returns-in-Run-clause-complete_frames
returns-in-Run-clause-complete_frames g c = let is = sym c.form_of.ensures ∙ c.in-Some.is ∙ ap Some c.in-Run.is in rw is tt

pub returns-in-Gen-clause-within : goal.returns-in-Gen-clause-within
returns-in-Gen-clause-within g c = let is = sym c.form_of.ensures ∙ c.in-Some.is ∙ ap Some c.in-Gen.is in λ ended. rw is (generated_within c.in-Gen.seed)

pub returns-in-Gen-clause-generated : goal.returns-in-Gen-clause-generated
returns-in-Gen-clause-generated g c =
    λ seed is. (generated_within seed, generated_sound seed, λ read. subst IsLinesStatus read c.run_generated.ensures.status, c.run_generated.ensures.sound)

pub returns-in-Gen-clause-complete_frames : goal.returns-in-Gen-clause-complete_frames
returns-in-Gen-clause-complete_frames g c = let is = sym c.form_of.ensures ∙ c.in-Some.is ∙ ap Some c.in-Gen.is in rw is tt

pub returns-in-Dissect-clause-good : goal.returns-in-Dissect-clause-good
returns-in-Dissect-clause-good g c = empty_good g.P.Pick.gives c.args.world.now c.requires.empty c.requires.start

pub returns-in-Dissect-clause-complete : goal.returns-in-Dissect-clause-complete
returns-in-Dissect-clause-complete g c = let is = sym c.form_of.ensures ∙ c.in-Some.is ∙ ap Some c.in-Dissect.is in rw is tt

pub returns-in-Dissect-clause-dissected : goal.returns-in-Dissect-clause-dissected
returns-in-Dissect-clause-dissected g c = let is = sym c.form_of.ensures ∙ c.in-Some.is ∙ ap Some c.in-Dissect.is in rw is c.dissect_source.ensures.report

pub returns-in-Dissect-clause-complete_frames : goal.returns-in-Dissect-clause-complete_frames
returns-in-Dissect-clause-complete_frames g c = let is = sym c.form_of.ensures ∙ c.in-Some.is ∙ ap Some c.in-Dissect.is in rw is c.dissect_source.ensures.complete
