use Rattle.std.proofs.Common.{◌∙◌, inr, subst, sym}
use Rattle.tipc_sim.specs.LiveRuns.{HasFailed}
use Rattle.tipc_sim.specs.Output.{AppendsPart}
use Rattle.tipc_sim.proofs.LiveLaws.{failed_of_run, passes_of_run, seen_fault, still_run, write_ended}
use Rattle.tipc_sim.proofs.live.runs.run_plan.Goals as goal

pub judged-requires-clause-passes : goal.judged-requires-clause-passes
judged-requires-clause-passes g c =
    passes_of_run g.B.Bearer.tried g.B.Bearer.given g.B.Bearer.faults c.args.plan.now c.args.bearers.items c.run_gathered.new.gathered c.in-Ok.failed c.requires.plan c.in-Ok.ensures.ran

pub returns-in-Ok-write_text-clause-fault : goal.returns-in-Ok-write_text-clause-fault
returns-in-Ok-write_text-clause-fault g c = λ is.
    subst (HasFailed g.B.Bearer.faults c.args.plan.now c.args.bearers.items) (sym c.in-Ok-judged.ensures.same.1)
    (failed_of_run g.B.Bearer.tried g.B.Bearer.given g.B.Bearer.faults c.args.plan.now c.args.bearers.items c.run_gathered.new.gathered c.in-Ok.failed
    (seen_fault c.in-Ok-judged.verdict c.in-Ok.failed (sym c.status_of.ensures ∙ is)) c.in-Ok.ensures.ran)

pub returns-clause-came : goal.returns-clause-came
returns-clause-came g c = λ ended. record {
  failed = c.in-Ok.failed;
  ran =
      still_run g.B.Bearer.tried g.B.Bearer.given g.B.Bearer.faults c.args.plan.now c.args.bearers.items c.run_gathered.new.gathered c.judged.new.gathered c.in-Ok.failed
      c.in-Ok-judged.ensures.same.0 c.in-Ok-judged.ensures.same.1 c.in-Ok.ensures.ran;
  found = c.in-Ok-judged.verdict;
  finds = c.in-Ok-judged.ensures.found;
  told = inr (
    write_ended c.in-Err.status c.in-Err.ensures.status ended,
    subst (AppendsPart (g.K.Sink.contents c.args.sink.now) (g.K.Sink.contents c.write_text.new.sink)) (c.as_slice.ensures.value ∙ c.in-Ok-judged.ensures.report) c.in-Err.ensures.part,
  );
}
