use Rattle.std.proofs.Common.{arith}
use Rattle.std.proofs.lemmas.List.{length-drop}
use Rattle.tipc_sim.proofs.OutputLaws.{appends_more}
use Rattle.tipc_sim.proofs.writing.write_all.Goals as goal

pub loop-done-preserved : goal.loop-done-preserved
loop-done-preserved g c =
    let l = c.loop-done in
    record {
      written = appends_more _ _ _ c.args.text.now l.done c.in_ok-count.count l.invariant.written c.in_ok-count.ensures.bytes;
      later = omega (arith, l.invariant.later, c.in_ok-count.ensures.later);
      no_fewer = omega (arith, l.invariant.no_fewer, c.in_ok-count.ensures.no_fewer);
      within = omega (arith, l.invariant.within, c.in_ok-count.ensures.bound, length-drop l.done c.args.text.now);
    }
