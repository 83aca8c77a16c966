use Rattle.std.proofs.Common.{◌+◌, take, sym, subst}
use Rattle.tipc_live.specs.Telling.{IsFirstOf}
use Rattle.tipc_live.proofs.Firsts.{FoundIn, found_next_other, found_next_true}
use Rattle.tipc_live.proofs.passes.first_told_at.Goals as goal
use Rattle.tipc_live.proofs.passes.first_told_at.Goals.{in-Some, in_default}

pub loop-pass-preserved : goal.loop-pass-preserved
loop-pass-preserved g c =
    let J = c.args.locked.now.node.journal in
    let ps = c.passes-passes.result.now in
    let i = c.loop-pass.pass-index in
    elim c.match-told_otherwise.branch [
      | in-Some w ↦
          subst (FoundIn J (take (i + 1) ps)) (sym w.first-is)
          (found_next_other J ps i c.pass-item.result c.loop-pass.first w.in-Some.call w.first_of.result c.loop-pass-test.true c.pass-item.is c.loop-pass.invariant
          w.in-Some.ensures
          (subst (λ k. IsFirstOf c.loop-pass.first (record { caller = k; call = w.in-Some.call }) w.first_of.result) w.caller-caller.ensures.number w.first_of.ensures))
      | in_default w ↦
          subst (FoundIn J (take (i + 1) ps)) (sym w.first-is)
          (found_next_true J ps i c.pass-item.result c.loop-pass.first c.loop-pass-test.true c.pass-item.is c.loop-pass.invariant w.in_default.ensures)
    ]
