use Rattle.std.specs.Prelude.{IsTrue}
use Rattle.std.proofs.Common.{◌+◌, rules, sym, subst}
use Rattle.std.proofs.lemmas.Option.{slice_get-get_or}
use Rattle.tipc_journal.specs.Steps.{steps}
use Rattle.tipc_live.specs.declared.keeping.KeptStep.{KeptStep}
use Rattle.tipc_live.proofs.Comparing.{AreTold, all_told, beyond_told, differs_told, next_told, skip_told}
use Rattle.tipc_live.proofs.telling.first_difference.Goals as goal
use Rattle.tipc_live.proofs.telling.first_difference.Goals.{then-step-caller+else-not-is_told_at, else-step-caller}

-- the step that stands for none
abbrev none : KeptStep
none = record { by = record { stamp = 0; caller = 0; call = 0 }; node = 0; begin = 0; end = 0 }

pub returns-then-not-is_told_at : goal.returns-then-not-is_told_at
returns-then-not-is_told_at c =
    let there = slice_get-get_or c.args.steps.now c.loop-step.step-index none c.loop-step-test.true in
    differs_told _ _ _ _ _ _ _ _ c.requires.whole c.requires.steps.1 c.loop-step.invariant there c.if-step-caller.true (λ told. let yes : IsTrue c.is_told_at.result = c.is_told_at.ensures.1 told in absurd (search rules))

pub loop-step-preserved : goal.loop-step-preserved
loop-step-preserved c =
    let there = slice_get-get_or c.args.steps.now c.loop-step.step-index none c.loop-step-test.true in
    elim c.if-step-caller.branch [
      | then-step-caller+else-not-is_told_at w ↦
          let yes : IsTrue w.is_told_at.result = search rules in
          subst (AreTold c.args.caller (steps c.args.entries.now) c.args.told.now (c.loop-step.step-index + 1)) (sym w.number-is)
          (next_told _ _ _ _ _ _ _ _ c.requires.whole c.requires.steps.1 c.loop-step.invariant there w.if-step-caller.true (w.is_told_at.ensures.0 yes))
      | else-step-caller w ↦
          subst (AreTold c.args.caller (steps c.args.entries.now) c.args.told.now (c.loop-step.step-index + 1)) (sym w.number-is)
          (skip_told _ _ _ _ _ _ _ _ c.requires.steps.1 c.loop-step.invariant there w.if-step-caller.false)
    ]

pub returns-then-number-told : goal.returns-then-number-told
returns-then-number-told c = beyond_told _ _ _ _ _ _ _ c.requires.steps.1 c.loop-step.invariant c.loop-step-test.false c.if-number-told.true

pub returns : goal.returns
returns c = all_told _ _ _ _ _ _ _ c.requires.steps.1 c.loop-step.invariant c.loop-step-test.false c.if-number-told.false
