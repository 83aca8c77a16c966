use Rattle.std.proofs.Common.{◌≡◌, ◌-◌, arith, get_or, map, sym, subst, ◌∙◌}
use Rattle.std.proofs.lemmas.List.{get_or-map, length-map}
use Rattle.tipc_live.specs.declared.keeping.KeptStep.{KeptStep}
use Rattle.tipc_live.specs.Keeping.{FirstTwice, stamp_of}
use Rattle.tipc_live.proofs.Twins.{once_where_rising, rise_more, stamps_in_order, twins}
use Rattle.tipc_live.proofs.keeping.first_twice.Goals as goal

-- the step that stands for none
abbrev none : KeptStep
none = record { by = record { stamp = 0; caller = 0; call = 0 }; node = 0; begin = 0; end = 0 }

pub returns-then-steps-place-clause-twice : goal.returns-then-steps-place-clause-twice
returns-then-steps-place-clause-twice c =
    let steps = c.args.steps.now in
    let n = c.loop-place.place in
    let low = c.loop-place.auto.place in
    let within = c.loop-place-test.true in
    let size = length-map steps stamp_of in
    let there : get_or (map stamp_of steps) n 0 ≡ stamp_of (get_or steps n none) = get_or-map stamp_of steps n none 0 (omega (arith, within)) in
    let before : get_or (map stamp_of steps) (n - 1) 0 ≡ stamp_of (get_or steps (n - 1) none) = get_or-map stamp_of steps (n - 1) none 0 (omega (arith, within)) in
    subst (FirstTwice (map stamp_of steps)) there
    (twins (map stamp_of steps) (n - 1) n (omega (arith, low)) (stamps_in_order c.args.steps.now c.requires) c.loop-place.invariant (omega (arith, within, size)) (before ∙ c.if-steps-place.true ∙ sym there))

pub loop-place-preserved : goal.loop-place-preserved
loop-place-preserved c =
    let steps = c.args.steps.now in
    let n = c.loop-place.place in
    let low = c.loop-place.auto.place in
    let within = c.loop-place-test.true in
    let size = length-map steps stamp_of in
    let there : get_or (map stamp_of steps) n 0 ≡ stamp_of (get_or steps n none) = get_or-map stamp_of steps n none 0 (omega (arith, within)) in
    let before : get_or (map stamp_of steps) (n - 1) 0 ≡ stamp_of (get_or steps (n - 1) none) = get_or-map stamp_of steps (n - 1) none 0 (omega (arith, within)) in
    rise_more (map stamp_of steps) (n - 1) n (omega (arith, low)) (stamps_in_order c.args.steps.now c.requires) c.loop-place.invariant (omega (arith, within, size)) (λ same. c.if-steps-place.false (sym before ∙ same ∙ there))

pub returns-clause-once : goal.returns-clause-once
returns-clause-once c =
    let past = c.loop-place-test.false in
    let size = length-map c.args.steps.now stamp_of in
    once_where_rising (map stamp_of c.args.steps.now) c.loop-place.place c.loop-place.invariant (omega (arith, past, size))
