use Rattle.std.proofs.Common.{◌≡◌, ℕ, Err, ap, subst, arith}
use Rattle.tipc_bundle.specs.declared.splitting.SplitFault.TheVariants as fault
use Rattle.tipc_bundle.specs.Splitting.{IsFirstBad}
use Rattle.tipc_bundle.proofs.Places.{bad_place-most, bad_place_once, inside_once, inside_or_bad}
use Rattle.tipc_bundle.proofs.splitting.split.Goals as goal

pub overflow_cast-result : goal.overflow_cast-result
overflow_cast-result c = omega (arith, bad_place-most c.args.bundle.now c.in-Some.place c.requires c.in-Some.ensures.some)

pub returns-in-Some-clause-only : goal.returns-in-Some-clause-only
returns-in-Some-clause-only c = λ packets h. absurd (inside_or_bad packets c.args.bundle.now c.in-Some.place h c.in-Some.ensures.some)

pub returns-in-Some-clause-bad : goal.returns-in-Some-clause-bad
returns-in-Some-clause-bad c = λ place. (
  (λ e. let same : c.in-Some.place ≡ place = cc in subst (λ (k : ℕ). IsFirstBad c.args.bundle.now k) same c.in-Some.ensures.some),
  (λ bad. ap (λ (k : ℕ). Err (fault.BadInner k)) (bad_place_once c.args.bundle.now c.in-Some.place place c.in-Some.ensures.some bad)),
)

pub returns-in_err-inner_packets-clause-bad : goal.returns-in_err-inner_packets-clause-bad
returns-in_err-inner_packets-clause-bad c = λ place. (
  (λ e. let no = rw e at c.from_residual.ensures.1 in absurd cc),
  (λ bad. absurd (inside_or_bad c.in_default.ensures.none.0 c.args.bundle.now place c.in_default.ensures.none.1 bad)),
)

pub returns-clause-only : goal.returns-clause-only
returns-clause-only c = λ packets h. inside_once c.in_ok-inner_packets.field-0 packets c.args.bundle.now c.in_ok-inner_packets.ensures h

pub returns-clause-bad : goal.returns-clause-bad
returns-clause-bad c = λ place. (
  (λ e. absurd cc),
  (λ bad. absurd (inside_or_bad c.in_default.ensures.none.0 c.args.bundle.now place c.in_default.ensures.none.1 bad)),
)
