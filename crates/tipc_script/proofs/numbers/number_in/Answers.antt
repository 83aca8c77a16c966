use Rattle.std.proofs.Common.{◌≡◌, ℕ, ◌≤◌, Some, arith, ◌∙◌, ap, sym}
use Rattle.std.specs.Fmt.{decimal}
use Rattle.std.proofs.lemmas.Bool.{cond-true, cond-false}
use Rattle.tipc_script.specs.Kinds.{number_of}
use Rattle.tipc_script.proofs.Numerals.{is_number_none, is_number_from, number_of-decimal}
use Rattle.tipc_script.proofs.numbers.number_in.Goals as goal
use Rattle.tipc_script.proofs.numbers.number_in.Goals.{then-number-from-via-then-number-from, then-number-from-via-else-number-from+then-number-from-2}

pub returns-in_err-number-clause-value : goal.returns-in_err-number-clause-value
returns-in_err-number-clause-value c =
    c.from_residual.ensures ∙ sym (cond-false _ _ _ (is_number_none c.args.low c.args.high c.args.token.now (λ n above below e. c.in_err-number.ensures n (omega (arith, c.ranges.high.fits)) e)))

pub returns-then-number-from-clause-value : goal.returns-then-number-from-clause-value
returns-then-number-from-clause-value c =
    let is : c.in_ok-number.number ≡ number_of c.args.token.now = c.in_ok-number.ensures.0 in
    let one = λ (n : ℕ) (below : n ≤ c.args.high) (e : c.args.token.now ≡ decimal n). ap number_of e ∙ number_of-decimal n (omega (arith, c.ranges.high.fits)) in
    sym (cond-false _ _ _ (is_number_none c.args.low c.args.high c.args.token.now (λ n above below e.
    elim c.then-number-from.branch [
      | then-number-from-via-then-number-from w ↦ omega (arith, w.if-number-from.true, c.from.ensures, one n below e, is)
      | then-number-from-via-else-number-from+then-number-from-2 w ↦ omega (arith, w.if-number-from-2.true, w.from-else-number-from.ensures, one n below e, is)
    ])))

pub returns-clause-value : goal.returns-clause-value
returns-clause-value c =
    let is : c.in_ok-number.number ≡ number_of c.args.token.now = c.in_ok-number.ensures.0 in
    ap Some is ∙ sym (cond-true _ _ _ (is_number_from c.args.low c.args.high c.args.token.now (c.in_ok-number.ensures.1 ∙ ap decimal is) (omega arith) (omega arith)))
