use Rattle.std.proofs.Common.{arith, sym, ◌∙◌, ap, length}
use Rattle.std.proofs.lemmas.Fmt.{length-decimal-le}
use Rattle.tipc_script.proofs.Numerals.{not_plain, read_digits}
use Rattle.tipc_script.proofs.numbers.number_spelled.Goals as goal
use Rattle.tipc_script.proofs.numbers.number_spelled.Goals.{then-token-gt-MOST_DIGITS-via-then-token-gt-MOST_DIGITS, then-token-gt-MOST_DIGITS-via-else-token-gt-MOST_DIGITS+then-not-has_plain_front}

pub returns-then-token-gt-MOST_DIGITS : goal.returns-then-token-gt-MOST_DIGITS
returns-then-token-gt-MOST_DIGITS c = λ n small e.
    elim c.then-token-gt-MOST_DIGITS.branch [
      | then-token-gt-MOST_DIGITS-via-then-token-gt-MOST_DIGITS w ↦ omega (arith, w.if-token-gt-MOST_DIGITS.true, ap length e, length-decimal-le 10 n (omega arith) small (omega arith))
      | then-token-gt-MOST_DIGITS-via-else-token-gt-MOST_DIGITS+then-not-has_plain_front w ↦ not_plain c.args.token.now (sym w.has_plain_front.ensures ∙ w.if-not-has_plain_front.true) n small e
    ]

pub returns : goal.returns
returns c = read_digits c.args.token.now c.digits_in.result (sym c.has_plain_front.ensures ∙ c.if-not-has_plain_front.false) c.if-token-gt-MOST_DIGITS.false c.digits_in.ensures
