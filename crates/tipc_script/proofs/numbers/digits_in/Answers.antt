use Rattle.std.proofs.Common.{take, get_or, arith}
use Rattle.std.specs.Int.{IsInRange, IsOutOfRange}
use Rattle.std.proofs.lemmas.Bool.Decides.{when_true, when_false}
use Rattle.std.proofs.lemmas.List.{length-take}
use Rattle.std.proofs.lemmas.Int.Digits.{digits_more, digits_value_more}
use Rattle.tipc_script.proofs.Numerals.{not_digits, number_of_below, digit_is}
use Rattle.tipc_script.proofs.numbers.digits_in.Goals as goal

pub returns-then-not-is_ascii_digit : goal.returns-then-not-is_ascii_digit
returns-then-not-is_ascii_digit c =
    let byte = get_or c.args.token.now c.loop-byte.byte-index 0 in
    not_digits c.args.token.now c.loop-byte.byte-index c.loop-byte-test.true (when_false (IsInRange 48 57 byte) (IsOutOfRange 48 57 byte) c.if-not-is_ascii_digit.true c.is_ascii_digit.ensures.cases)

pub overflow_mul-number : goal.overflow_mul-number
overflow_mul-number c =
    let below = number_of_below (take c.loop-byte.byte-index c.args.token.now) 10 c.loop-byte.invariant.digits (omega (arith, length-take c.loop-byte.byte-index c.args.token.now)) in
    omega (arith, below, c.loop-byte.invariant.value)

pub overflow_add-number : goal.overflow_add-number
overflow_add-number c =
    let below = number_of_below (take c.loop-byte.byte-index c.args.token.now) 10 c.loop-byte.invariant.digits (omega (arith, length-take c.loop-byte.byte-index c.args.token.now)) in
    omega (arith, below, c.loop-byte.invariant.value, c.type_inv.token c.loop-byte.byte-index)

pub loop-byte-preserved : goal.loop-byte-preserved
loop-byte-preserved c =
    let byte = get_or c.args.token.now c.loop-byte.byte-index 0 in
    let within = when_true (IsInRange 48 57 byte) (IsOutOfRange 48 57 byte) c.if-not-is_ascii_digit.false c.is_ascii_digit.ensures.cases in
    let is = digit_is byte within in
    record {
      digits = digits_more 10 c.args.token.now c.loop-byte.byte-index c.loop-byte-test.true c.loop-byte.invariant.digits (omega (arith, is));
      value = omega (arith, is, c.loop-byte.invariant.value, digits_value_more 10 c.args.token.now c.loop-byte.byte-index c.loop-byte-test.true);
    }
