use Rattle.std.proofs.Common.{arith}
use Rattle.tipc_dissect.proofs.Spelled.{valued}
use Rattle.tipc_dissect.proofs.digits.value_of_digit.Goals as goal

pub returns-clause-value : goal.returns-clause-value
returns-clause-value c = (valued c.args.digit c.requires).told

pub returns-clause-small : goal.returns-clause-small
returns-clause-small c =
    let v = valued c.args.digit c.requires in
    let told = v.told in
    let small = v.small in
    omega (arith, told, small)
