use Rattle.std.proofs.Common.{arith, rules}
use Rattle.tipc_load.proofs.Drawing.{draws_mend, draws_receive, draws_settle, one_digit}
use Rattle.tipc_load.proofs.load.drawn_text.Goals as goal

pub returns-in_ok-format-in-9-to-11 : goal.returns-in_ok-format-in-9-to-11
returns-in_ok-format-in-9-to-11 c = rw (draws_receive c.args.draw (omega (arith, c.in-9-to-11)) (omega (arith, c.in-9-to-11)), one_digit) (search rules)

pub returns-in_ok-from_slice-in-12 : goal.returns-in_ok-from_slice-in-12
returns-in_ok-from_slice-in-12 c = rw (draws_settle c.args.draw (omega (arith, c.in-12)) (omega (arith, c.in-12)), one_digit) (search rules)

pub returns-in_ok-format-in_default : goal.returns-in_ok-format-in_default
returns-in_ok-format-in_default c = rw (draws_mend c.args.draw (omega (arith, c.in_default))) (search rules)
