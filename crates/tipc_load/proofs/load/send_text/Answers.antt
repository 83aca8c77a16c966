use Rattle.std.proofs.Common.{rules}
use Rattle.tipc_load.proofs.Drawing.{one_digit, star}
use Rattle.tipc_load.proofs.load.send_text.Goals as goal

pub returns : goal.returns
returns c = rw (one_digit, star c.args.count) (search rules)
