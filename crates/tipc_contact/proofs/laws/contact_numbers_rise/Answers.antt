use Rattle.std.proofs.Common.{arith}
use Rattle.tipc_contact.proofs.Speaking.{own_no_lower}
use Rattle.tipc_contact.proofs.laws.contact_numbers_rise.Goals as goal

pub returns-clause-no_lower : goal.returns-clause-no_lower
returns-clause-no_lower c = own_no_lower

pub returns-clause-higher : goal.returns-clause-higher
returns-clause-higher c = λ a. omega arith
