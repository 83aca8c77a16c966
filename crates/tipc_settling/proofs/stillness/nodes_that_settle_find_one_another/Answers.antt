use Rattle.tipc_settling.proofs.Finding.{arrivals_find, nodes_ask}
use Rattle.tipc_settling.proofs.stillness.nodes_that_settle_find_one_another.Goals as goal

pub returns-clause-asks : goal.returns-clause-asks
returns-clause-asks c = nodes_ask

pub returns-clause-finds : goal.returns-clause-finds
returns-clause-finds c = arrivals_find
