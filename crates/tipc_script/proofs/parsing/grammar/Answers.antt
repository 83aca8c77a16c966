use Rattle.tipc_script.proofs.Found.{asks_found}
use Rattle.tipc_script.proofs.Accepted.{asks_accepted}
use Rattle.tipc_script.proofs.parsing.grammar.Goals as goal

pub returns-clause-found : goal.returns-clause-found
returns-clause-found c = asks_found

pub returns-clause-only : goal.returns-clause-only
returns-clause-only c = λ text wanted asks. let accepted = asks_accepted text wanted asks in (accepted.fault, accepted.asked)
