use Rattle.tipc_contact.proofs.Sessions.{acts, says, start, turned}
use Rattle.tipc_contact.proofs.laws.two_nodes_stay_peers.Goals as goal

pub returns-clause-start : goal.returns-clause-start
returns-clause-start c = start

pub returns-clause-acts : goal.returns-clause-acts
returns-clause-acts c = acts

pub returns-clause-says : goal.returns-clause-says
returns-clause-says c = says

pub returns-clause-turned : goal.returns-clause-turned
returns-clause-turned c = turned
