use Rattle.tipc_paired.proofs.PairedLaw.{all_paired, does_paired, start, turned}
use Rattle.tipc_paired.proofs.laws.two_nodes_stay_paired.Goals as goal

pub returns-clause-start : goal.returns-clause-start
returns-clause-start c = start

pub returns-clause-turned : goal.returns-clause-turned
returns-clause-turned c = turned

pub returns-clause-does : goal.returns-clause-does
returns-clause-does c = does_paired

pub returns-clause-all : goal.returns-clause-all
returns-clause-all c = all_paired
