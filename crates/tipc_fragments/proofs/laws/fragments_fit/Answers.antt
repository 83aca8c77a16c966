use Rattle.tipc_fragments.proofs.CutLaws.{all_fit, length-packet}
use Rattle.tipc_fragments.proofs.laws.fragments_fit.Goals as goal

pub returns-clause-sent : goal.returns-clause-sent
returns-clause-sent c = all_fit

pub returns-clause-size : goal.returns-clause-size
returns-clause-size c = length-packet
