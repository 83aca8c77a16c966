use Rattle.tipc_paired.proofs.PairedLaw.{prefix}
use Rattle.tipc_paired.proofs.laws.what_is_taken_was_numbered.Goals as goal

pub returns : goal.returns
returns c = prefix
