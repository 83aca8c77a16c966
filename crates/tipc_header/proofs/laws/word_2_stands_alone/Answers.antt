use Rattle.tipc_header.proofs.Again.{renumbered-fits}
use Rattle.tipc_header.proofs.RoundTrip.{renumbered-spelling}
use Rattle.tipc_header.proofs.laws.word_2_stands_alone.Goals as goal

pub returns-clause-bytes : goal.returns-clause-bytes
returns-clause-bytes c = renumbered-spelling

pub returns-clause-fits : goal.returns-clause-fits
returns-clause-fits c = renumbered-fits
