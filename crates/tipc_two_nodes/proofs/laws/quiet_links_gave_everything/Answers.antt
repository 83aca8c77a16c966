use Rattle.tipc_two_nodes.proofs.sights.Quiet.{quiet_is_given}
use Rattle.tipc_two_nodes.proofs.laws.quiet_links_gave_everything.Goals as goal

pub returns : goal.returns
returns c = quiet_is_given
