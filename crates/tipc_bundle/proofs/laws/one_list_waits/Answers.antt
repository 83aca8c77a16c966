use Rattle.tipc_bundle.proofs.Bundling.{carried_once, carries_itself}
use Rattle.tipc_bundle.proofs.laws.one_list_waits.Goals as goal

pub returns : goal.returns
returns c = record { itself = carries_itself; once = carried_once }
