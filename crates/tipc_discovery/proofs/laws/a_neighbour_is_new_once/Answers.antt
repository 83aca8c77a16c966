use Rattle.tipc_discovery.proofs.FindingLaws.{known_for_ever, known_once}
use Rattle.tipc_discovery.proofs.laws.a_neighbour_is_new_once.Goals as goal

pub returns : goal.returns
returns c = record { once = known_once; stays = known_for_ever }
