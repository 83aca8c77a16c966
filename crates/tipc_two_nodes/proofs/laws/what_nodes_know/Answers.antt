use Rattle.tipc_two_nodes.proofs.sights.Known.{contact_tells_present, nothing_higher_is_known, present_tells_contact}
use Rattle.tipc_two_nodes.proofs.laws.what_nodes_know.Goals as goal

pub returns-clause-no_higher : goal.returns-clause-no_higher
returns-clause-no_higher c = nothing_higher_is_known

pub returns-clause-contact : goal.returns-clause-contact
returns-clause-contact c = present_tells_contact

pub returns-clause-present : goal.returns-clause-present
returns-clause-present c = contact_tells_present
