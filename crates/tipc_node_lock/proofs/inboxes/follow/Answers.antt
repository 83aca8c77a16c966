use Rattle.std.specs.Prelude.{unwrap_or}
use Rattle.tipc_node_lock.proofs.inboxes.follow.Goals as goal

pub returns-in-Close-clause-places : goal.returns-in-Close-clause-places
returns-in-Close-clause-places c = λ other. rw c.in-Close.is (c.close.ensures.places (unwrap_or c.args.inbox other))

pub returns-in-Close-clause-takers : goal.returns-in-Close-clause-takers
returns-in-Close-clause-takers c = λ other. rw c.in-Close.is (c.close.ensures.takers (unwrap_or c.args.inbox other))
