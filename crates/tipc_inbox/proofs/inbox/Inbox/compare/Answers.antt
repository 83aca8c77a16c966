use Rattle.std.proofs.Common.{rules}
use Rattle.tipc_inbox.proofs.Keeping.{parts, spares, unites}
use Rattle.tipc_inbox.proofs.inbox.Inbox.compare.Goals as goal

pub another-spare-requires-clause-rule : goal.another-spare-requires-clause-rule
another-spare-requires-clause-rule c = spares _ _

pub absorb-requires-clause-rule : goal.absorb-requires-clause-rule
absorb-requires-clause-rule c = unites _ _ _ _ (search rules) (search rules)

pub another-requires-clause-rule : goal.another-requires-clause-rule
another-requires-clause-rule c = parts _ _ (search rules) (search rules)
