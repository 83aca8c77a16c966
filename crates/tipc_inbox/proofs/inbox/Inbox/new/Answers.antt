use Rattle.std.proofs.Common.{rules}
use Rattle.tipc_inbox.proofs.Keeping.{begins, parts}
use Rattle.tipc_inbox.proofs.inbox.Inbox.new.Goals as goal

pub ruled-requires-clause-rule : goal.ruled-requires-clause-rule
ruled-requires-clause-rule c = begins

pub another-other-requires-clause-rule : goal.another-other-requires-clause-rule
another-other-requires-clause-rule c = parts _ _ (search rules) (search rules)
