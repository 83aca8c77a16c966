use Rattle.std.proofs.Common.{ap}
use Rattle.tipc_inbox.specs.declared.rule.Log.{Log}
use Rattle.tipc_inbox.proofs.Keeping.{empties, takes}
use Rattle.tipc_inbox.proofs.inbox.Inbox.take.Goals as goal

pub pop_as-requires-clause-rule : goal.pop_as-requires-clause-rule
pop_as-requires-clause-rule g c =
    let may = ap (λ (v : Log). v.takes) c.taker.invariant.1 in
    (takes _ _ may, empties _ _ may)
