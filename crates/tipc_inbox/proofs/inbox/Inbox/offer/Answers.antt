use Rattle.std.proofs.Common.{ap}
use Rattle.tipc_inbox.specs.declared.rule.Log.{Log}
use Rattle.tipc_inbox.proofs.Keeping.{fills, offers}
use Rattle.tipc_inbox.proofs.inbox.Inbox.offer.Goals as goal

pub push_as-requires-clause-rule : goal.push_as-requires-clause-rule
push_as-requires-clause-rule g c =
    let may = ap (λ (v : Log). v.gives) c.giver.invariant.1 in
    (offers _ _ _ _ c.self.invariant may, fills _ _ may)
