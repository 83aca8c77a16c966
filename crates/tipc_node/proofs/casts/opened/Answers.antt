use Rattle.std.proofs.Common.{subst}
use Rattle.tipc_reassembly.specs.Opening.{BringsAll}
use Rattle.tipc_pair.specs.Messages.{deferred, ignored, took}
use Rattle.tipc_node.proofs.casts.opened.Goals as goal

pub returns-in_ok-open-in-Took : goal.returns-in_ok-open-in-Took
returns-in_ok-open-in-Took c = rw c.in-Took.is (took (subst (λ taken. BringsAll c.args.casts.now taken c.in_ok-open-in-Took.field-0 c.open.new.self) c.as_slice.ensures c.in_ok-open-in-Took.ensures.ok))

pub returns-in-Deferred : goal.returns-in-Deferred
returns-in-Deferred c = rw c.in-Deferred.is deferred

pub returns-in-Ignored : goal.returns-in-Ignored
returns-in-Ignored c = rw c.in-Ignored.is ignored
