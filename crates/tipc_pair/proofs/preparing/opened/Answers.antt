use Rattle.std.proofs.Common.{subst}
use Rattle.tipc_reassembly.specs.Opening.{BringsAll}
use Rattle.tipc_pair.specs.Messages.{deferred, ignored, took}
use Rattle.tipc_pair.proofs.preparing.opened.Goals as goal

pub returns-in_ok-opened-in-Took-clause-ok : goal.returns-in_ok-opened-in-Took-clause-ok
returns-in_ok-opened-in-Took-clause-ok c = rw c.in-Took.is (took (subst (λ taken. BringsAll c.args.reassembly.now taken c.in_ok-opened-in-Took.opened c.open.new.self) c.as_slice.ensures c.in_ok-opened-in-Took.ensures.ok))

pub returns-in-Deferred-clause-ok : goal.returns-in-Deferred-clause-ok
returns-in-Deferred-clause-ok c = rw c.in-Deferred.is deferred

pub returns-in-Ignored-clause-ok : goal.returns-in-Ignored-clause-ok
returns-in-Ignored-clause-ok c = rw c.in-Ignored.is ignored
