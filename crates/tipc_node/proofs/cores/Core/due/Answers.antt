use Rattle.tipc_node.specs.contracts.cores.Core.{the_view}
use Rattle.tipc_node.proofs.work.Reaching.{looked_casts, looked_due, looked_finds}
use Rattle.tipc_node.proofs.cores.Core.due.Goals as goal

pub returns-clause-due : goal.returns-clause-due
returns-clause-due c = looked_due c.args.self.now (the_view c.self.inside) c.args.frame.now c.neighbours.result.now c.look.result c.self.view_is c.neighbours.ensures.value c.look.ensures.brings c.look.ensures.kind c.look.ensures.passes

pub returns-clause-brings : goal.returns-clause-brings
returns-clause-brings c = looked_finds c.args.self.now (the_view c.self.inside) c.args.frame.now c.neighbours.result.now c.look.result c.self.view_is c.look.ensures.brings c.look.ensures.kind c.look.ensures.passes

pub returns-clause-casts : goal.returns-clause-casts
returns-clause-casts c = looked_casts c.args.self.now (the_view c.self.inside) c.args.frame.now c.neighbours.result.now c.look.result c.self.view_is c.neighbours.ensures.value c.look.ensures.brings c.look.ensures.kind c.look.ensures.passes c.look.ensures.boot
