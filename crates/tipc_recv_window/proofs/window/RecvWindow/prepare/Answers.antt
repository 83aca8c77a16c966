use Rattle.std.proofs.Common.{◌∙◌, length, ap, arith}
use Rattle.tipc_recv_window.proofs.Comings.{coming_deferred, due_deferred, due_few}
use Rattle.tipc_recv_window.proofs.window.RecvWindow.prepare.Goals as goal

pub returns-in_ok-holding-in-Deferred-clause-arrival : goal.returns-in_ok-holding-in-Deferred-clause-arrival
returns-in_ok-holding-in-Deferred-clause-arrival c = c.in_ok-holding-in-Deferred.ensures ∙ coming_deferred c.args.self.now c.distance.result c.args.packet c.requires c.distance.ensures c.in-Deferred.ensures.value

pub returns-in_ok-holding-in-Deferred-clause-due : goal.returns-in_ok-holding-in-Deferred-clause-due
returns-in_ok-holding-in-Deferred-clause-due c = c.new.ensures ∙ due_deferred c.args.self.now c.distance.result c.args.packet c.requires c.distance.ensures c.in-Deferred.ensures.value

pub passing-requires-clause-few : goal.passing-requires-clause-few
passing-requires-clause-few c = omega (arith, c.len.ensures, ap length c.in_ok-run-in-InOrder.ensures, due_few c.args.self.now c.distance.result c.args.packet c.requires c.in-InOrder.ensures.value c.is_last.ensures.window)
