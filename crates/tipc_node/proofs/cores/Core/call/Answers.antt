use Rattle.std.proofs.Common.{refl}
use Rattle.tipc_node.proofs.work.Planned.{called, called_alone}
use Rattle.tipc_node.proofs.cores.Core.call.Goals as goal

pub returns-in-Receive-clause-ok : goal.returns-in-Receive-clause-ok
returns-in-Receive-clause-ok g c = called_alone c.receive.result c.args.self.now c.receive.new.self c.args.by c.args.call _ c.args.out.now c.in-Receive.is refl c.receive.ensures.ok

pub returns-in-Subscribe-clause-ok : goal.returns-in-Subscribe-clause-ok
returns-in-Subscribe-clause-ok g c = called_alone c.subscribe.result c.args.self.now c.subscribe.new.self c.args.by c.args.call _ c.args.out.now c.in-Subscribe.is refl c.subscribe.ensures.ok

pub returns-in-Cancel-clause-ok : goal.returns-in-Cancel-clause-ok
returns-in-Cancel-clause-ok g c = called_alone c.cancel.result c.args.self.now c.cancel.new.self c.args.by c.args.call _ c.args.out.now c.in-Cancel.is refl c.cancel.ensures.ok

pub returns-in-NextEvent-clause-ok : goal.returns-in-NextEvent-clause-ok
returns-in-NextEvent-clause-ok g c = called_alone c.next_event.result c.args.self.now c.next_event.new.self c.args.by c.args.call _ c.args.out.now c.in-NextEvent.is refl c.next_event.ensures.ok

pub returns-in-Socket-clause-ok : goal.returns-in-Socket-clause-ok
returns-in-Socket-clause-ok g c = called_alone c.socket.result c.args.self.now c.socket.new.self c.args.by c.args.call _ c.args.out.now c.in-Socket.is refl c.socket.ensures.ok

pub returns-in-Tick-clause-ok : goal.returns-in-Tick-clause-ok
returns-in-Tick-clause-ok g c = called c.tick.result c.args.self.now c.tick.new.self c.args.by c.args.call _ c.args.out.now c.tick.new.out c.in-Tick.is refl c.tick.ensures.ok

pub returns-in-Cut-clause-ok : goal.returns-in-Cut-clause-ok
returns-in-Cut-clause-ok g c = called c.take_part.result c.args.self.now c.take_part.new.self c.args.by c.args.call _ c.args.out.now c.take_part.new.out c.in-Cut.is refl c.take_part.ensures.ok

pub returns-in-Mend-clause-ok : goal.returns-in-Mend-clause-ok
returns-in-Mend-clause-ok g c = called c.take_part-in-Mend.result c.args.self.now c.take_part-in-Mend.new.self c.args.by c.args.call _ c.args.out.now c.take_part-in-Mend.new.out c.in-Mend.is refl c.take_part-in-Mend.ensures.ok
