use Rattle.std.proofs.Common.{subst}
use Rattle.std.specs.Prelude.{IfOk, OnOk}
use Rattle.tipc_node.specs.Arrivals.{Arrived}
use Rattle.tipc_node.specs.Valid.{GrewByStep}
use Rattle.tipc_node.proofs.Keeping.{arrival_kept, frame_arrived, same_node}
use Rattle.tipc_node.proofs.Valid.{arrival_grows, valid_of}
use Rattle.tipc_node.proofs.nodes.Node.arrive.Goals as goal

pub invariant_of-self : goal.invariant_of-self
invariant_of-self c =
    arrival_kept c.self.inside.core c.arrive-arrival.new.self c.args.by c.args.bearer c.args.number c.args.frame.now c.args.out.now c.arrive-arrival.new.out c.arrive-arrival.result c.self.invariant c.sound.ensures.sockets c.sound.ensures.sending c.arrive-arrival.ensures.ok (same_node c.self.inside.core c.arrive-arrival.new.self c.args.out.now c.arrive-arrival.new.out c.arrive-arrival.result c.arrive-arrival.ensures.err)

pub returns-clause-ok : goal.returns-clause-ok
returns-clause-ok c =
    subst (λ n. IfOk c.arrive-arrival.result (Arrived n c.args.by c.args.bearer c.args.number c.args.frame.now c.arrive-arrival.new.self c.args.out.now c.arrive-arrival.new.out)) c.self.view_is
    (frame_arrived c.self.inside.core c.arrive-arrival.new.self c.args.by c.args.bearer c.args.number c.args.frame.now c.args.out.now c.arrive-arrival.new.out c.arrive-arrival.result c.self.invariant c.sound.ensures.sockets c.sound.ensures.sending c.arrive-arrival.ensures.ok)

pub returns-clause-grew : goal.returns-clause-grew
returns-clause-grew c =
    subst (λ n. OnOk c.arrive-arrival.result (GrewByStep n.journal c.arrive-arrival.new.self.journal)) c.self.view_is
    (arrival_grows c.self.inside.core c.arrive-arrival.new.self c.args.by c.args.bearer c.args.number c.args.frame.now c.args.out.now c.arrive-arrival.new.out c.arrive-arrival.result
    (frame_arrived c.self.inside.core c.arrive-arrival.new.self c.args.by c.args.bearer c.args.number c.args.frame.now c.args.out.now c.arrive-arrival.new.out c.arrive-arrival.result c.self.invariant c.sound.ensures.sockets c.sound.ensures.sending c.arrive-arrival.ensures.ok))

pub returns-clause-valid : goal.returns-clause-valid
returns-clause-valid c =
    valid_of c.arrive-arrival.new.self
    (arrival_kept c.self.inside.core c.arrive-arrival.new.self c.args.by c.args.bearer c.args.number c.args.frame.now c.args.out.now c.arrive-arrival.new.out c.arrive-arrival.result c.self.invariant c.sound.ensures.sockets c.sound.ensures.sending c.arrive-arrival.ensures.ok (same_node c.self.inside.core c.arrive-arrival.new.self c.args.out.now c.arrive-arrival.new.out c.arrive-arrival.result c.arrive-arrival.ensures.err)).0

pub returns-clause-bounded : goal.returns-clause-bounded
returns-clause-bounded c = record { boot = c.sound.ensures.epochs; few = c.sound.ensures.few }
