use Rattle.std.proofs.Common.{◌≡◌, ℕ, ◌%◌, ◌^◌, subst}
use Rattle.std.proofs.lemmas.Result.{IfOk-weaker}
use Rattle.std.specs.Prelude.{IfOk}
use Rattle.tipc_journal.specs.Licensed.{IsPicked}
use Rattle.tipc_node.specs.Calls.{Performed}
use Rattle.tipc_node.specs.Nodes.{NodeState}
use Rattle.tipc_node.specs.Works.{addr_of_word}
use Rattle.tipc_node.proofs.Keeping.{call_kept, call_performed, picked_of, same_call}
use Rattle.tipc_node.proofs.nodes.Node.perform.Goals as goal

pub invariant_of-self : goal.invariant_of-self
invariant_of-self g c =
    call_kept c.self.inside.core c.perform-answer.new.self c.args.by c.args.call c.args.out.now c.perform-answer.new.out c.perform-answer.result c.self.invariant c.sound.ensures.sockets c.sound.ensures.wide c.sound.ensures.sending c.requires.can c.ranged.ensures c.perform-answer.ensures.ok (same_call c.self.inside.core c.perform-answer.new.self c.perform-answer.result _ _ c.perform-answer.ensures.err)

pub returns-clause-ok : goal.returns-clause-ok
returns-clause-ok g c =
    subst (λ n. IfOk c.perform-answer.result (Performed n c.args.by c.args.call c.perform-answer.new.self c.args.out.now c.perform-answer.new.out)) c.self.view_is
    (call_performed c.self.inside.core c.perform-answer.new.self c.args.by c.args.call c.args.out.now c.perform-answer.new.out c.perform-answer.result c.self.invariant c.sound.ensures.sockets c.sound.ensures.wide c.sound.ensures.sending c.requires.can c.ranged.ensures c.perform-answer.ensures.ok)

pub returns-clause-picked : goal.returns-clause-picked
returns-clause-picked g c =
    let n = c.self.inside.core in
    subst (λ (m : NodeState). IfOk c.perform-answer.result (λ a. (turn : ℕ) → turn % 2 ^ 64 ≡ c.args.chooser.now.turn → IsPicked (g.P.Pick.gives c.args.chooser.now.pick) turn (addr_of_word m.own) m.journal c.args.call a)) c.self.view_is
    (IfOk-weaker c.perform-answer.result _ _ (λ a picked turn at. picked_of (g.P.Pick.gives c.args.chooser.now.pick) turn n c.args.call a c.self.invariant.0 (picked turn at)) c.perform-answer.ensures.picked)

pub returns-clause-bounded : goal.returns-clause-bounded
returns-clause-bounded g c = record { boot = c.sound.ensures.epochs; few = c.sound.ensures.few }
