use Rattle.std.proofs.Common.{[], refl, sym, subst, ◌∙◌}
use Rattle.tipc_node.specs.Arrivals.{GreetsWhere}
use Rattle.tipc_node.specs.Drafts.{own_of}
use Rattle.tipc_node.proofs.work.Greeting.{nobody_greeted}
use Rattle.tipc_node.proofs.drafts.Draft.greet.Goals as goal

pub returns-then-not-begins-clause-greeted : goal.returns-then-not-begins-clause-greeted
returns-then-not-begins-clause-greeted c =
    let d = c.args.self.now in
    nobody_greeted (own_of d) c.args.peer c.args.changes.now d.work d.out (subst (λ b. GreetsWhere b d.work.sockets.live []) (sym (sym c.begins.ensures ∙ c.if-not-begins.true)) refl)
