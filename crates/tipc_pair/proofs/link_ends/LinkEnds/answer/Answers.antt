use Rattle.tipc_link.specs.Links.{answered_with}
use Rattle.tipc_pair.proofs.EndFacts.{answered_kept, near_changed}
use Rattle.tipc_pair.proofs.link_ends.LinkEnds.answer.Goals as goal

pub invariant_of-self-2 : goal.invariant_of-self-2
invariant_of-self-2 c =
    let e = c.in-Some.link in
    near_changed _ e c.answer.new.self (answered_with e c.args.broadcast c.args.due) c.self.invariant c.in-Some.is c.answer.ensures.after (answered_kept e c.args.broadcast c.args.due)
