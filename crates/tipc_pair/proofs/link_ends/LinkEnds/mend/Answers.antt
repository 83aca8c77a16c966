use Rattle.tipc_link.specs.Links.{mended_end}
use Rattle.tipc_pair.proofs.EndFacts.{mended_kept, near_changed}
use Rattle.tipc_pair.proofs.link_ends.LinkEnds.mend.Goals as goal

pub invariant_of-self-2 : goal.invariant_of-self-2
invariant_of-self-2 c = near_changed _ c.in-Some.link c.mend.new.self (mended_end c.in-Some.link) c.self.invariant c.in-Some.is c.mend.ensures.after
    (λ own peer contact seen bearer h. mended_kept own peer contact seen bearer c.in-Some.link h)
