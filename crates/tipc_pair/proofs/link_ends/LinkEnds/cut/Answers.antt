use Rattle.tipc_pair.specs.Changeovers.{released}
use Rattle.tipc_pair.specs.PairCalls.{cut_at}
use Rattle.tipc_pair.proofs.CourseLaws.{then_adds, then_after}
use Rattle.tipc_pair.proofs.link_ends.LinkEnds.cut.Goals as goal

pub returns-clause-after : goal.returns-clause-after
returns-clause-after c =
    let x = c.args.self.now in
    then_after c.cut_link.new.self c.release.new.self (cut_at x x.near) released c.in_ok-cut_link.ensures.after c.release.ensures.after

pub returns-clause-adds : goal.returns-clause-adds
returns-clause-adds c =
    let x = c.args.self.now in
    then_adds c.args.event.now c.cut_link.new.event c.release.new.event c.cut_link.new.self (cut_at x x.near) released c.in_ok-cut_link.ensures.after c.in_ok-cut_link.ensures.adds
    c.release.ensures.adds
