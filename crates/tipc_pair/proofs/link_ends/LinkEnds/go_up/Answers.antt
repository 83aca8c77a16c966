use Rattle.tipc_pair.specs.Changeovers.{gone_up, up_told}
use Rattle.tipc_pair.proofs.Followings.{told_first}
use Rattle.tipc_pair.proofs.link_ends.LinkEnds.go_up.Goals as goal

pub returns-clause-adds : goal.returns-clause-adds
returns-clause-adds c =
    let x = c.args.self.now in
    told_first c.begin_or_switch.result c.args.event.now c.tell.new.self c.begin_or_switch.new.event c.up_told.result (up_told x.bearer x.near) (gone_up x) c.up_told.ensures c.in_ok-tell.ensures
    c.begin_or_switch.ensures.adds
