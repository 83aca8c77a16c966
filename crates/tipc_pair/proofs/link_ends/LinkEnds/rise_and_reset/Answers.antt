use Rattle.tipc_pair.specs.Changeovers.{risen}
use Rattle.tipc_pair.specs.PairArrivals.{IsHeardAs, behind, reset_near}
use Rattle.tipc_pair.proofs.Arrivings.{does_behind, ok_weaker}
use Rattle.tipc_pair.proofs.link_ends.LinkEnds.rise_and_reset.Goals as goal

pub returns : goal.returns
returns c =
    let hear = reset_near c.args.sender_epoch c.args.shown in
    let first = risen c.args.self.now c.args.number in
    ok_weaker c.take_reset.result (λ o. IsHeardAs (hear c.rise.new.self) c.take_reset.new.self c.rise.new.event c.take_reset.new.event o)
    (λ o. IsHeardAs (behind first hear) c.take_reset.new.self c.args.event.now c.take_reset.new.event o)
    (λ o h. does_behind first hear c.rise.new.self c.take_reset.new.self c.args.event.now c.rise.new.event c.take_reset.new.event o c.in_ok-rise.ensures.after c.in_ok-rise.ensures.adds h) c.take_reset.ensures
