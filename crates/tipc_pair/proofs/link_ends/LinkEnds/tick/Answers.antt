use Rattle.std.proofs.Common.{◌∙◌, ap}
use Rattle.tipc_pair.specs.Facing.{PairEnds}
use Rattle.tipc_pair.proofs.Steppings.{released_bearer}
use Rattle.tipc_pair.specs.Changeovers.{released}
use Rattle.tipc_pair.specs.Courses.{going_on}
use Rattle.tipc_pair.specs.PairCalls.{at_bearer, tick_near}
use Rattle.tipc_pair.proofs.CourseLaws.{then_adds, then_after}
use Rattle.tipc_pair.proofs.link_ends.LinkEnds.tick.Goals as goal

pub returns-clause-after : goal.returns-clause-after
returns-clause-after c =
    let call = tick_near c.args.shown in
    let first = at_bearer 0 c.args.self.now call in
    then_after c.tick_on-2.new.self c.release.new.self (going_on first (λ y. at_bearer 1 y call)) released
    (then_after c.tick_on.new.self c.tick_on-2.new.self first (λ y. at_bearer 1 y call) c.in_ok-tick_on.ensures.after c.in_ok-tick_on-2.ensures.after) c.release.ensures.after

pub returns-clause-adds : goal.returns-clause-adds
returns-clause-adds c =
    let call = tick_near c.args.shown in
    let first = at_bearer 0 c.args.self.now call in
    then_adds c.args.event.now c.tick_on-2.new.event c.release.new.event c.tick_on-2.new.self (going_on first (λ y. at_bearer 1 y call)) released
    (then_after c.tick_on.new.self c.tick_on-2.new.self first (λ y. at_bearer 1 y call) c.in_ok-tick_on.ensures.after c.in_ok-tick_on-2.ensures.after)
    (then_adds c.args.event.now c.tick_on.new.event c.tick_on-2.new.event c.tick_on.new.self first (λ y. at_bearer 1 y call) c.in_ok-tick_on.ensures.after c.in_ok-tick_on.ensures.adds
    c.in_ok-tick_on-2.ensures.adds) c.release.ensures.adds

pub returns-clause-bearer : goal.returns-clause-bearer
returns-clause-bearer c = λ first.
    ap (λ (v : PairEnds). v.bearer) c.release.ensures.after
    ∙ released_bearer c.tick_on-2.new.self (c.in_ok-tick_on-2.ensures.bearer ∙ (c.in_ok-tick_on.ensures.bearer ∙ first))
