use Rattle.std.proofs.Common.{arith}
use Rattle.tipc_work.specs.declared.crews.Crew.{Crew}
use Rattle.tipc_work.proofs.Crewing.{crews_more}
use Rattle.tipc_work.proofs.runs.crews_of.Goals as goal

pub loop-passes-preserved : goal.loop-passes-preserved
loop-passes-preserved g c =
    let count = c.len-in-Some.ensures in
    let place = c.loop-passes.crews.ok in
    let more =
    crews_more (λ (k : Crew _ _). k.passes) (λ (k : Crew _ _). k.first) (λ (k : Crew _ _). k.second) (λ (k : Crew _ _). k.place) c.loop-passes.crews.items
    c.push.new.self.items _ _ c.pop_front.new.self.items _ _ _ c.pop_front-in-Some-2.new.self.items _ c.in_ok-push.ensures.items c.loop-passes.invariant.0
    c.loop-passes.invariant.1 c.loop-passes.invariant.2 c.in-Some.ensures.items c.in-Some-pop_front.ensures.items c.in-Some-pop_front-2.ensures.items
    (omega (arith, count, place)) in
    let bearers = c.loop-passes.invariant.3 in
    let clocks = c.loop-passes.invariant.4 in
    let waiting = c.in-Some.ensures.len in
    let one = c.in-Some-pop_front.ensures.len in
    let two = c.in-Some-pop_front-2.ensures.len in
    let three = c.in-Some-pop_front-3.ensures.len in
    (more.0, more.1, more.2, omega (arith, bearers, waiting, one, two), omega (arith, clocks, waiting, three))
