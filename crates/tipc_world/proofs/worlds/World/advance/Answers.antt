use Rattle.std.proofs.Common.{subst, sym}
use Rattle.tipc_replay.specs.States.{ReplayState}
use Rattle.tipc_replay.specs.Steps.{IsReplayStep}
use Rattle.tipc_world.specs.Answered.{AreOrderly}
use Rattle.tipc_world.specs.Steady.{IsSteady}
use Rattle.tipc_world.specs.Events.{CanHappen}
use Rattle.tipc_world.specs.Limits.{IsAnswered, IsFree, PassesFrames}
use Rattle.tipc_world.specs.States.{WorldView}
use Rattle.tipc_world.proofs.Advancing.{answered_of, passes_of, world_of, Counts, Steps}
use Rattle.tipc_world.proofs.Boots.{next_boot, steady_after}
use Rattle.tipc_world.proofs.calls.Orderly.{orderly_after}
use Rattle.tipc_world.proofs.worlds.World.advance.Goals as goal

pub happen-requires : goal.happen-requires
happen-requires g c =
    let w = c.self.inside in record {
      can = subst (λ (o : WorldView _). CanHappen o.state c.args.event) (sym c.self.view_is) c.requires;
      next = next_boot w.replay.members w.events w.stamps c.args.event c.self.invariant.0;
    }

pub invariant_of-self-then-is_over : goal.invariant_of-self-then-is_over
invariant_of-self-then-is_over g c =
    let w = c.self.inside in
    let r = w.replay in
    let h = c.in_ok-happened.ensures in
    let can = subst (λ (o : WorldView _). CanHappen o.state c.args.event) (sym c.self.view_is) c.requires in
    let counts : Counts (world_of r w.events w.stamps) c.args.event c.in_ok-happened.happened.counted c.after-self-inside.result c.after-self-inside-2.result = record {
      counted_is = h.counted;
      recorded = c.is_recorded-recorded.result;
      recorded_is = c.is_recorded-recorded.ensures;
      call = c.is_call.result;
      call_is = c.is_call.ensures;
      events_are = c.after-self-inside.ensures;
      stamps_are = c.after-self-inside-2.ensures;
    } in
    let free : IsFree r.members r.air w.events c.args.event = record { below = c.in_ok-begin.ensures.ok; room = h.room } in
    let step : Steps r c.happen.new.self w.stamps c.args.event c.in_ok-happened.happened.answer = subst (λ by. IsReplayStep r by c.args.event c.happen.new.self c.in_ok-happened.happened.answer) c.by_of-by.ensures h.happened in (
      steady_after r c.happen.new.self c.args.event _ _ _ _ _ _ step counts free c.self.invariant.0,
      orderly_after g.P.Pick.gives r c.happen.new.self c.args.event _ _ _ _ _ _ _ _ can c.good.ensures.numbered step counts h.chose c.self.invariant.1,
    )

pub invariant_of-self-2 : goal.invariant_of-self-2
invariant_of-self-2 g c =
    let w = c.self.inside in
    let r = w.replay in
    let h = c.in_ok-happened.ensures in
    let can = subst (λ (o : WorldView _). CanHappen o.state c.args.event) (sym c.self.view_is) c.requires in
    let counts : Counts (world_of r w.events w.stamps) c.args.event c.in_ok-happened.happened.counted c.after-self-inside.result c.after-self-inside-2.result = record {
      counted_is = h.counted;
      recorded = c.is_recorded-recorded.result;
      recorded_is = c.is_recorded-recorded.ensures;
      call = c.is_call.result;
      call_is = c.is_call.ensures;
      events_are = c.after-self-inside.ensures;
      stamps_are = c.after-self-inside-2.ensures;
    } in
    let free : IsFree r.members r.air w.events c.args.event = record { below = c.in_ok-begin.ensures.ok; room = h.room } in
    let step : Steps r c.happen.new.self w.stamps c.args.event c.in_ok-happened.happened.answer = subst (λ by. IsReplayStep r by c.args.event c.happen.new.self c.in_ok-happened.happened.answer) c.by_of-by.ensures h.happened in (
      steady_after r c.happen.new.self c.args.event _ _ _ _ _ _ step counts free c.self.invariant.0,
      orderly_after g.P.Pick.gives r c.happen.new.self c.args.event _ _ _ _ _ _ _ _ can c.good.ensures.numbered step counts h.chose c.self.invariant.1,
    )

pub returns-then-is_over-clause-stops : goal.returns-then-is_over-clause-stops
returns-then-is_over-clause-stops g c =
    let w = c.self.inside in
    let r = w.replay in
    let h = c.in_ok-happened.ensures in
    let can = subst (λ (o : WorldView _). CanHappen o.state c.args.event) (sym c.self.view_is) c.requires in
    let counts : Counts (world_of r w.events w.stamps) c.args.event c.in_ok-happened.happened.counted c.after-self-inside.result c.after-self-inside-2.result = record {
      counted_is = h.counted;
      recorded = c.is_recorded-recorded.result;
      recorded_is = c.is_recorded-recorded.ensures;
      call = c.is_call.result;
      call_is = c.is_call.ensures;
      events_are = c.after-self-inside.ensures;
      stamps_are = c.after-self-inside-2.ensures;
    } in
    let free : IsFree r.members r.air w.events c.args.event = record { below = c.in_ok-begin.ensures.ok; room = h.room } in
    let step : Steps r c.happen.new.self w.stamps c.args.event c.in_ok-happened.happened.answer = subst (λ by. IsReplayStep r by c.args.event c.happen.new.self c.in_ok-happened.happened.answer) c.by_of-by.ensures h.happened in
    let over = c.is_over.ensures.over c.if-is_over.true in
    subst (λ (o : WorldView _). PassesFrames o.state c.args.event (world_of c.happen.new.self c.after-self-inside.result c.after-self-inside-2.result)) c.self.view_is
    (passes_of r c.happen.new.self c.args.event _ _ _ _ _ _ step counts free over.0 over.1)

pub returns-clause-answered : goal.returns-clause-answered
returns-clause-answered g c =
    let w = c.self.inside in
    let r = w.replay in
    let h = c.in_ok-happened.ensures in
    let can = subst (λ (o : WorldView _). CanHappen o.state c.args.event) (sym c.self.view_is) c.requires in
    let counts : Counts (world_of r w.events w.stamps) c.args.event c.in_ok-happened.happened.counted c.after-self-inside.result c.after-self-inside-2.result = record {
      counted_is = h.counted;
      recorded = c.is_recorded-recorded.result;
      recorded_is = c.is_recorded-recorded.ensures;
      call = c.is_call.result;
      call_is = c.is_call.ensures;
      events_are = c.after-self-inside.ensures;
      stamps_are = c.after-self-inside-2.ensures;
    } in
    let free : IsFree r.members r.air w.events c.args.event = record { below = c.in_ok-begin.ensures.ok; room = h.room } in
    let step : Steps r c.happen.new.self w.stamps c.args.event c.in_ok-happened.happened.answer = subst (λ by. IsReplayStep r by c.args.event c.happen.new.self c.in_ok-happened.happened.answer) c.by_of-by.ensures h.happened in
    let within = c.is_over.ensures.within c.if-is_over.false in
    subst (λ (o : WorldView _). IsAnswered o.state c.args.event (world_of c.happen.new.self c.after-self-inside.result c.after-self-inside-2.result) c.in_ok-happened.happened.answer) c.self.view_is
    (answered_of r c.happen.new.self c.args.event _ _ _ _ _ _ step counts free within)

pub invariant_of-self : goal.invariant_of-self
invariant_of-self g c =
    let w = c.self.inside in
    let same = c.in_err-happened.ensures.err in
    subst (λ (r : ReplayState). IsSteady r.members w.events w.stamps × AreOrderly g.P.Pick.gives r.members w.stamps c.happen.new.chooser) (sym same.0)
    (subst (λ k. IsSteady w.replay.members w.events w.stamps × AreOrderly g.P.Pick.gives w.replay.members w.stamps k) (sym same.1) c.self.invariant)
