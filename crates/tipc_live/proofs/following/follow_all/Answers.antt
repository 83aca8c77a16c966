use Rattle.std.proofs.Common.{get_or}
use Rattle.std.proofs.lemmas.Option.{slice_get-get_or}
use Rattle.tipc_live.specs.declared.keeping.KeptStep.{KeptStep}
use Rattle.tipc_live.proofs.Course.{course_at, course_begins, course_next, own_stamp}
use Rattle.tipc_live.proofs.Ordered.{kept_of}
use Rattle.tipc_live.proofs.Starting.{course_shows, in_order}
use Rattle.tipc_live.proofs.following.follow_all.Goals as goal

-- the step that stands for none
abbrev none : KeptStep
none = record { by = record { stamp = 0; caller = 0; call = 0 }; node = 0; begin = 0; end = 0 }

pub loop-step-init : goal.loop-step-init
loop-step-init g c = (course_begins g.P.Pick.gives c.args.nodes.now c.args.steps.now c.args.replay.now c.requires.follows, c.requires.turned)

pub follow-requires-clause-kept : goal.follow-requires-clause-kept
follow-requires-clause-kept g c =
    kept_of c.args.nodes.now c.args.steps.now c.loop-step.step-index (get_or c.args.steps.now c.loop-step.step-index none) c.requires.all
    (slice_get-get_or c.args.steps.now c.loop-step.step-index none c.loop-step-test.true)

pub follow-requires-clause-own : goal.follow-requires-clause-own
follow-requires-clause-own g c =
    own_stamp c.args.nodes.now c.args.steps.now c.loop-step.step-index (get_or c.args.steps.now c.loop-step.step-index none)
    (in_order c.args.nodes.now c.args.steps.now c.requires.all c.requires.order c.requires.once)
    (slice_get-get_or c.args.steps.now c.loop-step.step-index none c.loop-step-test.true)

pub follow-requires-clause-follows : goal.follow-requires-clause-follows
follow-requires-clause-follows g c =
    course_at g.P.Pick.gives c.args.nodes.now c.args.steps.now c.loop-step.replay c.loop-step.step-index (get_or c.args.steps.now c.loop-step.step-index none)
    (in_order c.args.nodes.now c.args.steps.now c.requires.all c.requires.order c.requires.once) c.loop-step.invariant.0
    (slice_get-get_or c.args.steps.now c.loop-step.step-index none c.loop-step-test.true)

pub loop-step-preserved : goal.loop-step-preserved
loop-step-preserved g c =
    let made = rw c.in_default.is at c.in_ok-found.ensures in (
      course_next g.P.Pick.gives c.args.nodes.now c.args.steps.now c.follow.new.replay c.loop-step.step-index (get_or c.args.steps.now c.loop-step.step-index none)
          (in_order c.args.nodes.now c.args.steps.now c.requires.all c.requires.order c.requires.once)
          (slice_get-get_or c.args.steps.now c.loop-step.step-index none c.loop-step-test.true) made.0,
      made.1,
    )

pub returns : goal.returns
returns g c =
    course_shows g.P.Pick.gives c.args.nodes.now c.args.steps.now c.loop-step.replay c.loop-step.step-index (in_order c.args.nodes.now c.args.steps.now c.requires.all c.requires.order c.requires.once)
    c.requires.well c.loop-step.invariant.0 c.loop-step-test.false
