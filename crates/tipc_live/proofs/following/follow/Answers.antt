use Rattle.std.specs.Option.{option_copied}
use Rattle.std.proofs.Common.{◌<◌, arith, get_or, length, rules, subst, sym, ◌∙◌, ap}
use Rattle.std.proofs.lemmas.Option.{none-some}
use Rattle.std.proofs.lemmas.Result.{IfOk-weaker}
use Rattle.tipc_live.specs.declared.answers.Audit.TheVariants.{NoFrame, TooOld}
use Rattle.tipc_live.specs.Auditing.{ShowsAnswer}
use Rattle.tipc_live.proofs.Ends.{Ends, begins_there, ends_at, ends_within, node_fits, node_within}
use Rattle.tipc_live.proofs.following.follow.Given.{Over}
use Rattle.tipc_live.proofs.following.follow.Goals as goal
use Rattle.tipc_live.proofs.following.follow.Goals.{After-heard}

pub offset_bounds-nodes-step : goal.offset_bounds-nodes-step
offset_bounds-nodes-step g c = let within = node_within c.args.nodes.now c.args.step.now c.requires.kept in omega (arith, within)

pub bounds-nodes-step : goal.bounds-nodes-step
bounds-nodes-step g c = node_within c.args.nodes.now c.args.step.now c.requires.kept

pub offset_bounds-choosers-step : goal.offset_bounds-choosers-step
offset_bounds-choosers-step g c =
    let within = node_within c.args.nodes.now c.args.step.now c.requires.kept in
    let same = c.requires.turned.count in
    let here : c.args.step.now.node < length c.args.choosers.now = omega (arith, within, same) in
    search rules

pub bounds-choosers-step : goal.bounds-choosers-step
bounds-choosers-step g c =
    let within = node_within c.args.nodes.now c.args.step.now c.requires.kept in
    let same = c.requires.turned.count in
    omega (arith, within, same)

pub locked_number-node-requires : goal.locked_number-node-requires
locked_number-node-requires g c = node_fits c.args.nodes.now c.args.step.now c.index-nodes-step.result c.requires.can c.requires.kept c.index-nodes-step.is

pub unreachable-requires : goal.unreachable-requires
unreachable-requires g c =
    let begins = begins_there c.args.nodes.now c.args.step.now c.index-nodes-step.result c.journal_of-kept.result.now c.requires.well c.requires.kept c.index-nodes-step.is c.journal_of-kept.ensures.journal in
    none-some _ (sym (ap (λ o. option_copied o) c.in_default.is) ∙ c.call_at.ensures ∙ begins)

-- what shows the ends of the step
ends : (g : Over) (c : After-heard g)
    → Ends g.P.Pick.gives (λ p. p.now) c.args.nodes.now c.args.replay.now c.args.choosers.now c.args.step.now (get_or c.args.choosers.now c.args.step.now.node c.index-choosers-step.result)
    c.locked_number-node.result c.journal_of-kept.result.now c.heard.result.now c.in-Some.call.now
ends g c =
    subst (λ x. Ends g.P.Pick.gives (λ p. p.now) c.args.nodes.now c.args.replay.now c.args.choosers.now c.args.step.now x c.locked_number-node.result c.journal_of-kept.result.now c.heard.result.now c.in-Some.call.now)
    c.index-choosers-step.is
    (ends_at g.P.Pick.gives (λ p. p.now) c.args.nodes.now c.args.replay.now c.args.choosers.now c.args.step.now c.index-nodes-step.result c.index-choosers-step.result c.locked_number-node.result
    c.journal_of-kept.result.now c.heard.result.now c.in-Some.call.now c.requires.can c.requires.well c.requires.kept c.requires.own c.requires.follows c.requires.turned c.index-nodes-step.is c.index-choosers-step.is
    c.locked_number-node.ensures.number c.journal_of-kept.ensures.journal c.heard.ensures (sym (ap (λ o. option_copied o) c.in-Some.is) ∙ c.call_at.ensures))

pub make_again-requires-clause-there : goal.make_again-requires-clause-there
make_again-requires-clause-there g c = (ends g c).there

pub make_again-requires-clause-can : goal.make_again-requires-clause-can
make_again-requires-clause-can g c = (ends g c).can

pub compare-requires : goal.compare-requires
compare-requires g c = (ends_within c.args.nodes.now c.args.step.now c.index-nodes-step.result c.journal_of-kept.result.now c.requires.well c.requires.kept c.index-nodes-step.is c.journal_of-kept.ensures.journal).1

pub differ-requires : goal.differ-requires
differ-requires g c = (ends_within c.args.nodes.now c.args.step.now c.index-nodes-step.result c.journal_of-kept.result.now c.requires.well c.requires.kept c.index-nodes-step.is c.journal_of-kept.ensures.journal).0

pub returns-in-Made : goal.returns-in-Made
returns-in-Made g c =
    let e = ends g (goal.at.returns-in-Made g c).After-heard in
    let outcome = rw c.in-Made.is at c.in_ok-make_again.ensures in
    IfOk-weaker c.compare.result _ _ (λ found told. e.compared c.make_again.new.replay c.make_again.new.chooser c.replayed_at.result.now found outcome c.replayed_at.ensures told) c.compare.ensures

pub returns-in_ok-differ-in-Full : goal.returns-in_ok-differ-in-Full
returns-in_ok-differ-in-Full g c =
    let e = ends g (goal.at.returns-in_ok-differ-in-Full g c).After-heard in
    let outcome = rw c.in-Full.is at c.in_ok-make_again.ensures in
    let told = c.in_ok-differ-in-Full.ensures in
    subst (λ a. ShowsAnswer g.P.Pick.gives c.args.nodes.now c.make_again.new.replay a) (sym told.2) (e.full c.make_again.new.replay c.make_again.new.chooser told.0 outcome told.1)

pub returns-in-NoFrame : goal.returns-in-NoFrame
returns-in-NoFrame g c =
    let e = ends g (goal.at.returns-in-NoFrame g c).After-heard in
    let outcome = rw c.in-NoFrame.is at c.in_ok-make_again.ensures in
    subst (λ n. ShowsAnswer g.P.Pick.gives c.args.nodes.now c.make_again.new.replay (NoFrame c.locked_number-node.result n)) (sym c.arrival_number-number.ensures)
    (e.no_frame c.make_again.new.replay c.make_again.new.chooser outcome)

pub returns-in-TooOld : goal.returns-in-TooOld
returns-in-TooOld g c =
    let e = ends g (goal.at.returns-in-TooOld g c).After-heard in
    let outcome = rw c.in-TooOld.is at c.in_ok-make_again.ensures in
    subst (λ n. ShowsAnswer g.P.Pick.gives c.args.nodes.now c.make_again.new.replay (TooOld c.locked_number-node.result n c.in-TooOld.count)) (sym c.arrival_number-number.ensures)
    (e.too_old c.make_again.new.replay c.make_again.new.chooser c.in-TooOld.count outcome)
