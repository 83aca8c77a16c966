use Rattle.std.proofs.Common.{◌∙◌, ap, subst}
use Rattle.tipc_types.specs.Address.{node_word}
use Rattle.tipc_header.specs.Spelling.{view}
use Rattle.tipc_outside.specs.Frames.{Adds}
use Rattle.tipc_broadcast.specs.Casting.{CastComing}
use Rattle.tipc_node.specs.CastArrivals.{cast_answering, members_in}
use Rattle.tipc_node.specs.CastHearings.{coming_for}
use Rattle.tipc_node.specs.Neighbours.{with_pair}
use Rattle.tipc_node.proofs.casts.commit_cast.Goals as goal

pub returns-clause-link : goal.returns-clause-link
returns-clause-link c = λ by is. let d = c.args.due.now in c.commit-outcome.ensures.after d.first (members_in d.second) by (view d.packet) is

pub returns-clause-answered : goal.returns-clause-answered
returns-clause-answered c = λ by is.
    let d = c.args.due.now in
    let y = c.args.neighbour.now in
    let link = c.commit-outcome.ensures.after d.first (members_in d.second) by (view d.packet) is in
    let outcome = c.commit-outcome.ensures.outcome ∙ ap (λ (x : CastComing). x.outcome) is in
    c.answer_cast.ensures.after ∙ (λ i. with_pair y (cast_answering (outcome i) d.bearer (node_word d.peer) (link i) y).pair)

pub returns-clause-frames : goal.returns-clause-frames
returns-clause-frames c = λ by is.
    let d = c.args.due.now in
    let y = c.args.neighbour.now in
    let link = c.commit-outcome.ensures.after d.first (members_in d.second) by (view d.packet) is in
    let outcome = c.commit-outcome.ensures.outcome ∙ ap (λ (x : CastComing). x.outcome) is in
    subst (λ v. Adds c.args.out.now c.answer_cast.new.out (cast_answering (coming_for c.args.broadcast.now d by).outcome d.bearer (node_word d.peer) v y).states) link
    (subst (λ o. Adds c.args.out.now c.answer_cast.new.out (cast_answering o d.bearer (node_word d.peer) c.commit-outcome.new.self y).states) outcome c.answer_cast.ensures.frames)
