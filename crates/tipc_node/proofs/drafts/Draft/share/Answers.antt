use Rattle.std.proofs.Common.{ℕ, List, Option, ap, subst, ◌∙◌}
use Rattle.tipc_outside.specs.Frames.{Out}
use Rattle.tipc_node.specs.declared.neighbours.Neighbour.{Neighbour}
use Rattle.tipc_node.specs.Drafts.{DraftState, ToldPeers, own_of, start_of}
use Rattle.tipc_node.specs.Sockets.{with_sockets_of}
use Rattle.tipc_node.specs.Works.{work_of}
use Rattle.tipc_node.proofs.work.Drafting.{start_idle}
use Rattle.tipc_node.proofs.drafts.Draft.share.Goals as goal

pub returns-in_default-clause-err : goal.returns-in_default-clause-err
returns-in_default-clause-err c =
    let d = c.args.self.now in
    let back = c.undo.ensures.start ∙ c.share_by.ensures.start ∙ ap start_of c.self.view_is ∙ start_idle d c.requires.idle.copies in
    (ap (λ (start : List (Option Neighbour) × ℕ). start.0) back, c.undo.ensures.idle)

pub returns-in_default-clause-start : goal.returns-in_default-clause-start
returns-in_default-clause-start c =
    start_idle c.undo.new.self c.undo.ensures.idle.copies ∙ c.undo.ensures.start ∙ c.share_by.ensures.start ∙ ap start_of c.self.view_is ∙ start_idle c.args.self.now c.requires.idle.copies

pub returns-clause-told : goal.returns-clause-told
returns-clause-told c = λ s.
    let d = c.args.self.now in
    let last = c.share_by.new.self in
    let es = c.args.inside.items in
    let ms = c.args.messages.now in
    subst (λ (b : Out). ToldPeers (own_of d) (work_of d.work.neighbours s es) ms (with_sockets_of last.work s) b last.out) c.requires.idle.out
    (subst (λ (z : DraftState). ToldPeers (own_of z) (work_of z.work.neighbours s es) ms (with_sockets_of last.work s) z.out last.out) c.self.view_is (c.in-Ok.ensures.told s))

pub returns-clause-start : goal.returns-clause-start
returns-clause-start c = c.share_by.ensures.start ∙ ap start_of c.self.view_is ∙ start_idle c.args.self.now c.requires.idle.copies
