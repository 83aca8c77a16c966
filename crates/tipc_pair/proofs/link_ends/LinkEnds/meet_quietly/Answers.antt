use Rattle.std.proofs.Common.{◌∙◌, sym, subst, ap}
use Rattle.tipc_outside.specs.Frames.{Gains}
use Rattle.tipc_header.specs.Spelling.{view}
use Rattle.tipc_link.specs.Links.{link_frames}
use Rattle.tipc_pair.specs.Courses.{LeavingState}
use Rattle.tipc_pair.specs.Facing.{PairEnds, with_near}
use Rattle.tipc_pair.specs.PairOpenings.{IsQuiet}
use Rattle.tipc_pair.proofs.Quietly.{hears_and_opens, quietly_kept}
use Rattle.tipc_pair.proofs.link_ends.LinkEnds.meet_quietly.Goals as goal

pub invariant_of-self : goal.invariant_of-self
invariant_of-self c =
    let q = c.requires.quiet in
    quietly_kept _ c.in-Some.link c.commit.new.self q.0 q.1 (view c.args.packet.now) q.2 c.args.arriving c.args.reassembly c.self.invariant
    (subst (λ (v : PairEnds). IsQuiet v q.0 q.1 (view c.args.packet.now) q.2 c.args.arriving) (sym c.self.view_is) q.3) c.in-Some.is c.commit.ensures.after

pub returns-clause-told : goal.returns-clause-told
returns-clause-told c = λ es er by given quiet opened.
    let x = c.args.self.now in
    let e = c.in-Some.link in
    let p = view c.args.packet.now in
    let a = c.args.arriving in
    let begun = c.args.reassembly in
    hears_and_opens x _ e c.commit.new.self es er p by c.args.shown a given begun c.args.event.now _ quiet c.requires.same (sym (ap (λ (v : PairEnds). v.near) c.self.view_is) ∙ c.in-Some.is)
    c.commit.ensures.after (ap (λ (l : LeavingState). l.changes) c.event.view_is)
    (subst (λ (l : LeavingState). Gains l.out c.commit.new.out (link_frames e a.states p a.hearing.by c.args.shown)) c.event.view_is c.commit.ensures.frames) opened
    (ap (λ (v : PairEnds). record (with_near v c.commit.new.self) { begun = begun }) c.self.view_is)

pub returns-clause-quiet : goal.returns-clause-quiet
returns-clause-quiet c = ap (λ (l : LeavingState). l.changes) c.event.view_is
