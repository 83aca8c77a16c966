use Rattle.std.proofs.Common.{◌∙◌, sym, subst, ap}
use Rattle.tipc_header.specs.Spelling.{view}
use Rattle.tipc_pair.specs.Facing.{PairEnds, facing}
use Rattle.tipc_pair.specs.PairArrivals.{Arrives}
use Rattle.tipc_pair.specs.Preparing.{IsPrepared}
use Rattle.tipc_pair.proofs.link_ends.LinkEnds.commit.Goals as goal

pub returns-clause-told : goal.returns-clause-told
returns-clause-told c = λ es er by given prepared.
    let x = c.args.self.now in
    let p = view c.args.packet.now in
    let there = c.face.ensures.after in
    let h = c.take-told.ensures.told es er by given (subst (λ y. IsPrepared y es er p by c.args.shown c.args.way given) (sym there) prepared) in (
      h.0,
      subst (λ y. Arrives y es er p by c.args.shown h.0 given) there h.1,
      c.face-2.ensures.after ∙ (ap (λ (v : PairEnds). facing v.bearer c.take-told.new.self) c.self.view_is ∙ ap (facing x.bearer) h.2),
      h.3,
    )
