use Rattle.std.proofs.Common.{true, sym, ap, ◌∙◌}
use Rattle.tipc_node.specs.Drafts.{with_sockets_in}
use Rattle.tipc_node.proofs.work.Casts.{spread_none, spread_some}
use Rattle.tipc_node.proofs.drafts.Draft.spread_told.Goals as goal

pub spread-requires : goal.spread-requires
spread-requires c =
    let some = spread_some c.args.self.now.work.sockets c.requires.0 c.in-Some.spreading (sym c.requires.1 ∙ c.in-Some.is) in
    (true, some.0, some.1)

pub returns-in-Some : goal.returns-in-Some
returns-in-Some c = λ ds is.
    let d = c.args.self.now in
    let some = spread_some d.work.sockets ds c.in-Some.spreading (sym is ∙ c.in-Some.is) in
    c.spread.ensures true some.0 some.1 ∙ ap (with_sockets_in d) (sym some.2)

pub returns-in-None : goal.returns-in-None
returns-in-None c = λ ds is.
    let d = c.args.self.now in
    ap (with_sockets_in d) (sym (spread_none d.work.sockets ds (sym is ∙ c.in-None.is)))
