use Rattle.tipc_world.proofs.rounds.Acknowledging.{settled_acknowledges, settled_grows_no_more, settled_releases_casts}
use Rattle.tipc_world.proofs.rounds.ComesUp.{settled_comes_up}
use Rattle.tipc_world.proofs.rounds.Resting.{settled_rests}
use Rattle.tipc_world.proofs.rounds.PoisedAgain.{settled_poised}
use Rattle.tipc_world.proofs.worlds.World.settle.Goals as goal

pub returns-clause-poised : goal.returns-clause-poised
returns-clause-poised g c =
    let settled = c.go_round-settled in
    settled_poised c.args.rounds c.args.self.now.state settled.result settled.new.self.state c.kept.ensures settled.ensures.comes

pub returns-clause-comes_up : goal.returns-clause-comes_up
returns-clause-comes_up g c =
    let settled = c.go_round-settled in
    settled_comes_up c.args.rounds c.args.self.now.state settled.result settled.new.self.state c.kept.ensures settled.ensures.comes

pub returns-clause-under_way : goal.returns-clause-under_way
returns-clause-under_way g c =
    let settled = c.go_round-settled in
    settled_grows_no_more c.args.rounds c.args.self.now.state settled.result settled.new.self.state c.kept.ensures settled.ensures.comes

pub returns-clause-acknowledged : goal.returns-clause-acknowledged
returns-clause-acknowledged g c =
    let settled = c.go_round-settled in
    settled_acknowledges c.args.rounds c.args.self.now.state settled.result settled.new.self.state c.kept.ensures settled.ensures.comes

pub returns-clause-broadcast : goal.returns-clause-broadcast
returns-clause-broadcast g c =
    let settled = c.go_round-settled in
    settled_releases_casts c.args.rounds c.args.self.now.state settled.result settled.new.self.state c.kept.ensures settled.ensures.comes

pub returns-clause-quiet : goal.returns-clause-quiet
returns-clause-quiet g c =
    let settled = c.go_round-settled in
    settled_rests c.args.rounds c.args.self.now.state settled.result settled.new.self.state c.kept.ensures settled.ensures.comes
