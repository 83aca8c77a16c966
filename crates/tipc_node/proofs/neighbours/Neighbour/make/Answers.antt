use Rattle.std.proofs.Common.{ap}
use Rattle.tipc_node.specs.Neighbours.{with_pair}
use Rattle.tipc_node.proofs.work.Neighbouring.{made_mended, made_sent}
use Rattle.tipc_node.proofs.neighbours.Neighbour.make.Goals as goal

pub returns-clause-after : goal.returns-clause-after
returns-clause-after c =
    let x = c.args.self.now in
    ap (with_pair x) (made_mended c.args.bearer x c.make_end.new.self c.mend.new.self c.requires.bearer c.sound.ensures.first c.make_end.ensures c.mend.ensures.after)

pub returns-clause-frames : goal.returns-clause-frames
returns-clause-frames c = made_sent c.args.bearer c.args.self.now c.make_end.new.self c.args.out.now c.mend.new.out c.requires.bearer c.sound.ensures.first c.make_end.ensures c.mend.ensures.frames
