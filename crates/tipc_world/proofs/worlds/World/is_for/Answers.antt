use Rattle.tipc_world.proofs.Arrivals.{number_there}
use Rattle.tipc_world.proofs.worlds.World.is_for.Goals as goal

pub is_for-requires : goal.is_for-requires
is_for-requires g c = number_there c.args.self.now.state c.args.node c.good.ensures.kept c.requires
