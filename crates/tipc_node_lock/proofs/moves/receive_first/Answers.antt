use Rattle.tipc_node_lock.proofs.Going.{gives_one}
use Rattle.tipc_node_lock.proofs.moves.receive_first.Goals as goal

pub received-requires : goal.received-requires
received-requires g c = gives_one _ _ c.args.port c.args.by _ _ _ c.requires.there c.requires.waits c.in_ok-answer.ensures.ok
