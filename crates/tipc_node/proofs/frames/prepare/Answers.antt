use Rattle.std.proofs.Common.{sym, subst}
use Rattle.std.specs.Prelude.{All}
use Rattle.tipc_header.specs.Spelling.{view}
use Rattle.tipc_pair.specs.Messages.{opened_in, HasNoFault}
use Rattle.tipc_pair.proofs.turns.Faults.{prepared_sound}
use Rattle.tipc_node.proofs.frames.prepare.Goals as goal

pub prepare_deliveries-requires-clause-sound : goal.prepare_deliveries-requires-clause-sound
prepare_deliveries-requires-clause-sound c =
    let d = c.args.due.now in
    subst (λ o. All HasNoFault (opened_in o)) (sym c.outcome.ensures)
    (prepared_sound c.args.neighbour.now.pair d.first d.second (view d.packet) c.args.number c.args.shown c.in_ok-arriving.arriving c.in_ok-arriving.ensures.prepares)
