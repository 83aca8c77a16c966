use Rattle.std.proofs.Common.{refl, arith}
use Rattle.tipc_link.proofs.session.Session.state_frame.Goals as goal

pub encode_frame-requires : goal.encode_frame-requires
encode_frame-requires c = record {
  acknowledgement = omega (arith, c.sequence_number.type_inv);
  sequence = omega arith;
  previous = omega arith;
  header = record {
    gap = omega (arith, c.gap.ensures.within);
    broadcast_acknowledgement = omega arith;
    next = omega (arith, c.sequence_number-2.type_inv);
    broadcast_next = omega arith;
    broadcast_start = omega arith;
    broadcast_gap = omega arith;
    destination_node = omega arith;
    priority = omega (arith, c.priority.ensures.within);
  };
  numbering = refl;
  rest = refl;
  size = omega arith;
}
