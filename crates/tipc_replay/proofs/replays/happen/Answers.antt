use Rattle.tipc_replay.proofs.replays.happen.Goals as goal

pub turn-requires : goal.turn-requires
turn-requires g c = record {
  can = c.requires.can;
  next = c.requires.next;
  other = c.in_default.not-Arrive;
  settled = c.requires.settled;
  steady = c.requires.steady;
}
