use Rattle.std.proofs.Common.{◌≡◌, ◌≤◌, ◌-◌}
use Rattle.tipc_replay.specs.Readers.{links_up_to}
use Rattle.tipc_replay.proofs.readers.links_at.Given as goal

abbrev pub invariant-loop-peer : goal.invariant-loop-peer
invariant-loop-peer l = record {
  some : 1 ≤ l.peer;
  links : l.links.items ≡ links_up_to l.members l.n (l.peer - 1);
}
