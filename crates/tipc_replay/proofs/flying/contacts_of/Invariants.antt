-- The loop that gathers the contacts of a node.
use Rattle.std.proofs.Common.{◌≤◌, vec_capacity}
use Rattle.tipc_replay.proofs.pairs.Contacts.{AreGathered}
use Rattle.tipc_replay.proofs.flying.contacts_of.Given as goal

abbrev pub invariant-loop-b : goal.invariant-loop-b
invariant-loop-b l = record {
  gathered : AreGathered l.members l.a l.b l.met.items;
  room : 33 ≤ vec_capacity l.met;
}
