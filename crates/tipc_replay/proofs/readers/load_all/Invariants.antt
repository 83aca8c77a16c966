use Rattle.std.proofs.Common.{◌≡◌, take}
use Rattle.std.specs.Prelude.{sum_by}
use Rattle.tipc_replay.specs.Readers.{unacked_in, waiting_in}
use Rattle.tipc_replay.specs.States.{counted}
use Rattle.tipc_replay.proofs.readers.load_all.Given as goal

abbrev pub invariant-loop-member : goal.invariant-loop-member
invariant-loop-member l = record {
  unacked : l.unacked ≡ counted (sum_by unacked_in (take l.member-index l.members));
  waiting : l.waiting ≡ counted (sum_by waiting_in (take l.member-index l.members));
}
