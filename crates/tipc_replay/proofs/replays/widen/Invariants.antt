use Rattle.std.proofs.Common.{◌≡◌, ◌+◌, ◌-◌, ◌≤◌, ℕ, None, slice_index_or, vec_capacity, vec_len}
use Rattle.tipc_replay.proofs.replays.widen.Given as goal

abbrev pub invariant-loop : goal.invariant-loop
invariant-loop l = record {
  same : (m : ℕ) → slice_index_or l.members.items m None ≡ slice_index_or l.fn.members.items m None;
  count : vec_len l.members ≡ vec_len l.fn.members + l.counter;
  room : vec_len l.fn.members + 33 ≤ vec_capacity l.members;
  missing : l.missing ≡ 33 - vec_len l.fn.members;
}
