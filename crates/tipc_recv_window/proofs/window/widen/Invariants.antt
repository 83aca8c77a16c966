use Rattle.std.proofs.Common.{◌≡◌, ◌≤◌, ◌+◌, ◌-◌, ◌++◌, None, length}
use Rattle.std.specs.Prelude.{replicate}
use Rattle.std.specs.VecDeque.{deque_capacity, deque_len}
use Rattle.tipc_recv_window.proofs.window.widen.Given as goal

abbrev pub invariant-loop : goal.invariant-loop
invariant-loop l = record {
  items : l.held.items ≡ l.fn.held.items ++ replicate (l.counter - length l.fn.held.items) None;
  start : length l.fn.held.items ≤ l.counter;
  most : l.counter - length l.fn.held.items ≤ l.fn.place + 1 - length l.fn.held.items;
  end : l.end ≡ l.fn.place + 1;
  long : deque_len l.held ≡ l.counter;
  room : 50 ≤ deque_capacity l.held;
}
