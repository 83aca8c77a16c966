use Rattle.std.proofs.Common.{◌≡◌, ◌+◌, ◌*◌, ◌≤◌, ◌++◌, take, vec_len, vec_capacity}
use Rattle.tipc_header.specs.Spelling.{words}
use Rattle.tipc_header.proofs.encoding.put_words.Given as goal

abbrev pub invariant-loop-number : goal.invariant-loop-number
invariant-loop-number l = record {
  items : l.into.items ≡ l.fn.into.items ++ words (take l.number-index l.numbers);
  len : vec_len l.into ≡ vec_len l.fn.into + 4 * l.number-index;
  room : vec_capacity l.fn.into ≤ vec_capacity l.into;
}
