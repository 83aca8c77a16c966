use Rattle.std.proofs.Common.{◌≡◌, ◌++◌}
use Rattle.std.specs.List.{flat_map}
use Rattle.tipc_load.specs.Load.{drawn_lines, line_text, opening, state_after}
use Rattle.tipc_load.proofs.load.generate.Given as goal

abbrev pub invariant-loop : goal.invariant-loop
invariant-loop l = record {
  text : l.script.items ≡ flat_map line_text opening ++ flat_map line_text (drawn_lines l.counter l.seed);
  state : l.draws ≡ state_after l.counter l.seed;
}
