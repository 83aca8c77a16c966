use Rattle.tipc_node.specs.Nodes.{step_of}
use Rattle.tipc_node.proofs.pairs.Numbers.{new_numbers, numbers_low, turn_falls_none, turn_numbers}
use Rattle.tipc_node.proofs.laws.numbers_never_fall.Goals as goal

pub returns-clause-turns : goal.returns-clause-turns
returns-clause-turns c = λ n n' by note bytes kept frames t. turn_falls_none n n' bytes (step_of by note t.inside kept) frames t.told_before t.told t.turn

pub returns-clause-begins : goal.returns-clause-begins
returns-clause-begins c = new_numbers

pub returns-clause-goes_on : goal.returns-clause-goes_on
returns-clause-goes_on c = λ n n' by note bytes kept frames t h. turn_numbers n n' bytes (step_of by note t.inside kept) frames t.told_before t.told t.turn h

pub returns-clause-low : goal.returns-clause-low
returns-clause-low c = numbers_low
