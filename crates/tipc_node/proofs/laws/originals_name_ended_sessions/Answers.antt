use Rattle.tipc_node.specs.Nodes.{step_of}
use Rattle.tipc_node.proofs.pairs.Numbers.{new_ended, turn_ended, turn_ended_frames}
use Rattle.tipc_node.proofs.laws.originals_name_ended_sessions.Goals as goal

pub returns-clause-begins : goal.returns-clause-begins
returns-clause-begins c = new_ended

pub returns-clause-goes_on : goal.returns-clause-goes_on
returns-clause-goes_on c = λ n n' by note bytes kept frames t numbers h. turn_ended n n' bytes (step_of by note t.inside kept) frames t.told_before t.told t.turn numbers h

pub returns-clause-leaves : goal.returns-clause-leaves
returns-clause-leaves c = λ n n' by note bytes kept frames t numbers h b. turn_ended_frames n n' bytes (step_of by note t.inside kept) frames t.told_before t.told t.turn numbers h b
