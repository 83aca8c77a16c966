use Rattle.tipc_topology.proofs.Taken.{last_taken, next_taken}
use Rattle.tipc_topology.proofs.laws.taken_events_are_a_front.Goals as goal

pub returns-clause-next : goal.returns-clause-next
returns-clause-next c = λ all taken w e is first. next_taken all taken w.events e is first

pub returns-clause-last : goal.returns-clause-last
returns-clause-last c = λ all taken w is none. last_taken all taken w.events is none
