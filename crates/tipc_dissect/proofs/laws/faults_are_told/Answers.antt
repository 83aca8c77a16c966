use Rattle.tipc_dissect.proofs.Telling.{envelope_is_told, fault_is_told}
use Rattle.tipc_dissect.proofs.laws.faults_are_told.Goals as goal

pub returns-clause-fault : goal.returns-clause-fault
returns-clause-fault c = λ line frame fault wide. fault_is_told line frame fault

pub returns-clause-envelope : goal.returns-clause-envelope
returns-clause-envelope c = λ line frame wide. envelope_is_told line frame
