use Rattle.tipc_journal.specs.Licensed.{event_given}
use Rattle.tipc_journal.specs.Queues.{is_taking, sockets_after}
use Rattle.tipc_journal.specs.Refusals.{made_by}
use Rattle.tipc_sockets.specs.Telling.{is_tick}
use Rattle.tipc_sockets.proofs.StepsTold.{told_closed, told_event, told_made, told_other, told_passed, told_taken}
use Rattle.tipc_sockets.proofs.laws.steps_tell_of_sockets.Goals as goal

pub returns-clause-made : goal.returns-clause-made
returns-clause-made c = λ own before st s later port whole inner h event answer is.
    told_made own before st s later whole inner h port is (λ ports. (λ i. sockets_after ports (event i) (answer i))) (λ i. made_by (event i) (answer i)) (λ other. (λ i. is_taking other (event i) (answer i))) (λ i. is_tick (event i)) (λ n. (λ i. event_given n (event i) (answer i)))

pub returns-clause-closed : goal.returns-clause-closed
returns-clause-closed c = λ own before st s later port whole inner h event answer k bare.
    told_closed own before st s later whole inner h port k bare (λ ports. (λ i. sockets_after ports (event i) (answer i))) (λ i. made_by (event i) (answer i)) (λ other. (λ i. is_taking other (event i) (answer i))) (λ i. is_tick (event i)) (λ n. (λ i. event_given n (event i) (answer i)))

pub returns-clause-taken : goal.returns-clause-taken
returns-clause-taken c = λ own before st s later port whole inner h event answer some.
    told_taken own before st s later whole inner h port some (λ ports. (λ i. sockets_after ports (event i) (answer i))) (λ i. made_by (event i) (answer i)) (λ other. (λ i. is_taking other (event i) (answer i))) (λ i. is_tick (event i)) (λ n. (λ i. event_given n (event i) (answer i)))

pub returns-clause-others : goal.returns-clause-others
returns-clause-others c = λ own before st s later whole inner h. told_other own before st s later whole inner h

pub returns-clause-given : goal.returns-clause-given
returns-clause-given c = λ own before st s later number e whole inner h event answer first.
    told_event own before st s later whole inner h number e (λ ports. (λ i. sockets_after ports (event i) (answer i))) (λ i. made_by (event i) (answer i)) (λ other. (λ i. is_taking other (event i) (answer i))) (λ i. is_tick (event i)) (λ n. (λ i. event_given n (event i) (answer i))) first

pub returns-clause-passed : goal.returns-clause-passed
returns-clause-passed c = λ own before st s later whole inner h event answer unmade over.
    told_passed own before st s later whole inner h (λ ports. (λ i. sockets_after ports (event i) (answer i))) (λ i. made_by (event i) (answer i)) (λ other. (λ i. is_taking other (event i) (answer i))) event (λ n. (λ i. event_given n (event i) (answer i))) unmade over
