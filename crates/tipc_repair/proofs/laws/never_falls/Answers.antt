use Rattle.tipc_repair.proofs.Going.{answers, flushes, hearings, puts, records, tellings}
use Rattle.tipc_repair.proofs.laws.never_falls.Goals as goal

pub returns-clause-heard : goal.returns-clause-heard
returns-clause-heard c = hearings

pub returns-clause-flushed : goal.returns-clause-flushed
returns-clause-flushed c = flushes

pub returns-clause-put : goal.returns-clause-put
returns-clause-put c = puts

pub returns-clause-told : goal.returns-clause-told
returns-clause-told c = tellings

pub returns-clause-answered : goal.returns-clause-answered
returns-clause-answered c = answers

pub returns-clause-recorded : goal.returns-clause-recorded
returns-clause-recorded c = records
