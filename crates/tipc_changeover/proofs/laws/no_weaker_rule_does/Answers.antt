use Rattle.tipc_changeover.proofs.Weakening.{early_release, no_duplicates, no_run, put_off, record_anew, waiting_first}
use Rattle.tipc_changeover.proofs.laws.no_weaker_rule_does.Goals as goal

pub returns-clause-released_early : goal.returns-clause-released_early
returns-clause-released_early c = early_release

pub returns-clause-waiting_first : goal.returns-clause-waiting_first
returns-clause-waiting_first c = waiting_first

pub returns-clause-no_duplicates : goal.returns-clause-no_duplicates
returns-clause-no_duplicates c = no_duplicates

pub returns-clause-no_run : goal.returns-clause-no_run
returns-clause-no_run c = no_run

pub returns-clause-record_anew : goal.returns-clause-record_anew
returns-clause-record_anew c = record_anew

pub returns-clause-deferred : goal.returns-clause-deferred
returns-clause-deferred c = put_off
