use Rattle.tipc_changeover.proofs.Staying.{begins, reached_sound, seen_sound, stays}
use Rattle.tipc_changeover.proofs.laws.two_links_stay_sound.Goals as goal

pub returns-clause-start : goal.returns-clause-start
returns-clause-start c = begins

pub returns-clause-each : goal.returns-clause-each
returns-clause-each c = stays

pub returns-clause-reached : goal.returns-clause-reached
returns-clause-reached c = reached_sound

pub returns-clause-either : goal.returns-clause-either
returns-clause-either c = seen_sound
