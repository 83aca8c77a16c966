use Rattle.tipc_casters.proofs.CasterViews.{begins_cast, casts_are_true, fronts_are_cast, hears_other_stays, meets_stays, parts_stays, restarts_stays, sends_stays, tells_stays}
use Rattle.tipc_casters.proofs.MemberCourses.{turns_stay}
use Rattle.tipc_casters.proofs.MemberViews.{enters_stays, keeps_stays, learns_stays, quits_stays, same_stays, says_stays, takes_stays}
use Rattle.tipc_casters.proofs.laws.a_caster_and_its_members_are_seen.Goals as goal

pub returns-clause-begins : goal.returns-clause-begins
returns-clause-begins c = begins_cast

pub returns-clause-same : goal.returns-clause-same
returns-clause-same c = same_stays

pub returns-clause-parts : goal.returns-clause-parts
returns-clause-parts c = parts_stays

pub returns-clause-meets : goal.returns-clause-meets
returns-clause-meets c = meets_stays

pub returns-clause-hears_other : goal.returns-clause-hears_other
returns-clause-hears_other c = hears_other_stays

pub returns-clause-sends : goal.returns-clause-sends
returns-clause-sends c = sends_stays

pub returns-clause-restarts : goal.returns-clause-restarts
returns-clause-restarts c = restarts_stays

pub returns-clause-tells : goal.returns-clause-tells
returns-clause-tells c = tells_stays

pub returns-clause-says : goal.returns-clause-says
returns-clause-says c = says_stays

pub returns-clause-enters : goal.returns-clause-enters
returns-clause-enters c = enters_stays

pub returns-clause-quits : goal.returns-clause-quits
returns-clause-quits c = quits_stays

pub returns-clause-keeps : goal.returns-clause-keeps
returns-clause-keeps c = keeps_stays

pub returns-clause-learns : goal.returns-clause-learns
returns-clause-learns c = learns_stays

pub returns-clause-takes : goal.returns-clause-takes
returns-clause-takes c = takes_stays

pub returns-clause-turns : goal.returns-clause-turns
returns-clause-turns c = turns_stay

pub returns-clause-front : goal.returns-clause-front
returns-clause-front c = fronts_are_cast

pub returns-clause-truth : goal.returns-clause-truth
returns-clause-truth c = casts_are_true
