use Rattle.tipc_two_nodes.proofs.sights.Meeting.{enters_met, none_met, steps_met, turned_met}
use Rattle.tipc_two_nodes.proofs.sights.Ordered.{both_in_one, entered_not_younger, entered_past, entered_rise, seen_no_higher, session_in_contact}
use Rattle.tipc_two_nodes.proofs.sights.HeardIn.{heard_in_contact}
use Rattle.tipc_two_nodes.proofs.laws.two_nodes_agree_on_their_contacts.Goals as goal

pub returns-clause-none : goal.returns-clause-none
returns-clause-none c = none_met

pub returns-clause-turned : goal.returns-clause-turned
returns-clause-turned c = turned_met

pub returns-clause-enters : goal.returns-clause-enters
returns-clause-enters c = enters_met

pub returns-clause-steps : goal.returns-clause-steps
returns-clause-steps c = steps_met

pub returns-clause-seen : goal.returns-clause-seen
returns-clause-seen c = seen_no_higher

pub returns-clause-both : goal.returns-clause-both
returns-clause-both c = both_in_one

pub returns-clause-rise : goal.returns-clause-rise
returns-clause-rise c = entered_rise

pub returns-clause-past : goal.returns-clause-past
returns-clause-past c = entered_past

pub returns-clause-no_younger : goal.returns-clause-no_younger
returns-clause-no_younger c = entered_not_younger

pub returns-clause-session : goal.returns-clause-session
returns-clause-session c = session_in_contact

pub returns-clause-heard : goal.returns-clause-heard
returns-clause-heard c = heard_in_contact
