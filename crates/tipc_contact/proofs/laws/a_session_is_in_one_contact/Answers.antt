use Rattle.tipc_contact.proofs.Sessions.{now_in_contact, sent_in_contact}
use Rattle.tipc_contact.proofs.laws.a_session_is_in_one_contact.Goals as goal

pub returns-clause-sent : goal.returns-clause-sent
returns-clause-sent c = sent_in_contact

pub returns-clause-now : goal.returns-clause-now
returns-clause-now c = now_in_contact
