use Rattle.tipc_casters.proofs.MemberTurns.{gives_a_prefix}
use Rattle.tipc_casters.proofs.laws.each_member_is_given_a_prefix.Goals as goal

pub returns : goal.returns
returns c = gives_a_prefix
