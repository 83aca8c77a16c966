use Rattle.tipc_changeover.proofs.Using.{full_holds, placeholder_holds}
use Rattle.tipc_changeover.proofs.laws.a_placeholder_leaves_out_no_plain_packet.Goals as goal

pub returns-clause-full : goal.returns-clause-full
returns-clause-full c = full_holds

pub returns-clause-placeholder : goal.returns-clause-placeholder
returns-clause-placeholder c = placeholder_holds
