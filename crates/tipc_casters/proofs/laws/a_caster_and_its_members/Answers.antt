use Rattle.tipc_casters.proofs.CasterTurns.{cast_joins, cast_leaves, cast_restarts, cast_sends, cast_states, cast_states_apart}
use Rattle.tipc_casters.proofs.MemberTurns.{caster_tells, casters_begin, member_enters, member_hears, member_is_told, member_quits, member_tells}
use Rattle.tipc_casters.proofs.laws.a_caster_and_its_members.Goals as goal

pub returns-clause-begins : goal.returns-clause-begins
returns-clause-begins c = casters_begin

pub returns-clause-joins : goal.returns-clause-joins
returns-clause-joins c = cast_joins

pub returns-clause-leaves : goal.returns-clause-leaves
returns-clause-leaves c = cast_leaves

pub returns-clause-sends : goal.returns-clause-sends
returns-clause-sends c = cast_sends

pub returns-clause-states_apart : goal.returns-clause-states_apart
returns-clause-states_apart c = cast_states_apart

pub returns-clause-states : goal.returns-clause-states
returns-clause-states c = cast_states

pub returns-clause-restarts : goal.returns-clause-restarts
returns-clause-restarts c = cast_restarts

pub returns-clause-enters : goal.returns-clause-enters
returns-clause-enters c = member_enters

pub returns-clause-quits : goal.returns-clause-quits
returns-clause-quits c = member_quits

pub returns-clause-is_told : goal.returns-clause-is_told
returns-clause-is_told c = member_is_told

pub returns-clause-hears : goal.returns-clause-hears
returns-clause-hears c = member_hears

pub returns-clause-tells : goal.returns-clause-tells
returns-clause-tells c = member_tells

pub returns-clause-tells_member : goal.returns-clause-tells_member
returns-clause-tells_member c = caster_tells
