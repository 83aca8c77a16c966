use Rattle.tipc_settling.proofs.Nodes.{events_add_silence, events_are_calm, events_send_under_present, events_still, events_tell_nothing}
use Rattle.tipc_settling.proofs.stillness.nothing_goes_down_at_a_node.Goals as goal

pub returns-clause-still : goal.returns-clause-still
returns-clause-still c = events_still

pub returns-clause-tells : goal.returns-clause-tells
returns-clause-tells c = events_tell_nothing

pub returns-clause-sends : goal.returns-clause-sends
returns-clause-sends c = events_send_under_present

pub returns-clause-silence : goal.returns-clause-silence
returns-clause-silence c = events_add_silence

pub returns-clause-calm : goal.returns-clause-calm
returns-clause-calm c = events_are_calm
