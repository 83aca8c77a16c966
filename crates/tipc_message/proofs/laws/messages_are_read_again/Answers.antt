use Rattle.tipc_message.proofs.WireLaws.{items_of-packet_of, message_of-packet_of}
use Rattle.tipc_message.proofs.laws.messages_are_read_again.Goals as goal

pub returns-clause-payload : goal.returns-clause-payload
returns-clause-payload c = message_of-packet_of

pub returns-clause-items : goal.returns-clause-items
returns-clause-items c = items_of-packet_of
