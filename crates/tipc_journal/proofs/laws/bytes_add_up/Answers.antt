use Rattle.tipc_journal.proofs.RoomLaws.{message_bytes_more}
use Rattle.tipc_journal.proofs.laws.bytes_add_up.Goals as goal

pub returns : goal.returns
returns c = message_bytes_more
