use Rattle.tipc_header.specs.Frames.{frame_of}
use Rattle.tipc_header.specs.Spelling.{spelling, view}
use Rattle.tipc_node.proofs.discovery.send.Goals as goal

pub returns-in-Err : goal.returns-in-Err
returns-in-Err c = c.lose.ensures (record { bearer = c.args.bearer; to = c.args.to; frame = frame_of c.args.boot 0 (spelling (view c.args.packet.now)) })
