use Rattle.std.proofs.Common.{sym}
use Rattle.tipc_replay.proofs.frames.Ages.{number_is}
use Rattle.tipc_replay.proofs.flying.sender_number.Goals as goal

pub returns : goal.returns
returns c = sym (number_is c.args.sent.now.from.word c.in-Some.from c.in-Some.ensures.some.2)
