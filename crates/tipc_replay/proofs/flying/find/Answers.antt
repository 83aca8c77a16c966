use Rattle.tipc_replay.proofs.frames.Ages.{frame_is_there}
use Rattle.tipc_replay.proofs.flying.find.Goals as goal

pub may_be_too_old-requires : goal.may_be_too_old-requires
may_be_too_old-requires c = c.requires.senders c.args.place c.in-Some.sent.now (frame_is_there c.args.air.now c.args.node c.args.bearer c.args.place c.in-Some.sent.now c.in-Some.ensures.some)

pub age_of-age-requires : goal.age_of-age-requires
age_of-age-requires c = c.requires.senders c.args.place c.in-Some.sent.now (frame_is_there c.args.air.now c.args.node c.args.bearer c.args.place c.in-Some.sent.now c.in-Some.ensures.some)
