use Rattle.tipc_header.specs.Spelling.{view}
use Rattle.tipc_pair.proofs.Openings.{arrives_so}
use Rattle.tipc_pair.proofs.link_ends.LinkEnds.take_any.Goals as goal

pub returns : goal.returns
returns c =
    arrives_so c.args.self.now c.hear.new.self c.open.new.self c.release.new.self c.args.incoming.now.sender_epoch c.args.incoming.now.receiver_epoch (view c.args.incoming.now.packet) c.args.incoming.now.by c.args.incoming.now.shown c.in_ok-outcome.outcome c.in_ok-given.given
    c.args.event.now c.hear.new.event c.open.new.event c.release.new.event c.in_ok-outcome.ensures c.in_ok-given.ensures c.release.ensures.after c.release.ensures.adds
