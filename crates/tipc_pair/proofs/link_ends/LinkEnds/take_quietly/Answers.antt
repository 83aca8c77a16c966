use Rattle.tipc_header.specs.Spelling.{view}
use Rattle.tipc_pair.proofs.Quietly.{quietly_arrives}
use Rattle.tipc_pair.proofs.Sendings.{told_alone}
use Rattle.tipc_pair.proofs.link_ends.LinkEnds.take_quietly.Goals as goal

pub returns-clause-told : goal.returns-clause-told
returns-clause-told c = λ es er by given quiet opened.
    let begun = c.new-event.ensures in
    let last = c.release.new.event in
    let h = quietly_arrives c.args.self.now c.meet_quietly.new.self c.release.new.self es er (view c.args.packet.now) by c.args.shown given c.new-event.result c.meet_quietly.new.event last
    (c.meet_quietly.ensures.told es er by given quiet opened) c.release.ensures.after c.release.ensures.adds in
    (h.0, h.1, h.2, told_alone c.new-event.result last h.0 begun.changes begun.out h.3)
