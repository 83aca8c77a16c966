use Rattle.tipc_node.specs.Casting.{casting_in}
use Rattle.tipc_node.proofs.work.Casting.{unchanged_frames, unchanged_link}
use Rattle.tipc_node.proofs.neighbours.follow.Goals as goal

pub returns-else-changes_contact-clause-casting : goal.returns-else-changes_contact-clause-casting
returns-else-changes_contact-clause-casting c =
    unchanged_link c.args.number c.args.changes.now c.changes_contact.result (casting_in c.args.upkeep c.args.broadcast.now c.args.event.now.broadcast) c.changes_contact.ensures c.if-changes_contact.false

pub returns-else-changes_contact-clause-casts : goal.returns-else-changes_contact-clause-casts
returns-else-changes_contact-clause-casts c =
    unchanged_frames c.args.number c.args.changes.now c.changes_contact.result (casting_in c.args.upkeep c.args.broadcast.now c.args.event.now.broadcast) c.args.event.now.casts c.changes_contact.ensures c.if-changes_contact.false
