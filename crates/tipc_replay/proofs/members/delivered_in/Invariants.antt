use Rattle.std.proofs.Common.{◌≡◌, length, take}
use Rattle.tipc_journal.specs.Streams.{delivered}
use Rattle.tipc_types.specs.declared.message_forms.Flow.TheVariants.{Zero}
use Rattle.tipc_replay.specs.States.{counted, joined, stream_of}
use Rattle.tipc_replay.proofs.members.delivered_in.Given as goal

abbrev pub invariant-loop-journal : goal.invariant-loop-journal
invariant-loop-journal l = l.count ≡ counted (length (delivered (joined (take l.journal-index l.journals)) (stream_of l.peer l.contact.0 l.contact.1 Zero)))
