-- What is counted in the journals of a live run.
use Rattle.std.specs.Prelude.{ℕ, Bool, true, false, List, count_by}
use Rattle.tipc_types.specs.declared.message_forms.Flow.{Flow}
use Rattle.tipc_types.specs.declared.message_forms.Flow.TheVariants as flow
use Rattle.tipc_journal.specs.declared.entries.Entry.{Entry}
use Rattle.tipc_journal.specs.declared.entries.Entry.TheVariants.{Accepted, Answered, Delivered}

-- whether the messages of a flow are counted: those to one node, and those over the broadcast link
abbrev pub is_counted : Flow → Bool
is_counted flow.Zero = true
is_counted flow.One = false
is_counted flow.Broadcast = true

-- an entry is of a message that was accepted and is counted
unfoldable pub is_accepted : Entry → Bool
is_accepted (Accepted peer contact flow message) = is_counted flow
is_accepted other = false

-- an entry is of a message that was delivered and is counted
unfoldable pub is_delivered : Entry → Bool
is_delivered (Delivered peer contact flow message by) = is_counted flow
is_delivered other = false

-- an entry is of a call that was answered
unfoldable pub is_answered : Entry → Bool
is_answered (Answered caller call answer) = true
is_answered other = false

-- how many messages were accepted and delivered, over all peers and contacts, and how many calls were answered
abbrev pub accepted_in : List Entry → ℕ
accepted_in journal = count_by is_accepted journal

abbrev pub delivered_in : List Entry → ℕ
delivered_in journal = count_by is_delivered journal

abbrev pub answered_in : List Entry → ℕ
answered_in journal = count_by is_answered journal
