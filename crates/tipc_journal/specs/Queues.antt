-- The sockets of a journal, and the queue of each, also inside a step.
use Rattle.std.specs.Prelude.{◌==◌, ◌≤◌, if◌then◌else◌, not, ℕ, Bool, false, List, [], ◌∷◌, ◌++◌, fold, filter, drop, length, count_by}
use Rattle.std.specs.List.{flat_map, list_any}
use Rattle.tipc_types.specs.declared.identity.Addr.{Addr}
use Rattle.tipc_types.specs.declared.message_forms.Message.{Message}
use Rattle.tipc_types.specs.declared.node_calls.Answer.{Answer}
use Rattle.tipc_types.specs.declared.node_calls.Answer.TheVariants.{Done, Socket as Made, Got}
use Rattle.tipc_types.specs.declared.node_calls.EventNote.{EventNote}
use Rattle.tipc_types.specs.declared.node_calls.EventNote.TheVariants.{Socket, Close, Receive}
use Rattle.tipc_journal.specs.declared.entries.Entry.{Entry}
use Rattle.tipc_journal.specs.declared.entries.Entry.TheVariants.{Queued}
use Rattle.tipc_journal.specs.Dues.{Due, FateDue, due_after, first_due}
use Rattle.tipc_journal.specs.Steps.{NodeStep, steps}

-- the messages that an entry queues to a port, where d is due
abbrev pub queued_by : ℕ → Due → Entry → List Message
queued_by port (FateDue m arrived) (Queued ports) = if list_any (λ q. q == port) ports then m ∷ [] else []
queued_by port d e = []

-- the messages that entries of a step queue to a port, where d is due before them
unfoldable pub queued_in : Addr → ℕ → Due → List Entry → List Message
queued_in own port d [] = []
queued_in own port d (e ∷ es) = queued_by port d e ++ queued_in own port (due_after own d e) es

-- the messages that a step queues to a port
abbrev pub step_queued : Addr → ℕ → NodeStep → List Message
step_queued own port s = queued_in own port (first_due own s.event s.answer) s.inside

-- whether the step is a receive from the port that was answered with a message
abbrev pub is_taking : ℕ → EventNote → Answer → Bool
is_taking port (Receive from) Got = from == port
is_taking port event answer = false

-- the messages that were ever queued to a port. A node uses no port number twice in a boot,
-- so these are the messages since its socket was made
unfoldable pub ever_queued : Addr → List Entry → ℕ → List Message
ever_queued own entries port = flat_map (λ p. step_queued own port p.step) (steps entries)

-- how many receives from a port were answered with a message
unfoldable pub taken_count : List Entry → ℕ → ℕ
taken_count entries port = count_by (λ p. is_taking port p.step.event p.step.answer) (steps entries)

-- the queue of a port: the messages queued to it, without as many first ones as receives gave
unfoldable pub queue : Addr → List Entry → ℕ → List Message
queue own entries port = drop (taken_count entries port) (ever_queued own entries port)

-- no more messages were received from the port than were queued to it
abbrev pub IsFed : Addr → List Entry → ℕ → Type 0
IsFed own entries port = taken_count entries port ≤ length (ever_queued own entries port)

-- the queue of a port inside a step: that of the journal before the step, and what the entries of the step so far
-- queued to it, where d was due at the beginning of the step
abbrev pub queue_inside : Addr → List Entry → Due → List Entry → ℕ → List Message
queue_inside own before d front port = queue own before port ++ queued_in own port d front

-- the sockets after a step: one that was made is there, and one that was closed isn't
abbrev pub sockets_after : List ℕ → EventNote → Answer → List ℕ
sockets_after ports Socket (Made port) = ports ++ port ∷ []
sockets_after ports (Close port) Done = filter (λ q. not (q == port)) ports
sockets_after ports event answer = ports

-- the sockets that are there: those made and not closed since
unfoldable pub sockets : List Entry → List ℕ
sockets entries = fold (λ ports p. sockets_after ports p.step.event p.step.answer) [] (steps entries)
