-- A section: what is done under the lock for one call, exactly. It is one call of the node, behind which messages move, or none.
use Rattle.std.specs.Prelude.{◌≡◌, ◌≢◌, ◌≤◌, ℕ, Bool, true, false, List, [], ◌∷◌, ◌++◌, Result, Ok, Err, length}
use Rattle.atomic_table.specs.Seated.{TableId}
use Rattle.tipc_types.specs.declared.node_calls.Answer.{Answer}
use Rattle.tipc_types.specs.declared.node_calls.Answer.TheVariants as answer
use Rattle.tipc_types.specs.declared.node_calls.Arrival.{Arrival}
use Rattle.tipc_types.specs.declared.node_calls.EventNote.{EventNote}
use Rattle.tipc_types.specs.declared.node_calls.EventNote.TheVariants.{Arrive, Receive}
use Rattle.tipc_journal.specs.declared.entries.Entry.{Entry}
use Rattle.tipc_journal.specs.Counting.{names_sent}
use Rattle.tipc_journal.specs.Licensed.{IsPicked}
use Rattle.tipc_journal.specs.Room.{has_journal_room}
use Rattle.tipc_stamp.specs.Seats.{is_spent}
use Rattle.tipc_node.specs.declared.steps.NodeFault.TheVariants as node_fault
use Rattle.tipc_node.specs.Arrivals.{Arrived}
use Rattle.tipc_node.specs.Calls.{Performed}
use Rattle.tipc_node.specs.Sockets.{kept_answer}
use Rattle.tipc_node.specs.Works.{addr_of_word}
use Rattle.tipc_node_lock.specs.declared.faults.LockFault.{LockFault}
use Rattle.tipc_node_lock.specs.declared.faults.LockFault.TheVariants as fault
use Rattle.tipc_node_lock.specs.Inboxes.{places_after}
use Rattle.tipc_node_lock.specs.Journals.{answers_to}
use Rattle.tipc_node_lock.specs.Locked.{LockedState, by_of, chooser_after}
use Rattle.tipc_node_lock.specs.Moves.{HasMovedAll, MessagesMove}
use Rattle.tipc_node_lock.specs.Passes.{IsNextStamp, MayHaveDrawn, PassState, marked_full, having_made}

-- whether a call is a receive, which is no locked call: it takes from an inbox beside the lock
abbrev pub is_receive : EventNote → Bool
is_receive (Receive port) = true
is_receive call = false

-- The pass has one call more, with the stamp that its seat drew and its answer as the journal keeps it; a socket that was made has an inbox,
-- and one that was closed has none. The journal answered its caller once more, so, and no other caller from 1 on.
pub record RecordsOneCall {P : Type 0} (n n' : LockedState P) (p p' : PassState) (stamp : ℕ) (call : EventNote) (kept : Answer) : Type 0 where
  pub room : has_journal_room n.node.journal ≡ true
  pub next : IsNextStamp stamp p.seat
  pub inbox : TableId
  pub made : p' ≡ having_made p stamp call kept inbox
  pub places : n'.places ≡ places_after n.places inbox call kept
  pub answered : answers_to p.caller n'.node.journal ≡ answers_to p.caller n.node.journal ++ kept ∷ []
  pub others : (who : ℕ) → 1 ≤ who → who ≢ p.caller → answers_to who n'.node.journal ≡ answers_to who n.node.journal
  pub passes : n'.passes ≡ n.passes

-- The node performed the call as the caller's next one; a message by name went where the pick says for as many as were sent so before.
pub record MakesOneCall {P : Type 0} (gives : P → ℕ → ℕ → ℕ → Type 0) (n n' : LockedState P) (p p' : PassState) (call : EventNote) (answered : Answer) : Type 0 where
  pub stamp : ℕ
  pub performed : Performed n.node (by_of n p.caller stamp) call n'.node n.out n'.out answered
  pub picked : IsPicked (gives n.chooser.pick) (names_sent n.node.journal) (addr_of_word n.node.own) n.node.journal call answered
  pub chooser : n'.chooser ≡ chooser_after n.chooser call answered
  pub heard : n'.heard ≡ n.heard
  pub records : RecordsOneCall n n' p p' stamp call (kept_answer answered)

-- The frame arrived at the node as the caller's next call, under the number of frames that arrived before, and is kept behind those.
pub record HearsOneFrame {P : Type 0} (n n' : LockedState P) (p p' : PassState) (bearer : ℕ) (frame : List ℕ) (arrived : Arrival) : Type 0 where
  pub stamp : ℕ
  pub met : Arrived n.node (by_of n p.caller stamp) bearer (length n.heard) frame n'.node n.out n'.out arrived
  pub chooser : n'.chooser ≡ n.chooser
  pub heard : n'.heard ≡ n.heard ++ frame ∷ []
  pub records : RecordsOneCall n n' p p' stamp (Arrive bearer (length n.heard)) (answer.Arrived arrived)

-- Why a call isn't made: the journal has no room, of which the pass is told; or there is room and the seat is spent; or neither, and memory
-- ran out.
abbrev pub TurnsAway : List Entry → PassState → LockFault → PassState → Type 0
TurnsAway journal p (fault.Node node_fault.JournalFull) p' = (has_journal_room journal ≡ false) × (p' ≡ marked_full p)
TurnsAway journal p fault.Spent p' = (has_journal_room journal ≡ true) × (is_spent p.seat ≡ true) × (p' ≡ p)
TurnsAway journal p (fault.Node node_fault.NoMemory) p' = (has_journal_room journal ≡ true) × (is_spent p.seat ≡ false) × MayHaveDrawn p p'

-- then nothing behind the lock is changed
abbrev pub Refuses : {P : Type 0} → LockedState P → PassState → LockFault → LockedState P → PassState → Type 0
Refuses n p why n' p' = (n' ≡ n) × TurnsAway n.node.journal p why p'

-- Behind the call messages moved until each place was cleared or no more could be moved; that answered no caller from 1 on.
pub record MovesBehind {P : Type 0} (n n' : LockedState P) (p p' : PassState) : Type 0 where
  pub moves : MessagesMove n n' p p'
  pub rests : HasMovedAll n' p'
  pub alone : (who : ℕ) → 1 ≤ who → answers_to who n'.node.journal ≡ answers_to who n.node.journal

-- what is done for a call before messages move, by its answer
abbrev pub MakesAlone : {P : Type 0} → (P → ℕ → ℕ → ℕ → Type 0) → LockedState P → PassState → EventNote → Result Answer LockFault → LockedState P → PassState → Type 0
MakesAlone gives n p call (Ok answered) n' p' = MakesOneCall gives n n' p p' call answered
MakesAlone gives n p call (Err why) n' p' = Refuses n p why n' p'

-- and for an arrival
abbrev pub HearsAlone : {P : Type 0} → LockedState P → PassState → ℕ → List ℕ → Result Arrival LockFault → LockedState P → PassState → Type 0
HearsAlone n p bearer frame (Ok arrived) n' p' = HearsOneFrame n n' p p' bearer frame arrived
HearsAlone n p bearer frame (Err why) n' p' = Refuses n p why n' p'

-- the section of a call, by its answer
abbrev pub Sections : {P : Type 0} → (P → ℕ → ℕ → ℕ → Type 0) → LockedState P → PassState → EventNote → Result Answer LockFault → LockedState P → PassState → Type 0
Sections {P} gives n p call (Ok answered) n' p' =
    (m : LockedState P) × (q : PassState) × MakesOneCall gives n m p q call answered × MovesBehind m n' q p'
Sections gives n p call (Err why) n' p' = Refuses n p why n' p'

-- the section of an arrival, by its answer
abbrev pub ArrivalSections : {P : Type 0} → LockedState P → PassState → ℕ → List ℕ → Result Arrival LockFault → LockedState P → PassState → Type 0
ArrivalSections {P} n p bearer frame (Ok arrived) n' p' =
    (m : LockedState P) × (q : PassState) × HearsOneFrame n m p q bearer frame arrived × MovesBehind m n' q p'
ArrivalSections n p bearer frame (Err why) n' p' = Refuses n p why n' p'
