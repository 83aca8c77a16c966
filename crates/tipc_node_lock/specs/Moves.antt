-- Messages move: after its event a locked call receives what waits at the ports, as caller 0, and offers it to the inboxes.
use Rattle.std.specs.Prelude.{◌≡◌, ◌⊎◌, ◌≢◌, ℕ, true, false, [], Some, None, slice_get, slice_set}
use Rattle.tipc_types.specs.declared.message_forms.Message.{Message}
use Rattle.tipc_types.specs.declared.node_calls.Answer.TheVariants as answer
use Rattle.tipc_types.specs.declared.node_calls.EventNote.TheVariants.{Receive}
use Rattle.tipc_journal.specs.Room.{has_journal_room}
use Rattle.tipc_stamp.specs.Seats.{is_spent}
use Rattle.tipc_node.specs.Calls.{Performed}
use Rattle.tipc_node.specs.Sockets.{waiting_at}
use Rattle.tipc_node_lock.specs.Inboxes.{GaveBack, Offers, PlaceState}
use Rattle.tipc_node_lock.specs.Locked.{LockedState, by_of}
use Rattle.tipc_node_lock.specs.Passes.{IsNextStamp, PassState, marked_short, with_drawn}

-- the message that stands by at a place is offered first
pub record OffersAgain {P : Type 0} (index : ℕ) (n n' : LockedState P) : Type 0 where
  pub place : PlaceState
  pub after : PlaceState
  pub message : Message
  pub at : slice_get n.places index ≡ Some place
  pub stands : place.standing ≡ Some message
  pub offers : Offers (record place { standing = None }) message after
  pub is : n' ≡ record n { places = slice_set n.places index after }

-- A message is moved at a place where nothing stands by: it is received from the port, as the next call of caller 0, under a stamp that the
-- pass's seat drew, and offered to the port's inbox.
pub record MovesMessage {P : Type 0} (index : ℕ) (n n' : LockedState P) (p p' : PassState) : Type 0 where
  pub place : PlaceState
  pub after : PlaceState
  pub message : Message
  pub stamp : ℕ
  pub at : slice_get n.places index ≡ Some place
  pub free : place.standing ≡ None
  pub room : has_journal_room n.node.journal ≡ true
  pub next : IsNextStamp stamp p.seat
  pub performed : Performed n.node (by_of n 0 stamp) (Receive place.port) n'.node n.out n'.out (answer.Received message)
  pub offers : Offers place message after
  pub places : n'.places ≡ slice_set n.places index after
  pub chooser : n'.chooser ≡ n.chooser
  pub heard : n'.heard ≡ n.heard
  pub passes : n'.passes ≡ n.passes
  pub pass : p' ≡ with_drawn p stamp

-- memory ran out before a message was moved: the pass is marked, and its seat drew a stamp for nothing
abbrev pub RunsShort : PassState → PassState → Type 0
RunsShort p p' = (stamp : ℕ) × IsNextStamp stamp p.seat × (p' ≡ marked_short (with_drawn p stamp))

-- one of these
abbrev pub MovesOnce : {P : Type 0} → LockedState P → LockedState P → PassState → PassState → Type 0
MovesOnce n n' p p' =
    ((index : ℕ) × OffersAgain index n n' × (p' ≡ p)) ⊎ (((index : ℕ) × MovesMessage index n n' p p') ⊎ ((n' ≡ n) × RunsShort p p'))

-- and so on, one after the other
pub data MessagesMove {P : Type 0} : LockedState P → LockedState P → PassState → PassState → Type 0 where
  none_moved : (n : LockedState P) (p : PassState) → MessagesMove n n p p
  one_more : (n m n' : LockedState P) (p q p' : PassState) → MessagesMove n m p q → MovesOnce m n' q p' → MessagesMove n n' p p'

-- ---- where it ends

-- nothing waits at a port and nothing stands by; or something stands by, since the inbox gave it back
abbrev pub IsCleared : {P : Type 0} → LockedState P → PlaceState → Type 0
IsCleared n p = ((waiting_at n.node.sockets p.port ≡ []) × (p.standing ≡ None)) ⊎ ((p.standing ≢ None) × GaveBack p.giver)

-- so it is at the place of that number
abbrev pub IsClearedAt : {P : Type 0} → LockedState P → ℕ → Type 0
IsClearedAt n index = (p : PlaceState) → slice_get n.places index ≡ Some p → IsCleared n p

-- why no more is moved, though something may wait: the journal has no room, the seat is spent, or the pass is short of memory
abbrev pub MovingStops : {P : Type 0} → LockedState P → PassState → Type 0
MovingStops n p = (has_journal_room n.node.journal ≡ false) ⊎ ((is_spent p.seat ≡ true) ⊎ (p.short ≡ true))

-- each place is cleared, or no more is moved
abbrev pub HasMovedAll : {P : Type 0} → LockedState P → PassState → Type 0
HasMovedAll n p = ((index : ℕ) → IsClearedAt n index) ⊎ MovingStops n p
