-- The two link ends of a node as senders, and how they stand for a state of two links and their tunnels.
use Rattle.std.specs.Prelude.{◌≡◌, ℕ, ◌+◌, ◌-◌, List, Option, Some, None, length, drop, if◌then◌else◌}
use Rattle.tipc_types.specs.LinkStates.{is_up}
use Rattle.tipc_types.specs.declared.link_words.LinkState.{LinkState}
use Rattle.tipc_link_fsm.specs.Table.{is_held}
use Rattle.tipc_send_window.specs.Sending.{Sending, fresh}
use Rattle.tipc_link.specs.Links.{LinkEnd}
use Rattle.tipc_link.specs.Sessions.{SessionEnd}
use Rattle.tipc_pair.specs.Facing.{PairEnds}
use Rattle.tipc_changeover.specs.Slots.{LinkSlot}
use Rattle.tipc_changeover.specs.Links.{Bearer, EndState, First, Held, Reset, Second, Sender, State, Up}
use Rattle.tipc_two_nodes.specs.links.Traffic.{Lines, Traffic}
use Rattle.tipc_two_nodes.specs.links.Packets.{AreFor, IsFor}

-- ---- what is seen of a pair

-- one link end: its epoch, its state, and its send window, which says something while it is up
pub record SendingEnd : Type 0 where
  pub epoch : ℕ
  pub state : EndState
  pub window : Sending

-- both, seen from one of them, which is on this bearer
pub record SendingEnds : Type 0 where
  pub bearer : ℕ
  pub near : SendingEnd
  pub far : SendingEnd

-- the other bearer
abbrev pub beside : ℕ → ℕ
beside bearer = 1 - bearer

-- both ends, seen from the other one
abbrev pub turned_sending : SendingEnds → SendingEnds
turned_sending x = record { bearer = beside x.bearer; near = x.far; far = x.near }

-- the state of a link end, as the law of two links has it: up, held or reset
abbrev pub state_as : LinkState → EndState
state_as state = if is_up state then Up else (if is_held state then Held else Reset)

-- the send window of a session; an empty one where there was none
abbrev pub window_in : Option SessionEnd → Sending
window_in None = fresh
window_in (Some s) = s.sending

-- an end that isn't made yet will have the contact number as its first epoch
abbrev pub end_seen : ℕ → Option LinkEnd → SendingEnd
end_seen contact None = record { epoch = contact; state = Reset; window = fresh }
end_seen contact (Some e) = record { epoch = e.fsm.own; state = state_as e.fsm.state; window = window_in e.session }

-- the ends of a pair, as senders
abbrev pub ends_seen : PairEnds → SendingEnds
ends_seen x = record { bearer = x.bearer; near = end_seen x.contact x.near; far = end_seen x.contact x.far }

-- ---- how they stand for a state

-- the number of a bearer
abbrev pub number_as : Bearer → ℕ
number_as First = 0
number_as Second = 1

-- the window of an end that is up, against its line
pub record IsQueue (P : LinkSlot → List ℕ → Type 0) (line : List (List ℕ)) (w : Sending) (x : Sender) : Type 0 where
  pub numbered : length line ≡ w.numbered
  pub acked : x.acked + length w.unacked ≡ w.numbered
  pub kept : w.unacked ≡ drop x.acked line
  pub waits : AreFor P x.waiting w.waiting

-- a link end with its lines is a sender
pub record IsSender (P : LinkSlot → List ℕ → Type 0) (l : Lines) (e : SendingEnd) (x : Sender) : Type 0 where
  pub epoch : l.first + x.session ≡ e.epoch + 1
  pub state : x.state ≡ e.state
  pub lines : (session : ℕ) → AreFor P (x.line session) (l.line session)
  pub queue : e.state ≡ Up → IsQueue P (l.line x.session) e.window x

-- the link ends of a node, which sent this in the contact, stand for the senders of a state, both seen from the link
-- of a bearer
pub record StandFor (b : Bearer) (x : SendingEnds) (t : Traffic) (s : State) : Type 0 where
  pub bearer : x.bearer ≡ number_as b
  pub put : length t.put ≡ s.put
  pub near : IsSender (IsFor t.put (beside x.bearer) t.far) t.near x.near s.near
  pub far : IsSender (IsFor t.put x.bearer t.near) t.far x.far s.far
