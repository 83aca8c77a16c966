-- What contracts see of a pass, and what calls make of it.
use Rattle.std.specs.Prelude.{◌≡◌, ◌⊎◌, ◌==◌, ◌+◌, ◌-◌, ◌^◌, ◌<◌, ◌≤◌, ℕ, Bool, true, false, List, [], ◌∷◌, ◌++◌, Option, Some, None, Result, Ok, Err, fold, length, map, min, slice_get, slice_set}
use Rattle.std.specs.List.{All, list_any}
use Rattle.atomic_table.specs.Seated.{TableId}
use Rattle.tipc_types.specs.declared.message_forms.Message.{Message}
use Rattle.tipc_types.specs.declared.node_calls.Answer.{Answer}
use Rattle.tipc_types.specs.declared.node_calls.EventNote.{EventNote}
use Rattle.tipc_stamp.specs.Seats.{SeatState, drew, is_spent, saw}
use Rattle.tipc_journal.specs.Queues.{sockets_after}
use Rattle.tipc_node_lock.specs.declared.inboxes.NoSocket.{NoSocket}
use Rattle.tipc_node_lock.specs.declared.passes.MadeCall.{MadeCall}
use Rattle.tipc_node_lock.specs.Inboxes.{PortTakerState, takers_after, having_taken}

-- what a caller calls with: its seat, the address word of its node, its number there from 1 on, the calls that it made, whether it was told
-- that the journal is full, whether memory ran out when it moved messages, how many frames it was handed, and the takers of its sockets' inboxes
pub record PassState : Type 0 where
  pub seat : SeatState
  pub own : ℕ
  pub caller : ℕ
  pub made : List MadeCall
  pub full : Bool
  pub short : Bool
  pub handed : ℕ
  pub takers : List PortTakerState

-- the pass of a caller that made no call
abbrev pub new_pass : ℕ → ℕ → SeatState → PassState
new_pass own caller seat =
    record { seat = seat; own = own; caller = caller; made = []; full = false; short = false; handed = 0; takers = [] }

-- the ports of the sockets that were made by these calls and not closed by them since
abbrev pub ports_of : List MadeCall → List ℕ
ports_of made = fold (λ ports m. sockets_after ports m.call m.answer) [] made

-- a pass holds the takers of just those ports
abbrev pub HoldsTakers : List MadeCall → List PortTakerState → Type 0
HoldsTakers made takers = map (λ t. t.port) takers ≡ ports_of made

-- new passes, one for each seat, whose callers count on from a number
abbrev pub passes_from : ℕ → ℕ → List SeatState → List PassState
passes_from own caller [] = []
passes_from own caller (seat ∷ seats) = new_pass own caller seat ∷ passes_from own (caller + 1) seats

-- after its seat drew a stamp
abbrev pub with_drawn : PassState → ℕ → PassState
with_drawn p stamp = record p { seat = drew p.seat stamp }

-- after it made a call under that stamp, which was answered so; where that made a socket, this is its inbox
abbrev pub having_made : PassState → ℕ → EventNote → Answer → TableId → PassState
having_made p stamp call answered inbox =
    record p {
      seat = drew p.seat stamp;
      made = p.made ++ record { stamp = stamp; call = call; answer = answered } ∷ [];
      takers = takers_after p.takers inbox call answered;
    }

-- after it moved messages: its seat drew these stamps more, and it may be short of memory
abbrev pub having_moved : PassState → List ℕ → Bool → PassState
having_moved p stamps short =
    record p { seat = record { of_table = p.seat.of_table; drawn = p.seat.drawn ++ stamps; seen = p.seat.seen }; short = short }

-- after it was told that the journal is full
abbrev pub marked_full : PassState → PassState
marked_full p = record p { full = true }

-- after memory ran out when it moved messages
abbrev pub marked_short : PassState → PassState
marked_short p = record p { short = true }

-- after its seat saw which stamps are drawn
abbrev pub with_seen : PassState → ℕ → PassState
with_seen p stamp = record p { seat = saw p.seat stamp }

-- after it was handed so many frames; the count stops at its last value
abbrev pub with_handed : PassState → ℕ → PassState
with_handed p frames = record p { handed = min (p.handed + frames) (2 ^ 64 - 1) }

-- its seat may draw, and this stamp is above those that it drew, and not below what it saw
pub record IsNextStamp (stamp : ℕ) (seat : SeatState) : Type 0 where
  pub left : is_spent seat ≡ false
  pub above : All (λ x. x < stamp) seat.drawn
  pub seen : seat.seen ≤ stamp

-- the pass is as it was, but that its seat may have drawn a stamp
abbrev pub MayHaveDrawn : PassState → PassState → Type 0
MayHaveDrawn p p' = (p' ≡ p) ⊎ ((stamp : ℕ) × (p' ≡ with_drawn p stamp))

-- the most stamps that one call draws: its own, and one for each of 128 messages at each of 256 ports
abbrev pub most_stamps : ℕ
most_stamps = 32769

-- it is the same caller's, of the same node and the same stamps, and few of them were drawn
pub record IsOfSameCaller (p p' : PassState) : Type 0 where
  pub of_table : p'.seat.of_table ≡ p.seat.of_table
  pub own : p'.own ≡ p.own
  pub caller : p'.caller ≡ p.caller
  pub few : length p'.seat.drawn ≤ length p.seat.drawn + most_stamps

-- ---- receiving

-- whether it holds the taker of a port's inbox
abbrev pub has_taker : PassState → ℕ → Bool
has_taker p port = list_any (λ t. t.port == port) p.takers

-- what the taker of a port gives: a message, or none where it took at least as many as it heard that were offered
abbrev pub TakesAt : PassState → ℕ → PortTakerState → Option Message → PassState → Type 0
TakesAt p index t None p' = (p' ≡ p) × (t.taker.offers ≤ length t.taker.taken)
TakesAt p index t (Some m) p' = p' ≡ record p { takers = slice_set p.takers index (having_taken t m) }

-- a taker of the port, which the pass holds, gives that
abbrev pub TakesFrom : PassState → ℕ → Option Message → PassState → Type 0
TakesFrom p port taken p' =
    (index : ℕ) × (t : PortTakerState) × (slice_get p.takers index ≡ Some t) × (t.port ≡ port) × TakesAt p index t taken p'

-- a receive takes from the port's inbox, or there is no such socket, exactly where the pass doesn't hold its taker
abbrev pub ReceivesAt : PassState → ℕ → Result (Option Message) NoSocket → PassState → Type 0
ReceivesAt p port (Ok taken) p' = (has_taker p port ≡ true) × TakesFrom p port taken p'
ReceivesAt p port (Err why) p' = (has_taker p port ≡ false) × (p' ≡ p)
