-- What a pair's link ends do as senders, and how an end of a pair is seen when it goes up or down.
use Rattle.std.specs.Prelude.{◌≡◌, ◌≤◌, ℕ, ◌+◌, ◌-◌, true, List, [], ◌∷◌, Option, Some, length}
use Rattle.tipc_types.specs.LinkStates.{is_up}
use Rattle.tipc_types.specs.Limits.{window_size}
use Rattle.tipc_send_window.specs.Sending.{Sending, acknowledged, fresh, advanced, room}
use Rattle.tipc_link.specs.Links.{LinkEnd}
use Rattle.tipc_link.specs.Sessions.{SessionEnd, moving, put}
use Rattle.tipc_pair.specs.Facing.{PairEnds}
use Rattle.tipc_pair.specs.PairArrivals.{restored}
use Rattle.tipc_pair.specs.Runs.{IsListed}
use Rattle.tipc_changeover.specs.Links.{Held, Reset, Up}
use Rattle.tipc_two_nodes.specs.links.Traffic.{Lines, Traffic, turned_traffic as turned_traffic}
use Rattle.tipc_two_nodes.specs.links.Sending.{SendingEnd, SendingEnds, end_seen, state_as}
use Rattle.tipc_two_nodes.specs.links.Steps.{near_more, with_window}

-- ---- an end that is up

-- a link that is up, with its session
pub record IsUpAt (bearer : ℕ) (o : Option LinkEnd) (e : LinkEnd) (s : SessionEnd) : Type 0 where
  pub end_is : o ≡ Some e
  pub up : is_up e.fsm.state ≡ true
  pub session_is : e.session ≡ Some s
  pub epoch_is : s.epoch ≡ e.fsm.own
  pub bearer_is : s.bearer ≡ bearer
  pub few : length s.sending.unacked ≤ window_size

-- the end stays up under its epoch, with this window
pub record StaysUp (e e' : LinkEnd) (w : Sending) : Type 0 where
  pub own : e'.fsm.own ≡ e.fsm.own
  pub up : is_up e'.fsm.state ≡ true
  pub session : SessionEnd
  pub session_is : e'.session ≡ Some session
  pub window_is : session.sending ≡ w

-- the near end, where it is up, and the far one as it is
abbrev pub up_beside : PairEnds → LinkEnd → SessionEnd → SendingEnds
up_beside x e s = record {
  bearer = x.bearer;
  near = record { epoch = e.fsm.own; state = Up; window = s.sending };
  far = end_seen x.contact x.far;
}

-- ---- packets that get numbers

-- the present session of an end, by its epoch
abbrev pub session_by : Lines → SendingEnd → ℕ
session_by l e = e.epoch + 1 - l.first

-- more packets were numbered in a session of the far link
abbrev pub far_more : Traffic → ℕ → List (List ℕ) → Traffic
far_more t session packets = turned_traffic (near_more (turned_traffic t) session packets)

-- the far link's
abbrev pub far_window : SendingEnds → Sending → SendingEnds
far_window x w = record x { far = with_window x.far w }

-- what is numbered of a link's packets, and of those that it gets
abbrev pub gets : SessionEnd → List (List ℕ) → List (List ℕ)
gets u packets = moving (put u packets)

-- the window of a session after an acknowledgement, when packets that wait moved up
abbrev pub heard_window : Sending → ℕ → Sending
heard_window w acknowledgement = advanced (room (acknowledged w acknowledgement)) (acknowledged w acknowledgement)

-- ---- an end that goes up or down

-- an end went down: it took the next epoch, is held, and keeps its session for the other link
pub record IsFallen (e e' : LinkEnd) : Type 0 where
  pub own : e'.fsm.own ≡ e.fsm.own + 1
  pub held : state_as e'.fsm.state ≡ Held
  pub session : e'.session ≡ e.session

-- an end in reset went up: it keeps its epoch, and begins a session in which nothing was put
pub record IsRisen (e e' : LinkEnd) (s : SessionEnd) : Type 0 where
  pub reset : state_as e.fsm.state ≡ Reset
  pub own : e'.fsm.own ≡ e.fsm.own
  pub up : state_as e'.fsm.state ≡ Up
  pub session_is : e'.session ≡ Some s
  pub fresh_is : s.sending ≡ fresh

-- ---- packets

-- A packet may stand in the lists of a link, and is as it waits to be sent: it acknowledges nothing and has no number.
pub record WaitsAsListed (packet : List ℕ) : Type 0 where
  pub listed : IsListed packet
  pub as_waiting : restored packet ≡ packet

-- so may each of these packets
abbrev pub AreListed : List (List ℕ) → Type 0
AreListed [] = Unit {0}
AreListed (packet ∷ packets) = WaitsAsListed packet × AreListed packets
