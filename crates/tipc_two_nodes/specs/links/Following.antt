-- Events at two links one after the other, as they are seen from one of them.
use Rattle.std.specs.Prelude.{◌≡◌, Bool, true, false, not}
use Rattle.tipc_changeover.specs.Links.{other, turned_state, Bearer, State}
use Rattle.tipc_changeover.specs.Events.{acted, Acknowledge, Event, Failover, LinkUp, MayAct, Number, Put, Record, Release, Switch, TakePlain, TakeTunnel}
use Rattle.tipc_two_nodes.specs.links.Sending.{SendingEnds, StandFor}
use Rattle.tipc_two_nodes.specs.links.Traffic.{Traffic}

-- whether an event is the sender's
abbrev pub is_sent : Event → Bool
is_sent Put = true
is_sent (Number slot rest) = true
is_sent (Acknowledge places) = true
is_sent Release = true
is_sent (Record session) = false
is_sent (TakePlain index) = false
is_sent (TakeTunnel session place full opening) = false
is_sent LinkUp = true
is_sent Switch = true
is_sent Failover = true

-- or the receiver's
abbrev pub is_received : Event → Bool
is_received event = not (is_sent event)

-- what an event at the far link makes of a state
abbrev pub acted_far : State → Event → State
acted_far s event = turned_state (acted (turned_state s) event)

-- events of a kind, at either link
pub data Events (kind : Event → Bool) (b : Bearer) (s : State) : State → Type 0 where
  stays : Events kind b s s
  near : (next : State) (event : Event) → Events kind b s next → MayAct b next event → kind event ≡ true
      → Events kind b s (acted next event)
  far : (next : State) (event : Event) → Events kind b s next → MayAct (other b) (turned_state next) event
      → kind event ≡ true
      → Events kind b s (acted_far next event)

-- by events of the sender, or of the receiver, a state becomes another
abbrev pub SenderFollows : Bearer → State → State → Type 0
SenderFollows b s s' = Events is_sent b s s'

-- by events of the receiver a state becomes another
abbrev pub ReceiverFollows : Bearer → State → State → Type 0
ReceiverFollows b s s' = Events is_received b s s'

-- by events of the sender a state becomes one for which these ends stand, which sent this
pub record Become (b : Bearer) (x : SendingEnds) (t : Traffic) (s : State) : Type 0 where
  pub state : State
  pub follows : SenderFollows b s state
  pub stand : StandFor b x t state
