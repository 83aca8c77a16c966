-- What is reached from the begin of a contact on, by any events at either of two links; and what is promised of it.
use Rattle.std.specs.Prelude.{◌≡◌, ℕ, List, [], ◌++◌}
use Rattle.tipc_changeover.specs.Slots.{counted}
use Rattle.tipc_changeover.specs.Links.{seen, Bearer, Receiver, Reset, Sender, State}
use Rattle.tipc_changeover.specs.Events.{happened, Event, MayAct}

-- a link that hasn't been up yet
abbrev pub unused : Sender
unused = record { session = 1; state = Reset; line = λ e. []; waiting = []; acked = 0 }

-- the record of a link of which nothing arrived yet
abbrev pub no_record : Receiver
no_record = record { session = 0; taken = 0 }

-- two links at the begin of a contact
abbrev pub begun : State
begun = record {
  near = unused;
  near_record = no_record;
  far = unused;
  far_record = no_record;
  put = 0;
  numbered = 0;
  delivered = [];
}

-- the states that are reached from there, by any events at either link
pub data IsReached : State → Type 0 where
  at_begin : IsReached begun
  after : (b : Bearer) (s : State) (event : Event) → IsReached s → MayAct b (seen b s) event →
      IsReached (happened b s event)

-- the packets that were put
abbrev pub sent : State → List ℕ
sent s = counted 0 s.put

-- what was taken, in the order of taking, is a front of what was put
pub record IsFront (s : State) : Type 0 where
  pub rest : List ℕ
  pub front : sent s ≡ s.delivered ++ rest
