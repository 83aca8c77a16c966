-- Stories: events at the two links, one after the other, from the begin of a contact on.
use Rattle.std.specs.Prelude.{true, false, List, [], ◌∷◌, ◌++◌}
use Rattle.tipc_changeover.specs.Slots.{Plain, Tunnel}
use Rattle.tipc_changeover.specs.Links.{seen, Bearer, First, Second, State}
use Rattle.tipc_changeover.specs.Events.{happened, Event, Failover, LinkUp, MayAct, Next, Number, Passed, Put, Record, Switch, TakePlain, TakeTunnel}

-- an event at the link of a bearer
pub record Step : Type 0 where
  pub bearer : Bearer
  pub event : Event

-- an event at the first bearer's link
abbrev pub first : Event → Step
first event = record { bearer = First; event = event }

-- an event at the second bearer's link
abbrev pub second : Event → Step
second event = record { bearer = Second; event = event }

-- the state after these events, one after the other
abbrev pub told_from : State → List Step → State
told_from s [] = s
told_from s (step ∷ steps) = told_from (happened step.bearer s step.event) steps

-- each may happen when it does
abbrev pub MayTell : State → List Step → Type 0
MayTell s [] = Unit {0}
MayTell s (step ∷ steps) =
    MayAct step.bearer (seen step.bearer s) step.event × MayTell (happened step.bearer s step.event) steps

-- Two packets go over the second link. The first one goes up, takes the flow, and duplicates both in tunnel packets;
-- a third packet follows them there.
abbrev pub taken_over : List Step
taken_over =
    second LinkUp ∷ second Put ∷ second (Number (Plain 1) []) ∷ second Put ∷ second (Number (Plain 2) []) ∷
    first Switch ∷ first (Number (Tunnel 1 1 true) (Tunnel 1 2 true ∷ [])) ∷ first (Number (Tunnel 1 2 true) []) ∷
    first Put ∷ first (Number (Plain 3) []) ∷ []

-- The first link goes down with all three unacknowledged: the second one gets placeholders for both tunnel packets,
-- and the third packet in a full tunnel packet.
abbrev pub given_back : List Step
given_back =
    first Failover ∷ second (Number (Tunnel 1 1 false) (Tunnel 1 2 false ∷ Tunnel 1 3 true ∷ [])) ∷
    second (Number (Tunnel 1 2 false) (Tunnel 1 3 true ∷ [])) ∷ second (Number (Tunnel 1 3 true) []) ∷ []

-- Nothing of the first link arrived. What arrives on the second one gives all three packets in their order: the
-- placeholders only count up the first link's record.
abbrev pub arrived : List Step
arrived =
    second (Record 1) ∷ second (TakePlain 1) ∷ second (TakePlain 2) ∷ second (TakeTunnel 1 1 false Passed) ∷
    second (TakeTunnel 1 2 false Passed) ∷ second (TakeTunnel 1 3 true (Next 3)) ∷ []

-- the whole story
abbrev pub failover_story : List Step
failover_story = taken_over ++ (given_back ++ arrived)
