-- Weaker rules, which don't do. Each makes a state after a story that may happen, and from there events that may
-- happen lead to packets that are taken out of order, or twice.
use Rattle.std.specs.Prelude.{true, List, [], ◌∷◌, ◌++◌}
use Rattle.tipc_changeover.specs.Slots.{originals, plain_slots, Plain, Tunnel}
use Rattle.tipc_changeover.specs.Links.{Second, State}
use Rattle.tipc_changeover.specs.Events.{after_next, gone_down, gone_up, happened, session_told, with_ends, with_records, with_waiting, Failover, LinkUp, Number, Old, Put, Record, Release, Switch, TakePlain, TakeTunnel}
use Rattle.tipc_changeover.specs.Reached.{IsFront, IsReached}
use Rattle.tipc_changeover.specs.Stories.{first, second, told_from, MayTell, Step}

-- what a weaker rule makes of a state that is reached leads to a delivery that is no front of what was put
pub record Misleads (s made : State) (steps : List Step) : Type 0 where
  pub reached : IsReached s
  pub may : MayTell made steps
  pub broken : IsFront (told_from made steps) → ⊥

-- ---- the rules

-- the second link's end is released whatever the first one has in its slots
abbrev pub released_early : State → State
released_early s = happened Second s Release

-- a failover makes no run
abbrev pub failed_without_run : State → State
failed_without_run s = with_ends s (gone_down s.near) (with_waiting s.far (s.far.waiting ++ plain_slots s.near.waiting))

-- the plain packets that wait go in front of the run
abbrev pub failed_waiting_first : State → State
failed_waiting_first s =
    let run = originals s.near.session s.near.acked (s.near.line s.near.session) in
    with_ends s (gone_down s.near) (with_waiting s.far (s.far.waiting ++ (plain_slots s.near.waiting ++ run)))

-- a switch makes no duplicates
abbrev pub switched_without_run : State → State
switched_without_run s = with_ends s (gone_up s.near s.far.waiting) (with_waiting s.far [])

-- the receiver's link goes up with the session of its record, and the record is begun anew
abbrev pub recorded_anew : State → State
recorded_anew s = with_records s (record { session = s.near_record.session; taken = 0 }) s.far_record s.delivered

-- the tunnel packet at the next place of the second link is taken, and the packet inside, of the first session of the
-- first link, is put off
abbrev pub deferred : State → State
deferred s = with_records s (session_told s.near_record 1) (after_next s.far_record) s.delivered

-- ---- stories before them

-- a packet has a number on the first link, and isn't acknowledged; then the second link goes up too
abbrev pub one_in_flight : List Step
one_in_flight = first LinkUp ∷ first Put ∷ first (Number (Plain 1) []) ∷ second LinkUp ∷ []

-- and one more waits
abbrev pub one_waits : List Step
one_waits = one_in_flight ++ first Put ∷ []

-- the first link goes down, the second one has a number for the tunnel packet, and the receiver's end of it is up
abbrev pub one_carried : List Step
one_carried = one_in_flight ++ first Failover ∷ second (Number (Tunnel 1 1 true) []) ∷ second (Record 1) ∷ []

-- a packet has a number on the second link, and the first one isn't up yet
abbrev pub one_on_second : List Step
one_on_second = second LinkUp ∷ second Put ∷ second (Number (Plain 1) []) ∷ []

-- the first link takes the flow over, and the second one goes down: the packet waits in a duplicate and an original
abbrev pub one_given_over : List Step
one_given_over = one_on_second ++ first Switch ∷ second Failover ∷ []

-- a packet was taken on the first link
abbrev pub one_taken : List Step
one_taken = one_in_flight ++ first (Record 1) ∷ first (TakePlain 1) ∷ []

-- ---- and after them

-- the second link goes up again, and gets nothing but a marker from the first one; the next packet is taken there
abbrev pub nothing_given_back : List Step
nothing_given_back =
    second LinkUp ∷ first Failover ∷ second (Number (Tunnel 1 0 true) []) ∷ second Put ∷ second (Number (Plain 2) []) ∷
    second (Record 2) ∷ second (TakeTunnel 1 0 true Old) ∷ second (TakePlain 2) ∷ []

-- the next packet is put and taken on the second link
abbrev pub next_on_second : List Step
next_on_second = second Put ∷ second (Number (Plain 2) []) ∷ second (Record 1) ∷ second (TakePlain 2) ∷ []

-- the packet that waited is taken first
abbrev pub waiting_overtakes : List Step
waiting_overtakes = second (Number (Plain 2) (Tunnel 1 1 true ∷ [])) ∷ second (Record 1) ∷ second (TakePlain 2) ∷ []

-- the next packet is put and taken on the first link
abbrev pub next_on_first : List Step
next_on_first = first Put ∷ first (Number (Plain 2) []) ∷ first (Record 1) ∷ first (TakePlain 2) ∷ []

-- the packet is taken again
abbrev pub taken_again : List Step
taken_again = first (TakePlain 1) ∷ []

-- the next packet is put and taken behind the tunnel packet
abbrev pub next_behind : List Step
next_behind = second Put ∷ second (Number (Plain 2) []) ∷ second (TakePlain 2) ∷ []
